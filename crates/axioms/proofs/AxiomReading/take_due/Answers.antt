-- `take_due` meets its contract: the match says what is due, and a track has a clause for each. Assumes nothing.
use mathlib.Core.Path.{refl}
use Rattle.axioms.specs.Track.{track_due}
use Rattle.axioms.specs.Steps.{kept_of}
use Rattle.axioms.proofs.Takes.{by_due, class_fits, went_on}
use Rattle.axioms.proofs.AxiomReading.take_due.Goals as goal

pub returns-in-NextClass-clause-taken : goal.returns-in-NextClass-clause-taken
unfolding track_due
returns-in-NextClass-clause-taken c =
    let a = c.args.self.now in
    by_due (kept_of a) a.stack.now a.out.now.bytes.now c.in-NextClass.is (c.begin_class.ensures.taken (kept_of a) refl (class_fits c.requires))

pub returns-in-NextAxiom-clause-taken : goal.returns-in-NextAxiom-clause-taken
unfolding track_due
returns-in-NextAxiom-clause-taken c = went_on c.args.token c.in-NextAxiom.is c.requires c.go_on.ensures.leads c.go_on.ensures.stands refl

pub returns-in-OpenAxiom-clause-taken : goal.returns-in-OpenAxiom-clause-taken
unfolding track_due
returns-in-OpenAxiom-clause-taken c = went_on c.args.token c.in-OpenAxiom.is c.requires c.go_on-in-OpenAxiom.ensures.leads c.go_on-in-OpenAxiom.ensures.stands refl

pub returns-in-OpenAnnotation-clause-taken : goal.returns-in-OpenAnnotation-clause-taken
unfolding track_due
returns-in-OpenAnnotation-clause-taken c = went_on c.args.token c.in-OpenAnnotation.is c.requires c.go_on-in-OpenAnnotation.ensures.leads c.go_on-in-OpenAnnotation.ensures.stands refl

pub returns-in-Property-clause-taken : goal.returns-in-Property-clause-taken
unfolding track_due
returns-in-Property-clause-taken c = went_on c.args.token c.in-Property.is c.requires c.go_on-in-Property.ensures.leads c.go_on-in-Property.ensures.stands refl

pub returns-in-Value-clause-taken : goal.returns-in-Value-clause-taken
unfolding track_due
returns-in-Value-clause-taken c = went_on c.args.token c.in-Value.is c.requires c.go_on-in-Value.ensures.leads c.go_on-in-Value.ensures.stands refl

pub returns-in-CloseAnnotation-clause-taken : goal.returns-in-CloseAnnotation-clause-taken
unfolding track_due
returns-in-CloseAnnotation-clause-taken c = went_on c.args.token c.in-CloseAnnotation.is c.requires c.go_on-in-CloseAnnotation.ensures.leads c.go_on-in-CloseAnnotation.ensures.stands refl

pub returns-in-OpenSome-clause-taken : goal.returns-in-OpenSome-clause-taken
unfolding track_due
returns-in-OpenSome-clause-taken c = went_on c.args.token c.in-OpenSome.is c.requires c.go_on-in-OpenSome.ensures.leads c.go_on-in-OpenSome.ensures.stands refl
