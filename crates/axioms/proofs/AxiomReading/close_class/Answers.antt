use native.Mathlib.Omega.{arith}
use Rattle.axioms.specs.Steps.{kept_of}
use Rattle.axioms.proofs.Takes.{closed_axiom, not_closed, closed_filler, not_closed_first, closed_intersection}
use Rattle.axioms.proofs.AxiomReading.close_class.Goals as goal

pub returns-then-not-self-clause-taken : goal.returns-then-not-self-clause-taken
returns-then-not-self-clause-taken c = let a = c.args.self.now in not_closed (kept_of a) a.stack.now a.out.now.bytes.now c.requires c.if-self-eq0.true c.if-not-self.true

pub returns-then-self-eq0-clause-taken : goal.returns-then-self-eq0-clause-taken
returns-then-self-eq0-clause-taken c =
    let a = c.args.self.now in
    closed_axiom (kept_of a) a.stack.now a.out.now.bytes.now c.requires c.if-self-eq0.true c.if-not-self.false c.put.ensures.written

pub returns-then-mark-eq-FILLER-clause-taken : goal.returns-then-mark-eq-FILLER-clause-taken
returns-then-mark-eq-FILLER-clause-taken c =
    let a = c.args.self.now in
    closed_filler (kept_of a) a.stack.now a.out.now.bytes.now c.requires (omega (arith, c.if-self-eq0.false)) c.if-mark-eq-FILLER.true

pub returns-then-mark-eq-FIRST_PART-clause-taken : goal.returns-then-mark-eq-FIRST_PART-clause-taken
returns-then-mark-eq-FIRST_PART-clause-taken c =
    let a = c.args.self.now in
    not_closed_first (kept_of a) a.stack.now a.out.now.bytes.now c.requires (omega (arith, c.if-self-eq0.false)) c.if-mark-eq-FIRST_PART.true

pub returns-clause-taken : goal.returns-clause-taken
returns-clause-taken c =
    let a = c.args.self.now in
    closed_intersection (kept_of a) a.stack.now a.out.now.bytes.now c.requires (omega (arith, c.if-self-eq0.false)) c.if-mark-eq-FILLER.false c.if-mark-eq-FIRST_PART.false
