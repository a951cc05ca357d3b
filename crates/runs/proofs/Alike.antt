-- Tokens that may stand in the same places: two that begin alike, and any two names. Assumes nothing.
use Prim.Native.Nat.{ℕ, ◌≤◌}
use native.Mathlib.Omega.{arith}
use mathlib.Core.Path.{◌≡◌, refl}
use mathlib.Core.Bool.{Bool, true, false}
use mathlib.Core.List.{List, [], ◌∷◌}
use lib.Dec.{eqb}
use borrow.Author.Tests.{ne_eqb}
use Rattle.semantics.proofs.Tests.{cases}
use Rattle.semantics.specs.Source.{Word}
use Rattle.ontology.specs.Text.{Token, owl_thing, owl_nothing, intersection_of, some_values, name}
use Rattle.ontology.specs.Points.{code}
use Rattle.axioms.specs.Track.{Track, begin_track, role_track, next_track, track_due}
use Rattle.axioms.specs.TrackReader.{is_track, track_allowed}
use Rattle.axioms.specs.declared.Due.{Due}
use Rattle.axioms.specs.declared.Due.TheVariants.{NextAxiom, OpenAxiom, AnnotationOrClass, OpenAnnotation, Property, Value, CloseAnnotation, NextClass, OpenParts, OpenSome, NextRole, BehindClass}

pub record Alike (t t' : Token) : Type 0 where
  pub begins : (r : Bool) (st o : List ℕ) → is_track (begin_track r st o t) ≡ is_track (begin_track r st o t')
  pub roles : (r : Bool) (st o : List ℕ) → is_track (role_track r st o t) ≡ is_track (role_track r st o t')
  pub other : (k : ℕ) → k ≤ 5 → eqb k (code t) ≡ false
  pub other' : (k : ℕ) → k ≤ 5 → eqb k (code t') ≡ false

module _ {t t' : Token} (a : Alike t t') where
  next_alike : (r : Bool) (st o : List ℕ) → is_track (next_track r st o t) ≡ is_track (next_track r st o t')
  next_alike true [] o = refl
  next_alike false [] o = a.begins true [] o
  next_alike r (e ∷ st) o = cases (eqb e 0) (λ q. rw q) (λ q. rw q (a.begins _ _ _))

  due_alike : (d : Due) (r : Bool) (st o : List ℕ) → is_track (track_due d r st o t) ≡ is_track (track_due d r st o t')
  unfolding track_due
  due_alike NextAxiom r st o = rw (a.other 0 (omega arith), a.other' 0 (omega arith))
  due_alike OpenAxiom r st o = rw (a.other 4 (omega arith), a.other' 4 (omega arith))
  due_alike AnnotationOrClass r st o = rw (a.other 1 (omega arith), a.other' 1 (omega arith)) (a.begins _ _ _)
  due_alike OpenAnnotation r st o = rw (a.other 4 (omega arith), a.other' 4 (omega arith))
  due_alike Property r st o = rw (a.other 2 (omega arith), a.other' 2 (omega arith))
  due_alike Value r st o = rw (a.other 3 (omega arith), a.other' 3 (omega arith))
  due_alike CloseAnnotation r st o = rw (a.other 5 (omega arith), a.other' 5 (omega arith))
  due_alike NextClass r st o = a.begins _ _ _
  due_alike OpenParts r st o = rw (a.other 4 (omega arith), a.other' 4 (omega arith))
  due_alike OpenSome r st o = rw (a.other 4 (omega arith), a.other' 4 (omega arith))
  due_alike NextRole r st o = a.roles _ _ _
  due_alike BehindClass r st o = rw (a.other 5 (omega arith), a.other' 5 (omega arith)) (next_alike r st o)

  pub alike : (x : Track) → track_allowed x t ≡ track_allowed x t'
  alike x = due_alike x.due x.right x.stack x.out

pub owl_alike : Alike owl_thing owl_nothing
owl_alike = record { begins = λ r st o. refl; roles = λ r st o. refl; other = λ k h. ne_eqb k 6 (λ e. omega arith); other' = λ k h. ne_eqb k 7 (λ e. omega arith) }

pub object_alike : Alike intersection_of some_values
object_alike = record { begins = λ r st o. refl; roles = λ r st o. refl; other = λ k h. ne_eqb k 8 (λ e. omega arith); other' = λ k h. ne_eqb k 9 (λ e. omega arith) }

pub names_alike : (w w' : Word) → Alike (name w) (name w')
names_alike w w' = record { begins = λ r st o. refl; roles = λ r st o. refl; other = λ k h. ne_eqb k 10 (λ e. omega arith); other' = λ k h. ne_eqb k 10 (λ e. omega arith) }
