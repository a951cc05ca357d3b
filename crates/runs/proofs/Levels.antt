-- What is around grows by no more than is read: an expression's keyword has more bytes than a level counts. Assumes nothing.
use Prim.Native.Nat.{ℕ, zero, suc, ◌+◌, ◌*◌, ◌≤◌}
use native.Mathlib.Omega.{arith}
use mathlib.Core.Path.{◌≡◌, refl, ap}
use mathlib.Core.Bool.{Bool, true, false}
use mathlib.Core.Option.{none, some, none-ne-some, some-injective}
use mathlib.Core.List.{List, [], ◌∷◌}
use lib.ListN.{length}
use lib.Dec.{eqb}
use Rattle.semantics.proofs.Tests.{cases}
use Rattle.ontology.specs.Text.{Token, sub_class_of, annotation, comment, usual, opening, closing, owl_thing, owl_nothing, intersection_of, some_values, name, token_bytes}
use Rattle.ontology.specs.Points.{code}
use Rattle.axioms.specs.Track.{Track, expect_track, begin_track, role_track, close_track, next_track, track_due, track_token}
use Rattle.axioms.specs.Steps.{Kept, entries, track_of}
use Rattle.axioms.specs.declared.Due.{Due}
use Rattle.axioms.specs.declared.Due.TheVariants.{NextAxiom, OpenAxiom, AnnotationOrClass, OpenAnnotation, Property, Value, CloseAnnotation}
use Rattle.axioms.specs.declared.Due.TheVariants.{NextClass, OpenParts, OpenSome, NextRole, BehindClass}
use Rattle.runs.specs.Steps.{level_bytes, begun_bytes, levels_read}

-- the same of a track
abbrev levels_of : Track → ℕ
levels_of x = level_bytes * length x.stack + begun_bytes x.due

none_absurd : {X : Type 0} {x : Track} → none ≡ some x → X
none_absurd {x = x} e = absurd (none-ne-some x e)

-- a token that leads to y, and to x'
led : {y x' : Track} {n : ℕ} → levels_of y ≤ n → some y ≡ some x' → levels_of x' ≤ n
led {y} {x'} {n} h e = let z = some-injective y x' e in rw (← z) h

expected : (e t : Token) (y x' : Track) (n : ℕ) → levels_of y ≤ n → expect_track e y t ≡ some x' → levels_of x' ≤ n
expected e t y x' n h q = cases (eqb (code e) (code t)) (λ k. led h (rw k at q)) (λ k. none_absurd (rw k at q))

-- a class begins
begun : (r : Bool) (st o : List ℕ) (t : Token) (x' : Track) → begin_track r st o t ≡ some x' → levels_of x' ≤ level_bytes * length st + length (token_bytes t)
unfolding token_bytes
begun r st o sub_class_of x' e = none_absurd e
begun r st o annotation x' e = none_absurd e
begun r st o comment x' e = none_absurd e
begun r st o usual x' e = none_absurd e
begun r st o opening x' e = none_absurd e
begun r st o closing x' e = none_absurd e
begun r st o owl_thing x' e = led (omega arith) e
begun r st o owl_nothing x' e = led (omega arith) e
begun r st o intersection_of x' e = led (omega arith) e
begun r st o some_values x' e = led (omega arith) e
begun r st o (name w) x' e = led (omega arith) e

role : (r : Bool) (st o : List ℕ) (t : Token) (x' : Track) → role_track r st o t ≡ some x' → levels_of x' ≤ level_bytes * length st + level_bytes
role r st o sub_class_of x' e = none_absurd e
role r st o annotation x' e = none_absurd e
role r st o comment x' e = none_absurd e
role r st o usual x' e = none_absurd e
role r st o opening x' e = none_absurd e
role r st o closing x' e = none_absurd e
role r st o owl_thing x' e = none_absurd e
role r st o owl_nothing x' e = none_absurd e
role r st o intersection_of x' e = none_absurd e
role r st o some_values x' e = none_absurd e
role r st o (name w) x' e = led (omega arith) e

closed : (r : Bool) (st o : List ℕ) (x' : Track) → close_track r st o ≡ some x' → levels_of x' ≤ level_bytes * length st
closed true [] o x' e = led (omega arith) e
closed false [] o x' e = none_absurd e
closed r (v ∷ st) o x' e = cases (eqb v 0) (λ q. led (omega arith) (rw q at e))
    (λ q. cases (eqb v 1) (λ q'. none_absurd (rw (q, q') at e)) (λ q'. led (omega arith) (rw (q, q') at e)))

next : (r : Bool) (st o : List ℕ) (t : Token) (x' : Track) → next_track r st o t ≡ some x' → levels_of x' ≤ level_bytes * length st + length (token_bytes t)
next true [] o t x' e = none_absurd e
next false [] o t x' e = begun true [] o t x' e
next r (v ∷ st) o t x' e = cases (eqb v 0) (λ q. none_absurd (rw q at e)) (λ q. begun r _ _ t x' (rw q at e))

grown : (d : Due) (r : Bool) (st o : List ℕ) (t : Token) (x' : Track) → track_due d r st o t ≡ some x' →
    levels_of x' ≤ level_bytes * length st + begun_bytes d + length (token_bytes t)
unfolding track_due
grown NextAxiom r st o t x' e = expected sub_class_of t _ x' _ (omega arith) e
grown OpenAxiom r st o t x' e = expected opening t _ x' _ (omega arith) e
grown AnnotationOrClass r st o t x' e = cases (eqb (code annotation) (code t)) (λ q. led (omega arith) (rw q at e)) (λ q. omega (arith, begun r st _ t x' (rw q at e)))
grown OpenAnnotation r st o t x' e = expected opening t _ x' _ (omega arith) e
grown Property r st o t x' e = expected comment t _ x' _ (omega arith) e
grown Value r st o t x' e = expected usual t _ x' _ (omega arith) e
grown CloseAnnotation r st o t x' e = expected closing t _ x' _ (omega arith) e
grown NextClass r st o t x' e = omega (arith, begun r st o t x' e)
grown OpenParts r st o t x' e = expected opening t _ x' _ (omega arith) e
grown OpenSome r st o t x' e = expected opening t _ x' _ (omega arith) e
grown NextRole r st o t x' e = omega (arith, role r st o t x' e)
grown BehindClass r st o t x' e = cases (eqb (code closing) (code t)) (λ q. omega (arith, closed r st o x' (rw q at e))) (λ q. omega (arith, next r st o t x' (rw q at e)))

entries_length : (d : ℕ) (stack : List ℕ) → length (entries d stack) ≡ d
unfolding entries
entries_length zero stack = refl
entries_length (suc d) stack = ap suc (entries_length d stack)

pub levels_grown : (p q : Kept) (stack out stack' out' : List ℕ) (t : Token) → track_token (track_of p stack out) t ≡ some (track_of q stack' out') →
    levels_read q ≤ levels_read p + length (token_bytes t)
levels_grown p q stack out stack' out' t e =
    omega (arith, grown p.due p.right (entries p.depth stack) _ t _ e, entries_length p.depth stack, entries_length q.depth stack')
