-- Numbering only grows: what has been read has at least as many numbers and roles as before.
-- Assumes nothing.
use Prim.Native.Nat.{ℕ, ◌≤◌}
use native.Mathlib.Omega.{arith}
use mathlib.Core.Option.{Option, none, some}
use mathlib.Core.List.{List, [], ◌∷◌}
use lib.ListN.{length, length-append}
use Rattle.semantics.specs.Closure.{Line, left_of, right_of}
use Rattle.semantics.specs.Concept.{Concept, top, bottom, name, conj, exist}
use Rattle.semantics.specs.Numbering.{Names, lookup, number_word, place_of, number_role, number_taken, number_concept, number_lines}
use Rattle.semantics.specs.Source.{Word}

pub record Grows (n m : Names) : Type 0 where
  pub next : n.next ≤ m.next
  pub roles : length n.roles ≤ length m.roles

pub grows_refl : (n : Names) → Grows n n
grows_refl n = record { next = omega arith; roles = omega arith }

pub grows_trans : {n m k : Names} → Grows n m → Grows m k → Grows n k
grows_trans {n} {m} {k} a b = record { next = omega (arith, a.next, b.next); roles = omega (arith, a.roles, b.roles) }

pub grows_taken : (n : Names) → Grows n (number_taken n)
grows_taken n = record { next = omega arith; roles = omega arith }

word_grows : (w : Word) (n : Names) (o : Option ℕ) → Grows n (number_word w n o).after
word_grows w n (some x) = grows_refl n
word_grows w n none = record { next = omega arith; roles = omega arith }

pub role_grows : (w : Word) (n : Names) (o : Option ℕ) → Grows n (number_role w n o).1
role_grows w n (some x) = grows_refl n
role_grows w n none = record { next = omega arith; roles = omega (arith, length-append n.roles (w ∷ [])) }

pub concept_grows : (C : Concept Word Word) (n : Names) → Grows n (number_concept C n).after
unfolding number_concept
concept_grows top n = grows_refl n
concept_grows bottom n = grows_refl n
concept_grows (name w) n = word_grows w n (lookup w n.words)
concept_grows (conj C D) n =
    grows_trans (grows_taken n) (grows_trans (concept_grows C (number_taken n)) (concept_grows D (number_concept C (number_taken n)).after))
concept_grows (exist w C) n =
    let r = number_role w (number_taken n) (place_of w n.roles) in
    grows_trans (grows_taken n) (grows_trans (role_grows w (number_taken n) (place_of w n.roles)) (concept_grows C r.1))

pub lines_grow : (ls : List (Line Word Word)) (n : Names) → Grows n (number_lines ls n).after
unfolding number_lines
lines_grow [] n = grows_refl n
lines_grow (l ∷ ls) n =
    let c = number_concept (left_of l) n in
    let d = number_concept (right_of l) c.after in
    grows_trans (concept_grows (left_of l) n) (grows_trans (concept_grows (right_of l) c.after) (lines_grow ls d.after))
