-- The count of yes, row by row.
--     yes_row                                  what a row adds, by its kind
--     CountedYes                               how many of the first i rows got a yes
--     counted_none                             before the first row
--     counted_yes, counted_no, counted_all     after one more with a yes, or without, and after the last
-- Assumes nothing.
use Prim.Native.Nat.{ℕ, zero, suc, ◌+◌, ◌/◌, ◌<◌, ◌≤◌}
use native.Mathlib.Omega.{arith}
use native.Mathlib.Numerals.{add-one}
use mathlib.Core.Path.{◌≡◌, refl, ap}
use mathlib.Core.Bool.{Bool, true, false, cond}
use mathlib.Core.List.{List, [], ◌∷◌, map}
use lib.ListN.{length, get_or, take}
use lib.Seq.{take_all}
use Rattle.semantics.specs.Closure.{yes_bit, yes_of, yes_count}
use Rattle.semantics.specs.Row.{line_of}
use Rattle.normal.specs.Rules.{row_of}
use Rattle.normal.proofs.Decoding.{row_question}
use Rattle.results.specs.Results.{yes_of_row}

-- Only a question has a share in the count.
pub yes_row : (w r : ℕ) → yes_of (line_of (row_of w)) r ≡ yes_of_row w r
yes_row w r = ap (λ b. cond b (r / yes_bit true) 0) (row_question w)

pub record CountedYes (words results : List ℕ) (i count : ℕ) : Type 0 where
  pub small : count ≤ i
  pub is : count ≡ yes_count (map line_of (map row_of (take i words))) (take i results)

count_suc : (words results : List ℕ) (i : ℕ) → i < length words → i < length results →
    yes_count (map line_of (map row_of (take (suc i) words))) (take (suc i) results) ≡ yes_count (map line_of (map row_of (take i words))) (take i results) + yes_of_row (get_or words i 0) (get_or results i 0)
unfolding yes_count
count_suc [] results i h l = absurd (omega arith)
count_suc (w ∷ words) [] i h l = absurd (omega arith)
count_suc (w ∷ words) (r ∷ results) zero h l = omega (arith, yes_row w r)
count_suc (w ∷ words) (r ∷ results) (suc i) h l = omega (arith, count_suc words results i (omega arith) (omega arith))

pub counted_none : {words results : List ℕ} → CountedYes words results 0 0
unfolding yes_count
counted_none = record { small = omega arith; is = refl }

module _ {words results : List ℕ} {i count : ℕ} where
  pub counted_yes : {asked : Bool} → length words ≤ length results → i < length words → cond asked 1 0 ≡ yes_of_row (get_or words i 0) (get_or results i 0) → asked ≡ true →
      CountedYes words results i count → CountedYes words results (i + 1) (count + 1)
  counted_yes long h is e n =
      let share : 1 ≡ yes_of_row (get_or words i 0) (get_or results i 0) = rw e at is in
      record { small = omega (arith, n.small); is = rw (add-one count, add-one i) (omega (arith, n.is, share, count_suc words results i h (omega arith))) }

  pub counted_no : {asked : Bool} → length words ≤ length results → i < length words → cond asked 1 0 ≡ yes_of_row (get_or words i 0) (get_or results i 0) → asked ≡ false →
      CountedYes words results i count → CountedYes words results (i + 1) count
  counted_no long h is e n =
      let share : 0 ≡ yes_of_row (get_or words i 0) (get_or results i 0) = rw e at is in
      record { small = omega (arith, n.small); is = rw (add-one i) (omega (arith, n.is, share, count_suc words results i h (omega arith))) }

  pub counted_all : i ≤ length words → length words ≤ i → CountedYes words results i count → count ≡ yes_count (map line_of (map row_of words)) (take (length words) results)
  counted_all le h n = let e : i ≡ length words = omega arith in rw (take_all i words h, e) at n.is
