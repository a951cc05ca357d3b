-- Worked examples of sheets: three of P1's, and a class for each refusal, where others of them hold too.
-- Assumes nothing.
use Prim.Native.Nat.{ℕ, zero, suc, ◌<◌}
use native.Mathlib.Omega.{arith}
use mathlib.Core.Path.{◌≡◌, refl}
use mathlib.Core.Bool.{true, false}
use mathlib.Core.List.{List, [], ◌∷◌, ◌++◌, map}
use lib.ListN.{length}
use Rattle.semantics.specs.Examples.{bytes}
use Rattle.refusal.specs.declared.Refusal.TheVariants.{NoQuestion, TooManySheets, WrongSheet}
use Rattle.sheets.specs.Sheets.{sheet_at, sheets_of, answer_byte, Filled, places_with, right_count, wrong_count, percent, scores_of, total}
use Rattle.sheets.specs.Refused.{ClassRefused, no_question, too_many, wrong_sheet}
use Rattle.sheets.specs.Steps.{opens_filled}
use Rattle.sheets.proofs.Sheets.{opens_decides}

-- P1's replies are no, no, yes and yes (`p1_key`). All right, none, and three of four.
pub p1_scores : scores_of (map answer_byte (false ∷ false ∷ true ∷ true ∷ [])) (sheets_of (bytes "nnyy\nyynn\nnnyn\n")) ≡ 4 ∷ 0 ∷ 100 ∷ 0 ∷ 4 ∷ 0 ∷ 3 ∷ 1 ∷ 75 ∷ []
unfolding sheets_of scores_of places_with percent
p1_scores = refl

pub p1_totals : let key = map answer_byte (false ∷ false ∷ true ∷ true ∷ []) in let sheets = sheets_of (bytes "nnyy\nyynn\nnnyn\n") in
    (total (right_count key) sheets ≡ 7) × (total (wrong_count key) sheets ≡ 5)
unfolding sheets_of places_with total
p1_totals = (refl, refl)

-- a text again and again
pub times : ℕ → List ℕ → List ℕ
times zero text = []
times (suc n) text = text ++ times n text

-- 21 comes first: no question, 65 sheets that say nothing to it, and no room.
pub no_question_first : ClassRefused 0 (sheets_of (times 65 (bytes "y\n"))) 0 0 NoQuestion
no_question_first = no_question refl refl

-- 22 comes before 23: 64 sheets and an unended one are too many.
pub too_many_first : ClassRefused 1 (sheets_of (times 64 (bytes "y\n") ++ bytes "y")) 1000 0 TooManySheets
unfolding sheets_of times
too_many_first = let count : length (sheets_of (times 64 (bytes "y\n") ++ bytes "y")) ≡ 65 = refl in too_many (omega arith) (λ f. omega (arith, f.few, count)) refl

-- 23 is the lowest wrong sheet: the second is too short, the third is empty, the fourth not ended.
pub lowest_first : ClassRefused 2 (sheets_of (bytes "yn\ny\n\nyn")) 12 1 WrongSheet
unfolding sheets_of opens_filled
lowest_first =
    wrong_sheet (omega arith) record { few = omega arith; roomy = omega arith } (omega arith) (λ f. let z : ◌≡◌ {A = ℕ} 1 2 = f.one_each in omega arith) first
  where
    first : (i : ℕ) → i < 1 → Filled 2 (sheet_at (sheets_of (bytes "yn\ny\n\nyn")) i)
    first zero lt = (opens_decides 2 (bytes "yn\ny\n\nyn")).0 refl
    first (suc i) lt = absurd (omega arith)
