-- The theorems on score sheets, in reading order.
--     sheets_joined, sheets_whole, sheets_unique   a text falls into sheets in one way
--     class_either, class_exclusive, class_one     a class is accepted, or refused by one refusal at one place
--     sheet_adds_up, totals_add_up, totals_sum     right and wrong are all questions, and the totals are the sums of the report's numbers
--     percent_..                                   the percent is the nearest whole one, an exact half going up
--     score_stands, report_rest_kept               where the scores stand, and that the rest is kept
--     p1_scores, .., lowest_first                  worked examples: three sheets by the key of P1, and each refusal where others hold too
-- Assumes nothing.
use Prim.Native.Nat.{ℕ, suc, ◌+◌, ◌*◌, ◌<◌, ◌≤◌}
use mathlib.Core.Path.{◌≡◌}
use mathlib.Core.Bool.{true, false}
use mathlib.Core.List.{List, [], ◌∷◌, ◌++◌, map}
use mathlib.Core.Logic.{◌⊎◌}
use lib.ListN.{length, get_or, drop}
use Rattle.semantics.specs.Limits.{score_size}
use Rattle.semantics.specs.Examples.{bytes}
use Rattle.refusal.specs.declared.Refusal.{Refusal}
use Rattle.refusal.specs.declared.Refusal.TheVariants.{NoQuestion, TooManySheets, WrongSheet}
use Rattle.sheets.specs.Sheets.{Sheet, sheet_at, sheets_of, answer_byte, Filled, right_count, wrong_count, percent, score_of, scores_of, total, Scored}
use Rattle.sheets.specs.Refused.{ClassAcceptable, ClassRefused}
use Rattle.sheets.specs.Whole.{joined, Whole, sum_over}
use Rattle.sheets.specs.declared.Totals.{Totals}
use Rattle.sheets.proofs.Deciding as deciding
use Rattle.sheets.proofs.Examples as examples
use Rattle.sheets.proofs.Scores as scores
use Rattle.sheets.proofs.Splitting as splitting

-- ---- the sheets of a text

-- The sheets, a line feed behind each that is ended, are the text again: each byte is in one sheet, or is its line feed.
pub sheets_joined : (text : List ℕ) → joined (sheets_of text) ≡ text
sheets_joined = splitting.sheets_joined

-- No sheet holds a line feed, and only the last may be unended, where it has a byte.
pub sheets_whole : (text : List ℕ) → Whole (sheets_of text)
sheets_whole = splitting.sheets_whole

-- No other sheets are so.
pub sheets_unique : {text : List ℕ} {sheets : List Sheet} → Whole sheets → joined sheets ≡ text → sheets ≡ sheets_of text
sheets_unique = splitting.sheets_unique

-- ---- accepted or refused

-- Whatever the text: it can be marked, or one of 21 to 23 holds of it.
pub class_either : (q : ℕ) (text : List ℕ) (room : ℕ) →
    ClassAcceptable q (sheets_of text) room ⊎ ((p : ℕ) × (why : Refusal) × ClassRefused q (sheets_of text) room p why)
class_either = deciding.class_either

-- Not both, and not two refusals or two places.
pub class_exclusive : {q room : ℕ} {sheets : List Sheet} → ClassAcceptable q sheets room → {p : ℕ} {why : Refusal} → ClassRefused q sheets room p why → ⊥
class_exclusive = deciding.class_exclusive

pub class_one : {q room : ℕ} {sheets : List Sheet} {p p' : ℕ} {why how : Refusal} → ClassRefused q sheets room p why → ClassRefused q sheets room p' how → (why ≡ how) × (p ≡ p')
class_one = deciding.class_one

-- ---- scores

-- On each sheet that can be marked, right and wrong add up to the questions.
pub sheet_adds_up : (key : List ℕ) {sheet : Sheet} → Filled (length key) sheet → right_count key sheet.bytes + wrong_count key sheet.bytes ≡ length key
sheet_adds_up key {sheet} f = scores.right_wrong key sheet.bytes f.one_each

-- On all sheets they add up to the questions of each.
pub totals_add_up : (key : List ℕ) (sheets : List Sheet) → ((i : ℕ) → i < length sheets → Filled (length key) (sheet_at sheets i)) →
    total (right_count key) sheets + total (wrong_count key) sheets ≡ length sheets * length key
totals_add_up key sheets each = scores.totals_all key sheets (λ i lt. (each i lt).one_each)

-- The totals are the sums of what stands in the report: of each sheet's first number, and of each sheet's second.
pub totals_sum : {key : List ℕ} {sheets : List Sheet} {report₀ report : List ℕ} {t : Totals} → Scored key sheets report₀ report t →
    (t.right ≡ sum_over (λ i. get_or report (score_size * i + 0) 0) (length sheets)) × (t.wrong ≡ sum_over (λ i. get_or report (score_size * i + 1) 0) (length sheets))
totals_sum = scores.totals_sum

-- The percent p is the whole number with 100 · right / questions - 1/2 < p ≤ 100 · right / questions + 1/2, said without fractions.
pub percent_nearest : (right questions : ℕ) → 0 < questions →
    (percent right questions * (2 * questions) ≤ 200 * right + questions) × (200 * right + questions < suc (percent right questions) * (2 * questions))
percent_nearest = scores.percent_nearest

-- One right in eight gives 13, one in two 50; none gives 0, and all give 100.
pub percent_examples : (percent 1 8 ≡ 13) × (percent 1 2 ≡ 50)
percent_examples = scores.percent_examples

pub percent_none : (questions : ℕ) → 0 < questions → percent 0 questions ≡ 0
percent_none = scores.percent_none

pub percent_all : (questions : ℕ) → 0 < questions → percent questions questions ≡ 100
percent_all = scores.percent_all

-- Right, wrong and percent of sheet i stand at 3 i, 3 i + 1 and 3 i + 2.
pub score_stands : {key : List ℕ} {sheets : List Sheet} {report₀ report : List ℕ} {t : Totals} → Scored key sheets report₀ report t → (i j : ℕ) → i < length sheets → j < score_size →
    get_or report (score_size * i + j) 0 ≡ get_or (score_of key (sheet_at sheets i).bytes) j 0
score_stands = scores.score_stands

-- Behind the scores the report is as at entry.
pub report_rest_kept : {key : List ℕ} {sheets : List Sheet} {report₀ report : List ℕ} {t : Totals} → Scored key sheets report₀ report t → score_size * length sheets ≤ length report₀ →
    (drop (score_size * length sheets) report ≡ drop (score_size * length sheets) report₀) × (length report ≡ length report₀)
report_rest_kept = scores.report_rest_kept

-- ---- worked examples

-- Three sheets by the key of P1, whose replies are no, no, yes and yes (`p1_key` of crate semantics): all right, none, and three of four.
pub p1_scores : scores_of (map answer_byte (false ∷ false ∷ true ∷ true ∷ [])) (sheets_of (bytes "nnyy\nyynn\nnnyn\n")) ≡ 4 ∷ 0 ∷ 100 ∷ 0 ∷ 4 ∷ 0 ∷ 3 ∷ 1 ∷ 75 ∷ []
p1_scores = examples.p1_scores

pub p1_totals : let key = map answer_byte (false ∷ false ∷ true ∷ true ∷ []) in let sheets = sheets_of (bytes "nnyy\nyynn\nnnyn\n") in
    (total (right_count key) sheets ≡ 7) × (total (wrong_count key) sheets ≡ 5)
p1_totals = examples.p1_totals

-- 21 comes before 22: `times n text` is the text n times.
pub no_question_first : ClassRefused 0 (sheets_of (examples.times 65 (bytes "y\n"))) 0 0 NoQuestion
no_question_first = examples.no_question_first

-- 22 comes before 23: an unended sheet counts.
pub too_many_first : ClassRefused 1 (sheets_of (examples.times 64 (bytes "y\n") ++ bytes "y")) 1000 0 TooManySheets
too_many_first = examples.too_many_first

-- 23 is at the lowest wrong sheet: the second is too short, the third is empty, the fourth not ended.
pub lowest_first : ClassRefused 2 (sheets_of (bytes "yn\ny\n\nyn")) 12 1 WrongSheet
lowest_first = examples.lowest_first
