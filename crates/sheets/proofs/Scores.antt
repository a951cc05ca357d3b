-- Scores: what one more byte or one more sheet adds.
--     right_pairs                       what is right, as the code counts it
--     right_wrong                       right and wrong are all questions
--     percent_most                      no percent is over 100
--     Scoring                           the first sheets are scored: none, one more
-- Assumes nothing.
use Prim.Native.Nat.{ℕ, zero, suc, ◌+◌, ◌-◌, ◌*◌, ◌/◌, ◌<◌, ◌≤◌}
use native.Mathlib.Omega.{arith}
use native.Mathlib.Numerals.{add-one}
use native.Mathlib.Nat.{zero-mul, suc-mul, div-mul-le_self, div-lt_iff_lt-mul, le-div_iff_mul-le}
use mathlib.Core.Path.{◌≡◌, refl, sym, ◌∙◌, ap, subst}
use mathlib.Core.Bool.{cond}
use mathlib.Core.List.{List, [], ◌∷◌, ◌++◌, append_assoc}
use lib.ListN.{length, get_or, set, take, drop, length-set, length-append, length-drop, get_or-append}
use lib.Seq.{take-suc, take_all, drop-append_seam, get_or-append-add}
use lib.Dec.{eqb}
use Rattle.std.specs.List.{count_by, zip}
use Rattle.std.proofs.lemmas.List.Sums.{sum_by-cons}
use Rattle.semantics.specs.Limits.{row_limit, score_size}
use Rattle.semantics.proofs.Tests.{cases}
use Rattle.copying.specs.Written.{Appended}
use Rattle.copying.proofs.Writing.{appended_none, appended_one, appended_append}
use Rattle.sheets.specs.Sheets.{Sheet, no_sheet, sheet_at, places_with, right_count, wrong_count, percent, score_of, scores_of, total, Scored}
use Rattle.sheets.specs.Steps.{SheetScored}
use Rattle.sheets.specs.Whole.{sum_over}
use Rattle.sheets.specs.declared.Totals.{Totals}

-- ---- the bytes of a sheet

-- as the code counts them: the pairs of bytes that are the same
pub right_pairs : (key sheet : List ℕ) → count_by (λ p. eqb p.0 p.1) (zip key sheet) ≡ right_count key sheet
unfolding places_with
right_pairs [] sheet = refl
right_pairs (k ∷ key) [] = refl
right_pairs (k ∷ key) (b ∷ sheet) =
    sum_by-cons (λ p. cond (eqb p.0 p.1) 1 0) (k, b) (zip key sheet) ∙ ap (λ n. cond (eqb k b) 1 0 + n) (right_pairs key sheet)

pub right_few : (key sheet : List ℕ) → right_count key sheet ≤ length key
unfolding places_with
right_few [] sheet = omega arith
right_few (k ∷ key) [] = omega arith
right_few (k ∷ key) (b ∷ sheet) = cases (eqb k b) (λ t. rw t (omega (arith, right_few key sheet))) (λ f. rw f (omega (arith, right_few key sheet)))

-- A byte is right or wrong.
pub right_wrong : (key sheet : List ℕ) → length sheet ≡ length key → right_count key sheet + wrong_count key sheet ≡ length key
unfolding places_with
right_wrong [] sheet e = refl
right_wrong (k ∷ key) [] e = absurd (omega arith)
right_wrong (k ∷ key) (b ∷ sheet) e =
    let rest = right_wrong key sheet (omega arith) in
    cases (eqb k b) (λ t. rw t (omega (arith, rest))) (λ f. rw f (omega (arith, rest)))

-- ---- the percent

-- no percent is over 100
pub percent_most : (right questions : ℕ) → 0 < questions → right ≤ questions → percent right questions ≤ 100
unfolding percent
percent_most right questions lt le =
    let h = (div-lt_iff_lt-mul {k = 2 * questions} {x = 200 * right + questions} {y = 101} (omega arith)).1 (omega arith) in
    omega (arith, h)

-- It is the whole number that is nearest to 100 · right / questions, the upper one where two are.
pub percent_nearest : (right questions : ℕ) → 0 < questions →
    (percent right questions * (2 * questions) ≤ 200 * right + questions) × (200 * right + questions < suc (percent right questions) * (2 * questions))
unfolding percent
percent_nearest right questions lt =
    let n = 200 * right + questions in
    (div-mul-le_self n (2 * questions), (div-lt_iff_lt-mul {k = 2 * questions} {x = n} {y = suc (n / (2 * questions))} (omega arith)).0 (omega arith))

pub percent_none : (questions : ℕ) → 0 < questions → percent 0 questions ≡ 0
unfolding percent
percent_none questions lt =
    let h = (div-lt_iff_lt-mul {k = 2 * questions} {x = 200 * 0 + questions} {y = 1} (omega arith)).1 (omega arith) in
    omega (arith, h)

pub percent_all : (questions : ℕ) → 0 < questions → percent questions questions ≡ 100
unfolding percent
percent_all questions lt =
    let h = (le-div_iff_mul-le {k = 2 * questions} {x = 100} {y = 200 * questions + questions} (omega arith)).1 (omega arith) in
    let most = (div-lt_iff_lt-mul {k = 2 * questions} {x = 200 * questions + questions} {y = 101} (omega arith)).1 (omega arith) in
    omega (arith, h, most)

-- one right in eight, and one in two
pub percent_examples : (percent 1 8 ≡ 13) × (percent 1 2 ≡ 50)
unfolding percent
percent_examples = (refl, refl)

-- ---- three numbers one after another

three_written : {old : List ℕ} (at x y z : ℕ) → at + score_size ≤ length old →
    Appended (x ∷ y ∷ z ∷ []) at old (set (set (set old at x) (at + 1) y) (at + 2) z) (at + score_size)
three_written {old} at x y z le =
    let two : at + 1 + 1 ≡ at + 2 = omega arith in
    let three : at + 2 + 1 ≡ at + score_size = omega arith in
    let first = appended_one {at = at} {old = old} x (omega arith) in
    let second = appended_one {at = at + 1} {old = set old at x} y (omega (arith, length-set old at x)) in
    let third = appended_one {at = at + 2} {old = set (set old at x) (at + 1) y} z (omega (arith, length-set old at x, length-set (set old at x) (at + 1) y)) in
    subst (λ n. Appended (x ∷ y ∷ z ∷ []) at old (set (set (set old at x) (at + 1) y) (at + 2) z) n) three
    (appended_append (subst (λ n. Appended (x ∷ y ∷ []) at old (set (set old at x) (at + 1) y) n) two (appended_append first second)) third)

pub score_written : (key sheet : List ℕ) {old : List ℕ} {at right share : ℕ} → length sheet ≡ length key → right ≡ right_count key sheet → share ≡ percent right (length key) →
    at + score_size ≤ length old →
    Appended (score_of key sheet) at old (set (set (set old at right) (at + 1) (length key - right)) (at + 2) share) (at + score_size)
score_written key sheet {old} {at} {right} {share} same r p le =
    let wrong : length key - right ≡ wrong_count key sheet = omega (arith, r, right_wrong key sheet same) in
    let score : ◌≡◌ {A = List ℕ} (right ∷ (length key - right) ∷ share ∷ []) (score_of key sheet) =
    (λ i. r i ∷ wrong i ∷ (p ∙ ap (λ n. percent n (length key)) r) i ∷ []) in
    subst (λ l. Appended l at old (set (set (set old at right) (at + 1) (length key - right)) (at + 2) share) (at + score_size)) score
    (three_written at right (length key - right) share le)

-- ---- the sheets of a class

scores_append : (key : List ℕ) (ss ts : List Sheet) → scores_of key (ss ++ ts) ≡ scores_of key ss ++ scores_of key ts
unfolding scores_of
scores_append key [] ts = refl
scores_append key (s ∷ ss) ts =
    ap (λ l. score_of key s.bytes ++ l) (scores_append key ss ts) ∙ sym (append_assoc (score_of key s.bytes) (scores_of key ss) (scores_of key ts))

total_append : (count : List ℕ → ℕ) (ss ts : List Sheet) → total count (ss ++ ts) ≡ total count ss + total count ts
unfolding total
total_append count [] ts = omega arith
total_append count (s ∷ ss) ts = omega (arith, total_append count ss ts)

module _ (key : List ℕ) (sheets : List Sheet) (i : ℕ) (lt : i < length sheets) where
  first_more : take (i + 1) sheets ≡ take i sheets ++ (sheet_at sheets i ∷ [])
  first_more = rw add-one (take-suc sheets i no_sheet lt)

  scores_more : scores_of key (take (i + 1) sheets) ≡ scores_of key (take i sheets) ++ score_of key (sheet_at sheets i).bytes
  unfolding scores_of
  scores_more = ap (scores_of key) first_more ∙ scores_append key (take i sheets) (sheet_at sheets i ∷ [])

  total_more : (count : List ℕ → ℕ) → total count (take (i + 1) sheets) ≡ total count (take i sheets) + count (sheet_at sheets i).bytes
  unfolding total
  total_more count = let e = ap (total count) first_more in omega (arith, e, total_append count (take i sheets) (sheet_at sheets i ∷ []))

-- The first i sheets are scored: their scores stand at the start of the report, and the totals are theirs.
pub record Scoring (key : List ℕ) (sheets : List Sheet) (i : ℕ) (report₀ report : List ℕ) (right wrong : ℕ) : Type 0 where
  pub within : i ≤ length sheets
  pub written : Appended (scores_of key (take i sheets)) 0 report₀ report (score_size * i)
  pub right_sum : right ≡ total (right_count key) (take i sheets)
  pub wrong_sum : wrong ≡ total (wrong_count key) (take i sheets)
  pub right_few : right ≤ row_limit * i
  pub wrong_few : wrong ≤ row_limit * i

pub scoring_none : (key : List ℕ) (sheets : List Sheet) (report : List ℕ) → Scoring key sheets 0 report report 0 0
unfolding scores_of total
scoring_none key sheets report = record {
  within = omega arith;
  written = appended_none 0 report;
  right_sum = refl;
  wrong_sum = refl;
  right_few = omega arith;
  wrong_few = omega arith;
}

pub scoring_more : {key : List ℕ} {sheets : List Sheet} {i : ℕ} {report₀ report report' : List ℕ} {right wrong found : ℕ} → length key ≤ row_limit →
    Scoring key sheets i report₀ report right wrong → i < length sheets → length (sheet_at sheets i).bytes ≡ length key →
    SheetScored key (sheet_at sheets i).bytes (score_size * i) report report' found →
    Scoring key sheets (i + 1) report₀ report' (right + found) (wrong + (length key - found))
scoring_more {key} {sheets} {i} {report₀} {report} {report'} {found} few s lt same f =
    let both = right_wrong key (sheet_at sheets i).bytes same in
    let to : score_size * i + score_size ≡ score_size * (i + 1) = omega arith in
    record {
      within = omega arith;
      written = subst (λ l. Appended l 0 report₀ report' (score_size * (i + 1))) (sym (scores_more key sheets i lt))
          (subst (λ n. Appended (scores_of key (take i sheets) ++ score_of key (sheet_at sheets i).bytes) 0 report₀ report' n) to (appended_append s.written f.written));
      right_sum = omega (arith, s.right_sum, f.counted, total_more key sheets i lt (right_count key));
      wrong_sum = omega (arith, s.wrong_sum, f.counted, both, total_more key sheets i lt (wrong_count key));
      right_few = omega (arith, s.right_few, f.few);
      wrong_few = omega (arith, s.wrong_few);
    }

-- ---- the report

-- each sheet has three numbers
pub scores_length : (key : List ℕ) (sheets : List Sheet) → length (scores_of key sheets) ≡ score_size * length sheets
unfolding scores_of
scores_length key [] = refl
scores_length key (s ∷ sheets) = omega (arith, scores_length key sheets)

-- number j of sheet i
score_at : (key : List ℕ) (sheets : List Sheet) (i j : ℕ) → i < length sheets → j < score_size →
    get_or (scores_of key sheets) (score_size * i + j) 0 ≡ get_or (score_of key (sheet_at sheets i).bytes) j 0
unfolding scores_of
score_at key [] i j lt le = absurd (omega arith)
score_at key (s ∷ sheets) zero j lt le =
    let e : score_size * 0 + j ≡ j = omega arith in
    ap (λ n. get_or (score_of key s.bytes ++ scores_of key sheets) n 0) e ∙ get_or-append (score_of key s.bytes) (scores_of key sheets) 0 j (omega arith)
score_at key (s ∷ sheets) (suc i) j lt le =
    let e : score_size * suc i + j ≡ score_size + (score_size * i + j) = omega arith in
    ap (λ n. get_or (score_of key s.bytes ++ scores_of key sheets) n 0) e ∙
    get_or-append-add (score_of key s.bytes) (scores_of key sheets) (score_size * i + j) 0 ∙ score_at key sheets i j (omega arith) le

pub score_stands : {key : List ℕ} {sheets : List Sheet} {report₀ report : List ℕ} {t : Totals} → Scored key sheets report₀ report t → (i j : ℕ) → i < length sheets → j < score_size →
    get_or report (score_size * i + j) 0 ≡ get_or (score_of key (sheet_at sheets i).bytes) j 0
score_stands {key} {sheets} {report₀} s i j lt le =
    ap (λ l. get_or l (score_size * i + j) 0) s.written ∙
    get_or-append (scores_of key sheets) (drop (length (scores_of key sheets)) report₀) 0 (score_size * i + j) (omega (arith, scores_length key sheets)) ∙ score_at key sheets i j lt le

-- behind the scores the report is as at entry, and as long
pub report_rest_kept : {key : List ℕ} {sheets : List Sheet} {report₀ report : List ℕ} {t : Totals} → Scored key sheets report₀ report t → score_size * length sheets ≤ length report₀ →
    (drop (score_size * length sheets) report ≡ drop (score_size * length sheets) report₀) × (length report ≡ length report₀)
report_rest_kept {key} {sheets} {report₀} {report} s le =
    let scores = scores_of key sheets in
    let n = scores_length key sheets in
    let rest = drop (length scores) report₀ in (
      ap (λ k. drop k report) (sym n) ∙ ap (drop (length scores)) s.written ∙ drop-append_seam scores rest ∙ ap (λ k. drop k report₀) n,
      omega (arith, ap length s.written, length-append scores rest, length-drop (length scores) report₀, n),
    )

-- What is right on all sheets and what is wrong are all questions of all sheets.
pub totals_all : (key : List ℕ) (sheets : List Sheet) → ((i : ℕ) → i < length sheets → length (sheet_at sheets i).bytes ≡ length key) →
    total (right_count key) sheets + total (wrong_count key) sheets ≡ length sheets * length key
unfolding total
totals_all key [] each = sym (zero-mul (length key))
totals_all key (s ∷ sheets) each =
    omega (arith, right_wrong key s.bytes (each 0 (omega arith)), totals_all key sheets (λ i lt. each (suc i) (omega arith)), suc-mul (length sheets) (length key))

-- ---- the totals are the sums

sum_same : (f g : ℕ → ℕ) (n : ℕ) → ((i : ℕ) → i < n → f i ≡ g i) → sum_over f n ≡ sum_over g n
unfolding sum_over
sum_same f g zero e = refl
sum_same f g (suc n) e = omega (arith, sum_same f g n (λ i lt. e i (omega arith)), e n (omega arith))

total_sum : (count : List ℕ → ℕ) (sheets : List Sheet) (n : ℕ) → n ≤ length sheets → total count (take n sheets) ≡ sum_over (λ i. count (sheet_at sheets i).bytes) n
unfolding sum_over total
total_sum count sheets zero le = refl
total_sum count sheets (suc n) le =
    let e : n + 1 ≡ suc n = omega arith in
    omega (arith, ap (λ k. total count (take k sheets)) e, total_more [] sheets n (omega arith) count, total_sum count sheets n (omega arith))

module _ {key : List ℕ} {sheets : List Sheet} {report₀ report : List ℕ} {t : Totals} (s : Scored key sheets report₀ report t) where
  sum_of : (count : List ℕ → ℕ) (j : ℕ) → j < score_size → ((i : ℕ) → get_or (score_of key (sheet_at sheets i).bytes) j 0 ≡ count (sheet_at sheets i).bytes) →
      total count sheets ≡ sum_over (λ i. get_or report (score_size * i + j) 0) (length sheets)
  sum_of count j le e =
      ap (total count) (sym (take_all (length sheets) sheets (omega arith))) ∙ total_sum count sheets (length sheets) (omega arith) ∙
      sum_same (λ i. count (sheet_at sheets i).bytes) (λ i. get_or report (score_size * i + j) 0) (length sheets) (λ i lt. sym (score_stands s i j lt le ∙ e i))

  pub totals_sum : (t.right ≡ sum_over (λ i. get_or report (score_size * i + 0) 0) (length sheets)) × (t.wrong ≡ sum_over (λ i. get_or report (score_size * i + 1) 0) (length sheets))
  totals_sum =
      (s.right_total ∙ sum_of (right_count key) 0 (omega arith) (λ i. refl), s.wrong_total ∙ sum_of (wrong_count key) 1 (omega arith) (λ i. refl))
