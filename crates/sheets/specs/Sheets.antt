-- Score sheets of a class, and their scores.
--     Sheet, sheets_of           the sheets of a text: each stands before its line feed, and what is behind the last line feed is an unended one
--     answer_byte, Filled        what is written for a reply, and a sheet that can be marked
--     right_count, wrong_count   how many bytes of a sheet say the key's replies, and how many don't
--     percent                    the whole percent right, an exact half going up
--     score_of, scores_of        right, wrong and percent of a sheet, and sheet after sheet
--     Scored                     what marking writes and returns
use Rattle.std.specs.Prelude.{ℕ, ◌+◌, ◌*◌, ◌/◌, ◌<◌, ◌≡◌, Bool, true, false, not, cond, List, [], ◌∷◌, ◌++◌, length, get_or, drop, eqb}
use Rattle.semantics.specs.Source.{line_feed}
use Rattle.sheets.specs.declared.Totals.{Totals}

-- ---- the sheets of a text

-- The bytes before a line feed, or before the text's end.
pub record Sheet : Type 0 where
  pub bytes : List ℕ
  pub ended : Bool

-- what is there where no sheet is
abbrev pub no_sheet : Sheet
no_sheet = record { bytes = []; ended = false }

abbrev pub sheet_at : List Sheet → ℕ → Sheet
sheet_at sheets i = get_or sheets i no_sheet

-- one byte more at the front
abbrev pub with_byte : ℕ → Sheet → Sheet
with_byte b s = record { bytes = b ∷ s.bytes; ended = s.ended }

-- A line feed ends a sheet; another byte is the first of the sheet that goes on behind it. At the text's end none goes on, so the byte is in an unended one (`no_sheet`).
unfoldable pub sheets_of : List ℕ → List Sheet
sheets_of [] = []
sheets_of (b ∷ bs) = cond (eqb b line_feed) (record { bytes = []; ended = true } ∷ sheets_of bs) (with_byte b (sheet_at (sheets_of bs) 0) ∷ drop 1 (sheets_of bs))

-- ---- a sheet that can be marked

-- y for yes, n for no
abbrev pub answer_byte : Bool → ℕ
answer_byte true = 121
answer_byte false = 110

-- One reply for each question, and the line feed.
pub record Filled (questions : ℕ) (sheet : Sheet) : Type 0 where
  pub is_ended : sheet.ended ≡ true
  pub one_each : length sheet.bytes ≡ questions
  pub says : (i : ℕ) → i < questions → (reply : Bool) × (get_or sheet.bytes i 0 ≡ answer_byte reply)

-- ---- its score

-- at how many places the bytes of the key and of a sheet pass the test
unfoldable pub places_with : (ℕ → ℕ → Bool) → List ℕ → List ℕ → ℕ
places_with test [] sheet = 0
places_with test (k ∷ key) [] = 0
places_with test (k ∷ key) (b ∷ sheet) = cond (test k b) 1 0 + places_with test key sheet

abbrev pub right_count : (key sheet : List ℕ) → ℕ
right_count = places_with eqb

abbrev pub wrong_count : (key sheet : List ℕ) → ℕ
wrong_count = places_with (λ k b. not (eqb k b))

unfoldable pub percent : (right questions : ℕ) → ℕ
percent right questions = (200 * right + questions) / (2 * questions)

abbrev pub score_of : (key sheet : List ℕ) → List ℕ
score_of key sheet = right_count key sheet ∷ wrong_count key sheet ∷ percent (right_count key sheet) (length key) ∷ []

unfoldable pub scores_of : (key : List ℕ) → List Sheet → List ℕ
scores_of key [] = []
scores_of key (s ∷ sheets) = score_of key s.bytes ++ scores_of key sheets

-- ---- all sheets

unfoldable pub total : (List ℕ → ℕ) → List Sheet → ℕ
total count [] = 0
total count (s ∷ sheets) = count s.bytes + total count sheets

-- The report begins with the score of each sheet, its rest as at entry, and the totals are the sums.
pub record Scored (key : List ℕ) (sheets : List Sheet) (report₀ report : List ℕ) (t : Totals) : Type 0 where
  pub written : report ≡ scores_of key sheets ++ drop (length (scores_of key sheets)) report₀
  pub right_total : t.right ≡ total (right_count key) sheets
  pub wrong_total : t.wrong ≡ total (wrong_count key) sheets
