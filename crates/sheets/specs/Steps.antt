-- What only inner functions cite; nobody has to believe it.
--     is_answer       a byte that says a reply
--     opens_filled    the text begins with a sheet that can be marked
--     AllFilled       all sheets can be marked
--     LowestWrong     the first sheet that can't be
--     ClassChecked    what checking a class comes to
--     SheetScored     what scoring one sheet leaves
--     Scorable        what is known of a class when it is scored
use Rattle.std.specs.Prelude.{ℕ, zero, suc, ◌+◌, ◌<◌, ◌≤◌, ◌≡◌, Bool, true, false, ◌&&◌, ◌||◌, List, [], ◌∷◌, length, eqb, Result, Ok, Err}
use Rattle.semantics.specs.Limits.{row_limit, score_size}
use Rattle.semantics.specs.Source.{line_feed}
use Rattle.refusal.specs.declared.Refused.{Refused}
use Rattle.copying.specs.Written.{Appended}
use Rattle.sheets.specs.Sheets.{Sheet, sheet_at, sheets_of, answer_byte, Filled, right_count, score_of}
use Rattle.sheets.specs.Refused.{ClassAcceptable, ClassRefused}

abbrev pub is_answer : ℕ → Bool
is_answer b = eqb b (answer_byte true) || eqb b (answer_byte false)

unfoldable pub opens_filled : ℕ → List ℕ → Bool
opens_filled questions [] = false
opens_filled zero (b ∷ bs) = eqb b line_feed
opens_filled (suc questions) (b ∷ bs) = is_answer b && opens_filled questions bs

abbrev pub AllFilled : ℕ → List Sheet → Type 0
AllFilled questions sheets = (i : ℕ) → i < length sheets → Filled questions (sheet_at sheets i)

pub record LowestWrong (questions : ℕ) (sheets : List Sheet) (i : ℕ) : Type 0 where
  pub inside : i < length sheets
  pub before : (j : ℕ) → j < i → Filled questions (sheet_at sheets j)
  pub wrong : Filled questions (sheet_at sheets i) → ⊥

pub data ClassChecked (questions : ℕ) (sheets : List Sheet) (room : ℕ) : Result ℕ Refused → Type 0 where
  accepted : {count : ℕ} → count ≡ length sheets → ClassAcceptable questions sheets room → ClassChecked questions sheets room (Ok count)
  refused : {r : Refused} → ClassRefused questions sheets room r.place r.why → ClassChecked questions sheets room (Err r)

-- The right bytes are counted, and the score stands in the report, from `at` on.
pub record SheetScored (key sheet : List ℕ) (at : ℕ) (report₀ report : List ℕ) (right : ℕ) : Type 0 where
  pub counted : right ≡ right_count key sheet
  pub few : right ≤ length key
  pub written : Appended (score_of key sheet) at report₀ report (at + score_size)

pub record Scorable (key text : List ℕ) (count : ℕ) (report : List ℕ) : Type 0 where
  pub acceptable : ClassAcceptable (length key) (sheets_of text) (length report)
  pub counted : count ≡ length (sheets_of text)
  pub few : length key ≤ row_limit
