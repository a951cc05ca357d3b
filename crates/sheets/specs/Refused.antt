-- What is said of a class of sheets that is accepted or refused: so many questions, the sheets, and so much room in the report.
--     Fits              the class is not too large
--     ClassAcceptable   what can be marked
--     ClassRefused      refusals 21, 22 and 23, in this order, with their places
use Rattle.std.specs.Prelude.{ℕ, ◌*◌, ◌<◌, ◌≤◌, ◌≡◌, List, length}
use Rattle.semantics.specs.Limits.{sheet_limit, score_size}
use Rattle.refusal.specs.declared.Refusal.{Refusal}
use Rattle.refusal.specs.declared.Refusal.TheVariants.{NoQuestion, TooManySheets, WrongSheet}
use Rattle.sheets.specs.Sheets.{Sheet, sheet_at, Filled}

pub record Fits (sheets : List Sheet) (room : ℕ) : Type 0 where
  pub few : length sheets ≤ sheet_limit
  pub roomy : score_size * length sheets ≤ room

pub record ClassAcceptable (questions : ℕ) (sheets : List Sheet) (room : ℕ) : Type 0 where
  pub some_question : 0 < questions
  pub fits : Fits sheets room
  pub filled : (i : ℕ) → i < length sheets → Filled questions (sheet_at sheets i)

pub data ClassRefused (questions : ℕ) (sheets : List Sheet) (room p : ℕ) : Refusal → Type 0 where
  no_question : questions ≡ 0 → p ≡ 0 → ClassRefused questions sheets room p NoQuestion
  too_many : 0 < questions → (Fits sheets room → ⊥) → p ≡ 0 → ClassRefused questions sheets room p TooManySheets
  -- p is the lowest sheet that can't be marked
  wrong_sheet : 0 < questions → Fits sheets room → p < length sheets → (Filled questions (sheet_at sheets p) → ⊥) →
      ((i : ℕ) → i < p → Filled questions (sheet_at sheets i)) → ClassRefused questions sheets room p WrongSheet
