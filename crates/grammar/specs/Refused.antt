-- What is said of a refused text.
--     RowsAt        refusal 8
--     TextRefused   every refusal of a text's author, with its place
use Rattle.std.specs.Prelude.{ℕ, ◌<◌, ◌≤◌, ◌≡◌, List, length}
use Rattle.semantics.specs.Closure.{Line}
use Rattle.semantics.specs.Limits.{text_limit, depth_limit, row_limit}
use Rattle.semantics.specs.Numbering.{normal_rows}
use Rattle.semantics.specs.Source.{Word, Reads}
use Rattle.refusal.specs.declared.Refusal.{Refusal}
use Rattle.refusal.specs.declared.Refusal.TheVariants.{TextTooLong, SyntaxError, TooManyRows}
use Rattle.grammar.specs.Limits.{LinesWithin}
use Rattle.grammar.specs.ViablePrefix.{SyntaxAt, LimitAt}

-- The text is that of lines within every limit but that on rows.
pub record RowsAt (text : List ℕ) (p : ℕ) : Type 0 where
  pub lines : List (Line Word Word)
  pub reads : Reads text lines
  pub within : LinesWithin depth_limit lines
  pub many : row_limit < length (normal_rows lines)
  pub end : p ≡ length text

pub data TextRefused (text : List ℕ) (p : ℕ) : Refusal → Type 0 where
  long : text_limit < length text → p ≡ 0 → TextRefused text p TextTooLong
  syntax : length text ≤ text_limit → SyntaxAt text p → TextRefused text p SyntaxError
  limit : {why : Refusal} → length text ≤ text_limit → LimitAt text p why → TextRefused text p why
  rows : length text ≤ text_limit → RowsAt text p → TextRefused text p TooManyRows
