-- What only inner functions cite; nobody has to believe it.
--     Blank         local state before anything is known
--     Clear         what of it the consequences of the strict rows are worked out on
--     StrictKnown   the columns and the strict table of the written rows, and the strict queries' answers
--     WorkedOut     everything that is to be known
use Rattle.std.specs.Prelude.{ℕ, ◌*◌, ◌<◌, ◌≤◌, ◌≡◌, List, map, length, get_or, take}
use Rattle.semantics.specs.Closure.{yes_count}
use Rattle.semantics.specs.Limits.{set_words}
use Rattle.semantics.specs.Row.{line_of}
use Rattle.semantics.specs.Saturated.{strict_rows}
use Rattle.normal.specs.Rules.{row_of, infinite}
use Rattle.index.specs.Index.{key_count}
use Rattle.columns.specs.Columns.{Columns, Transposed}
use Rattle.pass.specs.Passes.{Bounded}
use Rattle.answers.specs.Answers.{StrictAnswered, Answered}
use Rattle.workspace.specs.declared.Counts.{Counts}

pub record Blank (N : ℕ) (words columns strict levels heads links answers : List ℕ) : Type 0 where
  pub columns_room : set_words * N ≤ length columns
  pub strict_room : set_words * N ≤ length strict
  pub levels_room : length words ≤ length levels
  pub heads_room : key_count ≤ length heads
  pub links_room : 2 * length words ≤ length links
  pub answers_room : length words ≤ length answers
  pub no_columns : (j : ℕ) → get_or columns j 0 ≡ 0
  pub no_levels : (j : ℕ) → get_or levels j 0 ≡ 0
  pub no_heads : (j : ℕ) → get_or heads j 0 ≡ 0

pub record Clear (N : ℕ) (words columns strict answers : List ℕ) : Type 0 where
  pub columns_room : set_words * N ≤ length columns
  pub strict_room : set_words * N ≤ length strict
  pub answers_room : length words ≤ length answers
  pub no_columns : (j : ℕ) → get_or columns j 0 ≡ 0

pub record StrictKnown (N : ℕ) (words columns₀ columns strict₀ strict answers₀ answers : List ℕ) : Type 0 where
  pub exact : Columns N (strict_rows (map row_of words)) columns
  pub turned : Transposed N columns strict
  pub answered : StrictAnswered words answers
  pub columns_length : length columns ≡ length columns₀
  pub strict_length : length strict ≡ length strict₀
  pub answers_length : length answers ≡ length answers₀

pub record WorkedOut (N : ℕ) (words strict₀ strict levels₀ levels answers₀ answers : List ℕ) (c : Counts) : Type 0 where
  pub answered : Answered N words levels strict c.levels c.passes answers
  pub yes_counted : c.yes ≡ yes_count (map line_of (map row_of words)) (take (length words) answers)
  pub small : c.levels < infinite
  pub bounded : Bounded words levels
  pub strict_length : length strict ≡ length strict₀
  pub levels_length : length levels ≡ length levels₀
  pub answers_length : length answers ≡ length answers₀
