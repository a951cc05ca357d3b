-- What `empty_stuck` starts from.
use Rattle.std.specs.Prelude.{ℕ, ◌*◌, ◌≤◌, length}
use mathlib.Core.List.{List, map, Memᴰ}
use Rattle.semantics.specs.Limits.{set_words}
use Rattle.semantics.specs.Row.{Row}
use Rattle.semantics.specs.Saturated.{strict_rows}
use Rattle.normal.specs.Rules.{Deck, row_of, grown}
use Rattle.columns.specs.Columns.{Columns, Transposed}

-- Columns and table that are exact for rows `before`, between the written rows and those with "left is nothing" for each stuck row.
pub record Emptiable (N : ℕ) (words levels columns table : List ℕ) : Type 0 where
  pub deck : Deck N words
  pub levels_room : length words ≤ length levels
  pub columns_room : set_words * N ≤ length columns
  pub table_room : set_words * N ≤ length table
  pub before : List Row
  pub written : (q : Row) → Memᴰ q (map row_of words) → Memᴰ q before
  pub part : (q : Row) → Memᴰ q before → Memᴰ q (grown words levels)
  pub exact : Columns N (strict_rows before) columns
  pub turned : Transposed N columns table
