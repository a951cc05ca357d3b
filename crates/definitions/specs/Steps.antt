-- What only inner functions cite; nobody has to believe it.
--     Writable    definition rows that can be packed, and have room
use Rattle.std.specs.Prelude.{ℕ, ◌+◌, ◌<◌, ◌≤◌, length}
use mathlib.Core.List.{List, Memᴰ}
use Rattle.semantics.specs.Limits.{role_limit}
use Rattle.semantics.specs.Row.{Row, in_exist}

-- The role of each `/` is below the limit, as its first row says (its second has the same role), and there is room for the rows from the place `at` on.
pub record Writable (rows : List Row) (at : ℕ) (words : List ℕ) : Type 0 where
  pub roles : (x r c : ℕ) → Memᴰ (in_exist x r c) rows → r < role_limit
  pub room : at + length rows ≤ length words
