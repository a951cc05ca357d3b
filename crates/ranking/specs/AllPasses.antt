-- What the passes start from and end with, in the buffers that they run on.
use Rattle.std.specs.Prelude.{ℕ, ◌*◌, ◌<◌, ◌≤◌, ◌≡◌, List, length, get_or}
use Rattle.semantics.specs.Limits.{set_words}
use Rattle.semantics.specs.Saturated.{strict_rows}
use Rattle.normal.specs.Rules.{infinite, grown}
use Rattle.roots.specs.Root.{Ready}
use Rattle.columns.specs.Columns.{Columns, Transposed}
use Rattle.pass.specs.Passes.{Bounded, Ranked}

-- An accepted deck with all levels 0, its columns, its table and its index.
pub record Rankable (N : ℕ) (words levels columns table heads links : List ℕ) : Type 0 where
  pub ready : Ready N words levels table heads links
  pub zeros : (i : ℕ) → i < length words → get_or levels i 0 ≡ 0
  pub columns_room : set_words * N ≤ length columns
  pub exact : Columns N (strict_rows (grown words levels)) columns
  pub turned : Transposed N columns table

pub record PassesRan (N : ℕ) (words start levels columns₀ columns table₀ table : List ℕ) (k passes : ℕ) : Type 0 where
  pub ranked : Ranked N words levels table k passes
  pub small : k < infinite
  pub bounded : Bounded words levels
  pub levels_length : length levels ≡ length start
  pub columns_length : length columns ≡ length columns₀
  pub table_length : length table ≡ length table₀
