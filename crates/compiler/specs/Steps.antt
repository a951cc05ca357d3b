-- What only inner functions cite; nobody has to believe it.
--     ReadyToWrite   what is known of an accepted text before its rows are written
--     RowsWritten    what the writing step leaves
use Rattle.std.specs.Prelude.{ℕ, ◌+◌, ◌≤◌, ◌≡◌, List, ◌++◌, map, length, take, drop}
use Rattle.semantics.specs.Limits.{number_limit}
use Rattle.semantics.specs.Row.{pack}
use Rattle.source.specs.Lines.{definitions}
use Rattle.chains.specs.declared.Sort.TheVariants.{Roles}
use Rattle.names.specs.State.{State, next_concept}
use Rattle.definitions.specs.Steps.{Writable}
use Rattle.compiler.specs.declared.Sizes.{Sizes}

pub record ReadyToWrite (text : List ℕ) (names : State) (lines : ℕ) (rows deck : List ℕ) : Type 0 where
  pub few : next_concept names ≤ number_limit
  pub writable : Writable (definitions text names) lines rows
  pub long : length rows ≤ length deck

pub record RowsWritten (text : List ℕ) (names : State) (lines : ℕ) (rows deck₀ deck : List ℕ) (c : Sizes) : Type 0 where
  pub line_count : c.lines ≡ lines
  pub row_count : c.rows ≡ lines + length (definitions text names)
  pub number_count : c.numbers ≡ next_concept names
  pub role_count : c.roles ≡ (names.lists Roles).used
  pub written : take c.rows deck ≡ take lines rows ++ map pack (definitions text names)
  pub rest_kept : drop c.rows deck ≡ drop c.rows deck₀
  pub length_kept : length deck ≡ length deck₀
