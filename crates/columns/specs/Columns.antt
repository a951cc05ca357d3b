-- Subsumption by columns: column b is the set of the a that are within b, in the flat layout of a table of sets.
--     Columns     they have exactly what every model of T has
--     Seeded      sound so far: nothing that some model of the rows lacks, and everything within itself and within 0
--     Started     the start that has no more than that
--     Transposed  the same by rows
use Rattle.std.specs.Prelude.{ℕ, ◌*◌, ◌<◌, ◌≤◌, ◌≡◌, true, false, ◌⊎◌, List, []}
use Rattle.semantics.specs.Concept.{Inclusion, Within}
use Rattle.semantics.specs.Closure.{Replies}
use Rattle.semantics.specs.Limits.{set_words}
use Rattle.semantics.specs.Row.{Row, numbered}
use Rattle.semantics.specs.Saturated.{Holds}
use Rattle.semantics.specs.Set.{cell}

-- Column b has a exactly when every model of T has a within b; its bits from N on are 0.
pub record Columns (N : ℕ) (T : List (Inclusion ℕ ℕ)) (columns : List ℕ) : Type 0 where
  pub bit : (a b : ℕ) → a < N → b < N → Replies (cell set_words columns b a) (Within T [] (numbered a) (numbered b))
  pub zeros : (a b : ℕ) → N ≤ a → a < 64 * set_words → b < N → cell set_words columns b a ≡ false

pub record Seeded (N : ℕ) (rows : List Row) (columns : List ℕ) : Type 0 where
  pub sound : (a b : ℕ) → a < N → b < N → cell set_words columns b a ≡ true → Holds rows [] a b
  pub own : (a : ℕ) → a < N → cell set_words columns a a ≡ true
  pub top : (a : ℕ) → a < N → cell set_words columns 0 a ≡ true
  pub zeros : (a b : ℕ) → N ≤ a → a < 64 * set_words → b < N → cell set_words columns b a ≡ false

-- Column b has b, column 0 has every number below N, and nothing else is there.
pub record Started (N : ℕ) (columns : List ℕ) : Type 0 where
  pub own : (a : ℕ) → a < N → cell set_words columns a a ≡ true
  pub top : (a : ℕ) → a < N → cell set_words columns 0 a ≡ true
  pub only : (a b : ℕ) → a < 64 * set_words → cell set_words columns b a ≡ true → (a < N) × ((b ≡ a) ⊎ (b ≡ 0))

-- Row a of the table has b exactly when column b has a; its bits from N on are 0.
pub record Transposed (N : ℕ) (columns table : List ℕ) : Type 0 where
  pub turned : (a b : ℕ) → a < N → b < N → cell set_words table a b ≡ cell set_words columns b a
  pub zeros : (a b : ℕ) → a < N → N ≤ b → b < 64 * set_words → cell set_words table a b ≡ false
