-- A table whose rows are changed one after the other.
-- Assumes nothing.
use Prim.Native.Nat.{ℕ, ◌+◌, ◌*◌, ◌<◌}
use native.Mathlib.Decide.{ℕ_discrete}
use native.Mathlib.Omega.{arith}
use mathlib.Core.Path.{◌≡◌, ◌∙◌}
use mathlib.Core.Bool.{Bool}
use mathlib.Core.List.{List}
use Rattle.semantics.specs.Limits.{set_words}
use Rattle.semantics.specs.Set.{cell}
use Rattle.tables.specs.Table.{RowBecomes}
use Rattle.tables.proofs.Rows.{other_row}
use Rattle.columns.specs.Steps.{RowsBecome}

module _ {p : ℕ → ℕ → Bool} {old : List ℕ} where
  module _ {i : ℕ} {mid : List ℕ} (so_far : RowsBecome i p old mid) where
    -- row i has changed
    pub rows_more : {q : ℕ → Bool} {new : List ℕ} → RowBecomes set_words i q mid new → ((b : ℕ) → b < 64 * set_words → q b ≡ p i b) → RowsBecome (i + 1) p old new
    rows_more r is = record {
      done = λ a b h l. elim (ℕ_discrete a i) [ yes e ↦ rw e (r.row b l ∙ is b l) | no n ↦ other_row r a b n l ∙ so_far.done a b (omega arith) l ];
      rest = λ a b h l. other_row r a b (λ e. omega arith) l ∙ so_far.rest a b (omega arith) l;
      length_kept = r.length_kept ∙ so_far.length_kept;
    }

    -- row i is to stay
    pub rows_same : ((b : ℕ) → b < 64 * set_words → cell set_words old i b ≡ p i b) → RowsBecome (i + 1) p old mid
    rows_same is = record {
      done = λ a b h l. elim (ℕ_discrete a i) [ yes e ↦ rw e (so_far.rest i b (omega arith) l ∙ is b l) | no n ↦ so_far.done a b (omega arith) l ];
      rest = λ a b h l. so_far.rest a b (omega arith) l;
      length_kept = so_far.length_kept;
    }
