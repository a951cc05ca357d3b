-- What two settlings have in common: the theorems on one outcome cite this, and no contract does.
--     SameBuffers   what the lent buffers hold at exit
--     SameWritten   what was written to them
use Rattle.std.specs.Prelude.{ℕ, ◌*◌, ◌≡◌, take}
use Rattle.semantics.specs.Set.{Are64}
use Rattle.semantics.specs.Limits.{set_words}
use Rattle.buffers.specs.Buffers.{Buffers}

-- The same results, the same order, and the same table where its words have 64 bits.
pub record SameBuffers (here there : Buffers) : Type 0 where
  pub same_results : here.results ≡ there.results
  pub same_table : Are64 here.table → Are64 there.table → here.table ≡ there.table
  pub same_order : here.order ≡ there.order

-- The same where settling writes: the results of `count` rows, N sets of the table where its words have 64 bits, and `ranked` places of the order. Of the rest
-- nothing is said.
pub record SameWritten (N count ranked : ℕ) (here there : Buffers) : Type 0 where
  pub first_results : take count here.results ≡ take count there.results
  pub first_table : Are64 here.table → Are64 there.table → take (set_words * N) here.table ≡ take (set_words * N) there.table
  pub first_order : take ranked here.order ≡ take ranked there.order
