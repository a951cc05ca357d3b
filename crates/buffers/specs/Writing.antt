-- The writing step; nobody has to believe it.
--     Lent          an accepted deck, and buffers that are long enough
--     Finished      what the writing step reads of what was worked out
--     WrittenOut    what it leaves
use Rattle.std.specs.Prelude.{ℕ, ◌*◌, ◌≤◌, List, length}
use Rattle.semantics.specs.Limits.{set_words}
use Rattle.normal.specs.Rules.{Deck, infinite}
use Rattle.copying.specs.Written.{Copied}
use Rattle.order.specs.Written.{RanksBelow, Ordered}
use Rattle.buffers.specs.Buffers.{Buffers}

pub record Lent (N : ℕ) (words : List ℕ) (lent : Buffers) : Type 0 where
  pub deck : Deck N words
  pub table_room : set_words * N ≤ length lent.table
  pub results_room : length words ≤ length lent.results
  pub order_room : length words ≤ length lent.order

pub record Finished (N k : ℕ) (words strict levels answers : List ℕ) : Type 0 where
  pub strict_room : set_words * N ≤ length strict
  pub levels_room : length words ≤ length levels
  pub answers_room : length words ≤ length answers
  pub ranks : RanksBelow k words levels
  pub small : k ≤ infinite

pub record WrittenOut (N : ℕ) (words strict levels answers : List ℕ) (before after : Buffers) : Type 0 where
  pub tables : Copied (set_words * N) strict before.table after.table
  pub reports : Copied (length words) answers before.results after.results
  pub ordered : Ordered words levels before.order after.order
