-- `join_columns` meets its contract. Invariant: the columns before b have taken the set.
-- Assumes nothing.
use mathlib.Core.Bool.{◌||◌}
use Rattle.semantics.specs.Limits.{set_words}
use Rattle.semantics.specs.Set.{has, cell}
use Rattle.columns.specs.Steps.{RowsBecome}
use Rattle.columns.proofs.every.join_columns.Given as goal

abbrev pub invariant-loop-b : goal.invariant-loop-b
invariant-loop-b l = RowsBecome l.b (λ a x. cell set_words l.initial.columns a x || has l.set.words x) l.initial.columns l.columns
