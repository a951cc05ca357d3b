-- `fill_rows` meets its contract. Invariant: the rows before a are done.
-- Assumes nothing.
use mathlib.Core.Bool.{cond}
use Rattle.semantics.specs.Limits.{set_words}
use Rattle.semantics.specs.Set.{has, cell}
use Rattle.columns.specs.Steps.{RowsBecome}
use Rattle.emptying.proofs.fill_rows.Given as goal

abbrev pub invariant-loop-a : goal.invariant-loop-a
invariant-loop-a l = RowsBecome l.a (λ k b. cond (has l.set.words k) (has l.all.words b) (cell set_words l.initial.table k b)) l.initial.table l.table
