-- `start` meets its contract. Invariant: the columns are started for the numbers below a.
-- Assumes nothing.
use Rattle.columns.specs.Columns.{Started}
use Rattle.columns.proofs.every.start.Given as goal

abbrev pub invariant-loop-a : goal.invariant-loop-a
invariant-loop-a l = Started l.a l.columns
