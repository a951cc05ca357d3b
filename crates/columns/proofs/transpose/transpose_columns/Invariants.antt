-- `transpose_columns` meets its contract. Invariant: the words below i are turned.
-- Assumes nothing.
use Rattle.columns.proofs.Turning.{Turned}
use Rattle.columns.proofs.transpose.transpose_columns.Given as goal

abbrev pub invariant-loop-i : goal.invariant-loop-i
invariant-loop-i l = Turned l.n l.i l.columns l.table
