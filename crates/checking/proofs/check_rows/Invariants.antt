-- `check_rows` meets its contract. Invariant: the rows below i are not refused.
-- Assumes nothing.
use Rattle.checking.proofs.Checking.{Cleared}
use Rattle.checking.proofs.check_rows.Given as goal

abbrev pub invariant-loop-i : goal.invariant-loop-i
invariant-loop-i l = Cleared l.n l.r l.rows l.i
