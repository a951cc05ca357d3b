-- `stuck_lefts` meets its contract. Invariant: the set has 1 and the lefts of the stuck rows so far.
-- Assumes nothing.
use lib.ListN.{length}
use Rattle.emptying.specs.Steps.{StuckIn}
use Rattle.emptying.proofs.emptied.stuck_lefts.Given as goal

abbrev pub invariant-loop-w : goal.invariant-loop-w
invariant-loop-w l = StuckIn l.n l.rows l.levels l.columns (length l.yielded) l.nothing.words
