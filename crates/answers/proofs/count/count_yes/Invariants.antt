-- `count_yes` meets its contract. Invariant: the count is that of the rows so far.
-- Assumes nothing.
use lib.ListN.{length}
use Rattle.answers.proofs.Counting.{CountedYes}
use Rattle.answers.proofs.count.count_yes.Given as goal

abbrev pub invariant-loop-w : goal.invariant-loop-w
invariant-loop-w l = CountedYes l.rows l.results (length l.yielded) l.count
