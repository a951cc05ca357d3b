-- `emptied_numbers` meets its contract. Invariant: the set has 1 and the lefts of the stuck rows, and grows. Measure: the numbers that it lacks.
-- Assumes nothing.
use lib.ListN.{length}
use Rattle.semantics.specs.Limits.{number_limit}
use Rattle.picking.specs.Size.{missing}
use Rattle.emptying.specs.Steps.{StuckIn}
use Rattle.emptying.proofs.emptied.emptied_numbers.Given as goal

abbrev pub invariant-loop-next : goal.invariant-loop-next
invariant-loop-next l = StuckIn l.n l.rows l.levels l.columns (length l.rows) l.set.words

abbrev pub decreases-loop-next : goal.decreases-loop-next
decreases-loop-next l = missing l.set.words number_limit
