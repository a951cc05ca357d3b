-- `run_pass` meets its contract. Invariant: `Running`, the levels below k are settled. Measure: the rows at level k or above.
-- Assumes nothing.
use lib.ListN.{length}
use Rattle.normal.specs.Rules.{active}
use Rattle.pass.proofs.Running.{Running}
use Rattle.pass.proofs.run_pass.Given as goal

abbrev pub invariant-loop-lefts : goal.invariant-loop-lefts
invariant-loop-lefts l = Running l.index.n l.index.rows.now l.initial.levels l.levels l.table l.index.heads.now l.index.links.now l.k l.lefts.words

abbrev pub decreases-loop-lefts : goal.decreases-loop-lefts
decreases-loop-lefts l = length (active l.k l.index.rows.now l.levels)
