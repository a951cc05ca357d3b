-- `run_passes` meets its contract. Invariant: `SoFar`, each pass so far got stuck. Measure: the rows that are not stuck.
-- Assumes nothing.
use lib.ListN.{length}
use Rattle.normal.specs.Rules.{active}
use Rattle.ranking.proofs.AllPasses.{SoFar}
use Rattle.ranking.proofs.run_passes.Given as goal

abbrev pub invariant-loop-level : goal.invariant-loop-level
invariant-loop-level l = SoFar l.index.n l.index.rows.now l.initial.levels l.levels l.initial.columns l.columns l.initial.table l.table l.index.heads.now l.index.links.now l.stuck

abbrev pub decreases-loop-level : goal.decreases-loop-level
decreases-loop-level l = length (active 0 l.index.rows.now l.levels)
