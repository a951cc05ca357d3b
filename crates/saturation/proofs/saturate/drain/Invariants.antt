-- `drain` meets its contract. Invariant: every inference is drawn. Measure: the numbers that the columns lack, and the dirty columns.
-- Assumes nothing.
use mathlib.Core.Path.{◌≡◌}
use Prim.Native.Nat.{◌<◌}
use Rattle.semantics.specs.Limits.{number_limit}
use Rattle.saturation.specs.Worklist.{work_left}
use Rattle.saturation.proofs.Draining.{Draining}
use Rattle.saturation.proofs.saturate.drain.Given as goal

abbrev pub invariant-loop-b : goal.invariant-loop-b
invariant-loop-b l =
    (l.work.columns.ghost_name ≡ l.initial.work.columns.ghost_name)
    × Draining l.index.n l.index.rows.now l.initial.work.columns.now l.work.columns.now l.work.dirty.words × (l.from < number_limit)

abbrev pub decreases-loop-b : goal.decreases-loop-b
decreases-loop-b l = work_left l.work.columns.now l.work.dirty.words
