-- `empty_lefts` meets its contract. Invariant: the rows so far are drawn.
-- Assumes nothing.
use mathlib.Core.Path.{◌≡◌}
use Rattle.saturation.proofs.LeftsEmptied.{LeftsEmptied}
use Rattle.saturation.proofs.apply.empty_lefts.Given as goal

abbrev pub invariant-loop-w : goal.invariant-loop-w
invariant-loop-w l =
    (l.work.columns.ghost_name ≡ l.initial.work.columns.ghost_name)
    × LeftsEmptied l.index.n l.index.rows.now l.initial.work.columns.now l.work.columns.now l.initial.work.dirty.words l.work.dirty.words l.w-index
