-- `apply_readers` meets its contract. Column 1 is read by few rows. Invariant for the others: the rows with key b are drawn, from the visit's slot on.
-- Assumes nothing.
use mathlib.Core.Path.{◌≡◌}
use lib.ListN.{get_or}
use Rattle.saturation.specs.Worklist.{TakesPart}
use Rattle.saturation.proofs.RowsApplied.{AppliedFrom}
use Rattle.saturation.proofs.apply.apply_readers.Given as goal

abbrev pub invariant-loop-i : goal.invariant-loop-i
invariant-loop-i l =
    (l.i-iterator.index ≡ l.index)
    × (l.work.columns.ghost_name ≡ l.initial.work.columns.ghost_name)
    × AppliedFrom l.index.n l.index.rows.now l.b (λ k. TakesPart l.index.rows.now (get_or l.index.rows.now k 0)) l.initial.work.columns.now l.work.columns.now l.initial.work.dirty.words l.work.dirty.words l.i-iterator.slot
