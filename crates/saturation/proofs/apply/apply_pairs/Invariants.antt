-- `apply_pairs` meets its contract. Invariant: w is drawn with the rows that it makes a pair with, from the visit's slot on.
-- Assumes nothing.
use mathlib.Core.Path.{◌≡◌}
use lib.ListN.{get_or}
use Rattle.index.specs.Index.{pair_key}
use Rattle.saturation.specs.Worklist.{OfPair}
use Rattle.saturation.proofs.RowsApplied.{AppliedFrom}
use Rattle.saturation.proofs.apply.apply_pairs.Given as goal

abbrev pub invariant-loop-i : goal.invariant-loop-i
invariant-loop-i l =
    (l.i-iterator.index ≡ l.index)
    × (l.work.columns.ghost_name ≡ l.initial.work.columns.ghost_name)
    × AppliedFrom l.index.n l.index.rows.now (pair_key l.w) (λ k. OfPair l.w (get_or l.index.rows.now k 0)) l.initial.work.columns.now l.work.columns.now l.initial.work.dirty.words l.work.dirty.words l.i-iterator.slot
