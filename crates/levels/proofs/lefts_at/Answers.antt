use Prim.Native.Nat.{◌<◌}
use mathlib.Core.Path.{sym, ◌∙◌}
use lib.ListN.{get_or}
use Rattle.normal.proofs.Active.{active_above, inactive_above, not_above}
use Rattle.normal.proofs.Decoding.{deck_row}
use Rattle.levels.proofs.Loops.{left_small, gathered_added, gathered_left}
use Rattle.levels.proofs.lefts_at.Goals.{then-is_active+then-k-levels, then-is_active+else-k-levels, else-is_active}
use Rattle.levels.proofs.lefts_at.Goals as goal

pub insert-requires : goal.insert-requires
insert-requires c = rw c.left_of-a.ensures (left_small c.requires.0 _ c.loop-i-test.true)

pub insert-requires-then-k-levels : goal.insert-requires-then-k-levels
insert-requires-then-k-levels c = rw c.left_of-a.ensures (left_small c.requires.0 _ c.loop-i-test.true)

pub loop-i-preserved : goal.loop-i-preserved
loop-i-preserved c =
    let lt = c.loop-i-test.true in
    let (at, over) = c.loop-i.invariant in
    let small = (deck_row c.requires.0 _ lt).lefts in
    elim c.if-is_active.branch [
      | then-is_active+then-k-levels w ↦
          let t = sym c.is_active.ensures ∙ w.if-is_active.true in
          let a : w.left_of-a.result < c.args.n = rw w.left_of-a.ensures small in
          rw (w.active-is, w.above-is) (
            gathered_added lt t w.left_of-a.ensures a w.insert.ensures at,
            gathered_added lt (active_above _ _ _ t w.if-k-levels.true) w.left_of-a.ensures a w.insert-then-k-levels.ensures over,
          )
      | then-is_active+else-k-levels w ↦
          let t = sym c.is_active.ensures ∙ w.if-is_active.true in
          let a : w.left_of-a.result < c.args.n = rw w.left_of-a.ensures small in
          rw (w.active-is, w.above-is) (gathered_added lt t w.left_of-a.ensures a w.insert.ensures at, gathered_left (not_above _ _ _ w.if-k-levels.false) over)
      | else-is_active w ↦
          let row = get_or c.args.rows.now c.loop-i.i 0 in
          let level = get_or c.args.levels.now c.loop-i.i 0 in
          let n = sym c.is_active.ensures ∙ w.if-is_active.false in
          rw (w.active-is, w.above-is) (gathered_left n at, gathered_left (inactive_above c.args.k row level n) over)
    ]
