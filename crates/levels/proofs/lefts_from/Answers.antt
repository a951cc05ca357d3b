use mathlib.Core.Path.{sym, ◌∙◌}
use Rattle.normal.proofs.Decoding.{deck_row}
use Rattle.levels.proofs.Loops.{left_small, gathered_added, gathered_left}
use Rattle.levels.proofs.lefts_from.Goals.{then-is_active, else-is_active}
use Rattle.levels.proofs.lefts_from.Goals as goal

pub insert-requires : goal.insert-requires
insert-requires c = rw c.left_of.ensures (left_small c.requires.0 _ c.loop-i-test.true)

pub loop-i-preserved : goal.loop-i-preserved
loop-i-preserved c =
    let lt = c.loop-i-test.true in
    let inv = c.loop-i.invariant in
    elim c.if-is_active.branch [
      | then-is_active w ↦ rw w.set-is (gathered_added lt (sym c.is_active.ensures ∙ w.if-is_active.true) w.left_of.ensures (rw w.left_of.ensures (deck_row c.requires.0 _ lt).lefts) w.insert.ensures inv)
      | else-is_active w ↦ rw w.set-is (gathered_left (sym c.is_active.ensures ∙ w.if-is_active.false) inv)
    ]
