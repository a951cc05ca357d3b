use native.Mathlib.Omega.{arith}
use mathlib.Core.Path.{sym, ◌∙◌}
use lib.ListN.{get_or}
use Rattle.saturation.specs.Applying.{InColumns}
use Rattle.saturation.proofs.Applying.{row_at, readable, bottom_applied, bottom_none}
use Rattle.saturation.proofs.LeftsEmptied.{emptied_more, emptied_all}
use Rattle.saturation.proofs.apply.empty_lefts.Goals.{In-loop-w, then-is_emptied, else-is_emptied}
use Rattle.saturation.proofs.apply.empty_lefts.Goals as goal

-- the row can be read
fine : (c : In-loop-w) → InColumns c.loop-w.work.columns.now (get_or c.args.index.rows.now c.loop-w.w-index 0)
fine c =
    let deck = c.args.index.deck in
    readable deck (row_at deck _ c.loop-w-test.true) c.requires c.loop-w.invariant.1.step.length_kept

pub is_emptied-requires : goal.is_emptied-requires
is_emptied-requires c = fine (goal.at.is_emptied-requires c).In-loop-w

pub mark_column-requires : goal.mark_column-requires
mark_column-requires c =
    let row = fine (goal.at.mark_column-requires c).In-loop-w in
    (row.nothing, omega (arith, row.left, c.left_of.ensures), row.nothing, omega arith)

pub loop-w-preserved : goal.loop-w-preserved
loop-w-preserved c =
    let deck = c.args.index.deck in
    let inside = c.loop-w-test.true in
    let asked = c.is_emptied.ensures in
    elim c.if-is_emptied.branch [
      | then-is_emptied v ↦ rw v.work-is (v.mark_column.ensures.same_reference ∙ c.loop-w.invariant.0, emptied_more inside c.loop-w.invariant.1 (bottom_applied deck _ inside (sym asked ∙ v.if-is_emptied.true) (rw v.left_of.ensures at v.mark_column.ensures.marks)))
      | else-is_emptied v ↦ rw v.work-is (c.loop-w.invariant.0, emptied_more inside c.loop-w.invariant.1 (bottom_none deck _ inside (sym asked ∙ v.if-is_emptied.false)))
    ]

pub returns-clause-draws : goal.returns-clause-draws
returns-clause-draws c = emptied_all c.args.index.deck (omega (arith, c.loop-w-test.false)) c.loop-w.invariant.1
