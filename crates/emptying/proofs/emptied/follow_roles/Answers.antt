use native.Mathlib.Omega.{arith}
use mathlib.Core.Path.{sym, ◌∙◌}
use Rattle.emptying.proofs.Growth.{followed_left, followed_took}
use Rattle.normal.proofs.Decoding.{deck_row}
use Rattle.emptying.proofs.emptied.follow_roles.Goals.{then-leads_in, else-leads_in}
use Rattle.emptying.proofs.emptied.follow_roles.Goals as goal

pub leads_in-requires : goal.leads_in-requires
leads_in-requires c =
    let pre = c.requires in
    let row = deck_row pre.deck _ c.loop-w-test.true in
    (omega (arith, pre.deck.numbers, row.lefts), omega (arith, pre.deck.numbers, row.rights))

pub row-column-requires : goal.row-column-requires
row-column-requires c =
    let pre = c.requires in
    omega (arith, pre.room, (deck_row pre.deck _ c.loop-w-test.true).lefts, c.left_of.ensures)

pub loop-w-preserved : goal.loop-w-preserved
loop-w-preserved c =
    let ordered = c.requires in
    let so_far = c.loop-w.invariant in
    let asked = c.leads_in.ensures in
    elim c.if-leads_in.branch [
      | then-leads_in v ↦ rw v.set-is (followed_took ordered so_far c.loop-w-test.true (sym asked ∙ v.if-leads_in.true) (rw v.left_of.ensures at v.row-column.ensures) v.union-set.ensures)
      | else-leads_in v ↦ rw v.set-is (followed_left ordered so_far (sym asked ∙ v.if-leads_in.false))
    ]
