use borrow.Author.Rules.{rules}
use native.Mathlib.Omega.{arith}
use mathlib.Core.Path.{◌≡◌, sym, ◌∙◌}
use Prim.Native.Nat.{◌<◌}
use lib.ListN.{length, get_or}
use Rattle.std.proofs.lemmas.List.{length-append}
use Rattle.std.proofs.lemmas.Slice.Zip.{zip_turn}
use Rattle.emptying.proofs.Growth.{stuck_none, stuck_took}
use Rattle.normal.proofs.Decoding.{deck_row}
use Rattle.emptying.proofs.emptied.stuck_lefts.Goals.{After-is_stuck}
use Rattle.emptying.proofs.emptied.stuck_lefts.Goals as goal

pub loop-w-init : goal.loop-w-init
loop-w-init c = rw c.row-nothing.ensures (stuck_none c.requires.0)

-- where this turn's row and level stand
turn : (c : After-is_stuck) → (length c.loop-w.yielded < length c.args.rows.now)
    × (c.in-Some.field-0-0.now ≡ get_or c.args.rows.now (length c.loop-w.yielded) 0)
    × (c.in-Some.field-0-1.now ≡ get_or c.args.levels.now (length c.loop-w.yielded) 0)
turn c =
    let rows : c.into_iter-w-iterator.result.a.rest.now ≡ c.args.rows.now = search rules in
    let levels : c.into_iter-w-iterator.result.b.rest.now ≡ c.args.levels.now = search rules in
    let (within, _, row, level) = zip_turn c.args.rows.now c.args.levels.now c.loop-w.yielded c.into_iter-w-iterator.result c.loop-w.w-iterator c.next.new.self _ rows levels c.loop-w.yielded_by _ c.in-Some.is c.next.ensures.steps in
    (within, row 0, level 0)

pub row-column-requires : goal.row-column-requires
row-column-requires c =
    let pre = c.requires in
    let (within, row, _) = turn (goal.at.row-column-requires c).After-is_stuck in
    omega (arith, pre.0.room, row, (deck_row pre.0.deck _ within).lefts, c.left_of.ensures)

pub loop-w-preserved-then-is_stuck : goal.loop-w-preserved-then-is_stuck
loop-w-preserved-then-is_stuck c =
    let (within, row, level) = turn (goal.at.loop-w-preserved-then-is_stuck c).After-is_stuck in
    let stuck = rw (row, level) at (sym c.is_stuck.ensures ∙ c.if-is_stuck.true) in
    simp (length-append) (stuck_took c.requires.0 c.loop-w.invariant within stuck (rw (c.left_of.ensures, row) at c.row-column.ensures) c.union-nothing.ensures)
