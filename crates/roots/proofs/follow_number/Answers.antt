use native.Mathlib.Omega.{arith}
use mathlib.Core.Path.{refl, ◌∙◌}
use lib.ListN.{get_or}
use Rattle.roots.proofs.Growth.{Covered, ready_of, covered}
use Rattle.roots.proofs.Stepping.{turn_left, turn_took}
use Rattle.roots.proofs.Visiting.{visiting_none, visiting_more, visiting_all}
use Rattle.roots.proofs.follow_number.Goals.{In-Some}
use Rattle.roots.proofs.follow_number.Goals as goal

pub loop-i-init : goal.loop-i-init
loop-i-init c =
    let (exact, small) = c.requires in
    let (same, key, first) = c.readers-i-items.ensures in
    rw (c.into_iter-i-iterator.ensures.into_iter_gives, first) (same, visiting_none (ready_of c.args.settling exact) small, small)

-- the row visited is one of the rows
pub bounds-settling-i : goal.bounds-settling-i
bounds-settling-i c = rw c.loop-i.invariant.0 at c.in-Some.ensures.steps.2

pub bounds-settling-i-in-loop-i : goal.bounds-settling-i-in-loop-i
bounds-settling-i-in-loop-i c = omega (arith, bounds-settling-i (goal.at.bounds-settling-i-in-loop-i c).In-Some, c.args.settling.levels_room)

-- and can be read
fine : (c : In-Some) → Covered c.args.settling.table.now (get_or c.args.settling.index.rows.now c.in-Some.i 0)
fine c = covered (ready_of c.args.settling c.requires.0) _ (bounds-settling-i c)

pub lacks_right-requires : goal.lacks_right-requires
lacks_right-requires c = let w = fine (goal.at.lacks_right-requires c).In-Some in (w.left, w.second, w.right)

pub row-row-requires : goal.row-row-requires
row-row-requires c = rw c.right_of.ensures (fine (goal.at.row-row-requires c).In-Some).row

pub loop-i-preserved-then-lacks_right : goal.loop-i-preserved-then-lacks_right
loop-i-preserved-then-lacks_right c =
    let ready = ready_of c.args.settling c.requires.0 in
    let (same, so_far, small) = c.loop-i.invariant in
    let (some, is, inside, kept, key, next) = c.in-Some.ensures.steps in
    let at = (goal.at.loop-i-preserved-then-lacks_right c).In-Some in
    let turn = turn_took ready refl c.lacks_right.ensures (bounds-settling-i at) c.if-lacks_right.true _ c.right_of.ensures c.row-row.ensures c.minus.ensures c.union-root.ensures c.union-root-then-lacks_right.ensures in
    (kept ∙ same, visiting_more ready some is (rw same at next) turn so_far, rw c.right_of.ensures (fine at).right)

pub loop-i-preserved : goal.loop-i-preserved
loop-i-preserved c =
    let ready = ready_of c.args.settling c.requires.0 in
    let (same, so_far, small) = c.loop-i.invariant in
    let (some, is, inside, kept, key, next) = c.in-Some.ensures.steps in
    (kept ∙ same, visiting_more ready some is (rw same at next) (turn_left ready refl c.lacks_right.ensures c.if-lacks_right.false) so_far, small)

pub returns : goal.returns
returns c =
    let (same, visiting, small) = c.loop-i.invariant in
    (visiting.step, visiting_all (ready_of c.args.settling c.requires.0) (omega (arith, c.in-None.ensures.steps.0)) visiting, small)
