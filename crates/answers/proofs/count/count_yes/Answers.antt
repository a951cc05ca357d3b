use native.Mathlib.Omega.{arith}
use lib.ListN.{length-append}
use Rattle.std.proofs.lemmas.Slice.Zip.{zip_turn, zip_end}
use Rattle.answers.proofs.Counting.{counted_none, counted_yes, counted_no, counted_all}
use Rattle.answers.proofs.count.count_yes.Goals as goal

pub loop-w-init : goal.loop-w-init
loop-w-init c = counted_none

pub loop-w-preserved-then-is_yes : goal.loop-w-preserved-then-is_yes
loop-w-preserved-then-is_yes c =
    let made = c.into_iter-w-iterator.ensures.into_iter_gives in
    let zip = c.zip-w-items.ensures in
    let turn = zip_turn c.args.rows.now c.args.results.now _ _ _ c.next.new.self _ (rw (made, zip.first) c.iter.ensures.rest) (rw made zip.second.0) c.loop-w.yielded_by _ c.in-Some.is c.next.ensures.steps in
    rw length-append (counted_yes c.requires turn.0 (rw (turn.2 0, turn.3 0) at c.is_yes.ensures) c.if-is_yes.true c.loop-w.invariant)

pub loop-w-preserved : goal.loop-w-preserved
loop-w-preserved c =
    let made = c.into_iter-w-iterator.ensures.into_iter_gives in
    let zip = c.zip-w-items.ensures in
    let turn = zip_turn c.args.rows.now c.args.results.now _ _ _ c.next.new.self _ (rw (made, zip.first) c.iter.ensures.rest) (rw made zip.second.0) c.loop-w.yielded_by _ c.in-Some.is c.next.ensures.steps in
    rw length-append (counted_no c.requires turn.0 (rw (turn.2 0, turn.3 0) at c.is_yes.ensures) c.if-is_yes.false c.loop-w.invariant)

pub returns : goal.returns
returns c =
    let made = c.into_iter-w-iterator.ensures.into_iter_gives in
    let zip = c.zip-w-items.ensures in
    let end = zip_end c.args.rows.now c.args.results.now _ _ _ c.next.new.self _ (rw (made, zip.first) c.iter.ensures.rest) (rw made zip.second.0) c.loop-w.yielded_by c.in-None.is c.next.ensures.steps in
    counted_all (omega (arith, end, c.requires)) (omega (arith, end, c.requires)) c.loop-w.invariant
