use native.Mathlib.Omega.{arith}
use mathlib.Core.Path.{refl}
use Rattle.roots.proofs.Growth.{ready_of}
use Rattle.roots.proofs.Roots.{rooted_none, rooted_more, rooted_less, rooted_unset, rooted_all}
use Rattle.roots.proofs.find_root.Goals as goal

pub loop-known-init : goal.loop-known-init
loop-known-init c =
    let pre = c.requires in
    (rooted_none (ready_of c.args.settling pre.0) pre.1 pre.2 c.row-row.ensures c.meet.ensures, omega (arith, c.args.settling.index.deck.numbers, pre.1))

pub returns-in_default : goal.returns-in_default
returns-in_default c =
    let pre = c.requires in
    rooted_all c.loop-known.invariant.0 pre.3 _ c.meet-in-loop-known.ensures (ready_of c.args.settling pre.0)
    (c.in_default.ensures.none refl) (rw c.loop-known-test.true at c.is_empty.ensures)

pub loop-known-smaller : goal.loop-known-smaller
loop-known-smaller c =
    let picked = c.in-Some.ensures.member in
    rooted_less c.loop-known.invariant.0 picked.1 c.remove-root.ensures c.follow_number-root.ensures.0 picked.0

pub loop-known-preserved : goal.loop-known-preserved
loop-known-preserved c =
    let picked = c.in-Some.ensures.member in
    let followed = c.follow_number-root.ensures in
    (rooted_more c.loop-known.invariant.0 picked.1 c.remove-root.ensures followed.0 followed.1, followed.2)

pub returns : goal.returns
returns c =
    rooted_unset c.loop-known.invariant.0 c.requires.3 _ c.meet-in-loop-known.ensures (rw c.loop-known-test.false at c.is_empty.ensures)
