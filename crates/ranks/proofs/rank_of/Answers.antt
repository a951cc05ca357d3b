use native.Mathlib.Omega.{arith}
use mathlib.Core.Path.{refl}
use Rattle.ranks.proofs.Halving.{levelled_below, halving_none, halving_above, halving_below, searching_all}
use Rattle.ranks.proofs.rank_of.Goals as goal

pub loop-low-init : goal.loop-low-init
loop-low-init c = record { halving = halving_none _; found_at = omega arith }

pub root_at-requires : goal.root_at-requires
root_at-requires c =
    let pre = c.requires in
    let lt = c.loop-low-test.true in
    let le = c.loop-low.invariant.halving.within in
    (pre.0.exact, levelled_below pre.0.levelled (omega arith), pre.1, omega (arith, pre.0.few))

pub loop-low-preserved-in-None : goal.loop-low-preserved-in-None
loop-low-preserved-in-None c =
    let at = c.loop-low.invariant in
    record { halving = halving_above at.halving _ c.args.settling.levels_room c.in-None.ensures; found_at = at.found_at }

pub invariant_of-found : goal.invariant_of-found
invariant_of-found c =
    let lt = c.loop-low-test.true in
    let le = c.loop-low.invariant.halving.within in
    record { finite = omega (arith, c.requires.0.few) }

pub loop-low-preserved : goal.loop-low-preserved
loop-low-preserved c =
    let at = c.loop-low.invariant.halving in
    record { halving = halving_below at _ (omega (arith, c.loop-low-test.true)) c.in-Some.ensures; found_at = (refl, omega (arith, c.loop-low-test.true, at.within)) }

pub returns : goal.returns
returns c =
    let (askable, small) = c.requires in
    searching_all _ _ askable.none_left askable.few c.loop-low-test.false _ c.loop-low.invariant
