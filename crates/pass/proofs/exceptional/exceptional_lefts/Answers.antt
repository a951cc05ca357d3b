use Prim.Native.Nat.{◌<◌}
use native.Mathlib.Omega.{arith}
use mathlib.Core.Path.{◌≡◌, refl}
use mathlib.Core.Bool.{true, false, true≢false, false≢true}
use Rattle.std.specs.Prelude.{Option, Some, None}
use Rattle.std.specs.Option.{is_some}
use Rattle.sets.specs.declared.concept_set.ConceptSet.{ConceptSet}
use Rattle.roots.specs.Found.{is_exceptional}
use Rattle.pass.proofs.Lefts.{looked_exceptional, looked_other, looking_none, looking_left, looking_less, looking_more, looking_all}
use Rattle.pass.proofs.exceptional.exceptional_lefts.Goals.{After-remove-unknown}
use Rattle.pass.proofs.exceptional.exceptional_lefts.Goals as goal

-- no root is found where it is exceptional
none_is : (found : Option ConceptSet) → is_some found ≡ false → is_exceptional found ≡ true
none_is None e = refl
none_is (Some set) e = absurd (true≢false e)

some_is : (found : Option ConceptSet) → is_some found ≡ true → is_exceptional found ≡ false
some_is None e = absurd (false≢true e)
some_is (Some set) e = refl

pub loop-a-init : goal.loop-a-init
loop-a-init c = (looking_none c.requires.2 c.lefts_from.ensures c.add-known.ensures c.minus-unknown.ensures, omega arith)

pub pick-requires : goal.pick-requires
pick-requires c = c.loop-a.invariant.1

-- the left that is looked at is one of the deck's numbers
left_below : (c : After-remove-unknown) → c.in-Some.a < c.args.settling.index.n
left_below c = c.requires.1.below _ (looking_left c.loop-a.invariant.0 c.in-Some.ensures.member)

pub find_root-requires : goal.find_root-requires
find_root-requires c =
    let pre = c.requires in
    (pre.0, left_below c, pre.1.has_lefts, c.loop-a.invariant.0.sound)

pub loop-a-smaller-then-is_none : goal.loop-a-smaller-then-is_none
loop-a-smaller-then-is_none c =
    looking_less c.loop-a.invariant.0 c.in-Some.ensures.member _ c.remove-unknown.ensures

pub loop-a-preserved-then-is_none : goal.loop-a-preserved-then-is_none
loop-a-preserved-then-is_none c =
    let picked = c.in-Some.ensures.member in
    let looking = c.loop-a.invariant.0 in
    (looking_more looking picked _ c.remove-unknown.ensures (looked_exceptional looking.sound (rw (none_is _ c.if-is_none.ensures) at c.find_root.ensures) c.add-known-then-is_none.ensures), picked.0)

pub loop-a-smaller : goal.loop-a-smaller
loop-a-smaller c =
    looking_less c.loop-a.invariant.0 c.in-Some.ensures.member _ c.remove-unknown.ensures

pub loop-a-preserved : goal.loop-a-preserved
loop-a-preserved c =
    let picked = c.in-Some.ensures.member in
    let looking = c.loop-a.invariant.0 in
    (looking_more looking picked _ c.remove-unknown.ensures (looked_other looking.sound (rw (some_is _ c.if-is_none.ensures) at c.find_root.ensures)), picked.0)

pub returns : goal.returns
returns c =
    let pre = c.requires in
    looking_all c.args.settling.index.deck pre.1 (c.in_default.ensures.none refl) c.loop-a.invariant.0
