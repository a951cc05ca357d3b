use Prim.Native.Nat.{◌<◌}
use mathlib.Core.Path.{◌≡◌}
use native.Mathlib.Omega.{arith}
use lib.ListN.{length}
use Rattle.index.specs.Index.{key_count}
use Rattle.index.proofs.Keys.{slot_small, second_odd}
use Rattle.index.proofs.Linking.{linked_more}
use Rattle.index.proofs.build.Goals.{After-key_of-key}
use Rattle.index.proofs.build.Goals as goal

key_small : (c : After-key_of-key) → c.key_of-key.result < key_count
key_small c = omega (arith, rw (second_odd c.loop-s.s) at c.key_of-key.ensures, slot_small c.requires.0.deck _ c.loop-s-test.true)

keyed : (c : After-key_of-key) → c.key_of-key.result < length c.loop-s.heads
keyed c = omega (arith, key_small c, c.loop-s.invariant.heads_room)

pub offset_bounds-heads-key : goal.offset_bounds-heads-key
offset_bounds-heads-key c = record { fits = omega (arith, key_small (goal.at.offset_bounds-heads-key c).After-key_of-key) }

pub bounds-heads-key : goal.bounds-heads-key
bounds-heads-key c = keyed (goal.at.bounds-heads-key c).After-key_of-key

pub offset_bounds-heads-key-in-loop-s : goal.offset_bounds-heads-key-in-loop-s
offset_bounds-heads-key-in-loop-s c = record { fits = omega (arith, key_small (goal.at.offset_bounds-heads-key-in-loop-s c).After-key_of-key) }

pub bounds-heads-key-in-loop-s : goal.bounds-heads-key-in-loop-s
bounds-heads-key-in-loop-s c = keyed (goal.at.bounds-heads-key-in-loop-s c).After-key_of-key

pub loop-s-preserved : goal.loop-s-preserved
loop-s-preserved c =
    let links : length c.loop-s.links ≡ length c.args.links.now = c.loop-s.auto.links in
    linked_more (rw (second_odd c.loop-s.s) at c.key_of-key.ensures) (key_small (goal.at.loop-s-preserved c).After-key_of-key)
    (omega (arith, links, c.loop-s-test.true, c.requires.2)) c.loop-s.invariant
