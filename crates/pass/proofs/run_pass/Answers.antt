use Prim.Native.Nat.{ℕ}
use native.Mathlib.Omega.{arith}
use mathlib.Core.Path.{◌≡◌}
use mathlib.Core.Bool.{Bool, true, false}
use mathlib.Core.List.{List}
use Rattle.semantics.specs.Closure.{Replies}
use Rattle.semantics.specs.Set.{has}
use Rattle.pass.proofs.Running.{running_none, running_small, running_stuck, running_less, running_more, running_ended}
use Rattle.pass.proofs.run_pass.Goals.{In-loop-lefts}
use Rattle.pass.proofs.run_pass.Goals as goal

-- what the test of the loop says
abbrev None : List ℕ → Type 0
None lefts = (a : ℕ) → has lefts a ≡ false

some_left : (lefts : List ℕ) (b : Bool) → Replies b (None lefts) → b ≡ false → None lefts → ⊥
some_left lefts b h e = rw e at h

none_left : (lefts : List ℕ) (b : Bool) → Replies b (None lefts) → b ≡ true → None lefts
none_left lefts b h e = rw e at h

some_at : (test : In-loop-lefts) → None test.loop-lefts.lefts.words → ⊥
some_at test = some_left test.loop-lefts.lefts.words test.is_empty.result test.is_empty.ensures test.loop-lefts-test.true

pub lefts_from-lefts-requires : goal.lefts_from-lefts-requires
lefts_from-lefts-requires c = let ready = c.requires.0 in (ready.deck, ready.levels_room)

pub loop-lefts-init : goal.loop-lefts-init
loop-lefts-init c = running_none c.requires.0 c.requires.1 c.lefts_from-lefts.ensures

pub exceptional_lefts-set-requires : goal.exceptional_lefts-set-requires
exceptional_lefts-set-requires c =
    let at = c.loop-lefts.invariant in
    (at.ready.exact, at.gathered, at.levelled, omega (arith, running_small at (some_at (goal.at.exceptional_lefts-set-requires c).In-loop-lefts)))

pub raise-requires : goal.raise-requires
raise-requires c =
    let at = c.loop-lefts.invariant in
    (at.ready.deck, at.ready.levels_room, omega (arith, running_small at (some_at (goal.at.raise-requires c).In-loop-lefts)))

pub returns-then-included : goal.returns-then-included
returns-then-included c =
    running_stuck c.loop-lefts.invariant (some_at (goal.at.returns-then-included c).In-loop-lefts) c.exceptional_lefts-set.ensures c.raise.ensures
    (rw c.if-included.true at c.included.ensures)

pub overflow_add-k : goal.overflow_add-k
overflow_add-k c =
    let at = c.loop-lefts.invariant in
    record { fits = omega (arith, running_small at (some_at (goal.at.overflow_add-k c).In-loop-lefts)) }

pub loop-lefts-smaller : goal.loop-lefts-smaller
loop-lefts-smaller c =
    running_less c.loop-lefts.invariant (some_at (goal.at.loop-lefts-smaller c).In-loop-lefts) c.exceptional_lefts-set.ensures c.raise.ensures
    (rw c.if-included.false at c.included.ensures)

pub loop-lefts-preserved : goal.loop-lefts-preserved
loop-lefts-preserved c =
    running_more c.loop-lefts.invariant (some_at (goal.at.loop-lefts-preserved c).In-loop-lefts) c.exceptional_lefts-set.ensures c.raise.ensures
    (rw c.if-included.false at c.included.ensures) c.meet-lefts.ensures

pub returns : goal.returns
returns c = running_ended c.loop-lefts.invariant (none_left c.loop-lefts.lefts.words c.is_empty.result c.is_empty.ensures c.loop-lefts-test.false)
