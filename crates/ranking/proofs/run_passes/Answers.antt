use native.Mathlib.Omega.{arith}
use Rattle.ranking.proofs.AllPasses.{passes_none, passes_fresh, passes_all, passes_emptiable, passes_less, passes_more}
use Rattle.ranking.proofs.run_passes.Goals as goal

pub loop-level-init : goal.loop-level-init
loop-level-init c = passes_none c.requires

pub run_pass-requires : goal.run_pass-requires
run_pass-requires c = let at = c.loop-level.invariant in (at.ready, passes_fresh at)

pub overflow_add-result : goal.overflow_add-result
overflow_add-result c = let at = c.loop-level.invariant in record { fits = omega (arith, at.few, at.ready.deck.few) }

pub returns-in-Settled : goal.returns-in-Settled
returns-in-Settled c = passes_all c.loop-level.invariant c.in-Settled.ensures

pub empty_stuck-requires : goal.empty_stuck-requires
empty_stuck-requires c = passes_emptiable c.loop-level.invariant c.in-Stuck.ensures c.mark_stuck.ensures

pub overflow_add-stuck : goal.overflow_add-stuck
overflow_add-stuck c = let at = c.loop-level.invariant in record { fits = omega (arith, at.few, at.ready.deck.few) }

pub loop-level-smaller : goal.loop-level-smaller
loop-level-smaller c = passes_less c.loop-level.invariant c.in-Stuck.ensures c.mark_stuck.ensures

pub loop-level-preserved : goal.loop-level-preserved
loop-level-preserved c =
    let now = c.empty_stuck.ensures in
    passes_more c.loop-level.invariant c.in-Stuck.ensures c.mark_stuck.ensures now.0 now.1 now.2 now.3
