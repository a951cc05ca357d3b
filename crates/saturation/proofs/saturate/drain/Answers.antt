use native.Mathlib.Omega.{arith}
use mathlib.Core.Path.{refl, ◌∙◌}
use Rattle.saturation.proofs.Draining.{draining_none, draining_more, draining_less}
use Rattle.saturation.proofs.saturate.drain.Goals as goal

pub loop-b-init : goal.loop-b-init
loop-b-init c = (refl, draining_none c.args.index.deck c.requires.1 c.row-dirty.ensures, omega arith)

pub loop-b-smaller : goal.loop-b-smaller
loop-b-smaller c =
    let (reference, so_far, small) = c.loop-b.invariant in
    let (found, member) = c.in-Some.ensures.member in
    draining_less so_far c.remove-work.ensures c.apply_readers.ensures.draws found member

pub loop-b-preserved : goal.loop-b-preserved
loop-b-preserved c =
    let (reference, so_far, small) = c.loop-b.invariant in
    (c.apply_readers.ensures.same_reference ∙ reference, draining_more so_far c.remove-work.ensures c.apply_readers.ensures.draws, c.in-Some.ensures.member.0)
