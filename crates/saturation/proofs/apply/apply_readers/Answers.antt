use native.Mathlib.Omega.{arith}
use mathlib.Core.Path.{◌∙◌}
use Rattle.saturation.proofs.RowsApplied.{applied_more, readers_all}
use Rattle.saturation.proofs.apply.apply_readers.Goals as goal

pub loop-i-preserved : goal.loop-i-preserved
loop-i-preserved c =
    let (same, reference, so_far) = c.loop-i.invariant in
    let (some, is, inside, kept, key, next) = c.in-Some.ensures.steps in
    (kept ∙ same, c.apply_row.ensures.same_reference ∙ reference, rw (next, same) (applied_more c.args.index.indexed so_far some (rw is at c.apply_row.ensures.draws)))

pub returns-clause-draws : goal.returns-clause-draws
returns-clause-draws c = readers_all c.if-b-eq1.false (omega (arith, c.in-None.ensures.steps.0)) c.loop-i.invariant.2
