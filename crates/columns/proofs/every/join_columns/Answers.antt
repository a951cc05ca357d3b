use native.Mathlib.Omega.{arith}
use mathlib.Core.Path.{ap}
use mathlib.Core.Bool.{◌||◌}
use Rattle.semantics.specs.Set.{has}
use Rattle.columns.proofs.RowByRow.{rows_more}
use Rattle.columns.proofs.every.join_columns.Goals as goal

pub loop-b-preserved : goal.loop-b-preserved
loop-b-preserved c =
    let so_far = c.loop-b.invariant in
    rows_more so_far c.join_row.ensures (λ x l. ap (λ t. t || has c.args.set.words x) (so_far.rest _ x (omega arith) l))
