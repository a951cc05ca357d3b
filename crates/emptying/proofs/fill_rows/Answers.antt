use mathlib.Core.Path.{sym, ◌∙◌}
use Rattle.columns.proofs.RowByRow.{rows_more, rows_same}
use Rattle.emptying.proofs.fill_rows.Goals.{then-test, else-test}
use Rattle.emptying.proofs.fill_rows.Goals as goal

pub loop-a-preserved : goal.loop-a-preserved
loop-a-preserved c =
    let so_far = c.loop-a.invariant in
    let asked = c.test.ensures in
    elim c.if-test.branch [
      | then-test v ↦ rw v.table-is (rows_more so_far v.put_row.ensures (λ b l. rw (sym asked ∙ v.if-test.true)))
      | else-test v ↦ rw v.table-is (rows_same so_far (λ b l. rw (sym asked ∙ v.if-test.false)))
    ]
