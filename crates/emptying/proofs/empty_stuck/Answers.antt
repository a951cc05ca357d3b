-- `empty_stuck` meets its contract: what is emptied is all that the stuck rows add, and the table follows the columns.
-- Assumes nothing.
use Rattle.emptying.proofs.Grown.{exact_ordered, grown_columns, grown_turned}
use Rattle.emptying.proofs.empty_stuck.Goals as goal

pub emptied_numbers-set-requires : goal.emptied_numbers-set-requires
emptied_numbers-set-requires c =
    let pre = c.requires in
    (exact_ordered pre, pre.levels_room)

pub returns : goal.returns
returns c =
    let pre = c.requires in
    let emptied = c.emptied_numbers-set.ensures in (
      grown_columns pre emptied c.join_columns.ensures,
      grown_turned pre emptied c.join_columns.ensures _ (rw c.row-old.ensures at c.minus-newly.ensures) (rw c.row-all.ensures at c.fill_rows.ensures),
      c.join_columns.ensures.length_kept,
      c.fill_rows.ensures.length_kept,
    )
