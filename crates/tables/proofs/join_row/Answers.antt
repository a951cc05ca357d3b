-- `join_row` meets its contract: the row that is put is the union of the row and the set. Assumes nothing.
use mathlib.Core.Path.{◌∙◌}
use Rattle.semantics.specs.Limits.{set_words}
use Rattle.tables.proofs.Rows.{has_row}
use Rattle.tables.proofs.join_row.Goals as goal

pub returns : goal.returns
returns c =
    let put = c.put_row.ensures in
    let joined = c.union-joined.ensures in
    let was = c.row-old.ensures in
    record {
      row = λ b l. put.row b l ∙ joined b ∙ rw (was, has_row set_words _ _ b l);
      below_kept = put.below_kept;
      above_kept = put.above_kept;
      length_kept = put.length_kept;
    }
