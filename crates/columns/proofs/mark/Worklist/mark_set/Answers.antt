-- `mark_set` meets its contract: where the column has the whole set, nothing is new; else a member that it lacks is.
-- Assumes nothing.
use borrow.Author.Rules.{rules}
use mathlib.Core.Path.{sym, ◌∙◌}
use Rattle.semantics.specs.Limits.{set_words}
use Rattle.tables.proofs.Rows.{has_row}
use Rattle.columns.proofs.Marking.{lacking_set, marks_none, marks_new}
use Rattle.columns.proofs.mark.Worklist.mark_set.Goals as goal

pub returns-then-included-clause-marks : goal.returns-then-included-clause-marks
returns-then-included-clause-marks c =
    let all = rw (c.if-included.true, c.column.ensures) at c.included.ensures in
    marks_none (λ x l h. sym (has_row set_words _ _ x l) ∙ all.kept x h)

pub returns-clause-marks : goal.returns-clause-marks
returns-clause-marks c =
    let lost = rw (c.if-included.false, c.column.ensures) at c.included.ensures in
    marks_new c.requires.0 c.join_row.ensures (lacking_set _ _ _ (search rules) lost) c.add-self.ensures
