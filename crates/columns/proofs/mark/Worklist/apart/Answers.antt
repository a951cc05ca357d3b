-- `apart` meets its contract: the one column less the other.
-- Assumes nothing.
use mathlib.Core.Path.{◌∙◌, ap₂}
use mathlib.Core.Bool.{not, ◌&&◌}
use Rattle.semantics.specs.Limits.{set_words}
use Rattle.tables.proofs.Rows.{has_row}
use Rattle.columns.proofs.mark.Worklist.apart.Goals as goal

pub returns : goal.returns
returns c = λ x l.
    c.minus.ensures x
    ∙ rw (c.column.ensures, c.column-2.ensures) (ap₂ (λ p q. p && not q) (has_row set_words _ _ x l) (has_row set_words _ 1 x l))
