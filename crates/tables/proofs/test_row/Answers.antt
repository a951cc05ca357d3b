-- `test_row` meets its contract: the bit that it reads is the row's. Assumes nothing.
use mathlib.Core.Path.{sym}
use Rattle.semantics.specs.Limits.{set_words}
use Rattle.semantics.specs.Set.{bit}
use Rattle.tables.proofs.Rows.{cell_bit}
use Rattle.tables.proofs.test_row.Goals as goal

pub returns : goal.returns
unfolding bit
returns c = sym (cell_bit set_words _ _ _)
