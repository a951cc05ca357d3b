-- `add_to_row` meets its contract: setting one bit adds one member. Assumes nothing.
use borrow.Author.Rules.{rules}
use Rattle.semantics.specs.Limits.{set_words}
use Rattle.tables.proofs.Rows.{set_bit_becomes}
use Rattle.tables.proofs.add_to_row.Goals as goal

pub returns : goal.returns
returns c = set_bit_becomes set_words _ _ _ (search rules) (search rules)
