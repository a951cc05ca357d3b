use mathlib.Core.Path.{sym, ◌∙◌}
use mathlib.Core.Bool.{true≢false}
use Rattle.std.proofs.lemmas.Bool.{le-ltb}
use Rattle.sheets.proofs.Sheets.{opens_long, opens_short}
use Rattle.sheets.proofs.split.opens_filled.Goals as goal
use Rattle.sheets.proofs.split.opens_filled.Goals.{then-questions-text, else-questions-text}

pub returns-then-are_answers : goal.returns-then-are_answers
returns-then-are_answers c = elim c.if-questions-text.branch [
  | then-questions-text w ↦ sym (rw (sym w.are_answers.ensures ∙ sym w.value-is ∙ c.if-are_answers.true) at (opens_long _ _ w.if-questions-text.true))
  | else-questions-text w ↦ absurd (true≢false (sym c.if-are_answers.true ∙ w.value-is ∙ le-ltb _ _ w.if-questions-text.false))
]

pub returns-else-are_answers : goal.returns-else-are_answers
returns-else-are_answers c = c.if-are_answers.false ∙ sym (elim c.if-questions-text.branch [
  | then-questions-text w ↦ rw (sym w.are_answers.ensures ∙ sym w.value-is ∙ c.if-are_answers.false) at (opens_long _ _ w.if-questions-text.true)
  | else-questions-text w ↦ opens_short _ _ w.if-questions-text.false
])
