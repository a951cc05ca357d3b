-- `answer_strict` meets its contract. Invariant: the rows so far have their results.
-- Assumes nothing.
use Rattle.answers.specs.Steps.{Rewritten}
use Rattle.answers.proofs.StrictReplies.{strict_at}
use Rattle.answers.proofs.strict.answer_strict.Given as goal

abbrev pub invariant-loop-i : goal.invariant-loop-i
invariant-loop-i l = Rewritten (strict_at l.table l.rows) l.i l.initial.results l.results
