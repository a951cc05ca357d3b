-- `answer_defeasible` meets its contract. Invariant: the rows so far have their results.
-- Assumes nothing.
use Rattle.answers.specs.Steps.{ranked_at, Rewritten}
use Rattle.answers.proofs.defeasible.answer_defeasible.Given as goal

abbrev pub invariant-loop-i : goal.invariant-loop-i
invariant-loop-i l = Rewritten (ranked_at l.rows l.levels) l.i l.initial.results l.results
