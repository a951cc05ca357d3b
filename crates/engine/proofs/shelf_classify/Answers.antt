-- `shelf_classify` meets its contract: what `classify` promises of its answer, which is handed over. Assumes nothing.
use borrow.Author.Rules.{rules}
use Rattle.engine.specs.Calls.{answered}
use Rattle.engine.proofs.shelf_classify.Goals as goal

-- the buffers are still those that were lent
pub returns : goal.returns
returns c = answered _ c.if-answer-lt-ANSWER.false (search rules) c.hand_over.ensures
