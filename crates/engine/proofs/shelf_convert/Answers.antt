-- `shelf_convert` meets its contract: what `convert` promises of its answer, which is handed over. Assumes nothing.
use Rattle.engine.specs.Calls.{answered}
use Rattle.engine.proofs.shelf_convert.Goals as goal

pub returns : goal.returns
returns c = answered _ c.if-answer-lt-ANSWER.false c.convert.ensures c.hand_over.ensures
