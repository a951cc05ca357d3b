-- `shelf_compile` meets its contract: what `compile` promises of its answer, which is handed over. Assumes nothing.
use Rattle.engine.specs.Calls.{answered}
use Rattle.engine.proofs.shelf_compile.Goals as goal

pub returns : goal.returns
returns c = answered _ c.if-answer-lt-ANSWER.false c.compile.ensures c.hand_over.ensures
