use Rattle.answers.proofs.Rewriting.{rewritten_none, rewritten_more, rewritten_all}
use Rattle.answers.proofs.defeasible.answer_defeasible.Goals as goal
use native.Mathlib.Omega.{arith}

pub loop-i-init : goal.loop-i-init
loop-i-init c = rewritten_none _ _

pub loop-i-preserved : goal.loop-i-preserved
loop-i-preserved c = rewritten_more (omega arith) c.ranked_result.ensures c.loop-i.invariant

pub returns : goal.returns
returns c = rewritten_all c.loop-i.auto.i-end c.loop-i-test.false c.loop-i.invariant
