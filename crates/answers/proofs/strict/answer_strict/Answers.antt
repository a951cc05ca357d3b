use native.Mathlib.Omega.{arith}
use Rattle.answers.proofs.Rewriting.{rewritten_none, rewritten_more, rewritten_all}
use Rattle.answers.proofs.StrictReplies.{readable, strict_answered}
use Rattle.answers.proofs.strict.answer_strict.Goals as goal

pub loop-i-init : goal.loop-i-init
loop-i-init c = rewritten_none _ _

pub strict_result-requires : goal.strict_result-requires
strict_result-requires c = readable c.requires.0 _ c.loop-i-test.true

pub loop-i-preserved : goal.loop-i-preserved
loop-i-preserved c = rewritten_more (omega arith) c.strict_result.ensures c.loop-i.invariant

pub returns : goal.returns
returns c =
    let all = rewritten_all c.loop-i.auto.i-end c.loop-i-test.false c.loop-i.invariant in
    (strict_answered c.requires.0 all, all.length_kept)
