use native.Mathlib.Omega.{arith}
use mathlib.Core.Path.{◌∙◌}
use lib.ListN.{get_or, length-set}
use Rattle.sets.proofs.Wordwise.{each_more}
use Rattle.sets.proofs.concept_set.ConceptSet.wordwise.Goals as goal

pub loop-k-preserved : goal.loop-k-preserved
loop-k-preserved g c =
    let s = c.args.self.words in
    let t = c.args.other.words in
    let (long, before) = c.loop-k.invariant in
    (length-set _ _ _ ∙ long, each_more (λ j v. g.F.Fn.post c.args.f (get_or s j 0, (get_or t j 0, tt)) v) _ (omega (arith, long)) c.f.ensures before)
