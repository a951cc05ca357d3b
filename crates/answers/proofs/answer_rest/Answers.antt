-- `answer_rest` meets its contract: the defeasible rows, then the queries, and every row has its result.
-- Assumes nothing.
use native.Mathlib.Omega.{arith}
use mathlib.Core.Path.{◌∙◌}
use Rattle.answers.proofs.Report.{askable, answered}
use Rattle.answers.proofs.answer_rest.Goals as goal

pub answer_queries-requires : goal.answer_queries-requires
answer_queries-requires c =
    let pre = c.requires in
    (askable c.args.settling pre.0, omega (arith, pre.1, c.answer_defeasible.ensures.length_kept))

pub returns : goal.returns
returns c =
    let pre = c.requires in
    (answered c.args.settling.index.deck pre.0.ranked pre.0.bounded pre.2 c.answer_defeasible.ensures c.answer_queries.ensures pre.1, c.answer_queries.ensures.length_kept ∙ c.answer_defeasible.ensures.length_kept)
