-- `mark_settled` meets its contract: the key, the check, and then everything that is written. Assumes nothing.
use native.Mathlib.Omega.{arith}
use Rattle.std.proofs.lemmas.Result.{err_from_is_err_and}
use Rattle.keys.proofs.Keys.{first_part}
use Rattle.marking.specs.Steps.{refused, finished}
use Rattle.marking.proofs.Checks.{key_refused, key_accepted, scorable, key_scored}
use Rattle.marking.proofs.ClassMarking.{untouched}
use Rattle.marking.proofs.mark_settled.Goals as goal

pub returns-in_err-count-clause-marked : goal.returns-in_err-count-clause-marked
returns-in_err-count-clause-marked c =
    let p = err_from_is_err_and c.from_residual.result c.from_residual.ensures.1 in
    rw (p.1, p.2) (refused (key_refused (first_part c.write_key-questions.ensures) c.in_err-count.ensures)
    untouched)

pub score_sheets-requires : goal.score_sheets-requires
score_sheets-requires c = scorable (first_part c.write_key-questions.ensures) (omega arith) c.in_ok-count.ensures

pub returns-clause-marked : goal.returns-clause-marked
returns-clause-marked c =
    let f = first_part c.write_key-questions.ensures in
    finished (key_accepted f c.in_ok-count.ensures) c.copy_buffers.ensures.copied (key_scored f c.score_sheets.ensures)
