use borrow.Author.Rules.{rules}
use mathlib.Core.Path.{◌≡◌}
use Rattle.std.specs.Prelude.{Err}
use Rattle.checking.proofs.Checking.{cleared_more, cleared_refused, cleared_all}
use Rattle.checking.proofs.check_rows.Goals as goal

pub returns-in_err-check_row : goal.returns-in_err-check_row
returns-in_err-check_row c =
    let same : c.from_residual.result ≡ Err c.in_err-check_row.field-0.0 = search rules in
    rw same (cleared_refused _ _ _ _ c.loop-i.invariant c.loop-i-test.true c.in_err-check_row.ensures)

pub loop-i-preserved : goal.loop-i-preserved
loop-i-preserved c = cleared_more _ _ _ c.loop-i.invariant c.loop-i-test.true c.in_ok-check_row.ensures

pub returns : goal.returns
returns c = cleared_all _ _ _ c.loop-i.invariant c.loop-i-test.false
