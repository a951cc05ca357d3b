use borrow.Author.Rules.{rules}
use native.Mathlib.Omega.{arith}
use mathlib.Core.Path.{◌≡◌, sym, ◌∙◌}
use Rattle.std.specs.Prelude.{Err}
use Rattle.runs.proofs.Reached.{reached_none, reached_stop, reached_whole, reached_cut}
use Rattle.runs.proofs.read_on.Goals as goal

pub loop-at-init : goal.loop-at-init
loop-at-init c =
    let r = c.args.reading.now in
    (rw c.requires.start (reached_none c.args.text.now.bytes.now r.stack.now r.out.now.bytes.now), search rules)

pub returns-in_err-at-clause-read : goal.returns-in_err-at-clause-read
returns-in_err-at-clause-read c =
    let e : c.from_residual.result ≡ Err c.in_err-at.field-0.0 = search rules in
    rw e (reached_stop c.loop-at.invariant.0 c.read_next.ensures.goes c.in_err-at.was)

pub returns-then-may_end-clause-read : goal.returns-then-may_end-clause-read
returns-then-may_end-clause-read c =
    reached_whole c.loop-at.invariant.0 (λ h. omega (arith, c.loop-at-test.false)) c.requires.room (sym c.may_end.ensures ∙ c.if-may_end.true)

pub returns-clause-read : goal.returns-clause-read
returns-clause-read c = reached_cut c.loop-at.invariant.0 (λ h. omega (arith, c.loop-at-test.false)) (sym c.may_end.ensures ∙ c.if-may_end.false)
