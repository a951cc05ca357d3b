-- `evaluate` meets its contract: refusals in their order, then what compiling and settling come to.
-- Assumes nothing.
use native.Mathlib.Omega.{arith}
use mathlib.Core.Path.{refl, sym, ◌∙◌}
use Rattle.std.proofs.lemmas.Result.{err_from_is_err_and}
use Rattle.evaluator.specs.Contract.{refused, done}
use Rattle.evaluator.proofs.Evaluating.{refused_long, refused_short, refused_later, compile_refused, compile_accepted, evaluated, never_refused}
use Rattle.evaluator.proofs.evaluate.Goals as goal

pub returns-then-text-gt-TEXT-clause-evaluated : goal.returns-then-text-gt-TEXT-clause-evaluated
returns-then-text-gt-TEXT-clause-evaluated c = refused (rw c.at.ensures (refused_long _ _ _ c.if-text-gt-TEXT.true)) refl refl

pub returns-then-is_short-clause-evaluated : goal.returns-then-is_short-clause-evaluated
returns-then-is_short-clause-evaluated c =
    refused (rw c.at-then-is_short.ensures (refused_short _ _ _ (omega (arith, c.if-text-gt-TEXT.false)) (sym c.is_short.ensures ∙ c.if-is_short.true))) refl refl

pub returns-in_err-sizes-clause-evaluated : goal.returns-in_err-sizes-clause-evaluated
returns-in_err-sizes-clause-evaluated c =
    let r = compile_refused c.in_err-sizes.ensures in
    let p = err_from_is_err_and c.from_residual.result c.from_residual.ensures.1 in
    rw (p.1, p.2) (refused (refused_later _ _ _ (omega (arith, c.if-text-gt-TEXT.false)) (sym c.is_short.ensures ∙ c.if-is_short.false) ∙ r.why) r.kept refl)

pub returns-in_err-counts-clause-evaluated : goal.returns-in_err-counts-clause-evaluated
returns-in_err-counts-clause-evaluated c =
    let a = compile_accepted c.in_ok-sizes.ensures in
    absurd (never_refused a (refused_later _ _ _ (omega (arith, c.if-text-gt-TEXT.false)) (sym c.is_short.ensures ∙ c.if-is_short.false) ∙ a.free) c.in_err-counts.ensures.classified)

pub returns-clause-evaluated : goal.returns-clause-evaluated
returns-clause-evaluated c =
    let a = compile_accepted c.in_ok-sizes.ensures in
    let free = refused_later _ _ _ (omega (arith, c.if-text-gt-TEXT.false)) (sym c.is_short.ensures ∙ c.if-is_short.false) ∙ a.free in
    done free (evaluated a free c.in_ok-counts.ensures.classified)
