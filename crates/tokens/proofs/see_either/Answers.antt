use mathlib.Core.Path.{◌∙◌}
use Rattle.tokens.proofs.Seeing.{counted, seen_first, seen_second}
use Rattle.tokens.proofs.see_either.Goals as goal

pub returns-then-matched : goal.returns-then-matched
returns-then-matched c =
    let a = c.args in
    c.see_as.ensures ∙ seen_second a.kind a.other _ _ a.bytes.now (counted a.bytes.now c.spelling.ensures c.matched.ensures) (counted a.bytes.now c.spelling-2.ensures c.matched-2.ensures) c.if-matched.true

pub returns : goal.returns
returns c =
    let a = c.args in
    c.see_as-2.ensures ∙ seen_first a.kind a.other _ _ a.bytes.now (counted a.bytes.now c.spelling.ensures c.matched.ensures) (counted a.bytes.now c.spelling-2.ensures c.matched-2.ensures) c.if-matched.false
