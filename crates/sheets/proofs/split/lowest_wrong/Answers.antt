use borrow.Author.Rules.{rules}
use native.Mathlib.Omega.{arith}
use Prim.Native.Nat.{◌+◌}
use Rattle.std.proofs.lemmas.List.{take_rest}
use Rattle.sheets.proofs.Sheets.{passing_step, passing_more, passing_wrong}
use Rattle.sheets.proofs.split.lowest_wrong.Goals as goal

pub returns-then-not-opens_filled : goal.returns-then-not-opens_filled
returns-then-not-opens_filled c = passing_wrong c.loop-i.invariant c.opens_filled.ensures c.if-not-opens_filled.true (omega (arith, c.requires))

-- the sheet is filled, so the next begins inside the text
pub overflow_add-rest : goal.overflow_add-rest
overflow_add-rest c =
    let le = (passing_step c.loop-i.invariant c.opens_filled.ensures c.if-not-opens_filled.false).inside in
    search rules

pub slice_bounds-rest-count : goal.slice_bounds-rest-count
slice_bounds-rest-count c = (passing_step c.loop-i.invariant c.opens_filled.ensures c.if-not-opens_filled.false).inside

pub slice_bounds-rest-start : goal.slice_bounds-rest-start
slice_bounds-rest-start c = (passing_step c.loop-i.invariant c.opens_filled.ensures c.if-not-opens_filled.false).inside

pub loop-i-preserved : goal.loop-i-preserved
loop-i-preserved c = rw (take_rest c.loop-i.rest.now (c.args.questions + 1)) (passing_more c.loop-i.invariant c.opens_filled.ensures c.if-not-opens_filled.false)
