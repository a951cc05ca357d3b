use Prim.Native.Nat.{◌<◌}
use native.Mathlib.Omega.{arith}
use mathlib.Core.Path.{◌∙◌}
use lib.ListN.{length}
use Rattle.normal.proofs.Decoding.{deck_row}
use Rattle.queries.proofs.Visiting.{replying_none, replying_more, replying_all}
use Rattle.queries.proofs.reply_to.Goals.{In-Some}
use Rattle.queries.proofs.reply_to.Goals as goal

pub loop-i-init : goal.loop-i-init
loop-i-init c =
    let (small, long) = c.requires in
    let (same, key, first) = c.readers-i-items.ensures in
    rw c.into_iter-i-iterator.ensures.into_iter_gives (same, key, replying_none c.args.index.deck c.args.index.indexed small first _ _ _)

-- the place visited is one of the rows'
placed : (c : In-Some) → c.in-Some.i < length c.args.index.rows.now
placed c = rw c.loop-i.invariant.0 at c.in-Some.ensures.steps.2

pub bounds-index-i : goal.bounds-index-i
bounds-index-i c = placed c

pub bounds-results-i : goal.bounds-results-i
bounds-results-i c = omega (arith, placed (goal.at.bounds-results-i c).In-Some, c.requires.1)

pub bounds-results-i-in-loop-i : goal.bounds-results-i-in-loop-i
bounds-results-i-in-loop-i c = omega (arith, placed (goal.at.bounds-results-i-in-loop-i c).In-Some, c.requires.1)

pub replied_result-requires : goal.replied_result-requires
replied_result-requires c =
    let deck = c.args.index.deck in
    omega (arith, (deck_row deck _ (placed (goal.at.replied_result-requires c).In-Some)).rights, deck.numbers)

pub loop-i-preserved : goal.loop-i-preserved
loop-i-preserved c =
    let (same, key, so_far) = c.loop-i.invariant in
    let (some, is, inside, kept, key_kept, next) = c.in-Some.ensures.steps in
    let visit = rw (same, key) at c.loop-i.i-iterator.visit in
    (kept ∙ same, key_kept ∙ key, replying_more c.args.index.deck c.args.index.indexed visit some (rw same at next) is (omega (arith, c.requires.1)) c.replied_result.ensures so_far)

pub returns : goal.returns
returns c = replying_all (omega (arith, c.in-None.ensures.steps.0)) c.loop-i.invariant.2
