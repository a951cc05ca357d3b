use Prim.Native.Nat.{◌<◌}
use native.Mathlib.Omega.{arith}
use mathlib.Core.Path.{sym, ◌∙◌}
use mathlib.Core.Bool.{false≢true}
use Rattle.normal.proofs.Decoding.{deck_row}
use Rattle.queries.proofs.QueryReplies.{answering_none, answering_more, answering_other, answering_all}
use Rattle.queries.proofs.answer_queries.Goals.{After-left_of-a, then-is_kind+then-not-test, else-is_kind, else-is_kind-via-then-is_kind+else-not-test, else-is_kind-via-else-is_kind}
use Rattle.queries.proofs.answer_queries.Goals as goal

pub loop-w-init : goal.loop-w-init
loop-w-init c = answering_none c.empty-done.ensures.1

-- the left of the row is one of the deck's numbers
left_below : (c : After-left_of-a) → c.left_of-a.result < c.args.settling.index.n
left_below c = omega (arith, c.left_of-a.ensures, (deck_row c.args.settling.index.deck _ c.loop-w-test.true).lefts)

pub test-requires : goal.test-requires
test-requires c = omega (arith, left_below (goal.at.test-requires c).After-left_of-a, c.args.settling.index.deck.numbers)

pub rank_of-found-requires : goal.rank_of-found-requires
rank_of-found-requires c = (c.requires.0, left_below (goal.at.rank_of-found-requires c).After-left_of-a)

pub reply_to-requires : goal.reply_to-requires
reply_to-requires c =
    let pre = c.requires in
    (left_below (goal.at.reply_to-requires c).After-left_of-a, omega (arith, pre.1, c.loop-w.invariant.length_kept))

pub add-done-requires : goal.add-done-requires
add-done-requires c = omega (arith, left_below (goal.at.add-done-requires c).After-left_of-a, c.args.settling.index.deck.numbers)

pub loop-w-preserved : goal.loop-w-preserved
loop-w-preserved c =
    let a = c.left_of-a.ensures in
    let inv = c.loop-w.invariant in
    elim c.if-is_kind.branch [
      | then-is_kind+then-not-test w ↦ rw (w.results-is, w.done-is) (answering_more inv c.args.settling.index.deck a w.add-done.ensures w.rank_of-found.ensures w.reply_to.ensures)
      | else-is_kind w ↦ rw (w.results-is, w.done-is) (answering_other inv a (elim w.else-is_kind.branch [
        | else-is_kind-via-then-is_kind+else-not-test v ↦ λ e. sym v.test.ensures ∙ v.if-not-test.false
        | else-is_kind-via-else-is_kind v ↦ λ e. absurd (false≢true (sym v.if-is_kind.false ∙ c.is_kind.ensures ∙ rw e))
      ]))
    ]

pub returns : goal.returns
returns c = answering_all c.loop-w.invariant c.loop-w-test.false
