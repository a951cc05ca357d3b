use native.Mathlib.Omega.{arith}
use mathlib.Core.Path.{sym, ap, ◌∙◌}
use Rattle.chains.specs.Sorts.{limit_of}
use Rattle.chains.specs.Chains.{nexts_at}
use Rattle.chains.proofs.Search.{search_from, find_end, turn_looks, found_here, goes_on}
use Rattle.chains.proofs.lookup.LentList.find_below.Goals as goal

pub returns-then-same_word_at : goal.returns-then-same_word_at
returns-then-same_word_at c =
    let l = c.loop-n in
    sym (l.invariant.1 ∙ turn_looks _ _ _ _ _ _ _ _ l.bound l.n l.invariant.0 c.loop-n-test.true c.entry_at-start.ensures c.entry_at-long.ensures c.same_word_at.ensures
    ∙ found_here _ _ c.if-same_word_at.true)

pub loop-n-preserved : goal.loop-n-preserved
loop-n-preserved c =
    let l = c.loop-n in
    let s = c.args.self.now in
    let w = c.args.word.now in (
      omega (arith, l.invariant.0, c.loop-n-test.true),
      l.invariant.1 ∙ turn_looks _ _ _ _ _ _ _ _ l.bound l.n l.invariant.0 c.loop-n-test.true c.entry_at-start.ensures c.entry_at-long.ensures c.same_word_at.ensures
          ∙ goes_on _ _ c.if-same_word_at.false
          ∙ ap (λ m. search_from w.text.now s.starts.now s.lengths.now s.links.now (nexts_at s.sort) (limit_of s.sort) w.at w.size l.n m) (rw (← c.nexts_at-nexts.ensures) (sym c.entry_at-n.ensures)),
    )

pub returns : goal.returns
returns c =
    let l = c.loop-n in
    sym (l.invariant.1 ∙ find_end _ _ _ _ _ _ l.bound l.bound l.n (omega arith))
