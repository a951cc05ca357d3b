-- `LentList::find_below` meets its contract. Invariant: what is found from n on, below the bound, is what is found from the head on. Measure: the bound.
-- Assumes nothing.
use Prim.Native.Nat.{◌≤◌}
use mathlib.Core.Path.{◌≡◌}
use Rattle.chains.specs.Sorts.{limit_of}
use Rattle.chains.specs.Chains.{nexts_at}
use Rattle.chains.proofs.Search.{search_from}
use Rattle.chains.proofs.lookup.LentList.find_below.Given as goal

abbrev pub invariant-loop-n : goal.invariant-loop-n
invariant-loop-n l =
    let s = l.self in
    let w = l.word in
    let limit = limit_of s.sort in
    let nexts = nexts_at s.sort in
    (l.bound ≤ limit) × (search_from w.text.now s.starts.now s.lengths.now s.links.now nexts limit w.at w.size limit l.head ≡ search_from w.text.now s.starts.now s.lengths.now s.links.now nexts limit w.at w.size l.bound l.n)

abbrev pub decreases-loop-n : goal.decreases-loop-n
decreases-loop-n l = l.bound
