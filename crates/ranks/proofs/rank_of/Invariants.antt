-- `rank_of` meets its contract. Invariant: the number is exceptional at each level below low, and not at high. Measure: the levels between.
-- Assumes nothing.
use Prim.Native.Nat.{◌-◌}
use Rattle.ranks.proofs.Halving.{Searching}
use Rattle.ranks.proofs.rank_of.Given as goal

abbrev pub invariant-loop-low : goal.invariant-loop-low
invariant-loop-low l = Searching l.settling.index.n l.settling.index.rows.now l.settling.levels.now l.k l.a l.low l.high l.found

abbrev pub decreases-loop-low : goal.decreases-loop-low
decreases-loop-low l = l.high - l.low
