-- `lefts_at` meets its contract. Invariant: the lefts of the rows below i are gathered, for level k and for the next.
-- Assumes nothing.
use Prim.Native.Nat.{◌+◌}
use Rattle.levels.proofs.Loops.{Gathered}
use Rattle.levels.proofs.lefts_at.Given as goal

abbrev pub invariant-loop-i : goal.invariant-loop-i
invariant-loop-i l = Gathered l.n l.k l.rows l.levels l.i l.active.words × Gathered l.n (l.k + 1) l.rows l.levels l.i l.above.words
