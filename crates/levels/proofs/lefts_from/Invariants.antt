-- `lefts_from` meets its contract. Invariant: the lefts of the rows below i are gathered.
-- Assumes nothing.
use Rattle.levels.proofs.Loops.{Gathered}
use Rattle.levels.proofs.lefts_from.Given as goal

abbrev pub invariant-loop-i : goal.invariant-loop-i
invariant-loop-i l = Gathered l.n l.k l.rows l.levels l.i l.set.words
