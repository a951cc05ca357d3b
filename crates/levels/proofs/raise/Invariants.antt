-- `raise` meets its contract. Invariant: the rows below i have their new levels.
-- Assumes nothing.
use Rattle.normal.specs.Rules.{raised_level}
use Rattle.levels.proofs.Loops.{Mapped}
use Rattle.levels.proofs.raise.Given as goal

abbrev pub invariant-loop-i : goal.invariant-loop-i
invariant-loop-i l = Mapped (raised_level l.k l.set.words) l.rows l.initial.levels l.i l.levels
