-- `mark_stuck` meets its contract. Invariant: the rows below i have their new levels.
-- Assumes nothing.
use Rattle.normal.specs.Rules.{marked_level}
use Rattle.levels.proofs.Loops.{Mapped}
use Rattle.levels.proofs.mark_stuck.Given as goal

abbrev pub invariant-loop-i : goal.invariant-loop-i
invariant-loop-i l = Mapped (marked_level l.k) l.rows l.initial.levels l.i l.levels
