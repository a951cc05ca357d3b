-- `lowest_wrong` meets its contract. Invariant: the sheets before i are filled, and the rest is that of the others.
-- Assumes nothing.
use Rattle.sheets.proofs.Sheets.{Passing}
use Rattle.sheets.proofs.split.lowest_wrong.Given as goal

abbrev pub invariant-loop-i : goal.invariant-loop-i
invariant-loop-i l = Passing l.questions l.text l.i l.rest
