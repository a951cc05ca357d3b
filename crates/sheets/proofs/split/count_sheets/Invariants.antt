-- `count_sheets` meets its contract. Invariant: the sheets that begin before the byte are counted.
-- Assumes nothing.
use Rattle.sheets.proofs.Sheets.{Counting}
use Rattle.sheets.proofs.split.count_sheets.Given as goal

abbrev pub invariant-loop-b : goal.invariant-loop-b
invariant-loop-b l = Counting l.text l.b-index l.count l.inside
