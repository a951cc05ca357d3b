-- `score_sheets` meets its contract. Invariant: the first i sheets are scored, and the rest of the text stands behind them.
-- Assumes nothing.
use Rattle.sheets.proofs.Class.{Scanning}
use Rattle.sheets.proofs.score.score_sheets.Given as goal

abbrev pub invariant-loop-i : goal.invariant-loop-i
invariant-loop-i l = Scanning l.key l.text l.i l.rest l.initial.report l.report l.right l.wrong
