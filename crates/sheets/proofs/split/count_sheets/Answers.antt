use native.Mathlib.Omega.{arith}
use Rattle.sheets.proofs.Sheets.{counting_more, counting_all}
use Rattle.sheets.proofs.split.count_sheets.Goals as goal
use Rattle.sheets.proofs.split.count_sheets.Goals.{then-not-inside, else-not-inside}

pub loop-b-preserved : goal.loop-b-preserved
loop-b-preserved c = counting_more _ c.loop-b.invariant c.loop-b-test.true (elim c.if-not-inside.branch [
  | then-not-inside w ↦ rw w.if-not-inside.true (omega (arith, w.count-is))
  | else-not-inside w ↦ rw w.if-not-inside.false (omega (arith, w.count-is))
])

pub returns : goal.returns
returns c = counting_all c.loop-b.invariant c.loop-b-test.false
