use native.Mathlib.Omega.{arith}
use Rattle.columns.proofs.Starting.{started_none, started_more}
use Rattle.columns.proofs.every.start.Goals as goal

pub loop-a-init : goal.loop-a-init
loop-a-init c = started_none c.requires.2

pub loop-a-preserved : goal.loop-a-preserved
loop-a-preserved c = started_more (omega (arith, c.loop-a-test.true, c.requires.0)) c.loop-a.invariant c.add_to_row.ensures c.add_to_row-in-loop-a.ensures
