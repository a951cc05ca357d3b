use native.Mathlib.Omega.{arith}
use mathlib.Core.Logic.{inl, inr}
use Rattle.keys.proofs.Keys.{keying_more, keying_all}
use Rattle.keys.proofs.write_key.Goals as goal

pub loop-row-preserved : goal.loop-row-preserved
loop-row-preserved c = keying_more c.loop-row.invariant c.in-Some.ensures.steps.0 c.in-Some.ensures.steps.1 c.write_reply-count.ensures

-- the rows end first
pub returns : goal.returns
returns c = keying_all c.loop-row.invariant (elim c.in-None.ensures.steps [ inl h ↦ h.1.0 | inr h ↦ omega (arith, h.1.0, c.loop-row.invariant.paired) ])
