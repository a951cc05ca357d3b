-- `read_on` meets its contract. Invariant: what was reached comes to what the whole does. Measure: the bytes left. Assumes nothing.
use Prim.Native.Nat.{◌-◌}
use lib.ListN.{length}
use Rattle.axioms.specs.Steps.{kept_of, HeldReading}
use Rattle.runs.proofs.Reached.{Reached}
use Rattle.runs.proofs.read_on.Given as goal

abbrev pub invariant-loop-at : goal.invariant-loop-at
invariant-loop-at l =
    let first = l.initial.reading in
    Reached l.text.bytes.now (length first.stack.now) (length first.out.now.bytes.now) (kept_of l.reading) l.at l.reading.stack.now l.reading.out.now.bytes.now ×
    HeldReading first l.reading

abbrev pub decreases-loop-at : goal.decreases-loop-at
decreases-loop-at l = length l.text.bytes.now - l.at
