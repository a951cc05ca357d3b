-- `read_lines` meets its contract. Invariant: `Lines`, some lines are read and their rows written, and there are as many links. Measure: the bytes left.
-- Assumes nothing.
use Prim.Native.Nat.{◌-◌}
use mathlib.Core.Path.{◌≡◌}
use lib.ListN.{length}
use Rattle.names.specs.Lent.{state_of}
use Rattle.source.proofs.Lines.{Lines}
use Rattle.source.proofs.text.read_lines.Given as goal

abbrev pub invariant-loop-at : goal.invariant-loop-at
invariant-loop-at l = Lines l.text l.initial.rows l.rows (state_of l.names l.links) l.at l.lines × (length l.links ≡ length l.initial.links)

abbrev pub decreases-loop-at : goal.decreases-loop-at
decreases-loop-at l = length l.text - l.at
