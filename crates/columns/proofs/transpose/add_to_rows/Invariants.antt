-- `add_to_rows` meets its contract. Invariant: each number of the word that the rest lacks has got b. Measure: the rest, as a number.
-- Assumes nothing.
use Prim.Native.Nat.{◌^◌, ◌<◌}
use Rattle.columns.proofs.Turning.{Added}
use Rattle.columns.proofs.transpose.add_to_rows.Given as goal

abbrev pub invariant-loop-rest : goal.invariant-loop-rest
invariant-loop-rest l = (l.rest < 2 ^ 64) × Added l.n l.last l.b l.w l.initial.table l.table l.rest

abbrev pub decreases-loop-rest : goal.decreases-loop-rest
decreases-loop-rest l = l.rest
