use Prim.Native.Nat.{◌-◌, ◌≤◌}
use native.Mathlib.Omega.{arith}
use lib.Bits.{bit_and, and_le_l}
use lib.Count.{count_trailing_zeros}
use Rattle.columns.specs.Steps.{last_of}
use Rattle.columns.proofs.Lowest.{Lowest, lowest}
use Rattle.columns.proofs.Turning.{added_more, added_past, added_all}
use Rattle.columns.proofs.transpose.add_to_rows.Goals.{then-a-n, else-a-n}
use Rattle.columns.proofs.transpose.add_to_rows.Goals as goal

pub loop-rest-preserved : goal.loop-rest-preserved
loop-rest-preserved c =
    let rest = c.loop-rest.rest in
    let (fits, so_far) = c.loop-rest.invariant in
    let high : 63 ≤ last_of c.args.i = omega arith in
    let low : Lowest 64 rest (count_trailing_zeros 64 rest) (bit_and rest (rest - 1)) = lowest 64 rest (omega (arith, c.loop-rest-test.true)) fits in (
      omega (arith, fits, and_le_l rest (rest - 1)),
      elim c.if-a-n.branch [
        | then-a-n v ↦ rw v.table-is (added_more high so_far low v.if-a-n.true v.add_to_row.ensures)
        | else-a-n v ↦ rw v.table-is (added_past high so_far low v.if-a-n.false)
      ],
    )

pub returns : goal.returns
returns c = added_all c.loop-rest-test.false c.loop-rest.invariant.1
