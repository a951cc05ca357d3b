use Prim.Native.Nat.{◌+◌}
use native.Mathlib.Omega.{arith}
use Rattle.axioms.specs.Track.{compact}
use Rattle.copying.proofs.Writing.{appended_none, appended_append}
use Rattle.axioms.proofs.Compact.{compact_zero, compact_byte, count_byte, compact_grows}
use Rattle.axioms.proofs.output.write_bytes.Goals.{then-b-ne0, else-b-ne0}
use Rattle.axioms.proofs.output.write_bytes.Goals as goal

pub loop-b-init : goal.loop-b-init
unfolding compact
loop-b-init c = appended_none _ _

pub append-count-requires : goal.append-count-requires
append-count-requires c =
    let l = c.loop-b in
    let written = c.args.written.now in
    omega (arith, l.invariant.ends, l.invariant.length_kept, count_byte written l.b-index c.loop-b-test.true c.if-b-ne0.true, compact_grows written (l.b-index + 1), c.requires)

pub loop-b-preserved : goal.loop-b-preserved
loop-b-preserved c =
    let l = c.loop-b in
    let written = c.args.written.now in
    elim c.if-b-ne0.branch [
      | then-b-ne0 w ↦ rw (w.text-is, w.count-is) (rw (compact_byte written l.b-index c.loop-b-test.true w.if-b-ne0.true) (appended_append l.invariant w.append-count.ensures))
      | else-b-ne0 w ↦ rw (w.text-is, w.count-is) (rw (compact_zero written l.b-index c.loop-b-test.true w.if-b-ne0.false) l.invariant)
    ]
