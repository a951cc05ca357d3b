use Prim.Native.Nat.{◌*◌, ◌<◌}
use native.Mathlib.Omega.{arith}
use mathlib.Core.Path.{◌≡◌, ◌∙◌}
use lib.ListN.{length, take}
use lib.Seq.{length-take-le, get_or-take}
use Rattle.semantics.specs.Limits.{set_words}
use Rattle.columns.proofs.Turning.{turned_none, turned_more, turned_all}
use Rattle.columns.proofs.transpose.transpose_columns.Goals.{Start}
use Rattle.columns.proofs.transpose.transpose_columns.Goals as goal

-- as many words as n columns have
long : (c : Start) → length (take (set_words * c.args.n) c.args.columns.now) ≡ set_words * c.args.n
long c = length-take-le (set_words * c.args.n) c.args.columns.now c.requires.1

pub loop-i-init : goal.loop-i-init
loop-i-init c = turned_none c.clear_rows.ensures

pub loop-i-preserved : goal.loop-i-preserved
loop-i-preserved c =
    let inside : c.loop-i.i < set_words * c.args.n = omega (arith, c.loop-i-test.true, long (goal.at.loop-i-preserved c).Start) in
    let word = get_or-take (set_words * c.args.n) c.args.columns.now c.loop-i.i 0 inside in
    turned_more _ _ c.requires.0 c.loop-i.invariant (rw word at c.add_to_rows.ensures)

pub returns : goal.returns
returns c =
    let end : c.loop-i.i ≡ set_words * c.args.n = omega (arith, c.loop-i-test.false, c.loop-i.auto.i-end, long (goal.at.returns c).Start) in
    (turned_all c.requires.0 (rw end at c.loop-i.invariant), c.loop-i.auto.table ∙ c.clear_rows.ensures.length_kept)
