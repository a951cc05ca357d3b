use native.Mathlib.Omega.{arith}
use mathlib.Core.Path.{◌≡◌, refl, ◌∙◌}
use Prim.Native.Nat.{◌+◌, ◌*◌}
use lib.ListN.{get_or, length-set}
use Rattle.semantics.specs.Limits.{set_words}
use Rattle.sets.proofs.Wordwise.{each_more}
use Rattle.tables.proofs.Rows.{row_words_lem}
use Rattle.tables.proofs.row.Goals as goal

pub loop-i-preserved : goal.loop-i-preserved
loop-i-preserved c =
    let (long, done) = c.loop-i.invariant in
    (length-set _ _ _ ∙ long, each_more (λ j v. v ≡ get_or c.args.table.now (set_words * c.args.a + j) 0) _ (omega (arith, long, c.loop-i-test.true)) refl done)

pub returns : goal.returns
returns c =
    let (long, done) = c.loop-i.invariant in
    row_words_lem set_words _ _ _ c.requires long (λ j l. done j (omega (arith, c.loop-i-test.false)))
