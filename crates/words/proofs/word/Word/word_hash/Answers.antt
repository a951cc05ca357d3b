use Prim.Native.Nat.{◌-◌, ◌<◌}
use native.Mathlib.Omega.{arith}
use mathlib.Core.Path.{◌≡◌, sym, ◌∙◌}
use Rattle.words.specs.Bytes.{hash_from}
use Rattle.words.proofs.Within.{slice_size, slice_byte, hash_more}
use Rattle.words.proofs.word.Word.word_hash.Goals as goal

pub loop-b-preserved : goal.loop-b-preserved
loop-b-preserved c =
    let w = c.args.self.now in
    let text = w.text.now in
    let more : c.loop-b.b-index < w.size = omega (arith, slice_size text w.at w.size w.inside, c.loop-b-test.true) in
    (omega arith, rw (slice_byte text w.at w.size c.loop-b.b-index more) (c.loop-b.invariant.1 ∙ hash_more text w.at w.size c.loop-b.hash c.loop-b.b-index more))

pub returns : goal.returns
unfolding hash_from
returns c =
    let w = c.args.self.now in
    let done : w.size - c.loop-b.b-index ≡ 0 = omega (arith, slice_size w.text.now w.at w.size w.inside, c.loop-b-test.false) in
    (sym (c.loop-b.invariant.1 ∙ rw done), c.loop-b.invariant.0)
