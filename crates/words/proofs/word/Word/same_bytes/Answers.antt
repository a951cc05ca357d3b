use Prim.Native.Nat.{◌-◌, ◌<◌}
use native.Mathlib.Omega.{arith}
use mathlib.Core.Path.{◌≡◌, sym, ◌∙◌}
use Rattle.words.specs.Bytes.{same_bytes}
use Rattle.words.proofs.Within.{slice_size, slice_byte, same_more, same_none}
use Rattle.words.proofs.word.Word.same_bytes.Goals.{After-byte_at}
use Rattle.words.proofs.word.Word.same_bytes.Goals as goal

-- the place looked at is one of the word's
more : (c : After-byte_at) → c.loop-i.i < c.args.self.now.size
more c =
    let w = c.args.self.now in
    omega (arith, slice_size w.text.now w.at w.size w.inside, c.loop-i-test.true)

pub returns-then-byte_at-b : goal.returns-then-byte_at-b
returns-then-byte_at-b c =
    let w = c.args.self.now in
    let here = more (goal.at.returns-then-byte_at-b c).After-byte_at in
    sym (c.loop-i.invariant ∙ same_none w.text.now c.args.start w.at w.size c.loop-i.i here
    (λ e. c.if-byte_at-b.true (c.byte_at.ensures ∙ e ∙ sym (slice_byte w.text.now w.at w.size c.loop-i.i here))))

pub loop-i-preserved : goal.loop-i-preserved
loop-i-preserved c =
    let w = c.args.self.now in
    let here = more (goal.at.loop-i-preserved c).After-byte_at in
    c.loop-i.invariant ∙ same_more w.text.now c.args.start w.at w.size c.loop-i.i here
    (sym c.byte_at.ensures ∙ c.if-byte_at-b.false ∙ slice_byte w.text.now w.at w.size c.loop-i.i here)

pub returns : goal.returns
unfolding same_bytes
returns c =
    let w = c.args.self.now in
    let done : w.size - c.loop-i.i ≡ 0 = omega (arith, slice_size w.text.now w.at w.size w.inside, c.loop-i-test.false) in
    sym (c.loop-i.invariant ∙ rw done)
