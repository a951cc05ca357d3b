-- `Word::same_bytes` meets its contract. Invariant: the first i bytes agree. Assumes nothing.
use Prim.Native.Nat.{◌+◌, ◌-◌}
use mathlib.Core.Path.{◌≡◌}
use Rattle.words.specs.Bytes.{same_bytes}
use Rattle.words.proofs.word.Word.same_bytes.Given as goal

abbrev pub invariant-loop-i : goal.invariant-loop-i
invariant-loop-i l =
    same_bytes l.self.text.now l.start l.self.at l.self.size ≡ same_bytes l.self.text.now (l.start + l.i) (l.self.at + l.i) (l.self.size - l.i)
