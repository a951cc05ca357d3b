-- `Word::word_hash` meets its contract. Invariant: the hash of the first i bytes, gone on with over the rest, is the word's. Assumes nothing.
use Prim.Native.Nat.{◌+◌, ◌-◌, ◌<◌}
use mathlib.Core.Path.{◌≡◌}
use Rattle.words.specs.Bytes.{hashes, hash_from, word_hash}
use Rattle.words.proofs.word.Word.word_hash.Given as goal

abbrev pub invariant-loop-b : goal.invariant-loop-b
invariant-loop-b l =
    (l.hash < hashes) × (word_hash l.self.text.now l.self.at l.self.size ≡ hash_from l.hash l.self.text.now (l.self.at + l.b-index) (l.self.size - l.b-index))
