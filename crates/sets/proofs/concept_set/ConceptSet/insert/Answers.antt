-- `insert` meets its contract: setting one bit adds one member. Assumes nothing.
use borrow.Author.Rules.{rules}
use mathlib.Core.Path.{◌≡◌}
use Prim.Native.Nat.{◌+◌, ◌-◌, ◌*◌, ◌/◌, ◌%◌}
use native.Mathlib.Omega.{arith}
use lib.ListN.{length}
use Rattle.semantics.specs.Limits.{set_words}
use Rattle.sets.proofs.Members.{has_set_bit}
use Rattle.sets.proofs.concept_set.ConceptSet.insert.Goals as goal

pub returns : goal.returns
returns c = λ d.
    let s = c.args.self.now.words in
    let b = c.args.b in
    let long : length s ≡ set_words = search rules in
    let number : 64 * (b / 64) + (63 - (63 - b % 64)) ≡ b = omega arith in
    rw number at (has_set_bit s (b / 64) (63 - b % 64) d (omega arith) (omega arith))
