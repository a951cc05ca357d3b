-- `member_from` meets its contract. Invariant: no member from `from` on stands before word k, and `mask` takes what is left of word k.
-- Assumes nothing.
use Rattle.semantics.specs.Limits.{set_words}
use Rattle.picking.proofs.Search.{Searching}
use Rattle.picking.proofs.member_from.Given as goal

abbrev pub invariant-loop-k : goal.invariant-loop-k
invariant-loop-k l = Searching set_words l.set.words l.from l.k l.mask
