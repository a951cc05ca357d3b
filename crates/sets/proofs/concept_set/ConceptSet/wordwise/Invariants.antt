-- `wordwise` meets its contract. Invariant: the words so far are what f makes of the two sets' words.
-- Assumes nothing.
use Rattle.std.proofs.Common.{ℕ, ◌<◌, ◌≡◌, get_or, length}
use Rattle.semantics.specs.Limits.{set_words}
use Rattle.sets.proofs.concept_set.ConceptSet.wordwise.Given as goal

abbrev pub invariant-loop-k : goal.invariant-loop-k
invariant-loop-k g l =
    (length l.s.words ≡ set_words)
    × ((j : ℕ) → j < l.k → goal.F-post g l.f (get_or l.self.words j 0) (get_or l.other.words j 0) (get_or l.s.words j 0))
