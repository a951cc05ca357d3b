-- `empty` meets its contract. Assumes nothing.
use mathlib.Core.Path.{refl}
use Rattle.semantics.specs.Limits.{set_words}
use Rattle.sets.proofs.Members.{has_zeros}
use Rattle.sets.proofs.concept_set.ConceptSet.empty.Goals as goal

pub returns : goal.returns
returns c = (refl, has_zeros set_words)
