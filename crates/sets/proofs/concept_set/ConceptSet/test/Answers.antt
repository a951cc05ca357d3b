-- `test` meets its contract: the bit that it reads is the one of `has`. Assumes nothing.
use mathlib.Core.Path.{refl}
use Rattle.semantics.specs.Set.{has, bit}
use Rattle.sets.proofs.concept_set.ConceptSet.test.Goals as goal

pub returns : goal.returns
unfolding has bit
returns c = refl
