-- `union` meets its contract: the words are taken together by `bit_or`. Assumes nothing.
use borrow.Author.Rules.{rules}
use mathlib.Core.Path.{refl}
use mathlib.Core.Bool.{◌||◌}
use lib.Bits.{bit_or}
use Rattle.sets.proofs.Bits.{bit_or_lem}
use Rattle.sets.proofs.Wordwise.{wordwise_has}
use Rattle.sets.proofs.concept_set.ConceptSet.union.Goals as goal

pub returns : goal.returns
returns c =
    wordwise_has bit_or ◌||◌ bit_or_lem refl _ _ _ (search rules) (search rules) (search rules)
    (λ k h. let made = c.wordwise.ensures k h in search rules)
