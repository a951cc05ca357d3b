-- `minus` meets its contract: the words are taken together by `bit_without`. Assumes nothing.
use borrow.Author.Rules.{rules}
use mathlib.Core.Path.{refl}
use mathlib.Core.Bool.{not, ◌&&◌}
use Rattle.sets.proofs.Wordwise.{wordwise_has}
use Rattle.picking.proofs.Without.{bit_without, bit_without_lem}
use Rattle.picking.proofs.minus.Goals as goal

pub returns : goal.returns
returns c =
    wordwise_has bit_without (λ p q. p && not q) bit_without_lem refl _ _ _ (search rules) (search rules) (search rules)
    (λ k h. let made = c.wordwise.ensures k h in search rules)
