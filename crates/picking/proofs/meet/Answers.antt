-- `meet` meets its contract: the words are taken together by `bit_and`. Assumes nothing.
use borrow.Author.Rules.{rules}
use mathlib.Core.Path.{refl}
use mathlib.Core.Bool.{◌&&◌}
use lib.Bits.{bit_and}
use Rattle.sets.proofs.Bits.{bit_and_lem}
use Rattle.sets.proofs.Wordwise.{wordwise_has}
use Rattle.picking.proofs.meet.Goals as goal

pub returns : goal.returns
returns c =
    wordwise_has bit_and ◌&&◌ bit_and_lem refl _ _ _ (search rules) (search rules) (search rules)
    (λ k h. let made = c.wordwise.ensures k h in search rules)
