-- `past_space` meets its contract: the test is whether the class is `Space`. Assumes nothing.
use native.Mathlib.Omega.{arith}
use borrow.Author.Rules.{rules}
use mathlib.Core.Path.{◌≡◌, sym}
use mathlib.Core.Bool.{true, false}
use Rattle.words.specs.Bytes.{byte_at, class_of, is_space_class}
use Rattle.words.proofs.Within.{inside_space}
use Rattle.names.specs.Names.{past_space}
use Rattle.names.proofs.past_space.Goals as goal

pub overflow_add-result : goal.overflow_add-result
overflow_add-result c =
    let text = c.args.text.now.bytes.now in
    let space : is_space_class (class_of (byte_at text c.args.at)) ≡ true = rw (sym c.class_at.ensures) (search rules) in
    omega (arith, inside_space text c.args.at space)

pub returns-then-eq : goal.returns-then-eq
unfolding past_space
returns-then-eq c =
    let space : is_space_class (class_of (byte_at c.args.text.now.bytes.now c.args.at)) ≡ true = rw (sym c.class_at.ensures) (search rules) in
    rw space

pub returns-else-eq : goal.returns-else-eq
unfolding past_space
returns-else-eq c =
    let none : is_space_class (class_of (byte_at c.args.text.now.bytes.now c.args.at)) ≡ false = rw (sym c.class_at.ensures) (search rules) in
    rw none (search rules)
