-- `take_number` meets its contract: the test says whether a number is left. Assumes nothing.
use native.Mathlib.Omega.{arith}
use mathlib.Core.Path.{ap, ◌∙◌}
use Rattle.std.specs.Prelude.{Err}
use Rattle.chains.specs.declared.Sort.TheVariants.{Concepts}
use Rattle.names.specs.Names.{ended}
use Rattle.names.specs.Lent.{state_with}
use Rattle.names.proofs.Parts.{numbers_full, number_taken}
use Rattle.names.proofs.take_number.Goals as goal

pub returns-then-number-ge-NUMBERS-clause-taken : goal.returns-then-number-ge-NUMBERS-clause-taken
returns-then-number-ge-NUMBERS-clause-taken c rest =
    ap (λ e. ended (state_with rest Concepts c.args.lent.now.starts.now c.args.lent.now.lengths.now c.args.links.now) (Err e)) c.at.ensures
    ∙ numbers_full _ _ _ _ rest (omega (arith, c.if-number-ge-NUMBERS.true, c.used_in-number.ensures))

pub returns-clause-taken : goal.returns-clause-taken
returns-clause-taken c rest =
    let is = c.used_in-number.ensures in
    number_taken _ _ _ _ rest is (omega (arith, c.if-number-ge-NUMBERS.false, is)) c.requires.1 c.give_number.ensures.given
