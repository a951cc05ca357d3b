-- `open_conjunction` meets its contract, step by step as its definition goes. Assumes nothing.
use mathlib.Core.Path.{refl}
use Rattle.names.proofs.Steps.{then_read, then_refused}
use Rattle.forms.specs.Opened.{open_conjunction}
use Rattle.forms.proofs.Spaces.{space_read, space_refused}
use Rattle.forms.proofs.open_conjunction.Goals as goal

pub returns-in_default-clause-opened : goal.returns-in_default-clause-opened
unfolding open_conjunction
returns-in_default-clause-opened c rest = then_refused _ _ _ (c.take_number-step.ensures.taken rest) c.in_default.is

pub returns-in_default-step-clause-opened : goal.returns-in_default-step-clause-opened
unfolding open_conjunction
returns-in_default-step-clause-opened c rest =
    then_read _ _ _ (c.take_number-step.ensures.taken rest) c.in-Ok.is
    (space_refused c.args.book.now.text.bytes.now _ _ _ c.past_space-step.ensures c.in_default-step.is refl)

pub returns-clause-opened : goal.returns-clause-opened
unfolding open_conjunction
returns-clause-opened c rest =
    then_read _ _ _ (c.take_number-step.ensures.taken rest) c.in-Ok.is
    (space_read c.args.book.now.text.bytes.now _ _ _ c.past_space-step.ensures c.in-Ok-step.is refl)
