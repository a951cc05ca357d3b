-- `read_fields` meets its contract, step by step as its definition goes. Assumes nothing.
use mathlib.Core.Path.{◌≡◌, sym, ap, ◌∙◌}
use native.Mathlib.Omega.{arith}
use Rattle.words.proofs.Within.{inside_line_end}
use Rattle.chains.specs.declared.Sort.{Sort}
use Rattle.names.specs.Names.{ended}
use Rattle.names.specs.Lent.{SortArrays, state_lent}
use Rattle.names.proofs.Steps.{then_read, then_refused}
use Rattle.forms.proofs.Spaces.{space_read, space_refused}
use Rattle.source.specs.Lines.{read_letter, read_line}
use Rattle.source.specs.Steps.{kind_step}
use Rattle.source.proofs.line.read_fields.Goals.{After-read_letter-step}
use Rattle.source.proofs.line.read_fields.Goals as goal

-- the letter was read, or refused
letter : (c : After-read_letter-step) (rest : Sort → SortArrays) →
    let names = state_lent rest c.args.names.now in
    ended names (kind_step c.read_letter-step.result) ≡ ended names (read_letter c.args.book.now.text.bytes.now c.args.at)
letter c rest = ap (ended (state_lent rest c.args.names.now)) c.read_letter-step.ensures

pub returns-in_default-clause-reads : goal.returns-in_default-clause-reads
unfolding read_line
returns-in_default-clause-reads c rest =
    then_refused _ _ _ (letter (goal.at.returns-in_default-clause-reads c).After-read_letter-step rest) (ap kind_step c.in_default.is)

pub returns-in_default-step-clause-reads : goal.returns-in_default-step-clause-reads
unfolding read_line
returns-in_default-step-clause-reads c rest =
    then_read _ _ _ (letter (goal.at.returns-in_default-step-clause-reads c).After-read_letter-step rest) (ap kind_step c.in-Ok.is)
    (space_refused _ _ _ _ c.past_space-step.ensures c.in_default-step.is (ap (ended _) (sym c.unwrap_err.ensures)))

pub returns-in_default-step-2-clause-reads : goal.returns-in_default-step-2-clause-reads
unfolding read_line
returns-in_default-step-2-clause-reads c rest =
    then_read _ _ _ (letter (goal.at.returns-in_default-step-2-clause-reads c).After-read_letter-step rest) (ap kind_step c.in-Ok.is)
    (space_read _ _ _ _ c.past_space-step.ensures c.in-Ok-step.is
    (ap (ended _) (sym c.unwrap_err-in_default-step-2.ensures) ∙ then_refused _ _ _ (c.read_sides-step.ensures.reads rest) c.in_default-step-2.is))

-- the line feed stands within the text
pub overflow_add-result : goal.overflow_add-result
overflow_add-result c = omega (arith, inside_line_end c.args.book.now.text.bytes.now c.in-Ok-step-2.end (sym c.is_line_end.ensures ∙ c.if-is_line_end.true))

-- behind its sides a line feed ends the line
pub returns-then-is_line_end-clause-reads : goal.returns-then-is_line_end-clause-reads
unfolding read_line
returns-then-is_line_end-clause-reads c rest =
    then_read _ _ _ (letter (goal.at.returns-then-is_line_end-clause-reads c).After-read_letter-step rest) (ap kind_step c.in-Ok.is)
    (space_read _ _ _ _ c.past_space-step.ensures c.in-Ok-step.is
    (then_read _ _ _ (c.read_sides-step.ensures.reads rest) c.in-Ok-step-2.is (rw (← c.is_line_end.ensures, c.if-is_line_end.true))))

pub returns-clause-reads : goal.returns-clause-reads
unfolding read_line
returns-clause-reads c rest =
    then_read _ _ _ (letter (goal.at.returns-clause-reads c).After-read_letter-step rest) (ap kind_step c.in-Ok.is)
    (space_read _ _ _ _ c.past_space-step.ensures c.in-Ok-step.is
    (then_read _ _ _ (c.read_sides-step.ensures.reads rest) c.in-Ok-step-2.is (rw (c.at.ensures, ← c.is_line_end.ensures, c.if-is_line_end.false))))
