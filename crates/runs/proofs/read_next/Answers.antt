-- `read_next` meets its contract: a gap byte is passed, and what is seen says how a token is read. Assumes nothing.
use borrow.Author.Rules.{rules}
use mathlib.Core.Path.{sym, ◌∙◌, ap}
use Rattle.std.specs.Prelude.{Some}
use Rattle.ontology.specs.Text.{gap_byte}
use Rattle.axioms.specs.Steps.{kept_of}
use Rattle.runs.specs.Steps.{stop}
use Rattle.runs.proofs.Goes.{gap_goes, missing_stops, whole_there, cut_there}
use Rattle.runs.proofs.read_next.Goals as goal

pub returns-then-is_gap-clause-goes : goal.returns-then-is_gap-clause-goes
returns-then-is_gap-clause-goes c =
    let r = c.args.reading.now in
    rw c.past_gap.ensures
    (gap_goes c.args.text.now.bytes.now c.args.at (kept_of r) r.stack.now r.out.now.bytes.now c.requires (sym (c.is_gap.ensures ∙ ap gap_byte c.byte_at.ensures) ∙ c.if-is_gap.true))

pub overflow_add-at : goal.overflow_add-at
overflow_add-at c =
    let r = c.args.reading.now in
    let h = whole_there c.args.text.now.bytes.now c.args.at (kept_of r) r.stack.now r.out.now.bytes.now c.requires (sym (c.is_gap.ensures ∙ ap gap_byte c.byte_at.ensures) ∙ c.if-is_gap.false) _ _
    (sym c.token_at.ensures ∙ c.in-Some-Whole.is ∙ ap Some c.in-Some-Whole.field-0-is) in
    search rules

pub overflow_add-at-in-Some-Cut : goal.overflow_add-at-in-Some-Cut
overflow_add-at-in-Some-Cut c =
    let r = c.args.reading.now in
    let h = cut_there c.args.text.now.bytes.now c.args.at (kept_of r) r.stack.now r.out.now.bytes.now c.requires (sym (c.is_gap.ensures ∙ ap gap_byte c.byte_at.ensures) ∙ c.if-is_gap.false) _ _
    (sym c.token_at.ensures ∙ c.in-Some-Cut.is ∙ ap Some c.in-Some-Cut.field-0-is) in
    search rules

pub returns-in-Some-Cut-clause-goes : goal.returns-in-Some-Cut-clause-goes
returns-in-Some-Cut-clause-goes c = stop c.read_cut.ensures.stops

pub returns-in-None-clause-goes : goal.returns-in-None-clause-goes
returns-in-None-clause-goes c =
    let r = c.args.reading.now in
    stop
    (missing_stops c.args.text.now.bytes.now c.args.at (kept_of r) r.stack.now r.out.now.bytes.now c.requires (sym (c.is_gap.ensures ∙ ap gap_byte c.byte_at.ensures) ∙ c.if-is_gap.false)
    (sym c.token_at.ensures ∙ c.in-None.is))
