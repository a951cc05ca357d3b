-- `read_text` meets its contract, step by step as its definition goes. Assumes nothing.
use Prim.Native.Nat.{◌+◌, ◌≤◌}
use borrow.Author.Tests.{lt-ltb, le-ltb}
use mathlib.Core.Path.{◌≡◌, sym, ap, subst, ◌∙◌}
use mathlib.Core.Bool.{cond}
use lib.Dec.{ltb}
use lib.Seq.{take-length}
use Rattle.semantics.specs.Limits.{number_limit, row_limit}
use Rattle.refusal.specs.declared.Refusal.TheVariants.{TextTooLong, TooManyRows}
use Rattle.chains.specs.declared.Sort.TheVariants.{Concepts}
use Rattle.names.specs.Names.{no_numbers, refuse, read_to, onward}
use Rattle.names.specs.Lent.{new_reader, state_of}
use Rattle.names.specs.State.{Ending}
use Rattle.names.proofs.Parts.{state_none}
use Rattle.source.specs.Lines.{within_rows, read_text}
use Rattle.source.proofs.Lines.{text_room, text_counted, too_many, few_enough}
use Rattle.source.proofs.text.read_text.Goals.{After-count_definitions}
use Rattle.source.proofs.text.read_text.Goals as goal

pub returns-then-text-gt-TEXT : goal.returns-then-text-gt-TEXT
unfolding read_text
returns-then-text-gt-TEXT c =
    let long = lt-ltb _ _ c.if-text-gt-TEXT.true in
    let none : state_of new_reader c.args.links.now ≡ no_numbers = rw c.requires state_none in
    record {
      reading = rw (c.with_step.ensures, c.new.ensures, c.at.ensures, long) (ap (λ s. refuse s TextTooLong 0) none);
      rows = rw long (sym (take-length _));
    }

pub returns-in_default : goal.returns-in_default
unfolding read_text within_rows onward
returns-in_default c =
    let short = le-ltb _ _ c.if-text-gt-TEXT.false in
    record {
      reading = rw (short, ← c.read_lines-read.ensures.0, c.in_default.is);
      rows = rw short c.read_lines-read.ensures.1;
    }

pub count_definitions-requires : goal.count_definitions-requires
count_definitions-requires c =
    let text = c.args.text.now in
    subst (λ (r : Ending). (r.names.lists Concepts).used ≤ number_limit) (sym c.read_lines-read.ensures.0) (text_room text)

-- all lines were read: the rest is whether there are too many rows
counted : (c : After-count_definitions) →
    let names = state_of c.read_lines-read.result.names c.read_lines-read.new.links in
    let lines = c.in-Ok.lines in
    let end = c.in-Ok.end in
    (read_text c.args.text.now).reading ≡
    cond (ltb row_limit (lines + c.count_definitions.result)) (refuse names TooManyRows end) (read_to names lines end)
counted c =
    text_counted c.args.text.now c.if-text-gt-TEXT.false c.read_lines-read.ensures.0 c.in-Ok.is
    (c.count_definitions.ensures.0 c.read_lines-read.new.links)

pub returns-then-lines-count_definitions-gt-ROWS : goal.returns-then-lines-count_definitions-gt-ROWS
unfolding read_text
returns-then-lines-count_definitions-gt-ROWS c =
    record {
      reading = rw (c.with_step-then-lines-count_definitions-gt-ROWS.ensures, c.at-then-lines-count_definitions-gt-ROWS.ensures) (sym (counted (goal.at.returns-then-lines-count_definitions-gt-ROWS c).After-count_definitions ∙ too_many _ _ c.if-lines-count_definitions-gt-ROWS.true));
      rows = rw (le-ltb _ _ c.if-text-gt-TEXT.false) c.read_lines-read.ensures.1;
    }

pub returns : goal.returns
unfolding read_text
returns c =
    record {
      reading = rw c.in-Ok.is (sym (counted (goal.at.returns c).After-count_definitions ∙ few_enough _ _ c.if-lines-count_definitions-gt-ROWS.false));
      rows = rw (le-ltb _ _ c.if-text-gt-TEXT.false) c.read_lines-read.ensures.1;
    }
