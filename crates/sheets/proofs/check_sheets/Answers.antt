-- `check_sheets` meets its contract: the refusals in their order. Assumes nothing.
use native.Mathlib.Omega.{arith}
use mathlib.Core.Path.{refl}
use Rattle.sheets.specs.Refused.{no_question, too_many, wrong_sheet}
use Rattle.sheets.specs.Steps.{accepted, refused}
use Rattle.sheets.proofs.check_sheets.Goals as goal
use Rattle.sheets.proofs.check_sheets.Goals.{then-count-gt-SHEETS-via-then-count-gt-SHEETS, then-count-gt-SHEETS-via-else-count-gt-SHEETS+then-room-count}

pub returns-then-questions-eq0 : goal.returns-then-questions-eq0
returns-then-questions-eq0 c = rw c.at.ensures (refused (no_question c.if-questions-eq0.true refl))

pub returns-then-count-gt-SHEETS : goal.returns-then-count-gt-SHEETS
returns-then-count-gt-SHEETS c =
    let e = c.count_sheets-count.ensures in
    rw c.at-then-count-gt-SHEETS.ensures
    (refused
    (too_many (omega (arith, c.if-questions-eq0.false))
    (λ f. elim c.then-count-gt-SHEETS.branch [
      | then-count-gt-SHEETS-via-then-count-gt-SHEETS w ↦ omega (arith, e, w.if-count-gt-SHEETS.true, f.few)
      | then-count-gt-SHEETS-via-else-count-gt-SHEETS+then-room-count w ↦ omega (arith, e, w.if-room-count.true, f.roomy)
    ])
    refl))

pub returns-in-Some : goal.returns-in-Some
returns-in-Some c =
    let e = c.count_sheets-count.ensures in
    let w = c.in-Some.ensures in
    rw c.at-in-Some.ensures
    (refused
    (wrong_sheet (omega (arith, c.if-questions-eq0.false))
    record { few = omega (arith, e, c.if-count-gt-SHEETS.false); roomy = omega (arith, e, c.if-room-count.false) } w.inside w.wrong w.before))

pub returns-in-None : goal.returns-in-None
returns-in-None c =
    let e = c.count_sheets-count.ensures in
    accepted e record {
      some_question = omega (arith, c.if-questions-eq0.false);
      fits = record { few = omega (arith, e, c.if-count-gt-SHEETS.false); roomy = omega (arith, e, c.if-room-count.false) };
      filled = c.in-None.ensures;
    }
