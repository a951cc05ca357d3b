-- `apply_plain` meets its contract: the set that the right's column takes is what both lefts' columns share.
-- Assumes nothing.
use borrow.Author.Rules.{rules}
use native.Mathlib.Omega.{arith}
use mathlib.Core.Path.{◌≡◌, ap₂, ◌∙◌}
use mathlib.Core.Bool.{◌&&◌}
use Rattle.semantics.specs.Limits.{set_words}
use Rattle.semantics.specs.Row.{conj_subsumed_kind, kind_of}
use Rattle.tables.proofs.Rows.{has_row}
use Rattle.columns.specs.Steps.{in_shared}
use Rattle.columns.proofs.Marking.{marks_as}
use Rattle.saturation.proofs.rules.apply_plain.Goals as goal

pub returns-in-Some-ConjSubsumed-clause-does : goal.returns-in-Some-ConjSubsumed-clause-does
returns-in-Some-ConjSubsumed-clause-does c =
    let two : kind_of c.args.w ≡ conj_subsumed_kind = search rules in
    let marks = rw c.right_of-in-Some-ConjSubsumed.ensures at c.mark_set.ensures.marks in
    record {
      strict = λ e. absurd (omega (arith, two, e));
      conj = λ e. marks_as (in_shared _ _)
          (λ x l. c.meet-shared.ensures x ∙ rw (c.column.ensures, c.second_of.ensures)
          (ap₂ ◌&&◌ (rw c.left_of-in-Some-ConjSubsumed.ensures at (c.apart.ensures x l)) (has_row set_words _ _ x l))) marks;
      other = λ m n. absurd (n two);
      length_kept = c.mark_set.ensures.marks.joined.length_kept;
    }
