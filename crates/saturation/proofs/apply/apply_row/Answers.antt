-- `apply_row` meets its contract: a case for each kind.
-- Assumes nothing.
use borrow.Author.Rules.{rules}
use native.Mathlib.Omega.{arith}
use mathlib.Core.Path.{refl, sym, ◌∙◌}
use Rattle.saturation.specs.Applying.{InColumns}
use Rattle.saturation.proofs.Applying.{readable, emptied_applied, pairs_applied, plain_applied}
use Rattle.saturation.proofs.apply.apply_row.Goals.{Start}
use Rattle.saturation.proofs.apply.apply_row.Goals as goal

-- w can be read
fine : (start : Start) → InColumns start.args.work.now.columns.now start.args.w
fine start = let (room, row) = start.requires in readable start.args.index.deck row room refl

pub is_emptied-requires : goal.is_emptied-requires
is_emptied-requires c = fine (goal.at.is_emptied-requires c).Start

pub mark_column-requires : goal.mark_column-requires
mark_column-requires c =
    let row = fine (goal.at.mark_column-requires c).Start in
    (row.nothing, omega (arith, row.left, c.left_of.ensures), row.nothing, omega arith)

pub returns-then-is_emptied-clause-draws : goal.returns-then-is_emptied-clause-draws
returns-then-is_emptied-clause-draws c =
    let (room, row) = c.requires in
    emptied_applied c.args.index.deck row (sym c.is_emptied.ensures ∙ c.if-is_emptied.true) (rw c.left_of.ensures at c.mark_column.ensures.marks)

pub returns-then-is_kind-2-clause-draws : goal.returns-then-is_kind-2-clause-draws
returns-then-is_kind-2-clause-draws c =
    let (room, row) = c.requires in
    pairs_applied c.args.index.deck row (sym c.is_emptied.ensures ∙ c.if-is_emptied.false) (search rules) c.apply_pairs.ensures.draws

pub apply_plain-requires : goal.apply_plain-requires
apply_plain-requires c = fine (goal.at.apply_plain-requires c).Start

pub returns-else-is_kind-2-clause-draws : goal.returns-else-is_kind-2-clause-draws
returns-else-is_kind-2-clause-draws c =
    let (room, row) = c.requires in
    plain_applied c.args.index.deck row (search rules) (search rules) c.apply_plain.ensures.does
