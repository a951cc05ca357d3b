-- `begin` meets its contract: what is cleared has the start of the columns.
-- Assumes nothing.
use native.Mathlib.Omega.{arith}
use Rattle.columns.proofs.Starting.{started_seeded}
use Rattle.workspace.proofs.begin.Goals as goal

pub saturate_columns-requires : goal.saturate_columns-requires
saturate_columns-requires c =
    let begun = c.start.ensures in
    (omega (arith, c.requires.columns_room, begun.1), started_seeded c.args.index.deck.numbers begun.0)
