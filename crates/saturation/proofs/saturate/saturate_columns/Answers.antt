-- `saturate_columns` meets its contract: columns that are closed and spread have exactly the consequences.
-- Assumes nothing.
use mathlib.Core.Path.{◌∙◌}
use Rattle.saturation.proofs.Closed.{closed_columns}
use Rattle.saturation.proofs.Spreading.{spread_of}
use Rattle.saturation.proofs.saturate.saturate_columns.Goals as goal

pub returns : goal.returns
returns c =
    let (seeded, closed, long) = c.drain.ensures in
    let spread = c.join_columns.ensures in
    (closed_columns (spread_of c.row-bottom.ensures spread) c.args.index.deck seeded closed, spread.length_kept ∙ long)
