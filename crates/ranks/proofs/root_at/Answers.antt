-- `root_at` meets its contract: what is known of level j is what `find_root` asks for.
-- Assumes nothing.
use Rattle.pass.proofs.Lefts.{above_known}
use Rattle.ranks.proofs.root_at.Goals as goal

pub find_root-requires : goal.find_root-requires
find_root-requires c =
    let pre = c.requires in
    (pre.0, pre.2, c.lefts_at-lefts.ensures.active.has_lefts, above_known pre.1 c.lefts_at-lefts.ensures.above c.add.ensures)
