-- `included` meets its contract: nothing is left of the set without the other's members. Assumes nothing.
use Rattle.picking.proofs.Without.{none_without}
use Rattle.picking.proofs.included.Goals as goal

pub returns : goal.returns
returns c = none_without _ _ _ c.minus.ensures c.is_empty.result c.is_empty.ensures
