-- `put_right` meets its contract: the place is that of the number's right. Assumes nothing.
use mathlib.Core.Path.{ap, ◌∙◌}
use Rattle.names.specs.Lent.{state_by}
use Rattle.names.proofs.Parts.{state_right}
use Rattle.names.proofs.sides.put_right.Goals as goal

pub returns : goal.returns
returns c words =
    ap (state_by words) c.put_entry.ensures ∙ state_right words c.args.links.now c.args.number c.args.right c.requires
