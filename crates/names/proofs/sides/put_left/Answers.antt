-- `put_left` meets its contract: the place is that of the number's left. Assumes nothing.
use mathlib.Core.Path.{ap, ◌∙◌}
use Rattle.names.specs.Lent.{state_by}
use Rattle.names.proofs.Parts.{state_left}
use Rattle.names.proofs.sides.put_left.Goals as goal

pub returns : goal.returns
returns c words =
    ap (state_by words) c.put_entry.ensures ∙ state_left words c.args.links.now c.args.number c.args.left c.requires
