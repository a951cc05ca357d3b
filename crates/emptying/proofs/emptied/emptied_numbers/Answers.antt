use Rattle.emptying.proofs.Growth.{emptied_set, round_less}
use Rattle.emptying.proofs.emptied.emptied_numbers.Goals as goal

pub returns-then-included : goal.returns-then-included
returns-then-included c =
    let same = rw c.if-included.true at c.included.ensures in
    emptied_set c.requires.0 c.loop-next.invariant c.follow_roles-next.ensures same

pub loop-next-smaller : goal.loop-next-smaller
loop-next-smaller c =
    let more = rw c.if-included.false at c.included.ensures in
    round_less c.requires.0 c.loop-next.invariant c.follow_roles-next.ensures more
