-- `exceptional_lefts` meets its contract. Invariant: `Looking`. Measure: the lefts that are still to be looked at.
-- Assumes nothing.
use Prim.Native.Nat.{◌<◌}
use Rattle.semantics.specs.Limits.{number_limit}
use Rattle.picking.specs.Size.{size}
use Rattle.roots.specs.Found.{strict_of}
use Rattle.pass.specs.Levels.{at_level}
use Rattle.pass.proofs.Lefts.{Looking}
use Rattle.pass.proofs.exceptional.exceptional_lefts.Given as goal

abbrev pub invariant-loop-a : goal.invariant-loop-a
invariant-loop-a l =
    Looking l.settling.index.n (strict_of l.settling) (at_level l.settling.index.rows.now l.settling.levels.now l.k) l.lefts.words l.known.words l.unknown.words × (l.from < number_limit)

abbrev pub decreases-loop-a : goal.decreases-loop-a
decreases-loop-a l = size l.unknown.words number_limit
