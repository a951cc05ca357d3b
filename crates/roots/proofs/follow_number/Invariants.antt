-- `follow_number` meets its contract. Invariant: the rows of the slots from the visit's on are satisfied.
-- Assumes nothing.
use Prim.Native.Nat.{◌<◌}
use mathlib.Core.Path.{◌≡◌}
use Rattle.semantics.specs.Limits.{number_limit}
use Rattle.roots.proofs.Visiting.{Visiting}
use Rattle.roots.proofs.follow_number.Given as goal

abbrev pub invariant-loop-i : goal.invariant-loop-i
invariant-loop-i l =
    (l.i-iterator.index ≡ l.settling.index)
    × Visiting l.settling.index.n l.k l.settling.index.rows.now l.settling.levels.now l.settling.table.now l.b
    l.initial.root.set.words l.initial.root.dirty.words l.root.set.words l.root.dirty.words l.i-iterator.slot
    × (l.root.from < number_limit)
