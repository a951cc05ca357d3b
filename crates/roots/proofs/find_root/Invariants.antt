-- `find_root` meets its contract. Invariant: the set grows, and each row is satisfied. Measure: the numbers that are not followed yet.
-- Assumes nothing.
use Prim.Native.Nat.{◌<◌}
use Rattle.semantics.specs.Limits.{number_limit}
use Rattle.roots.proofs.Roots.{Rooted}
use Rattle.roots.proofs.Unfollowed.{unfollowed}
use Rattle.roots.proofs.find_root.Given as goal

abbrev pub invariant-loop-known : goal.invariant-loop-known
invariant-loop-known l = Rooted l.settling.index.n l.k l.settling.index.rows.now l.settling.levels.now l.settling.table.now l.a l.root.set.words l.root.dirty.words × (l.root.from < number_limit)

abbrev pub decreases-loop-known : goal.decreases-loop-known
decreases-loop-known l = unfollowed l.root.set.words l.root.dirty.words number_limit
