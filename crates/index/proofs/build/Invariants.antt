-- `build` meets its contract. Invariant: the slots below s are linked.
-- Assumes nothing.
use Rattle.index.specs.Index.{key_count, slot_key, Linked}
use Rattle.index.proofs.build.Given as goal

abbrev pub invariant-loop-s : goal.invariant-loop-s
invariant-loop-s l = Linked (slot_key l.rows) key_count l.s l.heads l.links
