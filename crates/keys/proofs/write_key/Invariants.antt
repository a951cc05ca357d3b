-- `write_key` meets its contract. Invariant: of the key is written what the rows say that went by, and the others' rows and results are left.
-- Assumes nothing.
use Rattle.keys.specs.Key.{key_of}
use Rattle.keys.proofs.Keys.{Keying}
use Rattle.keys.proofs.write_key.Given as goal

abbrev pub invariant-loop-row : goal.invariant-loop-row
invariant-loop-row l = Keying (key_of l.lines l.rows l.answers) l.row-iterator.a.rest.now l.row-iterator.b.rest.now l.initial.key l.key l.count
