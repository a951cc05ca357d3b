-- Measure of `read_concept`, `read_conjunction`, `read_existential` and `read_sides`, which call each other: three times the allowance, and up to two more for
-- those that read a concept with the same allowance.
use Prim.Native.Nat.{◌+◌, ◌*◌}
use Rattle.concepts.proofs.+reader.Given as goal

abbrev pub decreases-read_concept : goal.decreases-read_concept
decreases-read_concept l = 3 * l.allowance

abbrev pub decreases-read_conjunction : goal.decreases-read_conjunction
decreases-read_conjunction l = 3 * l.allowance + 2

abbrev pub decreases-read_existential : goal.decreases-read_existential
decreases-read_existential l = 3 * l.allowance + 1

abbrev pub decreases-read_sides : goal.decreases-read_sides
decreases-read_sides l = 3 * l.allowance + 1
