-- `write_definitions` meets its contract. Invariant: the rows of the numbers before x are written.
-- Assumes nothing.
use Prim.Native.Nat.{◌-◌, ◌≤◌}
use mathlib.Core.List.{map}
use Rattle.semantics.specs.Limits.{number_least}
use Rattle.semantics.specs.Row.{pack}
use Rattle.names.specs.Lent.{state_of}
use Rattle.source.specs.Lines.{definitions_to}
use Rattle.copying.specs.Written.{Appended}
use Rattle.definitions.proofs.write_definitions.Given as goal

abbrev pub invariant-loop-x : goal.invariant-loop-x
invariant-loop-x l =
    (number_least ≤ l.x) × (l.x - number_least ≤ l.used - number_least) ×
    Appended (map pack (definitions_to l.fn.text (state_of l.fn.names l.links) (l.x - number_least))) l.at l.initial.rows l.rows l.next
