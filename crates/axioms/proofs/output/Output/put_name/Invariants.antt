-- `put_name` meets its contract. Invariant: the bytes before this one are written. Assumes nothing.
use mathlib.Core.Path.{◌≡◌}
use lib.ListN.{take}
use Rattle.copying.specs.Written.{Appended}
use Rattle.axioms.proofs.output.Output.put_name.Given as goal

abbrev pub invariant-loop-b : goal.invariant-loop-b
invariant-loop-b l =
    Appended (take l.b-index l.name) l.initial.self.size l.initial.self.bytes.now l.self.bytes.now l.self.size × (l.self.bytes.ghost_name ≡ l.initial.self.bytes.ghost_name)
