-- `count_definitions` meets its contract, whatever the links are. Invariant: the rows of the numbers before x are counted, at most three each.
-- Assumes nothing.
use Prim.Native.Nat.{ℕ, ◌*◌, ◌-◌, ◌≤◌}
use mathlib.Core.Path.{◌≡◌}
use mathlib.Core.List.{List}
use lib.ListN.{length}
use Rattle.semantics.specs.Limits.{number_least}
use Rattle.chains.specs.declared.WordStarts.{WordStarts}
use Rattle.source.specs.Lines.{definitions_to}
use Rattle.source.proofs.Definitions.{with_roles}
use Rattle.source.proofs.text.count_definitions.Given as goal

abbrev pub invariant-loop-x : goal.invariant-loop-x
invariant-loop-x l =
    (number_least ≤ l.x) × (l.x - number_least ≤ l.used - number_least) ×
    ((roles : WordStarts) (links : List ℕ) → l.count ≡ length (definitions_to l.fn.text (with_roles l.concepts roles links) (l.x - number_least))) × (l.count ≤ 3 * (l.x - number_least))
