-- `row` meets its contract. Invariant: each word so far is the row's.
-- Assumes nothing.
use mathlib.Core.Path.{◌≡◌}
use Prim.Native.Nat.{ℕ, ◌+◌, ◌*◌, ◌<◌}
use lib.ListN.{length, get_or}
use Rattle.semantics.specs.Limits.{set_words}
use Rattle.tables.proofs.row.Given as goal

abbrev pub invariant-loop-i : goal.invariant-loop-i
invariant-loop-i l =
    (length l.s.words ≡ set_words) × ((j : ℕ) → j < l.i → get_or l.s.words j 0 ≡ get_or l.table (set_words * l.a + j) 0)
