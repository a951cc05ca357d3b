-- `reply_to` meets its contract. Invariant: every query with the left a has its result or is still to come.
-- Assumes nothing.
use mathlib.Core.Path.{◌≡◌}
use Rattle.results.specs.Found.{found_rank, found_root}
use Rattle.queries.proofs.Visiting.{Replying}
use Rattle.queries.proofs.reply_to.Given as goal

abbrev pub invariant-loop-i : goal.invariant-loop-i
invariant-loop-i l =
    (l.i-iterator.index ≡ l.index) × (l.i-iterator.key ≡ l.a)
    × Replying l.index.rows.now l.a (found_rank l.found) (found_root l.found) l.i-iterator.slot l.initial.results l.results
