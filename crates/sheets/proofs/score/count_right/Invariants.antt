-- `count_right` meets its contract. Invariant: what is right of the pairs so far.
-- Assumes nothing.
use Rattle.std.proofs.Common.{◌≡◌, ◌==◌, ◌≤◌, length, count_by, ℕ, take}
use Rattle.std.specs.List.{zip}
use Rattle.sheets.proofs.score.count_right.Given as goal

abbrev pub invariant-loop-reply : goal.invariant-loop-reply
invariant-loop-reply l = (l.right ≡ count_by (λ (p : ℕ × ℕ). p.0 == p.1) (take (length l.yielded) (zip l.key l.sheet))) × (l.right ≤ length l.yielded)
