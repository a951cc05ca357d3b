-- Active rows by their levels, and how one level's rows are a part of another's.
-- Assumes nothing.
use Prim.Native.Nat.{ℕ, ◌≤◌}
use native.Mathlib.Omega.{arith}
use mathlib.Core.Path.{◌≡◌}
use mathlib.Core.Bool.{true, false}
use mathlib.Core.List.Memᴰ
use mathlib.Core.List.{List}
use lib.ListN.{length, get_or}
use borrow.Author.Tests.{ne_eqb}
use Rattle.semantics.specs.Saturated.{between}
use Rattle.semantics.proofs.Consequence.{PartOf}
use Rattle.normal.specs.Rules.{infinite, is_active, is_stuck, active}
use Rattle.normal.proofs.Selected.{selected_index, selected_member}
use Rattle.normal.proofs.Active.{active_is, active_at}
use Rattle.pass.specs.Levels.{at_level}

-- a row that is active is not stuck
pub live_not_stuck : (k w l : ℕ) → is_active k w l ≡ true → is_stuck w l ≡ false
live_not_stuck k w l a = let h = active_is k w l a in rw (h.kind, ne_eqb l infinite (λ e. omega (arith, h.live)))

-- E(k) is part of E(j) where j ≤ k
pub level_part : (words levels : List ℕ) → length words ≤ length levels → (j k : ℕ) → j ≤ k → PartOf (at_level words levels k) (at_level words levels j)
level_part words levels long j k le ρ m =
    let (p, mp, e) = Memᴰ.of_map between (active k words levels) m in
    let s = selected_index (is_active k) words levels mp in
    let w = get_or words s.index 0 in
    let l = get_or levels s.index 0 in
    let t = active_at j k w l s.taken (omega (arith, (active_is k w l s.taken).from)) in
    let r = selected_member (is_active j) words levels long s.index s.within t in
    rw (← e, ← s.is) (Memᴰ.map between r)
