-- What it is to be an active row, and how far up one is.
--     active_at                    at each level below one at which it is active, and above that up to its own
--     active_above, active_below   at the level above k just where it is active at k and its own level is above k
--     inactive_above, not_above    and not there otherwise
-- Assumes nothing.
use Prim.Native.Nat.{ℕ, ◌+◌, ◌<◌, ◌≤◌}
use native.Mathlib.Omega.{arith}
use mathlib.Core.Path.{◌≡◌, refl, sym, ◌∙◌}
use mathlib.Core.Bool.{Bool, true, false, ◌&&◌, false≢true}
use lib.Dec.{eqb, leb, ltb}
use borrow.Author.Tests.{leb-true, ltb-true, le-leb, lt-ltb}
use Rattle.semantics.specs.Row.{defeasible_kind, kind_of}
use Rattle.semantics.proofs.Tests.{both}
use Rattle.normal.specs.Rules.{infinite, is_active}

pub record IsActive (k w l : ℕ) : Type 0 where
  pub kind : eqb (kind_of w) defeasible_kind ≡ true
  pub from : k ≤ l
  pub live : l < infinite

pub active_is : (k w l : ℕ) → is_active k w l ≡ true → IsActive k w l
active_is k w l h =
    let (kind, h') = both (eqb (kind_of w) defeasible_kind) (leb k l && ltb l infinite) h in
    let (from, live) = both (leb k l) (ltb l infinite) h' in
    record { kind = kind; from = leb-true k l from; live = ltb-true l infinite live }

pub is_active_lem : (k w l : ℕ) → IsActive k w l → is_active k w l ≡ true
is_active_lem k w l a = rw (a.kind, le-leb k l a.from, lt-ltb l infinite a.live)

-- a row that is active at a level is so at each below it, and above it up to its own
pub active_at : (j k w l : ℕ) → is_active k w l ≡ true → j ≤ l → is_active j w l ≡ true
active_at j k w l h le = let a = active_is k w l h in is_active_lem j w l (record { kind = a.kind; from = le; live = a.live })

pub active_above : (k w l : ℕ) → is_active k w l ≡ true → k < l → is_active (k + 1) w l ≡ true
active_above k w l h lt = active_at (k + 1) k w l h (omega (arith, lt))

pub active_below : (k w l : ℕ) → is_active (k + 1) w l ≡ true → is_active k w l ≡ true
active_below k w l h = active_at k (k + 1) w l h (omega (arith, (active_is (k + 1) w l h).from))

pub not_active : (b : Bool) → (b ≡ true → ⊥) → b ≡ false
not_active true n = absurd (n refl)
not_active false n = refl

pub inactive_above : (k w l : ℕ) → is_active k w l ≡ false → is_active (k + 1) w l ≡ false
inactive_above k w l n = not_active (is_active (k + 1) w l) (λ h. false≢true (sym n ∙ active_below k w l h))

pub not_above : (k w l : ℕ) → l ≤ k → is_active (k + 1) w l ≡ false
not_above k w l le = not_active (is_active (k + 1) w l) (λ h. omega (arith, le, (active_is (k + 1) w l h).from))
