-- The loop that links slot after slot, for any keys.
-- Assumes nothing.
use Prim.Native.Nat.{ℕ, ◌+◌, ◌-◌, ◌≤◌, ◌<◌}
use native.Mathlib.Decide.{dec_lt, ℕ_discrete}
use native.Mathlib.Omega.{arith}
use mathlib.Core.Path.{◌≡◌, sym, ◌∙◌, ap}
use mathlib.Core.List.{List}
use lib.ListN.{length, get_or, set, length-set}
use lib.Seq.{get_or-set_same, get_or-set_other}
use Rattle.index.specs.Index.{Latest, Linked}

-- ---- the last slot

-- Slot k itself.
latest_this : (key : ℕ → ℕ) (k : ℕ) → Latest key (key k) (k + 1) (k + 1)
latest_this key k =
    let this : k + 1 - 1 ≡ k = omega arith in
    record { within = omega arith; keyed = λ h. ap key this; last = λ t h e. h }

-- Slot k has another key.
latest_other : {key : ℕ → ℕ} {x k v : ℕ} → (key k ≡ x → ⊥) → Latest key x k v → Latest key x (k + 1) v
latest_other {key} {x} {k} n l = record {
  within = omega (arith, l.within);
  keyed = l.keyed;
  last = λ t h e. elim (ℕ_discrete t k) [ yes q ↦ absurd (n (ap key (sym q) ∙ e)) | no q ↦ l.last t (omega arith) e ];
}

latest_le : {key : ℕ → ℕ} {x k v w : ℕ} → Latest key x k v → Latest key x k w → v ≤ w
latest_le {v} l m = elim (dec_lt 0 v) [ yes h ↦ omega (arith, m.last (v - 1) (omega (arith, l.within)) (l.keyed h)) | no n ↦ omega arith ]

-- There is one, so `Indexed` fixes every head and every link.
pub latest_unique : {key : ℕ → ℕ} {x k v w : ℕ} → Latest key x k v → Latest key x k w → v ≡ w
latest_unique l m = omega (arith, latest_le l m, latest_le m l)

-- ---- all of them

-- Slot k gets the last slot of its key, and becomes that.
pub linked_more : {key : ℕ → ℕ} {keys k : ℕ} {heads links : List ℕ} {x : ℕ} → x ≡ key k → x < keys → k < length links → Linked key keys k heads links
    → Linked key keys (k + 1) (set heads x (k + 1)) (set links k (get_or heads x 0))
linked_more {key} {keys} {k} {heads} {links} {x} at small room l = record {
  heads_room = rw (length-set heads x (k + 1)) l.heads_room;
  links_room = rw (length-set links k (get_or heads x 0)) (omega arith);
  head = λ y h. elim (ℕ_discrete y x) [
    | yes q ↦ rw (q, get_or-set_same heads x (k + 1) 0 (omega (arith, l.heads_room)), at) (latest_this key k)
    | no q ↦ rw (get_or-set_other heads x y (k + 1) 0 q) (latest_other (λ e. q (sym e ∙ sym at)) (l.head y h))
  ];
  link = λ s h. elim (ℕ_discrete s k) [
    | yes q ↦ rw (q, get_or-set_same links k (get_or heads x 0) 0 room, ← at) (l.head x small)
    | no q ↦ rw (get_or-set_other links k s (get_or heads x 0) 0 q) (l.link s (omega arith))
  ];
}
