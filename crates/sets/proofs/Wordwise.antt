-- Two sets of W words taken together, word by word.
--     each_more      a loop over the words, after one more
--     wordwise_has   what the new set has, where each of its words is `op` of those of the two sets
-- Assumes nothing.
use mathlib.Core.Path.{◌≡◌, sym, ap₂, ◌∙◌}
use mathlib.Core.Bool.{Bool, false}
use mathlib.Core.List.{List}
use Prim.Native.Nat.{ℕ, ◌+◌, ◌-◌, ◌/◌, ◌%◌, ◌<◌}
use native.Mathlib.Decide.{dec_lt, ℕ_discrete}
use native.Mathlib.Omega.{arith}
use lib.ListN.{length, get_or, set}
use lib.Seq.{get_or-set_same, get_or-set_other}
use Rattle.semantics.specs.Set.{bit, has}
use Rattle.sets.proofs.Members.{has_past}

pub each_more : (P : ℕ → ℕ → Type 0) (words : List ℕ) {k v : ℕ} → k < length words → P k v → ((j : ℕ) → j < k → P j (get_or words j 0))
    → (j : ℕ) → j < k + 1 → P j (get_or (set words k v) j 0)
each_more P words {k} {v} room this before j h =
    elim (ℕ_discrete j k) [
      | yes e ↦ rw (e, get_or-set_same words k v 0 room) this
      | no n ↦ rw (get_or-set_other words k j v 0 n) (before j (omega arith))
    ]

-- Where `op` does to each bit what `on` does, the members are those of `on`.
pub wordwise_has : (op : ℕ → ℕ → ℕ) (on : Bool → Bool → Bool) → ((v w k : ℕ) → bit (op v w) k ≡ on (bit v k) (bit w k)) → on false false ≡ false
    → {W : ℕ} (s t new : List ℕ) → length s ≡ W → length t ≡ W → length new ≡ W
    → ((k : ℕ) → k < W → get_or new k 0 ≡ op (get_or s k 0) (get_or t k 0)) → (b : ℕ) → has new b ≡ on (has s b) (has t b)
unfolding has
wordwise_has op on bits none {W} s t new l m n each b =
    elim (dec_lt (b / 64) W) [
      | yes h ↦ rw (each (b / 64) h) (bits (get_or s (b / 64) 0) (get_or t (b / 64) 0) (63 - b % 64))
      | no h ↦ has_past new b (omega arith) ∙ sym none ∙ sym (ap₂ on (has_past s b (omega arith)) (has_past t b (omega arith)))
    ]
