-- The lowest bit of a number, and the number without it.
-- Assumes nothing.
use Prim.Native.Nat.{ℕ, zero, suc, ◌-◌, ◌*◌, ◌/◌, ◌%◌, ◌^◌, ◌<◌}
use native.Mathlib.Decide.{ℕ_discrete}
use native.Mathlib.Nat.{add-zero}
use native.Mathlib.Omega.{arith}
use mathlib.Core.Path.{◌≡◌, sym, ◌∙◌}
use mathlib.Core.Bool.{true, false, not, ◌&&◌, and-true, and-false}
use lib.Bits.{bit_and, and_step, and_self}
use lib.Count.{count_trailing_zeros}
use lib.Dec.{eqb, eqb-zero-suc, eqb-suc-suc}
use Rattle.semantics.specs.Set.{bit}
use Rattle.sets.proofs.Bits.{bit_suc}

-- bit t is the lowest of v, and w is v without it
pub record Lowest (k v t w : ℕ) : Type 0 where
  pub small : t < k
  pub set : bit v t ≡ true
  pub rest : (j : ℕ) → bit w j ≡ (bit v j && not (eqb t j))

-- ---- bit by bit

bit_even : (v : ℕ) → v % 2 ≡ 0 → bit v 0 ≡ false
unfolding bit
bit_even v e = let low : v / 2 ^ 0 % 2 ≡ 0 = omega arith in rw low

bit_odd : (v : ℕ) → v % 2 ≡ 1 → bit v 0 ≡ true
unfolding bit
bit_odd v e = let low : v / 2 ^ 0 % 2 ≡ 1 = omega arith in rw low

-- Half of w is what it should be for half of v, and w is even.
module _ {k v w : ℕ} where
  lowest_odd : v % 2 ≡ 1 → w ≡ v / 2 * 2 → Lowest (suc k) v 0 w
  lowest_odd odd is = record { small = omega arith; set = bit_odd v odd; rest = at }
    where
      at : (j : ℕ) → bit w j ≡ (bit v j && not (eqb 0 j))
      at zero = bit_even w (omega arith) ∙ sym (and-false (bit v 0))
      at (suc j) =
          let half : w / 2 ≡ v / 2 = omega arith in
          bit_suc w j ∙ rw (half, eqb-zero-suc j, bit_suc v j) (sym (and-true (bit (v / 2) j)))

  lowest_even : {t : ℕ} → v % 2 ≡ 0 → w % 2 ≡ 0 → Lowest k (v / 2) t (w / 2) → Lowest (suc k) v (suc t) w
  lowest_even {t} even even' l = record { small = omega (arith, l.small); set = bit_suc v t ∙ l.set; rest = at }
    where
      at : (j : ℕ) → bit w j ≡ (bit v j && not (eqb (suc t) j))
      at zero = bit_even w even' ∙ rw (bit_even v even)
      at (suc j) = bit_suc w j ∙ l.rest j ∙ rw (bit_suc v j, eqb-suc-suc t j)

-- `v & (v - 1)`, by the lowest digit of v
and_odd : (v : ℕ) → v % 2 ≡ 1 → bit_and v (v - 1) ≡ v / 2 * 2
and_odd v odd =
    let half : (v - 1) / 2 ≡ v / 2 = omega arith in
    let low : (v - 1) % 2 ≡ 0 = omega arith in
    and_step v (v - 1) ∙ rw (half, low, odd, and_self (v / 2)) (add-zero (v / 2 * 2))

and_even : (v : ℕ) → 0 < v → v % 2 ≡ 0 → bit_and v (v - 1) ≡ bit_and (v / 2) (v / 2 - 1) * 2
and_even v some even =
    let half : (v - 1) / 2 ≡ v / 2 - 1 = omega arith in
    let low : (v - 1) % 2 ≡ 1 = omega arith in
    and_step v (v - 1) ∙ rw (half, low, even) (add-zero (bit_and (v / 2) (v / 2 - 1) * 2))

twice_half : (x y : ℕ) → y ≡ x * 2 → (y / 2 ≡ x) × (y % 2 ≡ 0)
twice_half x y e = (omega arith, omega arith)

-- It is v without its lowest bit, which stands above the trailing zeros.
pub lowest : (k v : ℕ) → 0 < v → v < 2 ^ k → Lowest k v (count_trailing_zeros k v) (bit_and v (v - 1))
unfolding count_trailing_zeros
lowest zero v p h = absurd (omega arith)
lowest (suc k) v p h = elim (ℕ_discrete (v % 2) 0) [
  | yes even ↦
      let (half, low) = twice_half _ _ (and_even v p even) in
      rw even (lowest_even even low (rw half (lowest k (v / 2) (omega arith) (omega arith))))
  | no n ↦ let odd : v % 2 ≡ 1 = omega arith in rw odd (lowest_odd odd (and_odd v odd))
]
