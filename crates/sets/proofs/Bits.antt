-- The bits of a number.
--     bit_or_lem, bit_and_lem, bit_xor_lem, bit_zero, bit_pow     the bits of what the machine computes
--     bit_ext                                                     numbers with the same bits are equal
--     bit_top                                                     the bit that `count_leading_zeros` finds
-- Assumes nothing.
use mathlib.Core.Path.{◌≡◌, refl, sym, ap, ◌∙◌}
use mathlib.Core.Bool.{Bool, true, false, xor, ◌||◌, ◌&&◌, true≢false, false≢true}
use Prim.Native.Nat.{ℕ, zero, suc, ◌+◌, ◌-◌, ◌*◌, ◌/◌, ◌%◌, ◌^◌, ◌<◌, max, min, suc-le-suc}
use native.Mathlib.Nat.{zero-div, zero-lt-suc, div-one}
use native.Mathlib.Numerals.{one-add}
use native.Mathlib.Omega.{arith}
use lib.Arith.{lt-one}
use lib.Bits.{bit_or, bit_and, bit_xor, differ, or_shr, or_step, and_shr, and_step, xor_shr, xor_step}
use lib.Count.{count_leading_zeros, leading_top}
use lib.Dec.{eqb, eqb-zero-suc, eqb-suc-zero, eqb-suc-suc}
use lib.Pow.{shr-shr, high}
use Rattle.semantics.specs.Set.{bit}

-- A binary digit is 0 or 1.
digit_cases : (P : ℕ → Type 0) → P 0 → P 1 → (x : ℕ) → P (x % 2)
digit_cases P p q x = go (x % 2) (omega arith)
  where
    go : (d : ℕ) → d < 2 → P d
    go zero l = p
    go (suc zero) l = q
    go (suc (suc d)) l = absurd (omega arith)

digits_cases : (P : ℕ → ℕ → Type 0) → P 0 0 → P 0 1 → P 1 0 → P 1 1 → (v w : ℕ) → P (v % 2) (w % 2)
digits_cases P p q r s v w = digit_cases (λ d. P d (w % 2)) (digit_cases (P 0) p q w) (digit_cases (P 1) r s w) v

-- An operation that goes digit by digit does to each bit what it does to the digits 0 and 1.
module _ (op digit : ℕ → ℕ → ℕ) (on : Bool → Bool → Bool)
    (shr : (v w k : ℕ) → op v w / 2 ^ k ≡ op (v / 2 ^ k) (w / 2 ^ k))
    (step : (v w : ℕ) → op v w ≡ op (v / 2) (w / 2) * 2 + digit (v % 2) (w % 2)) where
  abbrev At : ℕ → ℕ → Type 0
  At c d = eqb (digit c d % 2) 1 ≡ on (eqb c 1) (eqb d 1)

  bit_digits : At 0 0 → At 0 1 → At 1 0 → At 1 1 → (v w k : ℕ) → bit (op v w) k ≡ on (bit v k) (bit w k)
  unfolding bit
  bit_digits p q r s v w k =
      let low : op (v / 2 ^ k) (w / 2 ^ k) % 2 ≡ digit (v / 2 ^ k % 2) (w / 2 ^ k % 2) % 2 = omega (arith, step (v / 2 ^ k) (w / 2 ^ k)) in
      rw (shr v w k, low) (digits_cases At p q r s (v / 2 ^ k) (w / 2 ^ k))

pub bit_or_lem : (v w k : ℕ) → bit (bit_or v w) k ≡ (bit v k || bit w k)
bit_or_lem = bit_digits bit_or max ◌||◌ or_shr or_step refl refl refl refl

pub bit_and_lem : (v w k : ℕ) → bit (bit_and v w) k ≡ (bit v k && bit w k)
bit_and_lem = bit_digits bit_and min ◌&&◌ and_shr and_step refl refl refl refl

pub bit_xor_lem : (v w k : ℕ) → bit (bit_xor v w) k ≡ xor (bit v k) (bit w k)
unfolding xor
bit_xor_lem = bit_digits bit_xor differ xor xor_shr xor_step refl refl refl refl

pub bit_zero : (k : ℕ) → bit 0 k ≡ false
unfolding bit
bit_zero k = rw (zero-div (2 ^ k))

pub bit_suc : (w k : ℕ) → bit w (suc k) ≡ bit (w / 2) k
unfolding bit
bit_suc w k = rw (← one-add k, ← shr-shr w 1 k)

-- A power of two has one bit.
pub bit_pow : (j k : ℕ) → bit (2 ^ j) k ≡ eqb j k
unfolding bit
bit_pow zero zero = refl
bit_pow zero (suc k) = bit_suc 1 k ∙ bit_zero k ∙ sym (eqb-zero-suc k)
bit_pow (suc j) zero =
    let even : 2 ^ suc j / 2 ^ 0 % 2 ≡ 0 = omega arith in
    rw (even, eqb-suc-zero j)
bit_pow (suc j) (suc k) =
    let half : 2 ^ suc j / 2 ≡ 2 ^ j = omega arith in
    rw (bit_suc (2 ^ suc j) k, half, bit_pow j k, eqb-suc-suc j k)

bit_low : (v w : ℕ) → bit v 0 ≡ bit w 0 → v % 2 ≡ w % 2
unfolding bit
bit_low v w e =
    digits_cases (λ c d. eqb c 1 ≡ eqb d 1 → c ≡ d) (λ e. refl) (λ e. absurd (false≢true e)) (λ e. absurd (true≢false e)) (λ e. refl)
    v w (rw (div-one v, div-one w) at e)

-- Two numbers of k bits are equal if their bits are.
pub bit_ext : (k v w : ℕ) → v < 2 ^ k → w < 2 ^ k → ((j : ℕ) → j < k → bit v j ≡ bit w j) → v ≡ w
bit_ext zero v w p q same = lt-one p ∙ sym (lt-one q)
bit_ext (suc k) v w p q same =
    let low : v % 2 ≡ w % 2 = bit_low v w (same 0 (zero-lt-suc k)) in
    let high : v / 2 ≡ w / 2 =
    bit_ext k (v / 2) (w / 2) (omega arith) (omega arith) (λ j l. sym (bit_suc v j) ∙ same (suc j) (suc-le-suc l) ∙ bit_suc w j) in
    omega arith

-- A number of k digits that is not 0 has the bit below its leading zeros.
pub bit_top : (k v : ℕ) → 0 < v → v < 2 ^ k → (count_leading_zeros k v < k) × (bit v (k - 1 - count_leading_zeros k v) ≡ true)
unfolding bit
bit_top k v p h =
    let top = leading_top k v p h in
    let place : k - 1 - count_leading_zeros k v ≡ top.0 = omega (arith, top.1) in
    let rest : v ≡ 1 * 2 ^ top.0 + (v - 2 ^ top.0) = omega (arith, top.2) in
    let one : v / 2 ^ top.0 ≡ 1 = ap (λ x. x / 2 ^ top.0) rest ∙ high 1 top.0 (omega (arith, top.2, top.3)) in
    (omega (arith, top.1), rw (place, one))
