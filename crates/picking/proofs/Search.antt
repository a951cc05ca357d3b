-- A search for a member, word after word, from a number on.
--     Searching   where it stands: at word k, of which `mask` takes what is left
-- Its laws: at the start (searching_none), where nothing is left of the word (searching_more), or of all words (searching_end), and where a bit is (searching_found).
-- Assumes nothing.
use mathlib.Core.Path.{◌≡◌, sym, ap, ◌∙◌}
use mathlib.Core.Bool.{true, false, and-true, true≢false}
use Rattle.std.proofs.Common.{None, Some}
use mathlib.Core.List.{List}
use Prim.Native.Nat.{ℕ, suc, ◌+◌, ◌-◌, ◌*◌, ◌/◌, ◌%◌, ◌^◌, ◌≤◌, ◌<◌}
use native.Mathlib.Decide.{dec_lt, ℕ_discrete}
use native.Mathlib.Omega.{arith}
use lib.Bits.{bit_and}
use lib.Count.{count_leading_zeros}
use lib.ListN.{length, get_or}
use lib.Pow.{shr-shr, ones_split, ones_lt, high}
use Rattle.semantics.specs.Set.{bit, has}
use Rattle.sets.proofs.Bits.{bit_and_lem, bit_zero, bit_top}
use Rattle.sets.proofs.Members.{has_past}
use Rattle.picking.specs.Search.{MemberFrom}

-- the lowest 64 - e bits are those of `u64::MAX >> e`
mask_bit : (e j : ℕ) → e + j < 64 → bit ((2 ^ 64 - 1) / 2 ^ e) j ≡ true
unfolding bit
mask_bit e j h =
    let m : ℕ = e + j in
    let top : ℕ = 63 - m in
    let all : 2 ^ (suc top + m) - 1 ≡ (2 ^ suc top - 1) * 2 ^ m + (2 ^ m - 1) = ones_split (suc top) m in
    let width : suc top + m ≡ 64 = omega arith in
    let shifted : (2 ^ 64 - 1) / 2 ^ m ≡ 2 ^ suc top - 1 = ap (λ v. v / 2 ^ m) (rw width at all) ∙ high (2 ^ suc top - 1) m (ones_lt m) in
    let odd : (2 ^ suc top - 1) % 2 ≡ 1 = omega (arith, ones_lt top) in
    rw (shr-shr (2 ^ 64 - 1) e j, shifted, odd)

pub record Searching (W : ℕ) (words : List ℕ) (from k mask : ℕ) : Type 0 where
  pub before : (c : ℕ) → from ≤ c → c / 64 < k → has words c ≡ false
  pub here : (c : ℕ) → from ≤ c → c / 64 ≡ k → bit mask (63 - c % 64) ≡ true

module _ {W : ℕ} {words : List ℕ} {from : ℕ} where
  pub searching_none : Searching W words from (from / 64) ((2 ^ 64 - 1) / 2 ^ (from % 64))
  searching_none = record {
    before = λ c le h. absurd (omega arith);
    here = λ c le e. mask_bit (from % 64) (63 - c % 64) (omega arith);
  }

  module _ {k mask : ℕ} (s : Searching W words from k mask) where
    -- Nothing is left of word k.
    pub searching_more : bit_and (get_or words k 0) mask ≡ 0 → Searching W words from (k + 1) (2 ^ 64 - 1)
    unfolding has
    searching_more none = record {
      before = λ c le h. elim (ℕ_discrete (c / 64) k) [
        | yes e ↦ rw e (sym (and-true _) ∙ rw (← s.here c le e) (sym (bit_and_lem _ _ _) ∙ rw none (bit_zero (63 - c % 64))))
        | no n ↦ s.before c le (omega arith)
      ];
      here = λ c le e. mask_bit 0 (63 - c % 64) (omega arith);
    }

    pub searching_end : length words ≡ W → W ≤ k → MemberFrom (64 * W) words from None
    searching_end l end = record {
      member = tt;
      none = λ h c le. elim (dec_lt (c / 64) W) [ yes b ↦ s.before c le (omega arith) | no b ↦ has_past words c (omega arith) ];
    }

  -- The bit below the leading zeros of what is left of word k is a member's.
  pub searching_found : {k w : ℕ} → k < W → w < 2 ^ 64 → ((j : ℕ) → bit w j ≡ true → bit (get_or words k 0) j ≡ true) → 0 < w
      → MemberFrom (64 * W) words from (Some (64 * k + count_leading_zeros 64 w))
  unfolding has
  searching_found {k} {w} inside fits part p =
      let top = bit_top 64 w p fits in
      let r = 64 * k + count_leading_zeros 64 w in
      let word : r / 64 ≡ k = omega (arith, top.0) in
      let place : 63 - r % 64 ≡ 64 - 1 - count_leading_zeros 64 w = omega (arith, top.0) in
      record {
        member = (omega (arith, top.0, inside), rw (word, place) (part _ top.1));
        none = λ e. absurd (true≢false e);
      }
