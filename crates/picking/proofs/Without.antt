-- A word without the bits of another, as the machine computes it: `(v | w) ^ w`.
--     bit_without_lem   its bits
--     has_clear_bit     clearing one bit takes one member away
--     none_without      where nothing is left of s without t, s is within t
-- Assumes nothing.
use Prim.Native.Nat.{ℕ, ◌+◌, ◌-◌, ◌*◌, ◌%◌, ◌^◌, ◌<◌}
use mathlib.Core.Path.{◌≡◌, refl, sym, ◌∙◌}
use mathlib.Core.Bool.{Bool, true, false, not, xor, ◌||◌, ◌&&◌, and-true}
use mathlib.Core.List.{List}
use lib.Bits.{bit_or, bit_xor}
use lib.Dec.{eqb}
use lib.ListN.{length, get_or, set}
use borrow.Author.Tests.{not-false}
use Rattle.semantics.specs.Closure.{Replies}
use Rattle.semantics.specs.Set.{bit, has}
use Rattle.semantics.proofs.Tests.{cases}
use Rattle.sets.specs.Members.{Included}
use Rattle.sets.proofs.Bits.{bit_or_lem, bit_xor_lem}
use Rattle.sets.proofs.Members.{has_put_bit}

abbrev pub bit_without : ℕ → ℕ → ℕ
bit_without v w = bit_xor (bit_or v w) w

or_xor : (p q : Bool) → xor (p || q) q ≡ (p && not q)
unfolding xor
or_xor true true = refl
or_xor true false = refl
or_xor false true = refl
or_xor false false = refl

pub bit_without_lem : (v w k : ℕ) → bit (bit_without v w) k ≡ (bit v k && not (bit w k))
bit_without_lem v w k = bit_xor_lem (bit_or v w) w k ∙ rw (bit_or_lem v w k) (or_xor (bit v k) (bit w k))

-- word k without `1 << e`
pub has_clear_bit : (words : List ℕ) (k e c : ℕ) → k < length words → e < 64
    → has (set words k (bit_without (get_or words k 0) ((1 * 2 ^ e) % 2 ^ 64))) c ≡ (has words c && not (eqb (64 * k + (63 - e)) c))
has_clear_bit = has_put_bit bit_without (λ p q. p && not q) bit_without_lem and-true

module _ (s t left : List ℕ) (is : (c : ℕ) → has left c ≡ (has s c && not (has t c))) where
  pub none_without : (b : Bool) → Replies b ((c : ℕ) → has left c ≡ false) → Replies b (Included s t)
  none_without true none = record { kept = λ c h. not-false (has t c) (rw h at (sym (is c) ∙ none c)) }
  none_without false some = λ within. some (λ c. is c ∙ cases (has s c) (λ h. rw (h, within.kept c h)) (λ h. rw h))
