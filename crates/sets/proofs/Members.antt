-- The members of a set of any number of words, and how the machine changes them.
--     has_zeros, has_past   no member: of the empty set, and past the last word
--     has_set_bit           setting one bit adds one member
--     has_ext               sets of as many words with the same members are the same words
-- Assumes nothing.
use mathlib.Core.Path.{◌≡◌, refl, sym, ◌∙◌}
use mathlib.Core.Bool.{Bool, true, false, ◌||◌, ◌&&◌}
use mathlib.Core.List.{List}
use Prim.Native.Nat.{ℕ, zero, suc, ◌+◌, ◌-◌, ◌*◌, ◌/◌, ◌%◌, ◌^◌, ◌≤◌, ◌<◌}
use native.Mathlib.Nat.{one-mul}
use native.Mathlib.Decide.{ℕ_discrete}
use native.Mathlib.Omega.{arith}
use lib.Bits.{bit_or}
use lib.Dec.{eqb, lit<}
use lib.ListN.{length, get_or, set, replicate, get_or-eq_default}
use lib.Pow.{shl_exact}
use lib.Seq.{get_or-set_same, get_or-set_other, ext_get_or}
use borrow.Author.Tests.{eq-eqb, ne_eqb}
use Rattle.semantics.specs.Set.{bit, has, Are64}
use Rattle.sets.proofs.Bits.{bit_or_lem, bit_zero, bit_pow, bit_ext}

pub get_d_zeros : (W i : ℕ) → ◌≡◌ {A = ℕ} (get_or (replicate W 0) i 0) 0
get_d_zeros zero i = refl
get_d_zeros (suc W) zero = refl
get_d_zeros (suc W) (suc i) = get_d_zeros W i

pub has_zeros : (W b : ℕ) → has (replicate W 0) b ≡ false
unfolding has
has_zeros W b = rw (get_d_zeros W (b / 64)) (bit_zero (63 - b % 64))

pub has_past : (words : List ℕ) (b : ℕ) → 64 * length words ≤ b → has words b ≡ false
unfolding has
has_past words b h =
    let past : length words ≤ b / 64 = omega arith in
    rw (get_or-eq_default words 0 past) (bit_zero (63 - b % 64))

pub eqb_iff : (a b c d : ℕ) → (a ≡ b → c ≡ d) → (c ≡ d → a ≡ b) → eqb a b ≡ eqb c d
eqb_iff a b c d f g = elim (ℕ_discrete a b) [ yes e ↦ eq-eqb a b e ∙ sym (eq-eqb c d (f e)) | no n ↦ ne_eqb a b n ∙ sym (ne_eqb c d (λ e. n (g e))) ]

pub or_false : (t : Bool) → (t || false) ≡ t
or_false true = refl
or_false false = refl

pub and_true : (t : Bool) → (t && true) ≡ t
and_true true = refl
and_true false = refl

-- `op` of words[k] and `1 << e` in the place of `words[k]`, where `op` does to each bit what `on` does, and `on` keeps what stands beside a 0.
pub has_put_bit : (op : ℕ → ℕ → ℕ) (on : Bool → Bool → Bool) → ((v w j : ℕ) → bit (op v w) j ≡ on (bit v j) (bit w j)) → ((t : Bool) → on t false ≡ t)
    → (words : List ℕ) (k e c : ℕ) → k < length words → e < 64
    → has (set words k (op (get_or words k 0) ((1 * 2 ^ e) % 2 ^ 64))) c ≡ on (has words c) (eqb (64 * k + (63 - e)) c)
unfolding has
has_put_bit op on bits keeps words k e c h l =
    let one : (1 * 2 ^ e) % 2 ^ 64 ≡ 2 ^ e = shl_exact {a = 1} 1 e 64 (lit< tt) (omega arith) ∙ one-mul (2 ^ e) in
    let word : ℕ = op (get_or words k 0) (2 ^ e) in
    elim (ℕ_discrete (c / 64) k) [
      | yes at ↦ rw (
        one,
        at,
        get_or-set_same words k word 0 h,
        bits (get_or words k 0) (2 ^ e) (63 - c % 64),
        bit_pow e (63 - c % 64),
        eqb_iff e (63 - c % 64) (64 * k + (63 - e)) c (λ q. omega arith) (λ q. omega arith),
      )
      | no n ↦ rw (one, get_or-set_other words k (c / 64) word 0 n, ne_eqb (64 * k + (63 - e)) c (λ q. n (omega arith)))
          (sym (keeps (bit (get_or words (c / 64) 0) (63 - c % 64))))
    ]

-- `words[k] | (1 << e)` in the place of `words[k]`
pub has_set_bit : (words : List ℕ) (k e c : ℕ) → k < length words → e < 64
    → has (set words k (bit_or (get_or words k 0) ((1 * 2 ^ e) % 2 ^ 64))) c ≡ (has words c || eqb (64 * k + (63 - e)) c)
has_set_bit = has_put_bit bit_or ◌||◌ bit_or_lem or_false

-- Bit j of word i is a number's.
has_bit : (words : List ℕ) (i j : ℕ) → j < 64 → has words (64 * i + (63 - j)) ≡ bit (get_or words i 0) j
unfolding has
has_bit words i j m =
    let word : (64 * i + (63 - j)) / 64 ≡ i = omega arith in
    let place : 63 - (64 * i + (63 - j)) % 64 ≡ j = omega arith in
    rw (word, place)

pub has_ext : (s t : List ℕ) → length s ≡ length t → Are64 s → Are64 t → ((b : ℕ) → b < 64 * length s → has s b ≡ has t b) → s ≡ t
has_ext s t l p q same =
    ext_get_or 0 s t l (λ i h. bit_ext 64 (get_or s i 0) (get_or t i 0) (p i) (q i)
    (λ j m. sym (has_bit s i j m) ∙ same (64 * i + (63 - j)) (omega arith) ∙ has_bit t i j m))
