-- What is seen, by what was counted. Assumes nothing.
use Prim.Native.Nat.{ℕ, zero, suc, ◌+◌, ◌<◌, ◌≤◌}
use native.Mathlib.Omega.{arith}
use native.Mathlib.Numerals.{add-one}
use mathlib.Core.Path.{◌≡◌, refl, sym, ap, ◌∙◌}
use mathlib.Core.List.{List, [], ◌∷◌}
use lib.ListN.{length, get_or, drop}
use lib.Seq.{get_or-drop, drop-nil}
use lib.Dec.{eqb, ltb}
use borrow.Author.Tests.{eq-eqb, ne_eqb, lt-ltb, le-ltb, ltb-true, ltb-false}
use Rattle.std.specs.List.{zip, prefix_len}
use Rattle.std.specs.Prelude.{min, Option, None}
use Rattle.semantics.proofs.Tests.{cases}
use Rattle.semantics.specs.Limits.{word_limit}
use Rattle.words.specs.Bytes.{word_length}
use Rattle.ontology.specs.Points.{tail}
use Rattle.ontology.specs.declared.TokenKind.{TokenKind}
use Rattle.ontology.specs.declared.TokenKind.TheVariants.{Name}
use Rattle.tokens.specs.Seen.{common, seen_as, seen_either, seen_size, seen_name, seen_by, seen_at}
use Rattle.tokens.proofs.Runs.{common_run}
use Rattle.tokens.specs.declared.Seen.{Seen}
use Rattle.tokens.specs.declared.Seen.TheVariants.{Whole, Cut}

module _ (bytes : List ℕ) {spelled word : List ℕ} {n : ℕ} (s : spelled ≡ word) (e : n ≡ prefix_len (λ p. eqb p.0 p.1) (zip bytes spelled)) where
  pub counted : n ≡ common bytes word
  counted = e ∙ ap (λ w. prefix_len (λ p. eqb p.0 p.1) (zip bytes w)) s ∙ sym (common_run bytes word)

  module _ (k : TokenKind) where
    pub seen_whole : n ≡ length spelled → Whole k n ≡ seen_as k word bytes
    unfolding seen_as
    seen_whole h = rw (← counted, eq-eqb n (length word) (h ∙ ap length s))

    pub seen_cut : (n ≡ length spelled → ⊥) → Cut k n ≡ seen_as k word bytes
    unfolding seen_as
    seen_cut h = rw (← counted, ne_eqb n (length word) (λ q. h (q ∙ ap length (sym s))))

module _ (k k' : TokenKind) (word word' bytes : List ℕ) {n m : ℕ} (e : n ≡ common bytes word) (e' : m ≡ common bytes word') where
  pub seen_first : m ≤ n → seen_as k word bytes ≡ seen_either k word k' word' bytes
  unfolding seen_either
  seen_first h = rw (← e, ← e', le-ltb n m h)

  pub seen_second : n < m → seen_as k' word' bytes ≡ seen_either k word k' word' bytes
  unfolding seen_either
  seen_second h = rw (← e, ← e', lt-ltb n m h)

pub tail_drop : (input : List ℕ) (at : ℕ) → tail (drop at input) ≡ drop (at + 1) input
tail_drop [] at = rw (drop-nil at, drop-nil (at + 1))
tail_drop (b ∷ input) zero = refl
tail_drop (b ∷ input) (suc at) = tail_drop input at ∙ ap (λ n. drop n input) (add-one at) ∙ sym (ap (λ n. drop n (b ∷ input)) (add-one (suc at)))

module _ (input : List ℕ) (at : ℕ) {n : ℕ} (e : n ≡ word_length input (at + 1)) where
  sized : seen_name (drop at input) ≡ seen_size n
  sized = rw (tail_drop, ← e)

  pub seen_colon : n ≡ 0 → Cut Name 1 ≡ seen_name (drop at input)
  unfolding seen_size
  seen_colon h = sym (sized ∙ rw (eq-eqb n 0 h))

  pub seen_name_lem : (m : ℕ) → (n ≡ 0 → ⊥) → m ≡ min n word_limit → Whole Name (m + 1) ≡ seen_name (drop at input)
  unfolding seen_size
  seen_name_lem m z h = sym (sized ∙ rw (ne_eqb n 0 z) (cases (ltb word_limit n)
      (λ t. let l = ltb-true word_limit n t in let e : word_limit ≡ m = omega (arith, h) in rw t (ap (λ x. Whole Name (x + 1)) e))
      (λ f. let l = ltb-false word_limit n f in let e : n ≡ m = omega (arith, h) in rw f (ap (λ x. Whole Name (x + 1)) e))))

-- ---- by the first byte

module _ (input : List ℕ) (at : ℕ) {b : ℕ} (e : b ≡ get_or input at 0) where
  first_byte : get_or (drop at input) 0 0 ≡ b
  first_byte = get_or-drop at input 0 0 ∙ ap (λ n. get_or input n 0) (omega arith) ∙ sym e

  pub seen_by_lem : {v : ℕ} → b ≡ v → seen_by v (drop at input) ≡ seen_at (drop at input)
  seen_by_lem h = rw (first_byte, h)

  pub seen_missing : (b ≡ 40 → ⊥) → (b ≡ 41 → ⊥) → (b ≡ 58 → ⊥) → (b ≡ 83 → ⊥) → (b ≡ 79 → ⊥) → (b ≡ 111 → ⊥) → (b ≡ 65 → ⊥) → (b ≡ 114 → ⊥) → (b ≡ 34 → ⊥) →
      ◌≡◌ {A = Option Seen} None (seen_at (drop at input))
  unfolding seen_by
  seen_missing n1 n2 n3 n4 n5 n6 n7 n8 n9 =
      rw (first_byte, ne_eqb b 40 n1, ne_eqb b 41 n2, ne_eqb b 58 n3, ne_eqb b 83 n4, ne_eqb b 79 n5, ne_eqb b 111 n6, ne_eqb b 65 n7, ne_eqb b 114 n8, ne_eqb b 34 n9)
