-- The laws of `Letter`, how a line's letter is written. What is above this file uses these; crate grammar also looks at the byte, where the reader meets it.
--     letter_one      it is one byte
--     letter_end      where two letters start, they are the same
--     letter_fresh    no gap goes on where it starts
-- Assumes nothing.
use Prim.Native.Nat.{ℕ, ◌<◌}
use native.Mathlib.Omega.{arith}
use mathlib.Core.Path.{◌≡◌, refl, sym, ◌∙◌, ap}
use mathlib.Core.List.{List, [], ◌∷◌, ◌++◌}
use lib.ListN.{length}
use lib.Dec.{eqb}
use mathlib.Core.Bool.{false, cond}
use Rattle.semantics.specs.Closure.{Kind, strict, defeasible, query, strict_query}
use Rattle.semantics.specs.Source.{space_byte, letter_byte, Letter}
use Rattle.semantics.proofs.Gaps.{Unspaced}

-- the plainest letter
pub letter_plain : (k : Kind) → Letter k (letter_byte k ∷ [])
letter_plain k = record { one = refl }

pub letter_some : {k : Kind} {b : List ℕ} → Letter k b → 0 < length b
letter_some h = omega (arith, ap length h.one)

-- the letter is one byte
pub letter_one : {k : Kind} {b : List ℕ} → Letter k b → b ≡ letter_byte k ∷ []
letter_one h = h.one

-- its first byte
pub record LetterStarts (k : Kind) (b : List ℕ) : Type 0 where
  pub more : List ℕ
  pub first : b ≡ letter_byte k ∷ more

pub letter_starts : {k : Kind} {b : List ℕ} → Letter k b → LetterStarts k b
letter_starts h = record { more = []; first = h.one }

-- what holds of four letters holds of each kind's
pub each_letter : (X : ℕ → Type 0) → X (letter_byte strict) → X (letter_byte defeasible) → X (letter_byte query) → X (letter_byte strict_query) → (k : Kind) → X (letter_byte k)
each_letter X s d q t strict = s
each_letter X s d q t defeasible = d
each_letter X s d q t query = q
each_letter X s d q t strict_query = t

-- no gap goes on where a letter starts
pub letter_fresh : {k : Kind} {b : List ℕ} → Letter k b → (s : List ℕ) → Unspaced (b ++ s)
letter_fresh {k} h s = rw h.one (each_letter (λ b. eqb b space_byte ≡ false) refl refl refl refl k)

-- the kind of a letter
unfoldable pub kind_with : ℕ → Kind
kind_with b = cond (eqb b (letter_byte strict)) strict (cond (eqb b (letter_byte defeasible)) defeasible (cond (eqb b (letter_byte query)) query strict_query))

kind_with_lem : (k : Kind) → kind_with (letter_byte k) ≡ k
unfolding kind_with
kind_with_lem strict = refl
kind_with_lem defeasible = refl
kind_with_lem query = refl
kind_with_lem strict_query = refl

letter_injective : (k j : Kind) → letter_byte k ≡ letter_byte j → k ≡ j
letter_injective k j e = sym (kind_with_lem k) ∙ ap kind_with e ∙ kind_with_lem j

-- where two letters start, they are the same
pub letter_end : {k j : Kind} {b c s t : List ℕ} → Letter k b → Letter j c → b ++ s ≡ c ++ t → (k ≡ j) × (b ≡ c) × (s ≡ t)
letter_end {k} {j} {s} {t} h i e =
    let f : letter_byte k ∷ s ≡ letter_byte j ∷ t = rw (h.one, i.one) at e in
    let p : letter_byte k ≡ letter_byte j = cc in
    let q : s ≡ t = cc in
    (letter_injective k j p, h.one ∙ ap (λ x. x ∷ []) p ∙ sym i.one, q)
