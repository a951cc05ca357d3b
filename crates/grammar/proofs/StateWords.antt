-- Which words the names of a list have: those of its numbers that have bytes.
-- Assumes nothing.
use Prim.Native.Nat.{ℕ, zero, suc, ◌<◌}
use native.Mathlib.Omega.{arith}
use mathlib.Core.Path.{◌≡◌, refl, sym, ◌∙◌, ap}
use mathlib.Core.Bool.{Bool, true, false, cond}
use mathlib.Core.List.Memᴰ
use mathlib.Core.List.{List, ◌∷◌, Memᴰ}
use lib.ListN.{length, get_or}
use lib.Dec.{eqb}
use borrow.Author.Tests.{eqb-true, eqb-false, ne_eqb}
use Rattle.semantics.specs.Source.{Word}
use Rattle.chains.specs.WordList.{WordList}
use Rattle.grammar.specs.StateNames.{word_at, word_of, words_to}

pub word_size : (text : List ℕ) (start size : ℕ) → length (word_at text start size) ≡ size
unfolding word_at
word_size text start zero = refl
word_size text start (suc size) = ap suc (word_size text (suc start) size)

pub word_member : (text : List ℕ) (l : WordList) (n k : ℕ) → n < k → 0 < get_or l.lengths n 0 → Memᴰ (word_of text l n, n) (words_to text l k)
unfolding words_to
word_member text l n zero below long = absurd (omega arith)
word_member text l n (suc k) below long = go (eqb n k) refl (λ b. word_member text l n k b long)
  where
    here : n ≡ k → Memᴰ (word_of text l n, n) (cond (eqb (get_or l.lengths k 0) 0) (words_to text l k) ((word_of text l k, k) ∷ words_to text l k))
    here e = rw (← e, ne_eqb (get_or l.lengths n 0) 0 (λ z. omega arith)) (Memᴰ.head refl)

    later : (b : Bool) → Memᴰ (word_of text l n, n) (words_to text l k) → Memᴰ (word_of text l n, n) (cond b (words_to text l k) ((word_of text l k, k) ∷ words_to text l k))
    later true i = i
    later false i = Memᴰ.tail i

    go : (b : Bool) → eqb n k ≡ b → (n < k → Memᴰ (word_of text l n, n) (words_to text l k)) →
        Memᴰ (word_of text l n, n) (cond (eqb (get_or l.lengths k 0) 0) (words_to text l k) ((word_of text l k, k) ∷ words_to text l k))
    go true e rec = here (eqb-true n k e)
    go false e rec = later (eqb (get_or l.lengths k 0) 0) (rec (omega (arith, eqb-false n k e)))

-- what a member says of its number: the word, and that it has bytes
pub record Member (text : List ℕ) (l : WordList) (k : ℕ) (w : Word) (n : ℕ) : Type 0 where
  pub below : n < k
  pub long : 0 < get_or l.lengths n 0
  pub word : w ≡ word_of text l n

pub member_word : (text : List ℕ) (l : WordList) (k : ℕ) {w : Word} {n : ℕ} → Memᴰ (w, n) (words_to text l k) → Member text l k w n
unfolding words_to
member_word text l zero i = absurd (Memᴰ.not-nil i)
member_word text l (suc k) {w} {n} i = go (eqb (get_or l.lengths k 0) 0) refl i (λ j. member_word text l k j)
  where
    up : Member text l k w n → Member text l (suc k) w n
    up m = record { below = omega (arith, m.below); long = m.long; word = m.word }

    go : (b : Bool) → eqb (get_or l.lengths k 0) 0 ≡ b → Memᴰ (w, n) (cond b (words_to text l k) ((word_of text l k, k) ∷ words_to text l k)) →
        (Memᴰ (w, n) (words_to text l k) → Member text l k w n) → Member text l (suc k) w n
    go true e i rec = up (rec i)
    go false e (Memᴰ.head q) rec =
        let same : n ≡ k = ap (λ p. p.1) q in
        record {
          below = omega arith;
          long = rw same (omega (arith, eqb-false (get_or l.lengths k 0) 0 e));
          word = ap (λ p. p.0) q ∙ ap (word_of text l) (sym same);
        }
    go false e (Memᴰ.tail i) rec = up (rec i)
