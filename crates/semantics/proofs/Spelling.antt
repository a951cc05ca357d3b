-- The laws of `Spelled`, how a word is written. What is above this file uses these.
--     Stops                           no word goes on here
--     spelled_end                     where two words start, they are one word, with one spelling
--     spelled_starts                  the first byte
--     spelled_bytes, spelled_length   its bytes are word bytes, as many as the word has
--     spells, spelled_plain           a run of word bytes spells a word, and a word spells itself
--     spelled_only                    and no other bytes spell it
-- Assumes nothing.
use Prim.Native.Nat.{ℕ, ◌<◌}
use native.Mathlib.Omega.{arith}
use mathlib.Core.Path.{◌≡◌, refl, sym, ◌∙◌, ap, ap₂, subst}
use mathlib.Core.Bool.{true, false, false≢true}
use mathlib.Core.List.{List, [], ◌∷◌, ◌++◌, Memᴰ}
use lib.ListN.{length}
use Rattle.semantics.specs.Source.{Word, word_byte, IsWord, Spelled}

abbrev pub Stops : List ℕ → Type 0
Stops [] = Unit {0}
Stops (b ∷ s) = word_byte b ≡ false

abbrev pub WordBytes : List ℕ → Type 0
WordBytes w = (b : ℕ) → Memᴰ b w → word_byte b ≡ true

bytes_end : (w v : List ℕ) {s t : List ℕ} → WordBytes w → WordBytes v → Stops s → Stops t → w ++ s ≡ v ++ t → (w ≡ v) × (s ≡ t)
bytes_end [] [] hw hv hs ht e = (refl, e)
bytes_end [] (b ∷ v) hw hv hs ht e = absurd (false≢true (sym (subst Stops e hs) ∙ hv b (Memᴰ.head refl)))
bytes_end (a ∷ w) [] hw hv hs ht e = absurd (false≢true (sym (subst Stops (sym e) ht) ∙ hw a (Memᴰ.head refl)))
bytes_end (a ∷ w) (b ∷ v) {s} {t} hw hv hs ht e =
    let p : a ≡ b = cc in
    let q : w ++ s ≡ v ++ t = cc in
    let (m, n) = bytes_end w v (λ c i. hw c (Memᴰ.tail i)) (λ c i. hv c (Memᴰ.tail i)) hs ht q in
    (ap₂ ◌∷◌ p m, n)

-- ---- bytes of a spelling

pub spelled_bytes : {w : Word} {b : List ℕ} → Spelled w b → WordBytes b
spelled_bytes h c i = h.word.bytes c (subst (Memᴰ c) h.same i)

pub spelled_length : {w : Word} {b : List ℕ} → Spelled w b → length b ≡ length w
spelled_length h = ap length h.same

pub spelled_long : {w : Word} {b : List ℕ} → Spelled w b → 0 < length b
spelled_long h = omega (arith, spelled_length h, h.word.nonempty)

-- ---- words

pub spelled_word : {w : Word} {b : List ℕ} → Spelled w b → IsWord w
spelled_word h = h.word

-- a word spells itself
pub spelled_plain : {w : Word} → IsWord w → Spelled w w
spelled_plain h = record { same = refl; word = h }

-- and is spelled in no other way
pub spelled_only : {w : Word} {b : List ℕ} → Spelled w b → b ≡ w
spelled_only h = h.same

-- word bytes in a row spell a word
pub record Spells (b : List ℕ) : Type 0 where
  pub word : Word
  pub spelled : Spelled word b

pub spells : (b : List ℕ) → 0 < length b → WordBytes b → Spells b
spells b h w = record { word = b; spelled = record { same = refl; word = record { nonempty = h; bytes = w } } }

-- one spelling has one word
pub spelled_same : {w v : Word} {b c : List ℕ} → Spelled w b → Spelled v c → b ≡ c → w ≡ v
spelled_same h k e = sym h.same ∙ e ∙ k.same

-- where two words start, they are the same, and so is what follows
pub spelled_end : {w v : Word} {b c s t : List ℕ} → Spelled w b → Spelled v c → Stops s → Stops t → b ++ s ≡ c ++ t → (w ≡ v) × (b ≡ c) × (s ≡ t)
spelled_end {b} {c} h k hs ht e =
    let (m, n) = bytes_end b c (spelled_bytes h) (spelled_bytes k) hs ht e in
    (spelled_same h k m, m, n)

-- the first byte
pub spelled_starts : {w : Word} {b : List ℕ} {c : ℕ} {t : List ℕ} (s : List ℕ) → Spelled w b → b ++ s ≡ c ∷ t → word_byte c ≡ true
spelled_starts {b} s h e = go b s (spelled_long h) (spelled_bytes h) e
  where
    go : (b s : List ℕ) {c : ℕ} {t : List ℕ} → 0 < length b → WordBytes b → b ++ s ≡ c ∷ t → word_byte c ≡ true
    go [] s l h e = absurd (omega arith)
    go (a ∷ b) s {c} l h e = let p : a ≡ c = cc in rw (← p) (h a (Memᴰ.head refl))
