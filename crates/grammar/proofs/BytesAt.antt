-- What stands at an offset of a text: a byte, a space, a word, the start of a concept.
--     byte_here                   a byte inside the text, and what follows it
--     word_here_lem               the word that stands at an offset, and what follows it
--     FormByte                    the byte that a concept of each form starts with
-- Assumes nothing.
use Prim.Native.Nat.{ℕ, zero, suc, ◌+◌, ◌<◌, ◌≤◌}
use native.Mathlib.Numerals.{add-one}
use native.Mathlib.Omega.{arith}
use mathlib.Core.Path.{◌≡◌, refl, sym, ◌∙◌, subst}
use mathlib.Core.Bool.{Bool, true, false, cond, false≢true}
use mathlib.Core.List.Memᴰ
use mathlib.Core.List.{List, [], ◌∷◌, ◌++◌, Memᴰ}
use lib.ListN.{length, take, drop, length-drop, take-append-drop, get_or-eq_default}
use lib.Seq.{drop-cons, drop-drop, length-take-le}
use lib.Dec.{eqb, leb}
use borrow.Author.Tests.{leb-true, leb-false, eqb-true}
use Rattle.semantics.specs.Source.{star_byte, dash_byte, ampersand_byte, slash_byte, space_byte, line_feed, Word, word_byte, Spelled}
use Rattle.semantics.proofs.Spelling.{spelled_plain}
use Rattle.semantics.proofs.Tests.{cases}
use Rattle.words.specs.Bytes.{byte_at, sign_byte, class_of, is_word_class, is_space_class, is_line_end_class, is_word_byte, word_run, word_length}
use Rattle.forms.specs.Forms.{sign_form, class_form, form_at}
use Rattle.words.specs.declared.ByteClass.TheVariants.{Word as WordClass, Sign, Space, LineEnd, Other}
use Rattle.forms.specs.declared.Form.{Form}
use Rattle.forms.specs.declared.Form.TheVariants.{Top, Bottom, Name, Conjunction, Existential}
use Rattle.names.specs.Names.{past_space}
use Rattle.std.specs.Prelude.{Ok, Option, Some, None}
use Rattle.grammar.specs.ViablePrefix.{word_from}
use Rattle.grammar.specs.StateNames.{word_at}

-- ---- bytes

-- a byte that is not 0 stands inside
pub byte_inside : (text : List ℕ) (at : ℕ) → 0 < byte_at text at → at < length text
byte_inside text at h = cases (leb (length text) at)
    (λ t. let z = get_or-eq_default text 0 {n = at} (leb-true (length text) at t) in absurd (omega arith))
    (λ t. leb-false (length text) at t)

pub byte_here : (text : List ℕ) (at : ℕ) → at < length text → drop at text ≡ byte_at text at ∷ drop (at + 1) text
byte_here text at h = rw (add-one, drop-cons text at 0 h)

-- ---- classes

pub word_class : (b : ℕ) → is_word_byte b ≡ word_byte b
unfolding class_of
word_class b = go (word_byte b) (sign_byte b) (eqb b space_byte) (eqb b line_feed)
  where
    go : (w g s l : Bool) → is_word_class (cond w WordClass (cond g Sign (cond s Space (cond l LineEnd Other)))) ≡ w
    go true g s l = refl
    go false true s l = refl
    go false false true l = refl
    go false false false true = refl
    go false false false false = refl

pub space_class : (b : ℕ) → is_space_class (class_of b) ≡ true → b ≡ space_byte
unfolding class_of
space_class b h = eqb-true b space_byte (go (word_byte b) (sign_byte b) (eqb b space_byte) (eqb b line_feed) h)
  where
    go : (w g s l : Bool) → is_space_class (cond w WordClass (cond g Sign (cond s Space (cond l LineEnd Other)))) ≡ true → s ≡ true
    go true g s l h = absurd (false≢true h)
    go false true s l h = absurd (false≢true h)
    go false false true l h = refl
    go false false false true h = h
    go false false false false h = h

pub line_end_class : (b : ℕ) → is_line_end_class (class_of b) ≡ true → b ≡ line_feed
unfolding class_of
line_end_class b h = eqb-true b line_feed (go (word_byte b) (sign_byte b) (eqb b space_byte) (eqb b line_feed) h)
  where
    go : (w g s l : Bool) → is_line_end_class (cond w WordClass (cond g Sign (cond s Space (cond l LineEnd Other)))) ≡ true → l ≡ true
    go true g s l h = absurd (false≢true h)
    go false true s l h = absurd (false≢true h)
    go false false true l h = absurd (false≢true h)
    go false false false true h = refl
    go false false false false h = h

pub space_past : (text : List ℕ) (at : ℕ) → byte_at text at ≡ space_byte → past_space text at ≡ Ok (0, at + 1)
unfolding past_space class_of
space_past text at h = rw h

-- ---- words

-- the first n bytes of what follows
pub word_bytes_lem : (text : List ℕ) (at n : ℕ) → n ≤ length (drop at text) → word_at text at n ≡ take n (drop at text)
unfolding word_at
word_bytes_lem text at zero h = refl
word_bytes_lem text at (suc n) h =
    let l = length-drop at text in
    let m = length-drop (suc at) text in
    rw (drop-cons text at 0 (omega arith), word_bytes_lem text (suc at) n (omega arith))

run_inside : (l : List ℕ) → word_run l ≤ length l
unfolding word_run
run_inside [] = omega arith
run_inside (b ∷ l) = cases (is_word_byte b) (λ t. rw t (omega (arith, run_inside l))) (λ t. rw t (omega arith))

run_bytes : (l : List ℕ) (b : ℕ) → Memᴰ b (take (word_run l) l) → word_byte b ≡ true
unfolding word_run
run_bytes [] b m = absurd (Memᴰ.not-nil m)
run_bytes (a ∷ l) b m = go (is_word_byte a) refl m (run_bytes l b)
  where
    go : (t : Bool) → is_word_byte a ≡ t → Memᴰ b (take (cond t (suc (word_run l)) 0) (a ∷ l)) → (Memᴰ b (take (word_run l) l) → word_byte b ≡ true) →
        word_byte b ≡ true
    go true e (Memᴰ.head q) rec = rw q (sym (word_class a) ∙ e)
    go true e (Memᴰ.tail i) rec = rec i
    go false e m rec = absurd (Memᴰ.not-nil m)

-- the word that stands at the offset
abbrev pub word_here : List ℕ → ℕ → Word
word_here text at = word_at text at (word_length text at)

module _ (text : List ℕ) (at : ℕ) where
  -- and its bytes
  pub word_taken : word_here text at ≡ word_from text at
  word_taken = word_bytes_lem text at (word_length text at) (run_inside (drop at text))

  pub word_here_lem : drop at text ≡ word_from text at ++ drop (at + word_length text at) text
  word_here_lem = sym (rw (← drop-drop) (take-append-drop (word_length text at) (drop at text)))

  pub word_length_lem : length (word_here text at) ≡ word_length text at
  word_length_lem = rw word_taken (length-take-le (word_length text at) (drop at text) (run_inside (drop at text)))

  -- the word that the reader finds there is spelled by the bytes there
  pub word_is : 0 < word_length text at → Spelled (word_here text at) (word_from text at)
  word_is h = subst (Spelled (word_here text at)) word_taken
      (spelled_plain record { nonempty = omega (arith, word_length_lem); bytes = λ b m. run_bytes (drop at text) b (subst (Memᴰ b) word_taken m) })

  pub word_inside : 0 < word_length text at → at + word_length text at ≤ length text
  word_inside h = omega (arith, run_inside (drop at text), length-drop at text)

pub word_starts : (text : List ℕ) (at : ℕ) → word_byte (byte_at text at) ≡ true → 0 < word_length text at
unfolding word_run
word_starts text at e = cases (leb (length text) at)
    (λ t. absurd (false≢true (rw (get_or-eq_default text 0 {n = at} (leb-true (length text) at t)) at e)))
    (λ t. rw (byte_here text at (leb-false (length text) at t), word_class (byte_at text at) ∙ e) (omega arith))

-- ---- forms

-- the byte that a concept of the form starts with
abbrev pub FormByte : Option Form → ℕ → Type 0
FormByte (Some Top) b = b ≡ star_byte
FormByte (Some Bottom) b = b ≡ dash_byte
FormByte (Some Name) b = word_byte b ≡ true
FormByte (Some Conjunction) b = b ≡ ampersand_byte
FormByte (Some Existential) b = b ≡ slash_byte
FormByte None b = Unit {0}

sign_byte_lem : (b : ℕ) → sign_byte b ≡ true → FormByte (Some (sign_form b)) b
unfolding sign_form
sign_byte_lem b h =
    cases (eqb b star_byte) (λ p. rw p (eqb-true b star_byte p)) λ p.
    cases (eqb b dash_byte) (λ q. rw (p, q) (eqb-true b dash_byte q)) λ q.
    cases (eqb b ampersand_byte) (λ r. rw (p, q, r) (eqb-true b ampersand_byte r)) λ r.
    cases (eqb b slash_byte) (λ s. rw (p, q, r) (eqb-true b slash_byte s)) λ s.
    absurd (false≢true (rw (p, q, r, s) at h))

pub form_byte : (text : List ℕ) (at : ℕ) → FormByte (form_at text at) (byte_at text at)
unfolding class_of
form_byte text at = go (byte_at text at)
  where
    go : (b : ℕ) → FormByte (class_form (class_of b) b) b
    go b =
        cases (word_byte b) (λ w. rw w w) λ w.
        cases (sign_byte b) (λ g. rw (w, g) (sign_byte_lem b g)) λ g.
        cases (eqb b space_byte) (λ p. rw (w, g, p) tt) λ p.
        cases (eqb b line_feed) (λ q. rw (w, g, p, q) tt) (λ q. rw (w, g, p, q) tt)
