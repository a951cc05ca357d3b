-- The word bytes that stand in a row in a text.
-- Assumes nothing.
use Prim.Native.Nat.{ℕ, suc, ◌+◌, ◌<◌, ◌≤◌}
use native.Mathlib.Omega.{arith}
use native.Mathlib.Numerals.{add-one}
use mathlib.Core.Path.{◌≡◌, refl, sym}
use mathlib.Core.Bool.{Bool, true, false, cond, true≢false}
use mathlib.Core.List.{List, [], ◌∷◌}
use lib.ListN.{length, drop, length-drop, drop_of_length-le, get_or-eq_default}
use lib.Dec.{eqb, leb}
use lib.Seq.{drop-cons}
use borrow.Author.Tests.{leb-true, leb-false}
use Rattle.semantics.specs.Source.{star_byte, dash_byte, ampersand_byte}
use Rattle.semantics.proofs.Tests.{cases}
use Rattle.words.specs.Bytes.{byte_at, class_of, is_word_class, is_word_byte, word_run, word_length}
use Rattle.forms.specs.Forms.{sign_form, class_form, form_at}
use Rattle.words.specs.declared.ByteClass.{ByteClass}
use Rattle.words.specs.declared.ByteClass.TheVariants.{Word, Sign, Space, LineEnd, Other}
use Rattle.std.specs.Prelude.{Some}
use Rattle.forms.specs.declared.Form.TheVariants.{Top, Bottom, Name, Conjunction, Existential}

run_length : (s : List ℕ) → word_run s ≤ length s
unfolding word_run
run_length [] = omega arith
run_length (b ∷ s) = cases (is_word_byte b) (λ e. rw e (omega (arith, run_length s))) (λ e. rw e (omega arith))

module _ (text : List ℕ) (at : ℕ) where
  word_inside : is_word_byte (byte_at text at) ≡ true → at < length text
  unfolding class_of
  word_inside h = cases (leb (length text) at)
      (λ e. absurd (true≢false (rw (get_or-eq_default text 0 (leb-true (length text) at e)) at (sym h))))
      (leb-false (length text) at)

  pub run_more : is_word_byte (byte_at text at) ≡ true → word_length text at ≡ suc (word_length text (at + 1))
  unfolding word_run
  run_more h = let i : at < length text = word_inside h in rw (add-one, drop-cons text at 0, h)

  pub run_none : is_word_byte (byte_at text at) ≡ false → word_length text at ≡ 0
  unfolding word_run
  run_none h = cases (leb (length text) at)
      (λ e. rw (drop_of_length-le text (leb-true (length text) at e)))
      (λ e. rw (drop-cons text at 0 (leb-false (length text) at e), h))

  pub run_inside : at ≤ length text → at + word_length text at ≤ length text
  run_inside i = omega (arith, run_length (drop at text), length-drop at text)

-- ---- names

sign_form_lem : (star dash and : Bool) → Some (cond star Top (cond dash Bottom (cond and Conjunction Existential))) ≡ Some Name → false ≡ true
sign_form_lem true dash and h = cc
sign_form_lem false true and h = cc
sign_form_lem false false true h = cc
sign_form_lem false false false h = cc

-- Only a word is read as a name.
pub name_word : (text : List ℕ) (at : ℕ) → form_at text at ≡ Some Name → is_word_byte (byte_at text at) ≡ true
unfolding sign_form
name_word text at h = go (class_of (byte_at text at)) h
  where
    go : (k : ByteClass) → class_form k (byte_at text at) ≡ Some Name → is_word_class k ≡ true
    go Word e = refl
    go Sign e = sign_form_lem (eqb (byte_at text at) star_byte) (eqb (byte_at text at) dash_byte) (eqb (byte_at text at) ampersand_byte) e
    go Space e = cc
    go LineEnd e = cc
    go Other e = cc
