-- What the reader meets where it is known what stands ahead.
--     ahead_byte, ahead_word, ahead_form   the byte, the word, the form of a concept that are met
--     ahead_spelled                        the word that the bytes there spell
-- Assumes nothing.
use Prim.Native.Nat.{ℕ, ◌+◌, ◌<◌}
use native.Mathlib.Nat.{add-zero}
use native.Mathlib.Omega.{arith}
use mathlib.Core.Path.{◌≡◌, refl, sym, ◌∙◌, ap}
use mathlib.Core.Bool.{true}
use mathlib.Core.List.Memᴰ
use mathlib.Core.List.{List, [], ◌∷◌, ◌++◌}
use lib.ListN.{length, get_or, drop, length-drop, length-append}
use lib.Seq.{get_or-drop, drop-drop, take-append_seam, drop-append_seam}
use Rattle.semantics.specs.Source.{star_byte, dash_byte, ampersand_byte, slash_byte, Word, word_byte, Spelled, ConceptSyntax, star, dash, word, ampersand, slash, concept_bytes, WellFormed}
use Rattle.semantics.proofs.Spelling.{Stops, WordBytes, spelled_bytes, spelled_long, spelled_same, spelled_starts}
use Rattle.words.specs.Bytes.{byte_at, class_of, word_run, word_length}
use Rattle.forms.specs.Forms.{sign_form, form_at}
use Rattle.forms.specs.declared.Form.{Form}
use Rattle.std.specs.Prelude.{Option, Some}
use Rattle.forms.specs.declared.Form.TheVariants.{Top, Bottom, Name, Conjunction, Existential}
use Rattle.grammar.specs.ViablePrefix.{word_from}
use Rattle.grammar.proofs.BytesAt.{byte_here, word_class, word_here, word_is}

module _ (text : List ℕ) (at : ℕ) where
  pub ahead_inside : (b : ℕ) (rest : List ℕ) → drop at text ≡ b ∷ rest → at < length text
  ahead_inside b rest e = omega (arith, length-drop at text, ap length e)

  pub ahead_byte : (b : ℕ) (rest : List ℕ) → drop at text ≡ b ∷ rest → byte_at text at ≡ b
  ahead_byte b rest e = ap (byte_at text) (sym (add-zero at)) ∙ sym (get_or-drop at text 0 0) ∙ ap (λ l. get_or l 0 0) e

  -- behind what is ahead
  pub ahead_behind : (w rest : List ℕ) → drop at text ≡ w ++ rest → drop (at + length w) text ≡ rest
  ahead_behind w rest e = rw (← drop-drop, e) (drop-append_seam w rest)

run_word : (w rest : List ℕ) → WordBytes w → Stops rest → word_run (w ++ rest) ≡ length w
unfolding word_run
run_word [] [] h s = refl
run_word [] (b ∷ rest) h s = rw (word_class b, s)
run_word (b ∷ w) rest h s = rw (word_class b, h b (Memᴰ.head refl), run_word w rest (λ c i. h c (Memᴰ.tail i)) s)

module _ (text : List ℕ) (at : ℕ) {w : Word} (b rest : List ℕ) (h : Spelled w b) (s : Stops rest) (e : drop at text ≡ b ++ rest) where
  -- how far a word reaches
  pub ahead_length : word_length text at ≡ length b
  ahead_length = ap word_run e ∙ run_word b rest (spelled_bytes h) s

  -- the reader's word there
  ahead_bytes : word_from text at ≡ b
  ahead_bytes = rw (ahead_length, e) (take-append_seam b rest)

  pub ahead_spelled : {v : Word} → Spelled v (word_from text at) → v ≡ w
  ahead_spelled k = spelled_same k h ahead_bytes

  pub ahead_word : word_here text at ≡ w
  ahead_word = ahead_spelled (word_is text at (omega (arith, ahead_length, spelled_long h)))

-- ---- forms

abbrev pub form_of : ConceptSyntax → Option Form
form_of star = Some Top
form_of dash = Some Bottom
form_of (word w b) = Some Name
form_of (ampersand g C h D) = Some Conjunction
form_of (slash r b g C) = Some Existential

word_form : (text : List ℕ) (at : ℕ) {w : Word} (b rest : List ℕ) → Spelled w b → drop at text ≡ b ++ rest → form_at text at ≡ Some Name
unfolding class_of
word_form text at b rest h e =
    let inside : at < length text = omega (arith, length-drop at text, ap length e, length-append b rest, spelled_long h) in
    let starts : word_byte (byte_at text at) ≡ true = spelled_starts rest h (sym e ∙ byte_here text at inside) in
    rw starts

pub ahead_form : (text : List ℕ) (at : ℕ) (C : ConceptSyntax) (rest : List ℕ) → WellFormed C → drop at text ≡ concept_bytes C ++ rest → form_at text at ≡ form_of C
unfolding concept_bytes class_of sign_form
ahead_form text at star rest h e = rw (ahead_byte text at star_byte rest e)
ahead_form text at dash rest h e = rw (ahead_byte text at dash_byte rest e)
ahead_form text at (word w b) rest h e = word_form text at b rest h e
ahead_form text at (ampersand g C g' D) rest h e = rw (ahead_byte text at ampersand_byte ((g ++ (concept_bytes C ++ (g' ++ concept_bytes D))) ++ rest) e)
ahead_form text at (slash r b g C) rest h e = rw (ahead_byte text at slash_byte ((b ++ (g ++ concept_bytes C)) ++ rest) e)
