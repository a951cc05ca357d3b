-- The automaton goes through the text of any lines and dies nowhere: what the grammar has, it takes.
-- By induction on concepts: each is taken where one is due, if no word goes on behind it.
-- Assumes nothing.
use Prim.Native.Nat.{ℕ, ◌<◌}
use lib.ListN.{length}
use native.Mathlib.Omega.{arith}
use mathlib.Core.Path.{◌≡◌, refl, ◌∙◌, ap}
use mathlib.Core.Bool.{true}
use mathlib.Core.Option.{none}
use mathlib.Core.List.{List, [], ◌∷◌, ◌++◌, append_assoc, Memᴰ}
use Rattle.semantics.specs.Closure.{Kind}
use Rattle.semantics.specs.Source.{Word, word_byte, Letter, ConceptSyntax, star, dash, word, ampersand, slash}
use Rattle.semantics.specs.Source.{LineSyntax, concept_bytes, line_bytes, lines_bytes, WellFormed, WellFormedLine, Writes, line_feed}
use Rattle.semantics.proofs.Spelling.{Stops, WordBytes, spelled_bytes, spelled_long}
use Rattle.semantics.proofs.Gaps.{gap_stops}
use Rattle.semantics.proofs.Letters.{letter_one, each_letter}
use Rattle.semantics.proofs.Reading.{concept_fresh, line_spread}
use Rattle.grammar.proofs.GapReading.{gap_taken}
use Rattle.grammar.proofs.BytesAt.{word_class as byte-class}
use Rattle.words.specs.Bytes.{class_of}
use Rattle.source.specs.Lines.{line_kind}
use Rattle.forms.specs.Forms.{sign_form}
use Rattle.words.specs.declared.ByteClass.TheVariants.{Word as WordClass}
use Rattle.grammar.proofs.Automaton.{Due, concept, role, word_goes_on, space, line_end, opened, step, dies}

word_class : (b : ℕ) → word_byte b ≡ true → class_of b ≡ WordClass
unfolding class_of
word_class b h = rw h

-- ---- words

letters_taken : (w : Word) (s : List ℕ) (d : Due) (st : List Due) → ((b : ℕ) → Memᴰ b w → word_byte b ≡ true) → Stops s →
    dies (w ++ s) (word_goes_on ∷ d ∷ st) ≡ dies s (d ∷ st)
unfolding dies step
letters_taken [] [] d st h e = refl
letters_taken [] (b ∷ s) d st h e = rw (byte-class b, e)
letters_taken (b ∷ w) s d st h e = rw (word_class b (h b (Memᴰ.head refl))) (letters_taken w s d st (λ c i. h c (Memᴰ.tail i)) e)

name_bytes : (b s : List ℕ) (d : Due) (st : List Due) → 0 < length b → WordBytes b → Stops s → dies (b ++ s) (concept ∷ d ∷ st) ≡ dies s (d ∷ st)
unfolding dies step opened
name_bytes [] s d st l h e = absurd (omega arith)
name_bytes (b ∷ w) s d st l h e = rw (word_class b (h b (Memᴰ.head refl))) (letters_taken w s d st (λ c i. h c (Memᴰ.tail i)) e)

role_bytes : (b s : List ℕ) (d : Due) (st : List Due) → 0 < length b → WordBytes b → Stops s → dies (b ++ s) (role ∷ d ∷ st) ≡ dies s (d ∷ st)
unfolding dies step
role_bytes [] s d st l h e = absurd (omega arith)
role_bytes (b ∷ w) s d st l h e = rw (word_class b (h b (Memᴰ.head refl))) (letters_taken w s d st (λ c i. h c (Memᴰ.tail i)) e)

-- ---- concepts

concept_taken : (C : ConceptSyntax) (s : List ℕ) (d : Due) (st : List Due) → WellFormed C → Stops s →
    dies (concept_bytes C ++ s) (concept ∷ d ∷ st) ≡ dies s (d ∷ st)
unfolding concept_bytes dies step opened class_of sign_form
concept_taken star s d st h e = refl
concept_taken dash s d st h e = refl
concept_taken (word w b) s d st h e = name_bytes b s d st (spelled_long h) (spelled_bytes h) e
concept_taken (ampersand g C g' D) s d st h e =
    let more = g' ++ (concept_bytes D ++ s) in
    ap (λ k. dies k (space ∷ concept ∷ space ∷ concept ∷ d ∷ st)) (append_assoc g (concept_bytes C ++ (g' ++ concept_bytes D)) s) ∙
    ap (λ k. dies (g ++ k) (space ∷ concept ∷ space ∷ concept ∷ d ∷ st)) (append_assoc (concept_bytes C) (g' ++ concept_bytes D) s ∙ ap (λ k. concept_bytes C ++ k) (append_assoc g' (concept_bytes D) s)) ∙
    gap_taken (concept_bytes C ++ more) (concept ∷ space ∷ concept ∷ d ∷ st) h.0 (concept_fresh C more h.1) ∙
    concept_taken C more space (concept ∷ d ∷ st) h.1 (gap_stops h.2 (concept_bytes D ++ s)) ∙
    gap_taken (concept_bytes D ++ s) (concept ∷ d ∷ st) h.2 (concept_fresh D s h.3) ∙
    concept_taken D s d st h.3 e
concept_taken (slash r b g C) s d st h e =
    ap (λ k. dies k (role ∷ space ∷ concept ∷ d ∷ st)) (append_assoc b (g ++ concept_bytes C) s ∙ ap (λ k. b ++ k) (append_assoc g (concept_bytes C) s)) ∙
    role_bytes b (g ++ (concept_bytes C ++ s)) space (concept ∷ d ∷ st) (spelled_long h.0) (spelled_bytes h.0) (gap_stops h.1 (concept_bytes C ++ s)) ∙
    gap_taken (concept_bytes C ++ s) (concept ∷ d ∷ st) h.1 (concept_fresh C s h.2) ∙
    concept_taken C s d st h.2 e

-- ---- lines

letter_taken : {k : Kind} {b : List ℕ} (s : List ℕ) → Letter k b → dies (b ++ s) [] ≡ dies s (space ∷ concept ∷ space ∷ concept ∷ line_end ∷ [])
unfolding dies step line_kind
letter_taken {k} s h = rw (letter_one h) (each_letter (λ b. dies (b ∷ s) [] ≡ dies s (space ∷ concept ∷ space ∷ concept ∷ line_end ∷ [])) refl refl refl refl k)

line_taken : (l : LineSyntax) (s : List ℕ) → WellFormedLine l → dies (line_bytes l ++ s) [] ≡ dies s []
unfolding dies step class_of
line_taken l s h =
    let x = concept_bytes l.right ++ (line_feed ∷ s) in
    let y = concept_bytes l.left ++ (l.middle ++ x) in
    ap (λ k. dies k []) (line_spread l s) ∙
    letter_taken (l.front ++ y) h.letter ∙
    gap_taken y (concept ∷ space ∷ concept ∷ line_end ∷ []) h.front (concept_fresh l.left (l.middle ++ x) h.left) ∙
    concept_taken l.left (l.middle ++ x) space (concept ∷ line_end ∷ []) h.left (gap_stops h.middle x) ∙
    gap_taken x (concept ∷ line_end ∷ []) h.middle (concept_fresh l.right (line_feed ∷ s) h.right) ∙
    concept_taken l.right (line_feed ∷ s) line_end [] h.right refl

lines_taken : (ls : List LineSyntax) → ((l : LineSyntax) → Memᴰ l ls → WellFormedLine l) → dies (lines_bytes ls) [] ≡ none
unfolding lines_bytes dies
lines_taken [] h = refl
lines_taken (l ∷ ls) h = line_taken l (lines_bytes ls) (h l (Memᴰ.head refl)) ∙ lines_taken ls (λ m i. h m (Memᴰ.tail i))

pub writes_taken : {text : List ℕ} {syntax : List LineSyntax} → Writes syntax text → dies text [] ≡ none
writes_taken {syntax} w = rw w.spelled at (lines_taken syntax w.well_formed)
