-- The plainest text of lines is written by them: every gap is the plainest one, every word spells itself. Today they have no other text.
--     plain_reads   the plainest text of lines is one of theirs
--     reads_plain   and the only one, as long as each part is written in one way only (`spelled_only`, `gap_only`, `letter_one`)
-- Assumes nothing.
use Prim.Native.Nat.{ℕ}
use mathlib.Core.Path.{◌≡◌, refl, sym, ◌∙◌, ap, ap₂, subst, subst₂}
use mathlib.Core.List.Memᴰ
use mathlib.Core.List.{List, [], ◌∷◌, ◌++◌, Memᴰ}
use mathlib.Core.Logic.{◌↔◌}
use Rattle.semantics.specs.Concept.{Concept, top, bottom, name, conj, exist}
use Rattle.semantics.specs.Closure.{Line, line}
use Rattle.semantics.specs.Source.{Word, letter_byte, ConceptSyntax, star, dash, word, ampersand, slash}
use Rattle.semantics.specs.Source.{LineSyntax, concept_meant, line_meant, lines_meant, concept_bytes, line_bytes, lines_bytes, WellFormed, WellFormedLine, Reads}
use Rattle.semantics.specs.PlainText.{concept_text, line_text, source_text, Words, LineWords, PlainText}
use Rattle.semantics.proofs.Spelling.{spelled_plain, spelled_only, spelled_word}
use Rattle.semantics.proofs.Gaps.{plain_gap, gap_plain, gap_only}
use Rattle.semantics.proofs.Letters.{letter_plain, letter_one}

-- ---- concepts

pub plain_concept : Concept Word Word → ConceptSyntax
plain_concept top = star
plain_concept bottom = dash
plain_concept (name w) = word w w
plain_concept (conj C D) = ampersand plain_gap (plain_concept C) plain_gap (plain_concept D)
plain_concept (exist r C) = slash r r plain_gap (plain_concept C)

plain_means : (C : Concept Word Word) → concept_meant (plain_concept C) ≡ C
unfolding plain_concept
plain_means top = refl
plain_means bottom = refl
plain_means (name w) = refl
plain_means (conj C D) = ap₂ conj (plain_means C) (plain_means D)
plain_means (exist r C) = ap (exist r) (plain_means C)

plain_text : (C : Concept Word Word) → concept_bytes (plain_concept C) ≡ concept_text C
unfolding plain_concept concept_bytes concept_text
plain_text top = refl
plain_text bottom = refl
plain_text (name w) = refl
plain_text (conj C D) = rw (plain_text C, plain_text D)
plain_text (exist r C) = rw (plain_text C)

plain_well_formed : (C : Concept Word Word) → Words C → WellFormed (plain_concept C)
unfolding plain_concept
plain_well_formed top h = tt
plain_well_formed bottom h = tt
plain_well_formed (name w) h = spelled_plain h
plain_well_formed (conj C D) h = (gap_plain, plain_well_formed C h.0, gap_plain, plain_well_formed D h.1)
plain_well_formed (exist r C) h = (spelled_plain h.0, gap_plain, plain_well_formed C h.1)

-- ---- lines

abbrev plain_line : Line Word Word → LineSyntax
plain_line (line k C D) = record { kind = k; letter = letter_byte k ∷ []; front = plain_gap; left = plain_concept C; middle = plain_gap; right = plain_concept D }

line_means : (l : Line Word Word) → line_meant (plain_line l) ≡ l
line_means (line k C D) = ap₂ (line k) (plain_means C) (plain_means D)

line_text_lem : (l : Line Word Word) → line_bytes (plain_line l) ≡ line_text l
unfolding line_bytes line_text
line_text_lem (line k C D) = rw (plain_text C, plain_text D)

line_well_formed : (l : Line Word Word) → LineWords l → WellFormedLine (plain_line l)
line_well_formed (line k C D) h = record {
  letter = letter_plain k;
  front = gap_plain;
  left = plain_well_formed C h.0;
  middle = gap_plain;
  right = plain_well_formed D h.1;
}

-- ---- texts

pub plain_syntax : List (Line Word Word) → List LineSyntax
plain_syntax [] = []
plain_syntax (l ∷ ls) = plain_line l ∷ plain_syntax ls

lines_mean : (ls : List (Line Word Word)) → lines_meant (plain_syntax ls) ≡ ls
unfolding plain_syntax
lines_mean [] = refl
lines_mean (l ∷ ls) = ap₂ ◌∷◌ (line_means l) (lines_mean ls)

lines_text : (ls : List (Line Word Word)) → lines_bytes (plain_syntax ls) ≡ source_text ls
unfolding plain_syntax lines_bytes source_text
lines_text [] = refl
lines_text (l ∷ ls) = ap₂ ◌++◌ (line_text_lem l) (lines_text ls)

lines_well_formed : (ls : List (Line Word Word)) → ((l : Line Word Word) → Memᴰ l ls → LineWords l) → (e : LineSyntax) → Memᴰ e (plain_syntax ls) → WellFormedLine e
unfolding plain_syntax
lines_well_formed (l ∷ ls) h e (Memᴰ.head q) = subst WellFormedLine (sym q) (line_well_formed l (h l (Memᴰ.head refl)))
lines_well_formed (l ∷ ls) h e (Memᴰ.tail i) = lines_well_formed ls (λ k j. h k (Memᴰ.tail j)) e i
lines_well_formed [] h e x'' = elim x'' [ ]

-- The plainest text of lines is written by them.
pub plain_reads : {text : List ℕ} {ls : List (Line Word Word)} → PlainText text ls → Reads text ls
plain_reads {text} {ls} p = record {
  syntax = plain_syntax ls;
  writes = record { well_formed = lines_well_formed ls p.words; spelled = lines_text ls ∙ p.spelled };
  means = lines_mean ls;
}

-- ---- back, as long as each part is written in one way only

concept_plain : (C : ConceptSyntax) → WellFormed C → (concept_bytes C ≡ concept_text (concept_meant C)) × Words (concept_meant C)
unfolding concept_bytes concept_text
concept_plain star p = (refl, tt)
concept_plain dash p = (refl, tt)
concept_plain (word w b) p = (spelled_only p, spelled_word p)
concept_plain (ampersand g C h D) p =
    let (c, u) = concept_plain C p.1 in
    let (d, v) = concept_plain D p.3 in
    (rw (gap_only p.0, gap_only p.2, c, d), (u, v))
concept_plain (slash r b g C) p =
    let (c, u) = concept_plain C p.2 in
    (rw (spelled_only p.0, gap_only p.1, c), (spelled_word p.0, u))

line_plain : (e : LineSyntax) → WellFormedLine e → (line_bytes e ≡ line_text (line_meant e)) × LineWords (line_meant e)
unfolding line_bytes line_text
line_plain e p =
    let (c, u) = concept_plain e.left p.left in
    let (d, v) = concept_plain e.right p.right in
    let front : e.front ≡ plain_gap = gap_only p.front in
    let middle : e.middle ≡ plain_gap = gap_only p.middle in
    (rw (letter_one p.letter, front, middle, c, d), (u, v))

lines_plain : (es : List LineSyntax) → ((e : LineSyntax) → Memᴰ e es → WellFormedLine e) → PlainText (lines_bytes es) (lines_meant es)
unfolding lines_bytes source_text
lines_plain [] p = record { words = λ l i. absurd (Memᴰ.not-nil i); spelled = refl }
lines_plain (e ∷ es) p =
    let (t, w) = line_plain e (p e (Memᴰ.head refl)) in
    let rest = lines_plain es (λ d i. p d (Memᴰ.tail i)) in
    record { words = λ l. each_more w rest.words; spelled = ap₂ ◌++◌ (sym t) rest.spelled }
  where
    each_more : {l : Line Word Word} {ls : List (Line Word Word)} → LineWords l → ((k : Line Word Word) → Memᴰ k ls → LineWords k) → {k : Line Word Word} → Memᴰ k (l ∷ ls) → LineWords k
    each_more w h (Memᴰ.head q) = subst LineWords (sym q) w
    each_more w h {k} (Memᴰ.tail i) = h k i

-- A text is a text of the lines exactly where it is their plainest.
pub reads_plain : (text : List ℕ) (ls : List (Line Word Word)) → (Reads text ls ↔ PlainText text ls)
reads_plain text ls = (λ r. subst₂ PlainText r.writes.spelled r.means (lines_plain r.syntax r.writes.well_formed), plain_reads)
