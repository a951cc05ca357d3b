-- The offsets of the definitions are those of the text: where a concept name is listed as standing, its bytes stand, and where a concept starts, those of one.
--     occurrence_spelled, starts_spelled
-- By induction on what is written; a concept's offsets count the bytes before it.
-- Assumes nothing.
use Prim.Native.Nat.{ℕ, ◌+◌}
use mathlib.Core.Path.{◌≡◌, refl, sym, ◌∙◌, ap, subst}
use mathlib.Core.List.Memᴰ
use mathlib.Core.List.{List, [], ◌∷◌, ◌++◌, append_assoc, Memᴰ}
use mathlib.Core.Logic.{◌⊎◌, inl, inr}
use lib.ListN.{length, drop}
use lib.Seq.{drop-append_seam}
use Rattle.semantics.specs.Numbering.{no_names}
use Rattle.semantics.specs.Source.{ampersand_byte, slash_byte, line_feed, Word, Spelled, ConceptSyntax, star, dash, word, ampersand, slash}
use Rattle.semantics.specs.Source.{LineSyntax, concept_bytes, line_bytes, lines_bytes, WellFormed, WellFormedLine, Writes}
use Rattle.semantics.proofs.Reading.{line_spread}
use Rattle.grammar.specs.Occurrences.{concept_occurrences, line_occurrences, lines_occurrences}
use Rattle.grammar.specs.ViablePrefix.{StartsIn}
use Rattle.grammar.proofs.BytesAhead.{ahead_behind}
use Rattle.grammar.proofs.SamePart.{each_of}
use Rattle.grammar.proofs.SameConcept.{reach_lines}

-- the bytes at the offset spell the word
abbrev Stands : List ℕ → Word → ℕ → Type 0
Stands text w k = (bytes rest : List ℕ) × Spelled w bytes × (drop k text ≡ bytes ++ rest)

in_either : {A X : Type 0} {x : A} (l : List A) {m : List A} → Memᴰ x (l ++ m) → (Memᴰ x l → X) → (Memᴰ x m → X) → X
in_either {A} {X} {x} l {m} i f g = go (Memᴰ.append_cases l i)
  where
    go : Memᴰ x l ⊎ Memᴰ x m → X
    go (inl a) = f a
    go (inr b) = g b

-- ---- concept names

concept_stands : (text : List ℕ) (C : ConceptSyntax) (at : ℕ) (rest : List ℕ) → WellFormed C → drop at text ≡ concept_bytes C ++ rest →
    {w : Word} {k : ℕ} → Memᴰ (w, k) (concept_occurrences at C) → Stands text w k
unfolding concept_bytes concept_occurrences
concept_stands text star at rest h e i = absurd (Memᴰ.not-nil i)
concept_stands text dash at rest h e i = absurd (Memᴰ.not-nil i)
concept_stands text (word v b) at rest h e {w} {k} (Memᴰ.head q) =
    let p : w ≡ v = λ i. (q i).0 in
    let o : k ≡ at = λ i. (q i).1 in
    (b, rest, subst (λ x. Spelled x b) (sym p) h, ap (λ x. drop x text) o ∙ e)
concept_stands text (word v b) at rest h e (Memᴰ.tail i) = absurd (Memᴰ.not-nil i)
concept_stands text (ampersand g C j D) at rest h e {w} {k} i =
    let ahead = concept_bytes C ++ (j ++ (concept_bytes D ++ rest)) in
    let spelled : drop at text ≡ ampersand_byte ∷ (g ++ ahead) = e ∙ simp append_assoc in
    let left = ahead_behind text (at + 1) g ahead (ahead_behind text at (ampersand_byte ∷ []) (g ++ ahead) spelled) in
    let right = ahead_behind text (at + 1 + length g + length (concept_bytes C)) j (concept_bytes D ++ rest)
    (ahead_behind text (at + 1 + length g) (concept_bytes C) (j ++ (concept_bytes D ++ rest)) left) in
    in_either (concept_occurrences (at + 1 + length g) C) i
    (λ m. concept_stands text C (at + 1 + length g) (j ++ (concept_bytes D ++ rest)) h.1 left m)
    (λ m. concept_stands text D (at + 1 + length g + length (concept_bytes C) + length j) rest h.3 right m)
concept_stands text (slash r b g C) at rest h e i =
    let ahead = concept_bytes C ++ rest in
    let spelled : drop at text ≡ slash_byte ∷ (b ++ (g ++ ahead)) = e ∙ simp append_assoc in
    let role = ahead_behind text (at + 1) b (g ++ ahead) (ahead_behind text at (slash_byte ∷ []) (b ++ (g ++ ahead)) spelled) in
    concept_stands text C (at + 1 + length b + length g) rest h.2 (ahead_behind text (at + 1 + length b) g ahead role) i

line_stands : (text : List ℕ) (e : LineSyntax) (at : ℕ) (rest : List ℕ) → WellFormedLine e → drop at text ≡ line_bytes e ++ rest →
    {w : Word} {k : ℕ} → Memᴰ (w, k) (line_occurrences at e) → Stands text w k
line_stands text e at rest h q i =
    let behind = e.middle ++ (concept_bytes e.right ++ (line_feed ∷ rest)) in
    let letter = ahead_behind text at e.letter (e.front ++ (concept_bytes e.left ++ behind)) (q ∙ line_spread e rest) in
    let start = at + length e.letter + length e.front in
    let left = ahead_behind text (at + length e.letter) e.front (concept_bytes e.left ++ behind) letter in
    let right = ahead_behind text (start + length (concept_bytes e.left)) e.middle (concept_bytes e.right ++ (line_feed ∷ rest))
    (ahead_behind text start (concept_bytes e.left) behind left) in
    in_either (concept_occurrences start e.left) i
    (λ m. concept_stands text e.left start behind h.left left m)
    (λ m. concept_stands text e.right (start + length (concept_bytes e.left) + length e.middle) (line_feed ∷ rest) h.right right m)

lines_stand : (text : List ℕ) (es : List LineSyntax) (at : ℕ) → ((e : LineSyntax) → Memᴰ e es → WellFormedLine e) → drop at text ≡ lines_bytes es →
    {w : Word} {k : ℕ} → Memᴰ (w, k) (lines_occurrences at es) → Stands text w k
unfolding lines_bytes lines_occurrences
lines_stand text [] at h q i = absurd (Memᴰ.not-nil i)
lines_stand text (e ∷ es) at h q i =
    in_either (line_occurrences at e) i
    (λ m. line_stands text e at (lines_bytes es) (h e (Memᴰ.head refl)) q m)
    (λ m. lines_stand text es (at + length (line_bytes e)) (λ d j. h d (Memᴰ.tail j)) (ahead_behind text at (line_bytes e) (lines_bytes es) q) m)

-- Where a name is listed, its bytes stand in the text.
pub occurrence_spelled : {text : List ℕ} {es : List LineSyntax} {w : Word} {k : ℕ} → Writes es text → Memᴰ (w, k) (lines_occurrences 0 es) →
    (bytes rest : List ℕ) × Spelled w bytes × (drop k text ≡ bytes ++ rest)
occurrence_spelled {text} {es} s i = lines_stand text es 0 s.well_formed (sym s.spelled) i

-- ---- concepts

-- Where a concept starts, the bytes of one stand in the text.
pub starts_spelled : {text : List ℕ} {es : List LineSyntax} {k m : ℕ} → Writes es text → StartsIn es k m →
    (C : ConceptSyntax) × (rest : List ℕ) × WellFormed C × (drop k text ≡ concept_bytes C ++ rest)
starts_spelled {text} {es} {k} s i =
    let r = reach_lines no_names (each_of WellFormedLine es s.well_formed) i in
    let ahead = concept_bytes r.tree ++ r.back in
    let behind : drop (length r.front) text ≡ ahead = ap (drop (length r.front)) (sym s.spelled ∙ r.spelled) ∙ drop-append_seam r.front ahead in
    (r.tree, r.back, r.worded, subst (λ x. drop x text ≡ ahead) r.long behind)
