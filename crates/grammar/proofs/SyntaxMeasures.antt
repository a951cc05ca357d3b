-- Numbers, depth and lengths of what is written, by what it means. No text is looked at here.
--     number_syntax, syntax_depth, ShortSyntax   a concept as it is written
--     ShortLine, ShallowLine                     a line as it is written
--     lines_each, syntax_each                    what holds of each line as it is written holds of the line that is meant, and back
-- Assumes nothing.
use Prim.Native.Nat.{ℕ, ◌≤◌}
use mathlib.Core.Path.{refl, sym, subst}
use mathlib.Core.List.{List, ◌∷◌, Memᴰ}
use Rattle.semantics.specs.Concept.{Concept}
use Rattle.semantics.specs.Closure.{Line, left_of, right_of}
use Rattle.semantics.specs.Limits.{word_limit, depth_limit}
use Rattle.semantics.specs.Numbering.{Names, Numbered, number_concept}
use Rattle.semantics.specs.Source.{Word, ConceptSyntax, LineSyntax, concept_meant, line_meant, lines_meant}
use Rattle.grammar.specs.Limits.{depth, ShortWords}
use Rattle.grammar.proofs.NumberingGrows.{Grows, concept_grows}

-- ---- concepts

abbrev pub number_syntax : ConceptSyntax → Names → Numbered
number_syntax C n = number_concept (concept_meant C) n

abbrev pub syntax_depth : ConceptSyntax → ℕ
syntax_depth C = depth (concept_meant C)

abbrev pub ShortSyntax : ConceptSyntax → Type 0
ShortSyntax C = ShortWords word_limit (concept_meant C)

pub syntax_grows : (C : ConceptSyntax) (n : Names) → Grows n (number_syntax C n).after
syntax_grows C n = concept_grows (concept_meant C) n

-- ---- lines

-- what has been read behind a line
abbrev pub line_after : LineSyntax → Names → Names
line_after e n = (number_syntax e.right (number_syntax e.left n).after).after

abbrev pub ShortLine : LineSyntax → Type 0
ShortLine e = ShortSyntax e.left × ShortSyntax e.right

abbrev pub ShallowLine : LineSyntax → Type 0
ShallowLine e = (syntax_depth e.left ≤ depth_limit) × (syntax_depth e.right ≤ depth_limit)

-- ---- the lines that are meant

-- what holds of both sides of each line as it is written holds of both sides of each line that is meant, and back
pub lines_each : (P : Concept Word Word → Type 0) (es : List LineSyntax) → ((e : LineSyntax) → Memᴰ e es → P (concept_meant e.left) × P (concept_meant e.right)) →
    (l : Line Word Word) → Memᴰ l (lines_meant es) → P (left_of l) × P (right_of l)
lines_each P (e ∷ es) h l (Memᴰ.head q) = subst (λ k. P (left_of k) × P (right_of k)) (sym q) (h e (Memᴰ.head refl))
lines_each P (e ∷ es) h l (Memᴰ.tail i) = lines_each P es (λ d j. h d (Memᴰ.tail j)) l i
lines_each P mathlib.Core.List.[] h l x'' = elim x'' [ ]

pub syntax_each : (P : Concept Word Word → Type 0) (es : List LineSyntax) → ((l : Line Word Word) → Memᴰ l (lines_meant es) → P (left_of l) × P (right_of l)) →
    (e : LineSyntax) → Memᴰ e es → P (concept_meant e.left) × P (concept_meant e.right)
syntax_each P (d ∷ es) h e (Memᴰ.head q) = subst (λ k. P (concept_meant k.left) × P (concept_meant k.right)) (sym q) (h (line_meant d) (Memᴰ.head refl))
syntax_each P (d ∷ es) h e (Memᴰ.tail i) = syntax_each P es (λ l j. h l (Memᴰ.tail j)) e i
syntax_each P mathlib.Core.List.[] h e x'' = elim x'' [ ]
