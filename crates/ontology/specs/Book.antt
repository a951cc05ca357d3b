-- The book of axioms: its bytes, the lines that they are a text of, and that these mean what the axioms mean.
--     book          a line for each axiom, in order; the parts of an intersection nest to the right
--     lines_of      the lines of the book (`book_reads`)
--     SameMeaning   lines with exactly the models and the usual rules of the axioms read directly
use Rattle.std.specs.Prelude.{ℕ, ◌<◌, ◌≡◌, Bool, true, false, List, [], ◌∷◌, ◌++◌, map, ◌↔◌}
use Rattle.semantics.specs.Concept.{Concept, top, bottom, name, conj, exist, Interpretation, In, Inclusion, Model}
use Rattle.semantics.specs.Closure.{Kind, Line, line, strict, defeasible, strict_of, defeasible_of}
use Rattle.semantics.specs.Source.{Word, star_byte, dash_byte, ampersand_byte, slash_byte, space_byte, line_feed, letter_byte}
use Rattle.ontology.specs.Axiom.{Class, named, thing, nothing, intersection, some_values_from, Classes, one, more, Axiom, InClass, ModelOf}

-- ---- bytes

abbrev pub kind_of_axiom : Bool → Kind
kind_of_axiom true = defeasible  -- U
kind_of_axiom false = strict  -- S

unfoldable mutual
  -- names are written as they stand
  pub class_text : Class → List ℕ
  class_text (named w) = w
  class_text thing = star_byte ∷ []
  class_text nothing = dash_byte ∷ []
  class_text (intersection C Cs) = ampersand_byte ∷ (space_byte ∷ (class_text C ++ (space_byte ∷ parts_text Cs)))
  class_text (some_values_from r C) = slash_byte ∷ (r ++ (space_byte ∷ class_text C))

  -- the parts behind the first: & A & B C
  pub parts_text : Classes → List ℕ
  parts_text (one C) = class_text C
  parts_text (more C Cs) = ampersand_byte ∷ (space_byte ∷ (class_text C ++ (space_byte ∷ parts_text Cs)))

abbrev pub axiom_text : Axiom → List ℕ
axiom_text a = letter_byte (kind_of_axiom a.usual) ∷ (space_byte ∷ (class_text a.sub ++ (space_byte ∷ (class_text a.super ++ (line_feed ∷ [])))))

unfoldable pub book : List Axiom → List ℕ
book [] = []
book (a ∷ axioms) = axiom_text a ++ book axioms

-- ---- lines

unfoldable mutual
  pub concept_of : Class → Concept Word Word
  concept_of (named w) = name w
  concept_of thing = top
  concept_of nothing = bottom
  concept_of (intersection C Cs) = conj (concept_of C) (concept_of_all Cs)
  concept_of (some_values_from r C) = exist r (concept_of C)

  pub concept_of_all : Classes → Concept Word Word
  concept_of_all (one C) = concept_of C
  concept_of_all (more C Cs) = conj (concept_of C) (concept_of_all Cs)

abbrev pub axiom_line : Axiom → Line Word Word
axiom_line a = line (kind_of_axiom a.usual) (concept_of a.sub) (concept_of a.super)

abbrev pub lines_of : List Axiom → List (Line Word Word)
lines_of axioms = map axiom_line axioms

-- ---- the same meaning

-- In every interpretation the class and the concept have the same elements.
abbrev pub SameElements : Class → Concept Word Word → Type 0
SameElements C D = (I : Interpretation Word Word) (x : ℕ) → x < I.size → InClass I C x ↔ In I D x

-- The inclusions are those of the usual axioms, one for each, in order.
pub data UsualRules : List Axiom → List (Inclusion Word Word) → Type 0 where
  none : UsualRules [] []
  strict_next : {a : Axiom} {rest : List Axiom} {ρs : List (Inclusion Word Word)} → a.usual ≡ false → UsualRules rest ρs → UsualRules (a ∷ rest) ρs
  usual_next : {a : Axiom} {rest : List Axiom} {ρ : Inclusion Word Word} {ρs : List (Inclusion Word Word)} →
      a.usual ≡ true → SameElements a.sub ρ.left → SameElements a.super ρ.right → UsualRules rest ρs → UsualRules (a ∷ rest) (ρ ∷ ρs)

pub record SameMeaning (axioms : List Axiom) (lines : List (Line Word Word)) : Type 0 where
  pub models : (I : Interpretation Word Word) → ModelOf axioms I ↔ Model (strict_of lines) I
  pub usual : UsualRules axioms (defeasible_of lines)
