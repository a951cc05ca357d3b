-- The book of axioms has exactly their models and their usual rules. Assumes nothing.
use Prim.Native.Nat.{ℕ}
use mathlib.Core.Path.{◌≡◌, refl, ap}
use mathlib.Core.Bool.{Bool, true, false}
use mathlib.Core.List.{List, [], ◌∷◌, Memᴰ}
use mathlib.Core.Logic.Iff
use mathlib.Core.Logic.{◌↔◌}
use Rattle.semantics.specs.Concept.{Interpretation, In, Inclusion, Model}
use Rattle.semantics.specs.Closure.{line, includes, inclusions_of, strict_of, defeasible_of}
use Rattle.semantics.specs.Source.{Word}
use Rattle.ontology.specs.Axiom.{Class, named, thing, nothing, intersection, some_values_from, Classes, one, more, Axiom, InClass, InAll, ModelOf}
use Rattle.ontology.specs.Book.{SameElements, concept_of, concept_of_all, kind_of_axiom, lines_of, UsualRules, none, strict_next, usual_next, SameMeaning}

mutual
  unfolding InClass concept_of In

  pub same_class : (C : Class) (I : Interpretation Word Word) (x : ℕ) → InClass I C x ↔ In I (concept_of C) x
  same_class (named w) I x = Iff.rfl
  same_class thing I x = Iff.rfl
  same_class nothing I x = Iff.rfl
  same_class (intersection C Cs) I x =
      (λ h. ((same_class C I x).0 h.0, (same_all Cs I x).0 h.1), λ h. ((same_class C I x).1 h.0, (same_all Cs I x).1 h.1))
  same_class (some_values_from r C) I x =
      (λ h. (h.0, h.1, h.2, (same_class C I h.0).0 h.3), λ h. (h.0, h.1, h.2, (same_class C I h.0).1 h.3))

  pub same_all : (Cs : Classes) (I : Interpretation Word Word) (x : ℕ) → InAll I Cs x ↔ In I (concept_of_all Cs) x
  same_all (one C) I x = same_class C I x
  same_all (more C Cs) I x =
      (λ h. ((same_class C I x).0 h.0, (same_all Cs I x).0 h.1), λ h. ((same_class C I x).1 h.0, (same_all Cs I x).1 h.1))

pub same_elements : (C : Class) → SameElements C (concept_of C)
same_elements C I x lt = same_class C I x

-- ---- the strict axioms

abbrev inclusion_of : Axiom → Inclusion Word Word
inclusion_of a = includes (concept_of a.sub) (concept_of a.super)

-- an inclusion of the book's strict lines is that of an axiom
record FromAxiom (axioms : List Axiom) (ρ : Inclusion Word Word) : Type 0 where
  pub ax : Axiom
  pub among : Memᴰ ax axioms
  pub plain : ax.usual ≡ false
  pub same : ρ ≡ inclusion_of ax

from_later : (a : Axiom) (l : List Axiom) (ρ : Inclusion Word Word) → FromAxiom l ρ → FromAxiom (a ∷ l) ρ
from_later a l ρ f = record { ax = f.ax; among = Memᴰ.tail f.among; plain = f.plain; same = f.same }

from_axiom : (axioms : List Axiom) (ρ : Inclusion Word Word) → Memᴰ ρ (strict_of (lines_of axioms)) → FromAxiom axioms ρ
unfolding inclusions_of
from_axiom (a ∷ l) ρ m = go a.usual refl (from_axiom l ρ) m
  where
    go : (u : Bool) → a.usual ≡ u → (Memᴰ ρ (strict_of (lines_of l)) → FromAxiom l ρ) →
        Memᴰ ρ (strict_of (line (kind_of_axiom u) (concept_of a.sub) (concept_of a.super) ∷ lines_of l)) → FromAxiom (a ∷ l) ρ
    go true e k m = from_later a l ρ (k m)
    go false e k (Memᴰ.head h) = record { ax = a; among = Memᴰ.head refl; plain = e; same = h }
    go false e k (Memᴰ.tail m) = from_later a l ρ (k m)
from_axiom [] ρ m = elim m [ ]

to_line : (axioms : List Axiom) (a : Axiom) → Memᴰ a axioms → a.usual ≡ false → Memᴰ (inclusion_of a) (strict_of (lines_of axioms))
unfolding inclusions_of
to_line (b ∷ l) a (Memᴰ.head h) e = let f : b.usual ≡ false = cc in rw f (Memᴰ.head (ap inclusion_of h))
to_line (b ∷ l) a (Memᴰ.tail m) e = go b.usual (to_line l a m e)
  where
    go : (u : Bool) → Memᴰ (inclusion_of a) (strict_of (lines_of l)) →
        Memᴰ (inclusion_of a) (strict_of (line (kind_of_axiom u) (concept_of b.sub) (concept_of b.super) ∷ lines_of l))
    go true k = k
    go false k = Memᴰ.tail k
to_line [] a x'' e = elim x'' [ ]

same_models : (axioms : List Axiom) (I : Interpretation Word Word) → ModelOf axioms I ↔ Model (strict_of (lines_of axioms)) I
same_models axioms I = (forth, back)
  where
    forth : ModelOf axioms I → Model (strict_of (lines_of axioms)) I
    forth m x inside ρ among h =
        let f = from_axiom axioms ρ among in
        let a = f.ax in
        rw f.same ((same_class a.super I x).0 (m.holds a f.among f.plain x inside ((same_class a.sub I x).1 (rw f.same at h))))

    back : Model (strict_of (lines_of axioms)) I → ModelOf axioms I
    back m = record {
      holds = λ a among plain x inside h.
          (same_class a.super I x).1 (m x inside (inclusion_of a) (to_line axioms a among plain) ((same_class a.sub I x).0 h));
    }

-- ---- the usual axioms

usual_rules : (axioms : List Axiom) → UsualRules axioms (defeasible_of (lines_of axioms))
unfolding inclusions_of
usual_rules [] = none
usual_rules (a ∷ l) = go a.usual refl (usual_rules l)
  where
    go : (u : Bool) → a.usual ≡ u → UsualRules l (defeasible_of (lines_of l)) →
        UsualRules (a ∷ l) (defeasible_of (line (kind_of_axiom u) (concept_of a.sub) (concept_of a.super) ∷ lines_of l))
    go true e k = usual_next e (same_elements a.sub) (same_elements a.super) k
    go false e k = strict_next e k

-- The book of the axioms has exactly the models and the usual rules of the axioms read directly.
pub book_means : (axioms : List Axiom) → SameMeaning axioms (lines_of axioms)
book_means axioms = record { models = same_models axioms; usual = usual_rules axioms }
