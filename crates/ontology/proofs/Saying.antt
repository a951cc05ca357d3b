-- Axioms have one rational closure, whichever concepts express their classes, and their book has it. Assumes nothing.
--     lines_express     the lines of the book say what the axioms say
--     same_closure  so do all others that do, and they have the same closure
use Prim.Native.Nat.{ℕ, ◌<◌}
use mathlib.Core.List.{List, [], ◌∷◌, ◌++◌}
use mathlib.Core.Logic.Iff
use mathlib.Core.Logic.{◌↔◌}
use mathlib.Core.Path.{◌≡◌, refl, sym, ◌∙◌, ap}
use Rattle.semantics.specs.Concept.{Concept, Interpretation, In}
use Rattle.semantics.specs.Closure.{Line, line, is_strict, is_defeasible, strict_of, RationalClosure, yes_count}
use Rattle.semantics.specs.Source.{Word}
use Rattle.semantics.proofs.Counting.{yes_there}
use Rattle.semantics.proofs.Unique.{closure_unique}
use Rattle.semantics.proofs.Like.{Pointwise, nil, cons, pointwise_length, alike_pointwise}
use Rattle.semantics.proofs.Transport.{LineR, kind_kept, inclusion_flip, Same, start, passes_there, results_there, inclusions_there}
use Rattle.semantics.proofs.Twins.{Twin, twin_flip, obeys_there, same_of_twins}
use Rattle.ontology.specs.Axiom.{Class, Axiom}
use Rattle.ontology.specs.Book.{lines_of, SameElements}
use Rattle.ontology.specs.Closure.{Express, none, next, AxiomClosure}
use Rattle.ontology.proofs.Meaning.{same_elements}

pub lines_express : (axioms : List Axiom) → Express axioms (lines_of axioms)
lines_express [] = none
lines_express (a ∷ l) = next (same_elements a.sub) (same_elements a.super) (lines_express l)

-- ---- concepts with the same elements

abbrev SameIn : Concept Word Word → Concept Word Word → Type 0
SameIn C D = (I : Interpretation Word Word) (x : ℕ) → x < I.size → In I C x ↔ In I D x

both_same : (A : Class) (C D : Concept Word Word) → SameElements A C → SameElements A D → SameIn C D
both_same A C D s t I x lt = (λ h. (t I x lt).0 ((s I x lt).1 h), λ h. (s I x lt).0 ((t I x lt).1 h))

both_express : {axioms : List Axiom} {lines lines' : List (Line Word Word)} → Express axioms lines → Express axioms lines' → Pointwise (LineR SameIn) lines lines'
both_express none none = nil
both_express (next {a = a} {C = C} {D = D} s t rest) (next {C = C'} {D = D'} s' t' rest') =
    cons (kind_kept (both_same a.sub C C' s s') (both_same a.super D D' t t')) (both_express rest rest')

twins : (I : Interpretation Word Word) → Twin SameIn I I
twins I = record { sizes = refl; alike = λ r x lt. r I x lt }

module _ {lines lines' : List (Line Word Word)} (w : Pointwise (LineR SameIn) lines lines') where
  same_strict : Same SameIn (strict_of lines) (strict_of lines')
  same_strict =
      let s = alike_pointwise (inclusions_there is_strict w) in
      same_of_twins (λ I x lt. Iff.rfl)
      (λ I m. (I, twins I, λ x lt. obeys_there (twins I) s x lt (m x lt)))
      (λ I m. (I, twins I, λ x lt. obeys_there (twin_flip (twins I)) (inclusion_flip s) x lt (m x lt)))

  same_closure : {levels passes : ℕ} {results : List ℕ} → RationalClosure lines levels passes results → RationalClosure lines' levels passes results
  same_closure s =
      let p = passes_there same_strict start (alike_pointwise (inclusions_there is_defeasible w)) s.passed in
      record {
        T* = p.0;
        sets = p.1;
        passed = p.2;
        level_count = s.level_count ∙ pointwise_length p.4;
        reported = results_there same_strict p.3 p.4 w s.reported;
      }

-- lines that are behind to both
with_behind : {lines lines' : List (Line Word Word)} (behind : List (Line Word Word)) → Pointwise (LineR SameIn) lines lines' → Pointwise (LineR SameIn) (lines ++ behind) (lines' ++ behind)
with_behind [] nil = nil
with_behind (line k C D ∷ behind) nil = cons (kind_kept (λ I x lt. Iff.rfl) (λ I x lt. Iff.rfl)) (with_behind behind nil)
with_behind behind (cons r w) = cons r (with_behind behind w)

-- the closure of the book's lines is that of the axioms
pub book_closure : (axioms : List Axiom) (behind : List (Line Word Word)) {levels passes : ℕ} {results : List ℕ} → RationalClosure (lines_of axioms ++ behind) levels passes results →
    AxiomClosure axioms behind levels passes (yes_count (lines_of axioms ++ behind) results) results
book_closure axioms behind {results = results} c = record {
  lines = lines_of axioms;
  expressed = lines_express axioms;
  closes = λ ls s. same_closure (alongside ls s) c;
  yes_counted = λ ls s. yes_there (alongside ls s) results;
}
  where
    alongside : (ls : List (Line Word Word)) → Express axioms ls → Pointwise (LineR SameIn) (lines_of axioms ++ behind) (ls ++ behind)
    alongside ls s = with_behind behind (both_express (lines_express axioms) s)

pub axiom_closure_unique : {axioms : List Axiom} {behind : List (Line Word Word)} {levels passes yes levels' passes' yes' : ℕ} {results results' : List ℕ} →
    AxiomClosure axioms behind levels passes yes results → AxiomClosure axioms behind levels' passes' yes' results' →
    (levels ≡ levels') × (passes ≡ passes') × (results ≡ results') × (yes ≡ yes')
axiom_closure_unique {behind = behind} c c' =
    let (l, p, r) = closure_unique (c.closes c.lines c.expressed) (c'.closes c.lines c.expressed) in
    (l, p, r, c.yes_counted c.lines c.expressed ∙ ap (yes_count (c.lines ++ behind)) r ∙ sym (c'.yes_counted c.lines c.expressed))
