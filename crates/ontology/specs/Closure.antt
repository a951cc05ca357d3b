-- The rational closure that axioms have by themselves, whichever concepts express their classes, with any lines behind them, as questions.
--     Express        lines that say what the axioms say
--     AxiomClosure   all of them, with the lines behind them, have these levels, passes and results, and this count of yes
use Rattle.std.specs.Prelude.{ℕ, ◌≡◌, List, [], ◌∷◌, ◌++◌}
use Rattle.semantics.specs.Concept.{Concept}
use Rattle.semantics.specs.Closure.{Line, line, RationalClosure, yes_count}
use Rattle.semantics.specs.Source.{Word}
use Rattle.ontology.specs.Axiom.{Axiom}
use Rattle.ontology.specs.Book.{kind_of_axiom, SameElements}

-- One line for each axiom, in order: strict or, where the axiom is usual, defeasible, and between concepts with the elements of its classes.
pub data Express : List Axiom → List (Line Word Word) → Type 0 where
  none : Express [] []
  next : {a : Axiom} {axioms : List Axiom} {C D : Concept Word Word} {lines : List (Line Word Word)} →
      SameElements a.sub C → SameElements a.super D → Express axioms lines → Express (a ∷ axioms) (line (kind_of_axiom a.usual) C D ∷ lines)

-- There are such lines, and any of them, with those behind them, have this closure. The results are those of the axioms, in order, and then those of the lines behind them.
pub record AxiomClosure (axioms : List Axiom) (behind : List (Line Word Word)) (levels passes yes : ℕ) (results : List ℕ) : Type 0 where
  pub lines : List (Line Word Word)
  pub expressed : Express axioms lines
  pub closes : (ls : List (Line Word Word)) → Express axioms ls → RationalClosure (ls ++ behind) levels passes results
  pub yes_counted : (ls : List (Line Word Word)) → Express axioms ls → yes ≡ yes_count (ls ++ behind) results
