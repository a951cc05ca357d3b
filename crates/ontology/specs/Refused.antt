-- Where an input is no run of axioms (refusal 24).
--     Begins    some axioms have a text, of any length, that begins with these bytes
--     NoRunAt   the first byte that no run of axioms could have there, or the end of one that is cut short
use Rattle.std.specs.Prelude.{ℕ, ◌+◌, ◌<◌, ◌≤◌, ◌≡◌, List, ◌++◌, length, take}
use Rattle.ontology.specs.Axiom.{Axiom}
use Rattle.ontology.specs.Text.{RunOf}

pub record Begins (bytes : List ℕ) : Type 0 where
  pub axioms : List Axiom
  pub rest : List ℕ
  pub reads : RunOf (bytes ++ rest) axioms

-- What stands before p begins a run's text, and no run's text goes on with the byte at p, or the input ends there and is no run's text.
pub record NoRunAt (input : List ℕ) (p : ℕ) : Type 0 where
  pub inside : p ≤ length input
  pub before : Begins (take p input)
  pub byte : p < length input → Begins (take (p + 1) input) → ⊥
  pub cut : p ≡ length input → (axioms : List Axiom) → RunOf input axioms → ⊥
