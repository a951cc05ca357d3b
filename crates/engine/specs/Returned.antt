-- What the theorems say of calls that return 0.
--     sizes_in, counts_in, deck_counts_in   the counts that a call wrote, read off its last slice
--     totals_in                             the totals of a class
--     CallsGiveClosure                      demand 3 over the numbers that two calls return and write
--     CallsGiveAxioms                       and of a book that was converted from axioms
use Rattle.std.specs.Prelude.{ℕ, ◌≡◌, List, get_or, take}
use Rattle.semantics.specs.Closure.{Line}
use Rattle.semantics.specs.Source.{Word}
use Rattle.workspace.specs.declared.Counts.{Counts}
use Rattle.compiler.specs.declared.Sizes.{Sizes}
use Rattle.evaluator.specs.Contract.{TextClosure}
use Rattle.sheets.specs.declared.Totals.{Totals}
use Rattle.ontology.specs.Axiom.{Axiom}
use Rattle.ontology.specs.Closure.{AxiomClosure}

-- compiling's, by `shelf_compile` or `shelf_evaluate`
abbrev pub sizes_in : List ℕ → Sizes
sizes_in answer = record { lines = get_or answer 0 0; rows = get_or answer 1 0; numbers = get_or answer 2 0; roles = get_or answer 3 0 }

-- settling's, by `shelf_evaluate`
abbrev pub counts_in : List ℕ → Counts
counts_in answer = record { levels = get_or answer 4 0; passes = get_or answer 5 0; yes = get_or answer 6 0 }

-- settling's, by `shelf_classify`
abbrev pub deck_counts_in : List ℕ → Counts
deck_counts_in answer = record { levels = get_or answer 0 0; passes = get_or answer 1 0; yes = get_or answer 2 0 }

-- marking's, by `shelf_mark`
abbrev pub totals_in : List ℕ → Totals
totals_in answer = record { right = get_or answer 0 0; wrong = get_or answer 1 0 }

-- Settling what was compiled returns 0 and reports the text's own lines: compiling wrote to the slice `answer`, settling to the slice `last`.
pub record CallsGiveClosure (text results answer last : List ℕ) (result : ℕ) : Type 0 where
  pub accepted : result ≡ 0
  pub reported : TextClosure text results (sizes_in answer).lines (sizes_in answer).rows (deck_counts_in last)

-- Settling what was compiled of the axioms' book, with a text of other lines behind it, returns 0 and reports what the axioms have by themselves.
pub record CallsGiveAxioms (axioms : List Axiom) (behind : List (Line Word Word)) (results answer last : List ℕ) (result : ℕ) : Type 0 where
  pub accepted : result ≡ 0
  pub closure : let c = deck_counts_in last in AxiomClosure axioms behind c.levels c.passes c.yes (take (sizes_in answer).lines results)
