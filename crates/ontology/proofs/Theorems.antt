-- The theorems on axioms and their texts, in reading order.
--     book_means                    the book of axioms has exactly their models and their usual rules
--     book_reads                    it is a text of their lines
--     book_behind                   and, with a text of other lines behind it, one of both
--     lines_express, book_closure   its lines say what the axioms say, and what they get, all get that do
--     axiom_closure_unique          axioms have one closure
--     axioms_unique                 an input is a text of one list of axioms at most
--     no_run_unique                 it is no run at one place at most
--     run_either                    it is a text of axioms, or no run, at some place
--     run_exclusive                 and not both
-- Assumes nothing.
use Prim.Native.Nat.{ℕ}
use mathlib.Core.Path.{◌≡◌}
use mathlib.Core.List.{List, ◌++◌}
use mathlib.Core.Logic.{◌⊎◌}
use Rattle.semantics.specs.Closure.{Line, RationalClosure, yes_count}
use Rattle.semantics.specs.Source.{Word, Reads}
use Rattle.ontology.specs.Axiom.{Axiom}
use Rattle.ontology.specs.Book.{lines_of, book, SameMeaning}
use Rattle.ontology.specs.Text.{RunOf}
use Rattle.ontology.specs.Refused.{NoRunAt}
use Rattle.ontology.specs.Closure.{Express, AxiomClosure}
use Rattle.ontology.proofs.Meaning as meaning
use Rattle.ontology.proofs.Written as writing
use Rattle.ontology.proofs.Saying as saying
use Rattle.ontology.proofs.Deciding as deciding

-- The book of the axioms has exactly the models and the usual rules of the axioms read directly.
pub book_means : (axioms : List Axiom) → SameMeaning axioms (lines_of axioms)
book_means = meaning.book_means

pub book_reads : {input : List ℕ} {axioms : List Axiom} → RunOf input axioms → Reads (book axioms) (lines_of axioms)
book_reads = writing.book_reads

pub book_behind : {input more : List ℕ} {axioms : List Axiom} {behind : List (Line Word Word)} → RunOf input axioms → Reads more behind → Reads (book axioms ++ more) (lines_of axioms ++ behind)
book_behind = writing.book_behind

-- The book's lines say what the axioms say, and whatever lines do have the levels, passes, results and count of yes of the book's, with any lines behind both.
pub lines_express : (axioms : List Axiom) → Express axioms (lines_of axioms)
lines_express = saying.lines_express

pub book_closure : (axioms : List Axiom) (behind : List (Line Word Word)) {levels passes : ℕ} {results : List ℕ} → RationalClosure (lines_of axioms ++ behind) levels passes results →
    AxiomClosure axioms behind levels passes (yes_count (lines_of axioms ++ behind) results) results
book_closure = saying.book_closure

pub axiom_closure_unique : {axioms : List Axiom} {behind : List (Line Word Word)} {levels passes yes levels' passes' yes' : ℕ} {results results' : List ℕ} →
    AxiomClosure axioms behind levels passes yes results → AxiomClosure axioms behind levels' passes' yes' results' →
    (levels ≡ levels') × (passes ≡ passes') × (results ≡ results') × (yes ≡ yes')
axiom_closure_unique = saying.axiom_closure_unique

pub axioms_unique : {input : List ℕ} {l m : List Axiom} → RunOf input l → RunOf input m → l ≡ m
axioms_unique = deciding.axioms_unique

pub no_run_unique : (input : List ℕ) (p q : ℕ) → NoRunAt input p → NoRunAt input q → p ≡ q
no_run_unique = deciding.no_run_unique

pub run_either : (input : List ℕ) → ((axioms : List Axiom) × RunOf input axioms) ⊎ ((p : ℕ) × NoRunAt input p)
run_either = deciding.run_either

pub run_exclusive : (input : List ℕ) (p : ℕ) (axioms : List Axiom) → RunOf input axioms → NoRunAt input p → ⊥
run_exclusive = deciding.run_exclusive
