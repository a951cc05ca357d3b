-- The three demands, over the numbers that the calls return and write: the page to open first. Each statement is proved by a citation. Assumes nothing.
-- That a call meets its contract (specs/Calls.antt here: `CompileCall` and its like) is the `ensures` of crates/engine/src/lib.rt; every call ends. What is cited:
--     TextAcceptable, TextRefused; BookRefused, LongEnough   crates/grammar/specs/Accepted.antt, Refused.antt; with 2, crates/compiler/specs/Refused.antt, crates/evaluator/specs/Contract.antt
--     DeckAcceptable, DeckRefused; Buffers                   crates/closure/specs/Contract.antt: refusals 11 to 18; crates/buffers/specs/Buffers.antt: what is lent for settling
--     Compiled, Classified, BookEvaluated; Decided, ..       specs/Contract.antt of crates compiler, closure and evaluator; specs/Refused.antt and Returned.antt here
--     MarkAcceptable, MarkRefused, Unchanged, ClassMarked    crates/marking/specs/Contract.antt, with crates/sheets/specs/Sheets.antt and Refused.antt
--     Convertible, ConvertRefused, BookWritten               crates/converter/specs/Contract.antt, with crates/ontology/specs/Text.antt and Refused.antt
--     book, SameMeaning; AxiomClosure                        crates/ontology/specs/Book.antt, with Axiom.antt; Closure.antt there
--     RationalClosure; YesCounted, OwnName, RankedHabits     crates/semantics/specs/Closure.antt; Replies.antt and OwnNames.antt there, crates/laws/specs/Habits.antt
--     ByRank; TextOrder                                      crates/semantics/specs/Outputs.antt; crates/evaluator/specs/Contract.antt
use Prim.Native.Nat.{ℕ, ◌*◌, ◌≤◌}
use mathlib.Core.Path.{◌≡◌}
use mathlib.Core.Option.{some}
use mathlib.Core.List.{List, [], ◌++◌, map}
use lib.ListN.{length, get_or, take}
use Rattle.std.specs.Prelude.{Ok}
use Rattle.semantics.specs.Concept.{Concept, Inclusion}
use Rattle.semantics.specs.Closure.{Line, strict_of, Filtered, level, RankIs, RationalClosure, yes_count}
use Rattle.semantics.specs.Limits.{answer_limit, row_limit, set_words}
use Rattle.semantics.specs.Outputs.{defeasible_rows, ByRank}
use Rattle.semantics.specs.OwnNames.{line_names, line_roles, OwnName, plain_lines}
use Rattle.semantics.specs.Replies.{YesCounted}
use Rattle.semantics.specs.Row.{Row, line_of, Unpacked}
use Rattle.semantics.specs.Source.{Word, Reads}
use Rattle.semantics.proofs.Theorems as closures
use Rattle.laws.specs.Habits.{Defeasibly, RankedHabits}
use Rattle.laws.proofs.Theorems as laws
use Rattle.buffers.specs.Buffers.{Buffers}
use Rattle.workspace.specs.declared.Counts.{Counts}
use Rattle.closure.specs.Contract.{DeckAcceptable, DeckRefused, Classified}
use Rattle.grammar.specs.Accepted.{TextAcceptable}
use Rattle.finder.specs.Contract.{Named, NameFound}
use Rattle.finder.proofs.Empty as finder
use Rattle.compiler.specs.Contract.{Compiled}
use Rattle.compiler.specs.Refused.{BookRefused}
use Rattle.compiler.specs.declared.Sizes.{Sizes}
use Rattle.evaluator.specs.Contract.{TextClosure, TextOrder, LongEnough, BookEvaluated}
use Rattle.evaluator.specs.Same.{SameEvaluation}
use Rattle.evaluator.proofs.Theorems as evaluating
use Rattle.marking.specs.Contract.{MarkAcceptable, MarkRefused, Unchanged, ClassMarked}
use Rattle.ontology.specs.Book.{lines_of, SameMeaning}
use Rattle.ontology.specs.Closure.{AxiomClosure}
use Rattle.converter.specs.Contract.{Convertible, ConvertRefused, BookWritten}
use Rattle.engine.specs.Calls.{CompileCall, ClassifyCall, EvaluateCall, MarkCall, ConvertCall}
use Rattle.engine.specs.Refused.{Decided}
use Rattle.engine.specs.Returned.{sizes_in, counts_in, deck_counts_in, totals_in, CallsGiveClosure, CallsGiveAxioms}
use Rattle.engine.proofs.Refusing as refusing
use Rattle.engine.proofs.Theorems as theorems

-- ---- demand 1: a call returns 0 exactly where what it was given is accepted, and else the number of the refusal that holds of it, with the place in its slice and
-- all else as at entry. Accepted, it reports: compiling's report is here, settling's is demand 2. The finder shows nothing where no word of an accepted text has the number.
pub demand_1_compile : {text deck₀ deck answer₀ answer : List ℕ} {result : ℕ} → CompileCall text deck₀ deck answer₀ answer result →
    Decided (TextAcceptable text × (row_limit ≤ length deck₀)) (BookRefused (row_limit ≤ length deck₀) text) (deck ≡ deck₀) answer₀ answer result
demand_1_compile = refusing.compile_decided

pub demand_1_compiled : {text deck₀ deck answer₀ answer : List ℕ} → CompileCall text deck₀ deck answer₀ answer 0 → Compiled text deck₀ deck (Ok (sizes_in answer))
demand_1_compiled = theorems.compile_call_accepted

pub demand_1_classify : {words : List ℕ} {N R : ℕ} {before after : Buffers} {answer₀ answer : List ℕ} {result : ℕ} → ClassifyCall words N R before after answer₀ answer result →
    Decided (DeckAcceptable N R words before) (DeckRefused N R words before) (after ≡ before) answer₀ answer result
demand_1_classify = refusing.classify_decided

pub demand_1_evaluate : {text deck₀ deck : List ℕ} {before after : Buffers} {answer₀ answer : List ℕ} {result : ℕ} → EvaluateCall text deck₀ deck before after answer₀ answer result →
    Decided (TextAcceptable text × LongEnough deck₀ before) (BookRefused (LongEnough deck₀ before) text) ((deck ≡ deck₀) × (after ≡ before)) answer₀ answer result
demand_1_evaluate = refusing.evaluate_decided

pub demand_1_mark : {text sheets deck₀ deck : List ℕ} {before after : Buffers} {report₀ report answer₀ answer : List ℕ} {result : ℕ} →
    MarkCall text sheets deck₀ deck before after report₀ report answer₀ answer result →
    Decided (MarkAcceptable text sheets deck₀ before (length report₀)) (MarkRefused text sheets deck₀ before (length report₀)) (Unchanged deck₀ deck before after report₀ report)
    answer₀ answer result
demand_1_mark = refusing.mark_decided

pub demand_1_convert : {input text₀ text answer₀ answer : List ℕ} {result : ℕ} → ConvertCall input text₀ text answer₀ answer result →
    Decided (Convertible input (length text₀)) (ConvertRefused input (length text₀)) (text ≡ text₀) answer₀ answer result
demand_1_convert = refusing.convert_decided

pub demand_1_finder : {text part : List ℕ} {text_at part_at : ℕ × ℕ} {number : ℕ} → NameFound text part text_at part_at number → (Named text number → ⊥) → part ≡ []
demand_1_finder = finder.unnamed_shows_nothing

-- ---- demand 2: where `shelf_classify` returns 0, levels, passes and yes, the first three numbers of its slice, each result, the table and the order are those of
-- the rational closure of the rows, over all finite interpretations. Lines have one, and their count of yes is the number of questions answered yes.
pub demand_2 : {words : List ℕ} {N R : ℕ} {before after : Buffers} {answer₀ answer : List ℕ} → ClassifyCall words N R before after answer₀ answer 0 →
    Classified words N R before after (Ok (deck_counts_in answer))
demand_2 = theorems.classify_call_counted

pub demand_2_one : {A R : Type 0} {lines : List (Line A R)} {levels passes levels' passes' : ℕ} {results results' : List ℕ} →
    RationalClosure lines levels passes results → RationalClosure lines levels' passes' results' → (levels ≡ levels') × (passes ≡ passes') × (results ≡ results')
demand_2_one = closures.closure_unique

-- The order goes by the ranks that the rows have in this closure, infinite last, and within a rank by the deck; and it is one list.
pub demand_2_order : {words : List ℕ} {N R : ℕ} {before after : Buffers} {answer₀ answer : List ℕ} → ClassifyCall words N R before after answer₀ answer 0 →
    (rows : List Row) × Unpacked N R words rows ×
    (s : RationalClosure (map line_of rows) (deck_counts_in answer).levels (deck_counts_in answer).passes (take (length words) after.results)) ×
    ByRank s.T* s.sets (map line_of rows) (take (length (defeasible_rows rows)) after.order)
demand_2_order = theorems.classify_call_order

pub demand_2_order_one : {A R : Type 0} {lines : List (Line A R)} {levels passes : ℕ} {results order order' : List ℕ} (s : RationalClosure lines levels passes results) →
    length lines ≤ row_limit → ByRank s.T* s.sets lines order → ByRank s.T* s.sets lines order' → order ≡ order'
demand_2_order_one = closures.by_rank_unique

pub demand_2_yes : {A R : Type 0} {lines : List (Line A R)} {levels passes : ℕ} {results : List ℕ} (s : RationalClosure lines levels passes results) →
    length lines ≤ row_limit → YesCounted (strict_of lines) s.T* s.sets lines (yes_count lines results)
demand_2_yes = closures.yes_accepted

-- ---- demand 3: where `shelf_compile` returns 0, `shelf_classify` on the rows that it wrote, with the numbers and roles that it returned and buffers as long as
-- asked, returns 0 too, and what it reports is that of the text's own nested lines. `shelf_evaluate` does both, with that report; and so it is over the interpretations of the text's own words.
pub demand_3 : {text deck₀ deck answer₀ answer last₀ last : List ℕ} {before after : Buffers} {result : ℕ} → CompileCall text deck₀ deck answer₀ answer 0 →
    set_words * get_or answer 2 0 ≤ length before.table → get_or answer 1 0 ≤ length before.results → get_or answer 1 0 ≤ length before.order →
    answer_limit ≤ length last₀ → ClassifyCall (take (get_or answer 1 0) deck) (get_or answer 2 0) (get_or answer 3 0) before after last₀ last result →
    CallsGiveClosure text after.results answer last result
demand_3 = theorems.calls_closure

pub demand_3_evaluate : {text deck₀ deck : List ℕ} {before after : Buffers} {answer₀ answer : List ℕ} → EvaluateCall text deck₀ deck before after answer₀ answer 0 →
    BookEvaluated text deck₀ deck before after (sizes_in answer) (counts_in answer)
demand_3_evaluate = theorems.evaluate_call_done

-- So is a class marked: the sitting's report is that one, and the key by which each sheet is scored is the reply to each question of the text's own lines.
pub demand_3_mark : {text sheets deck₀ deck : List ℕ} {before after : Buffers} {report₀ report answer₀ answer : List ℕ} →
    MarkCall text sheets deck₀ deck before after report₀ report answer₀ answer 0 → ClassMarked text sheets deck₀ deck before after report₀ report (totals_in answer)
demand_3_mark = theorems.mark_call_marked

-- The order that they write is that of the text's own lines: by their ranks in the closure that is reported, infinite last, and within a rank as they stand in the text.
-- So it is of two calls in a row, and of a sitting, which `demand_3_evaluate` has and `demand_3_mark` too.
pub demand_3_order : {text deck₀ deck answer₀ answer last₀ last : List ℕ} {before after : Buffers} {line_count row_count : ℕ} {c : Counts} →
    CompileCall text deck₀ deck answer₀ answer 0 → ClassifyCall (take (get_or answer 1 0) deck) (get_or answer 2 0) (get_or answer 3 0) before after last₀ last 0 →
    (b : TextClosure text after.results line_count row_count c) → TextOrder b after.order
demand_3_order = theorems.calls_order

pub demand_3_order_sitting : {text deck₀ deck : List ℕ} {before after : Buffers} {s : Sizes} {c : Counts} (b : BookEvaluated text deck₀ deck before after s c) →
    TextOrder b.reported after.order
demand_3_order_sitting = evaluating.book_order

-- And so it is with axioms: where `shelf_convert` returns 0 the text begins with their book, which reads as lines with exactly their models and usual rules. Compiled and
-- settled, with a text of other lines behind it, as questions, or none, it gets the levels, passes, yes and results that the axioms have by themselves with these lines.
pub demand_3_convert : {input text₀ text answer₀ answer : List ℕ} → ConvertCall input text₀ text answer₀ answer 0 → BookWritten input text₀ text (get_or answer 0 0)
demand_3_convert = theorems.convert_call_written

pub demand_3_meaning : {input text₀ text : List ℕ} {size : ℕ} (b : BookWritten input text₀ text size) →
    Reads (take size text) (lines_of b.axioms) × SameMeaning b.axioms (lines_of b.axioms)
demand_3_meaning b = theorems.text_means b

pub demand_3_axioms : {input text₀ text more : List ℕ} {size : ℕ} {behind : List (Line Word Word)} (b : BookWritten input text₀ text size) → Reads more behind →
    {deck₀ deck answer₀ answer last₀ last : List ℕ} {before after : Buffers} {result : ℕ} → CompileCall (take size text ++ more) deck₀ deck answer₀ answer 0 →
    set_words * get_or answer 2 0 ≤ length before.table → get_or answer 1 0 ≤ length before.results → get_or answer 1 0 ≤ length before.order →
    answer_limit ≤ length last₀ → ClassifyCall (take (get_or answer 1 0) deck) (get_or answer 2 0) (get_or answer 3 0) before after last₀ last result →
    CallsGiveAxioms b.axioms behind after.results answer last result
demand_3_axioms b r = theorems.axioms_calls b r

pub demand_3_axioms_evaluate : {input text₀ text more deck₀ deck answer₀ answer : List ℕ} {size : ℕ} {before after : Buffers} {behind : List (Line Word Word)} →
    (b : BookWritten input text₀ text size) → Reads more behind → EvaluateCall (take size text ++ more) deck₀ deck before after answer₀ answer 0 →
    let c = counts_in answer in AxiomClosure b.axioms behind c.levels c.passes c.yes (take (sizes_in answer).lines after.results)
demand_3_axioms_evaluate b r call = theorems.behind_closure b r (demand_3_evaluate call).reported

pub demand_3_own_words : {text results : List ℕ} {line_count row_count : ℕ} {c : Counts} (b : TextClosure text results line_count row_count c) →
    (own : List (Line (OwnName (line_names b.lines)) (OwnName (line_roles b.lines)))) × (plain_lines own ≡ b.lines) ×
    RationalClosure own c.levels c.passes (take line_count results) × (c.yes ≡ yes_count own (take line_count results))
demand_3_own_words = evaluating.own_words_closure

-- ---- beside them: no trait of a part leaks to the machine by habit: what an X usually is, at rank i, is what the S lines give for X with the rights of those rules of
-- its layer whose left X itself usually is. And a shelf follows from its text and nothing else, whatever was lent for it.
pub book_habits_stay : {lines : List (Line Word Word)} {levels passes : ℕ} {results : List ℕ} (s : RationalClosure lines levels passes results) (X : Concept Word Word) (i : ℕ) →
    RankIs s.T* s.sets X (some i) →
    (F : List (Inclusion Word Word)) × Filtered (λ (ρ : Inclusion Word Word). Defeasibly s X ρ.left) (level s.sets i) F × RankedHabits s (strict_of lines) X F
book_habits_stay s X i = laws.finite_habits s X laws.word_closures i

pub text_alone : {text deck₀ deck deck₁ deck' : List ℕ} {before after before' after' : Buffers} {answer₀ answer answer₁ answer' : List ℕ} →
    EvaluateCall text deck₀ deck before after answer₀ answer 0 → EvaluateCall text deck₁ deck' before' after' answer₁ answer' 0 →
    SameEvaluation text deck deck' after after' (sizes_in answer) (sizes_in answer') (counts_in answer) (counts_in answer')
text_alone = theorems.evaluate_call_follows
