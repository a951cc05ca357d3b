-- The theorems on the calls from Rust, in reading order: read off the numbers that they return and write. What each accepts
-- and refuses, demand 1, is in Demands.antt. `before` and `after` are the buffers lent for settling.
--     compile_call_accepted, ..  a call that returns 0 has not refused, and the counts of its promise stand in its last slice; of `shelf_classify` that is demand 2
--     calls_closure              demand 3, of one call after the other
--     evaluate_call_closure      demand 3, of the sitting
--     classify_call_order, calls_order   the order goes by ranks; of a text it is that of its own lines (of a sitting by `book_order`)
--     text_means, axioms_closure, behind_closure, axioms_calls   and of a book that was converted from axioms
--     compile_call_follows, ..   what a call writes follows from what it was given, whatever was lent for it
--     compile_call_unique, ..    what a call promises has one outcome
-- Assumes nothing.
use Prim.Native.Nat.{ℕ, ◌*◌, ◌≤◌}
use mathlib.Core.Path.{◌≡◌, sym, ◌∙◌}
use mathlib.Core.List.{List, [], ◌++◌, map}
use lib.ListN.{length, get_or, take}
use Rattle.std.specs.Prelude.{Ok}
use Rattle.semantics.specs.Closure.{Line, RationalClosure}
use Rattle.semantics.specs.Limits.{answer_limit, set_words}
use Rattle.semantics.specs.Source.{Word, Reads}
use Rattle.semantics.specs.Row.{Row, line_of, Unpacked}
use Rattle.semantics.specs.Outputs.{defeasible_rows, ByRank}
use Rattle.buffers.specs.Buffers.{Buffers}
use Rattle.closure.specs.Contract.{Classified}
use Rattle.closure.specs.Same.{SameBuffers, SameWritten}
use Rattle.closure.proofs.Ordered.{classified_order}
use Rattle.closure.proofs.Unique.{same_kept, classified_unique}
use Rattle.compiler.specs.Contract.{Compiled}
use Rattle.compiler.proofs.Theorems.{compiled_unique}
use Rattle.evaluator.specs.Contract.{TextClosure, TextOrder, BookEvaluated}
use Rattle.evaluator.specs.Same.{SameEvaluation}
use Rattle.evaluator.proofs.Theorems.{compiled_order, evaluated_unique}
use Rattle.marking.specs.Contract.{ClassMarked}
use Rattle.marking.specs.Same.{SameMarking}
use Rattle.marking.proofs.Theorems.{mark_unique}
use Rattle.workspace.specs.declared.Counts.{Counts}
use Rattle.ontology.specs.Book.{lines_of, SameMeaning}
use Rattle.ontology.specs.Closure.{AxiomClosure}
use Rattle.converter.specs.Contract.{BookWritten}
use Rattle.converter.proofs.Theorems.{convert_unique}
use Rattle.engine.specs.Calls.{CompileCall, ClassifyCall, EvaluateCall, MarkCall, ConvertCall}
use Rattle.engine.specs.Returned.{sizes_in, counts_in, deck_counts_in, totals_in, CallsGiveClosure, CallsGiveAxioms}
use Rattle.engine.proofs.FromAxioms as converted
use Rattle.engine.proofs.Returning as returning
use Rattle.engine.proofs.Shape.{call_unique}

-- ---- demands 2 and 3: calls that return 0

-- Where `shelf_compile` returns 0 it has compiled the text, and lines, rows, numbers and roles are the first four numbers of its slice.
pub compile_call_accepted : {text deck₀ deck answer₀ answer : List ℕ} → CompileCall text deck₀ deck answer₀ answer 0 →
    Compiled text deck₀ deck (Ok (sizes_in answer))
compile_call_accepted = returning.compile_call_accepted

-- Demand 2. Where `shelf_classify` returns 0 it has settled the deck, whoever wrote it: the rows have one rational closure, its levels, passes and yes are the
-- first three numbers of the slice, and results, table and order are as `Classified` says.
pub classify_call_counted : {words : List ℕ} {N R : ℕ} {before after : Buffers} {answer₀ answer : List ℕ} →
    ClassifyCall words N R before after answer₀ answer 0 → Classified words N R before after (Ok (deck_counts_in answer))
classify_call_counted = returning.classify_call_counted

-- The order goes by the ranks that the rows have in this closure, infinite last, and within a rank by the deck.
pub classify_call_order : {words : List ℕ} {N R : ℕ} {before after : Buffers} {answer₀ answer : List ℕ} → ClassifyCall words N R before after answer₀ answer 0 →
    (rows : List Row) × Unpacked N R words rows ×
    (s : RationalClosure (map line_of rows) (deck_counts_in answer).levels (deck_counts_in answer).passes (take (length words) after.results)) ×
    ByRank s.T* s.sets (map line_of rows) (take (length (defeasible_rows rows)) after.order)
classify_call_order c = classified_order (classify_call_counted c)

-- Demand 3. Where `shelf_compile` returns 0, `shelf_classify` on the first `rows` words of the deck, with the numbers and roles that stand in the slice,
-- a table, results and an order at least as long as asked and a slice of its own, returns 0 too; and levels, passes and yes, which its slice then begins
-- with, and each line's result are those of the text's own nested lines.
pub calls_closure : {text deck₀ deck answer₀ answer last₀ last : List ℕ} {before after : Buffers} {result : ℕ} →
    CompileCall text deck₀ deck answer₀ answer 0 →
    let rows = get_or answer 1 0 in
    let numbers = get_or answer 2 0 in
    let roles = get_or answer 3 0 in
    set_words * numbers ≤ length before.table → rows ≤ length before.results → rows ≤ length before.order → answer_limit ≤ length last₀ →
    ClassifyCall (take rows deck) numbers roles before after last₀ last result →
    CallsGiveClosure text after.results answer last result
calls_closure = returning.calls_closure

-- And the order that it writes is that of the text's own lines: by their ranks in the closure that is reported, infinite last, and within a rank as they stand in the
-- text.
pub calls_order : {text deck₀ deck answer₀ answer last₀ last : List ℕ} {before after : Buffers} {line_count row_count : ℕ} {c : Counts} →
    CompileCall text deck₀ deck answer₀ answer 0 → ClassifyCall (take (get_or answer 1 0) deck) (get_or answer 2 0) (get_or answer 3 0) before after last₀ last 0 →
    (b : TextClosure text after.results line_count row_count c) → TextOrder b after.order
calls_order c d b = compiled_order (compile_call_accepted c) (classify_call_counted d) b

module _ {text deck₀ deck : List ℕ} {before after : Buffers} {answer₀ answer : List ℕ} where
  -- Where `shelf_evaluate` returns 0 it has compiled the text and settled it, and the seven counts are the first seven numbers of its slice.
  pub evaluate_call_done : EvaluateCall text deck₀ deck before after answer₀ answer 0 →
      BookEvaluated text deck₀ deck before after (sizes_in answer) (counts_in answer)
  evaluate_call_done = returning.evaluate_call_done

  -- So demand 3 holds of the numbers in its slice: lines and rows stand at 0 and 1, levels, passes and yes at 4, 5 and 6.
  pub evaluate_call_closure : EvaluateCall text deck₀ deck before after answer₀ answer 0 →
      TextClosure text after.results (sizes_in answer).lines (sizes_in answer).rows (counts_in answer)
  evaluate_call_closure c = (evaluate_call_done c).reported

-- ---- marking

-- Where `shelf_mark` returns 0 it has run a sitting, with demand 3's report, and scored each sheet by its replies; the totals of right and of wrong are the first
-- two numbers of its slice.
pub mark_call_marked : {text sheets deck₀ deck : List ℕ} {before after : Buffers} {report₀ report answer₀ answer : List ℕ} →
    MarkCall text sheets deck₀ deck before after report₀ report answer₀ answer 0 → ClassMarked text sheets deck₀ deck before after report₀ report (totals_in answer)
mark_call_marked = returning.mark_call_marked

-- ---- converting

-- Where `shelf_convert` returns 0 the lent text begins with the book of the input's axioms, and its length is the first number of the slice.
pub convert_call_written : {input text₀ text answer₀ answer : List ℕ} → ConvertCall input text₀ text answer₀ answer 0 → BookWritten input text₀ text (get_or answer 0 0)
convert_call_written = returning.convert_call_written

-- That text reads as the lines of the axioms, which have exactly their models and usual rules. Where it is compiled and settled, alone or with a text of other lines
-- behind it, levels, passes, yes and results are those that the axioms have by themselves, with these lines behind them (`AxiomClosure`).
module _ {input text₀ text : List ℕ} {size : ℕ} (b : BookWritten input text₀ text size) where
  pub text_means : Reads (take size text) (lines_of b.axioms) × SameMeaning b.axioms (lines_of b.axioms)
  text_means = converted.text_means b

  pub axioms_closure : {results : List ℕ} {line_count row_count : ℕ} {c : Counts} → TextClosure (take size text) results line_count row_count c →
      AxiomClosure b.axioms [] c.levels c.passes c.yes (take line_count results)
  axioms_closure = converted.axioms_closure b

  pub behind_closure : {more results : List ℕ} {line_count row_count : ℕ} {c : Counts} {behind : List (Line Word Word)} → Reads more behind →
      TextClosure (take size text ++ more) results line_count row_count c → AxiomClosure b.axioms behind c.levels c.passes c.yes (take line_count results)
  behind_closure = converted.behind_closure b

  -- of one call after the other
  pub axioms_calls : {more : List ℕ} {behind : List (Line Word Word)} {deck₀ deck answer₀ answer last₀ last : List ℕ} {before after : Buffers} {result : ℕ} → Reads more behind →
      CompileCall (take size text ++ more) deck₀ deck answer₀ answer 0 →
      set_words * get_or answer 2 0 ≤ length before.table → get_or answer 1 0 ≤ length before.results → get_or answer 1 0 ≤ length before.order →
      answer_limit ≤ length last₀ → ClassifyCall (take (get_or answer 1 0) deck) (get_or answer 2 0) (get_or answer 3 0) before after last₀ last result →
      CallsGiveAxioms b.axioms behind after.results answer last result
  axioms_calls = converted.axioms_calls b

-- ---- what follows from what

-- What the buffers and the slice held before plays no part, nor how long they were. Two calls of `shelf_compile` on one text that return 0 have the same four
-- numbers, and write the same rows.
pub compile_call_follows : {text deck₀ deck answer₀ answer deck₁ deck' answer₁ answer' : List ℕ} →
    CompileCall text deck₀ deck answer₀ answer 0 → CompileCall text deck₁ deck' answer₁ answer' 0 →
    (sizes_in answer ≡ sizes_in answer') × (take (get_or answer 1 0) deck ≡ take (get_or answer 1 0) deck')
compile_call_follows = returning.compile_call_follows

-- Two calls of `shelf_classify` on one deck with the same counts that return 0 have the same three numbers, and write the same results, the same table and the
-- same order, as many places as there are defeasible rows (`SameWritten`).
pub classify_call_follows : {words : List ℕ} {N R : ℕ} {before after before' after' : Buffers} {answer₀ answer answer₁ answer' : List ℕ} →
    ClassifyCall words N R before after answer₀ answer 0 → ClassifyCall words N R before' after' answer₁ answer' 0 →
    (deck_counts_in answer ≡ deck_counts_in answer') × (rows : List Row) × Unpacked N R words rows ×
    SameWritten N (length words) (length (defeasible_rows rows)) after after'
classify_call_follows = returning.classify_call_follows

-- Two sittings of one text, with other buffers, that return 0 have the same seven numbers, the same
-- rows and results, the same table and the same order (`SameEvaluation`).
pub evaluate_call_follows : {text deck₀ deck deck₁ deck' : List ℕ} {before after before' after' : Buffers} {answer₀ answer answer₁ answer' : List ℕ} →
    EvaluateCall text deck₀ deck before after answer₀ answer 0 → EvaluateCall text deck₁ deck' before' after' answer₁ answer' 0 →
    SameEvaluation text deck deck' after after' (sizes_in answer) (sizes_in answer') (counts_in answer) (counts_in answer')
evaluate_call_follows = returning.evaluate_call_follows

-- Two markings of one text and the same sheets, with other buffers, that return 0 have the same totals, the same scores, and what two sittings have in common (`SameMarking`).
pub mark_call_follows : {text sheets deck₀ deck deck₁ deck' : List ℕ} {before after before' after' : Buffers} {report₀ report report₁ report' answer₀ answer answer₁ answer' : List ℕ} →
    MarkCall text sheets deck₀ deck before after report₀ report answer₀ answer 0 → MarkCall text sheets deck₁ deck' before' after' report₁ report' answer₁ answer' 0 →
    SameMarking text sheets deck₀ deck deck₁ deck' before after before' after' report report' (totals_in answer) (totals_in answer')
mark_call_follows = returning.mark_call_follows

-- Two calls of `shelf_convert` on one input that return 0 have the same book.
pub convert_call_follows : {input text₀ text text₁ text' answer₀ answer answer₁ answer' : List ℕ} →
    ConvertCall input text₀ text answer₀ answer 0 → ConvertCall input text₁ text' answer₁ answer' 0 →
    (get_or answer 0 0 ≡ get_or answer' 0 0) × (take (get_or answer 0 0) text ≡ take (get_or answer' 0 0) text')
convert_call_follows = returning.convert_call_follows

-- ---- one outcome

-- What a call is given determines the number that it returns, all of its last slice, the whole deck, all results, the whole order, and the table where its words have
-- 64 bits.
pub compile_call_unique : {text deck₀ deck deck' answer₀ answer answer' : List ℕ} {result result' : ℕ} →
    CompileCall text deck₀ deck answer₀ answer result → CompileCall text deck₀ deck' answer₀ answer' result' →
    (result ≡ result') × (answer ≡ answer') × (deck ≡ deck')
compile_call_unique = call_unique (λ d d'. d ∙ sym d') (λ a a'. compiled_unique)

pub convert_call_unique : {input text₀ text text' answer₀ answer answer' : List ℕ} {result result' : ℕ} →
    ConvertCall input text₀ text answer₀ answer result → ConvertCall input text₀ text' answer₀ answer' result' →
    (result ≡ result') × (answer ≡ answer') × (text ≡ text')
convert_call_unique = call_unique (λ d d'. d ∙ sym d') (λ a a'. convert_unique)

module _ {before after after' : Buffers} {answer₀ answer answer' : List ℕ} {result result' : ℕ} where
  pub classify_call_unique : {words : List ℕ} {N R : ℕ} →
      ClassifyCall words N R before after answer₀ answer result → ClassifyCall words N R before after' answer₀ answer' result' →
      (result ≡ result') × (answer ≡ answer') × SameBuffers after after'
  classify_call_unique = call_unique same_kept (λ a a'. classified_unique)

  pub evaluate_call_unique : {text deck₀ deck deck' : List ℕ} →
      EvaluateCall text deck₀ deck before after answer₀ answer result → EvaluateCall text deck₀ deck' before after' answer₀ answer' result' →
      (result ≡ result') × (answer ≡ answer') × ((deck ≡ deck') × SameBuffers after after')
  evaluate_call_unique =
      call_unique (λ (d, k) (d', k'). (d ∙ sym d', same_kept k k')) (λ a a' h h'. let (e, d, b) = evaluated_unique h h' in (e, (d, b)))

  -- and all of the report
  pub mark_call_unique : {text sheets deck₀ deck deck' report₀ report report' : List ℕ} →
      MarkCall text sheets deck₀ deck before after report₀ report answer₀ answer result → MarkCall text sheets deck₀ deck' before after' report₀ report' answer₀ answer' result' →
      (result ≡ result') × (answer ≡ answer') × ((deck ≡ deck') × SameBuffers after after' × (report ≡ report'))
  mark_call_unique =
      call_unique
      (λ u u'. (u.deck_kept ∙ sym u'.deck_kept, same_kept u.buffers_kept u'.buffers_kept, u.report_kept ∙ sym u'.report_kept))
      (λ a a' h h'. let (e, d, b, r) = mark_unique h h' in (e, (d, b, r)))
