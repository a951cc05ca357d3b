-- Demand 3 over the calls: a call that returns 0 has not refused, and its counts are those that it wrote to its last slice.
-- Assumes nothing.
use Prim.Native.Nat.{ℕ, ◌*◌, ◌≤◌}
use native.Mathlib.Omega.{arith}
use mathlib.Core.Path.{◌≡◌, refl, sym, subst}
use mathlib.Core.List.{List}
use lib.ListN.{length, get_or, take}
use Rattle.std.specs.Prelude.{Result, Ok}
use Rattle.semantics.specs.Limits.{answer_limit, set_words}
use Rattle.semantics.specs.Row.{Row, Unpacked}
use Rattle.semantics.specs.Outputs.{defeasible_rows}
use Rattle.refusal.specs.declared.Refused.{Refused}
use Rattle.buffers.specs.Buffers.{Buffers}
use Rattle.closure.specs.Contract.{Classified}
use Rattle.closure.specs.Same.{SameWritten}
use Rattle.closure.proofs.Unique.{classified_follows}
use Rattle.workspace.specs.declared.Counts.{Counts}
use Rattle.compiler.specs.Contract.{Compiled}
use Rattle.compiler.proofs.Theorems.{compiled_follows}
use Rattle.evaluator.specs.Contract.{TextClosure, GivesClosure, BookEvaluated, Evaluated, done}
use Rattle.evaluator.specs.declared.EvaluationCounts.{EvaluationCounts}
use Rattle.evaluator.proofs.Theorems.{compiled_closure, evaluated_follows}
use Rattle.evaluator.specs.Same.{SameEvaluation}
use Rattle.marking.specs.Contract.{ClassMarked, Marked, marked}
use Rattle.marking.specs.Same.{SameMarking}
use Rattle.marking.proofs.Theorems.{mark_follows}
use Rattle.converter.specs.Contract.{BookWritten, Converted, written}
use Rattle.converter.proofs.Theorems.{convert_follows}
use Rattle.reports.specs.Reports.{accepted, sizes_of, counts_of, all_counts_of, totals_of, size_of, classify_outcome, Reported}
use Rattle.engine.specs.Calls.{CompileCall, ClassifyCall, EvaluateCall, MarkCall, ConvertCall, too_short, answered}
use Rattle.engine.specs.Returned.{sizes_in, counts_in, deck_counts_in, totals_in, CallsGiveClosure}
use Rattle.engine.proofs.Shape.{call_accepted, call_follows}

-- ---- calls that return 0

abbrev evaluation_counts_in : List ℕ → EvaluationCounts
evaluation_counts_in answer = record { sizes = sizes_in answer; counts = counts_in answer }

-- the length of a book, by `shelf_convert`
abbrev size_in : List ℕ → ℕ
size_in answer = get_or answer 0 0

-- compiling has not refused, and these are its four counts
pub compile_call_accepted : {text deck₀ deck answer₀ answer : List ℕ} → CompileCall text deck₀ deck answer₀ answer 0 → Compiled text deck₀ deck (Ok (sizes_in answer))
compile_call_accepted = call_accepted sizes_of sizes_in (λ s rest. refl)

-- settling has not refused, and these are its three
pub classify_call_counted : {words : List ℕ} {N R : ℕ} {before after : Buffers} {answer₀ answer : List ℕ} →
    ClassifyCall words N R before after answer₀ answer 0 → Classified words N R before after (Ok (deck_counts_in answer))
classify_call_counted = call_accepted counts_of deck_counts_in (λ c rest. refl)

module _ {text deck₀ deck : List ℕ} {before after : Buffers} {answer₀ answer : List ℕ} where
  -- nor has the sitting, and these are its seven
  evaluate_call_evaluated : EvaluateCall text deck₀ deck before after answer₀ answer 0 → Evaluated text deck₀ deck before after (Ok (evaluation_counts_in answer))
  evaluate_call_evaluated = call_accepted all_counts_of evaluation_counts_in (λ n rest. refl)

  pub evaluate_call_done : EvaluateCall text deck₀ deck before after answer₀ answer 0 → BookEvaluated text deck₀ deck before after (sizes_in answer) (counts_in answer)
  evaluate_call_done c = go (evaluate_call_evaluated c)
    where
      go : Evaluated text deck₀ deck before after (Ok (evaluation_counts_in answer)) → BookEvaluated text deck₀ deck before after (sizes_in answer) (counts_in answer)
      go (done h b) = b

module _ {text sheets deck₀ deck : List ℕ} {before after : Buffers} {report₀ report answer₀ answer : List ℕ} where
  -- nor has marking, and these are its two totals
  mark_call_totalled : MarkCall text sheets deck₀ deck before after report₀ report answer₀ answer 0 →
      Marked text sheets deck₀ deck before after report₀ report (Ok (totals_in answer))
  mark_call_totalled = call_accepted totals_of totals_in (λ t rest. refl)

  pub mark_call_marked : MarkCall text sheets deck₀ deck before after report₀ report answer₀ answer 0 →
      ClassMarked text sheets deck₀ deck before after report₀ report (totals_in answer)
  mark_call_marked c = go (mark_call_totalled c)
    where
      go : Marked text sheets deck₀ deck before after report₀ report (Ok (totals_in answer)) → ClassMarked text sheets deck₀ deck before after report₀ report (totals_in answer)
      go (marked a m) = m

-- nor has converting, and this is the book's length
pub convert_call_written : {input text₀ text answer₀ answer : List ℕ} → ConvertCall input text₀ text answer₀ answer 0 → BookWritten input text₀ text (get_or answer 0 0)
convert_call_written {input} {text₀} {text} {answer = answer} c = go (call_accepted size_of size_in (λ n rest. refl) c)
  where
    go : Converted input text₀ text (Ok (size_in answer)) → BookWritten input text₀ text (get_or answer 0 0)
    go (written c w) = w

-- ---- whatever was lent for it

pub compile_call_follows : {text deck₀ deck answer₀ answer deck₁ deck' answer₁ answer' : List ℕ} →
    CompileCall text deck₀ deck answer₀ answer 0 → CompileCall text deck₁ deck' answer₁ answer' 0 →
    (sizes_in answer ≡ sizes_in answer') × (take (get_or answer 1 0) deck ≡ take (get_or answer 1 0) deck')
compile_call_follows {deck} {deck'} =
    call_follows sizes_of sizes_in (λ s rest. refl) {Same = λ s s'. (s ≡ s') × (take s.rows deck ≡ take s.rows deck')} (λ s s'. compiled_follows)

pub classify_call_follows : {words : List ℕ} {N R : ℕ} {before after before' after' : Buffers} {answer₀ answer answer₁ answer' : List ℕ} →
    ClassifyCall words N R before after answer₀ answer 0 → ClassifyCall words N R before' after' answer₁ answer' 0 →
    (deck_counts_in answer ≡ deck_counts_in answer') × (rows : List Row) × Unpacked N R words rows ×
    SameWritten N (length words) (length (defeasible_rows rows)) after after'
classify_call_follows {words} {N} {R} {after} {after'} = call_follows counts_of deck_counts_in (λ c rest. refl) {Same = λ c c'. (c ≡ c') × (rows : List Row) × Unpacked N R words rows ×
    SameWritten N (length words) (length (defeasible_rows rows)) after after'} (λ c c'. classified_follows)

pub evaluate_call_follows : {text deck₀ deck deck₁ deck' : List ℕ} {before after before' after' : Buffers} {answer₀ answer answer₁ answer' : List ℕ} →
    EvaluateCall text deck₀ deck before after answer₀ answer 0 → EvaluateCall text deck₁ deck' before' after' answer₁ answer' 0 →
    SameEvaluation text deck deck' after after' (sizes_in answer) (sizes_in answer') (counts_in answer) (counts_in answer')
evaluate_call_follows {text} {deck} {deck'} {after} {after'} =
    call_follows all_counts_of evaluation_counts_in (λ n rest. refl) {Same = λ n n'. SameEvaluation text deck deck' after after' n.sizes n'.sizes n.counts n'.counts} (λ n n'. evaluated_follows)

pub mark_call_follows : {text sheets deck₀ deck deck₁ deck' : List ℕ} {before after before' after' : Buffers} {report₀ report report₁ report' answer₀ answer answer₁ answer' : List ℕ} →
    MarkCall text sheets deck₀ deck before after report₀ report answer₀ answer 0 → MarkCall text sheets deck₁ deck' before' after' report₁ report' answer₁ answer' 0 →
    SameMarking text sheets deck₀ deck deck₁ deck' before after before' after' report report' (totals_in answer) (totals_in answer')
mark_call_follows {text} {sheets} {deck₀} {deck} {deck₁} {deck'} {before} {after} {before'} {after'} {report} {report'} =
    call_follows totals_of totals_in (λ t rest. refl) {Same = λ t t'. SameMarking text sheets deck₀ deck deck₁ deck' before after before' after' report report' t t'} (λ t t'. mark_follows)

pub convert_call_follows : {input text₀ text text₁ text' answer₀ answer answer₁ answer' : List ℕ} →
    ConvertCall input text₀ text answer₀ answer 0 → ConvertCall input text₁ text' answer₁ answer' 0 →
    (get_or answer 0 0 ≡ get_or answer' 0 0) × (take (get_or answer 0 0) text ≡ take (get_or answer' 0 0) text')
convert_call_follows {text} {text'} = call_follows size_of size_in (λ n rest. refl) {Same = λ m n. (m ≡ n) × (take m text ≡ take n text')} (λ m n. convert_follows)

-- ---- settling what was compiled

reported : {text results answer last₀ last : List ℕ} {a : Result Counts Refused} {result : ℕ} → GivesClosure text results (sizes_in answer) a →
    Reported (classify_outcome a) last₀ last result → CallsGiveClosure text results answer last result
reported {text} {results} {answer} {last₀} {last} {result} s r =
    let t : Reported (accepted (counts_of s.counts)) last₀ last result = subst (λ a. Reported (classify_outcome a) last₀ last result) s.answer r in
    record {
      accepted = t.returned;
      reported = subst (λ l. TextClosure text results (sizes_in answer).lines (sizes_in answer).rows (deck_counts_in l)) (sym t.written) s.reported;
    }

-- the slice is long enough for settling's counts, and it is not refused
pub calls_closure : {text deck₀ deck answer₀ answer last₀ last : List ℕ} {before after : Buffers} {result : ℕ} → CompileCall text deck₀ deck answer₀ answer 0 →
    set_words * get_or answer 2 0 ≤ length before.table → get_or answer 1 0 ≤ length before.results → get_or answer 1 0 ≤ length before.order →
    answer_limit ≤ length last₀ → ClassifyCall (take (get_or answer 1 0) deck) (get_or answer 2 0) (get_or answer 3 0) before after last₀ last result →
    CallsGiveClosure text after.results answer last result
calls_closure c t r o long (too_short l n k a) = absurd (omega arith)
calls_closure c t r o long (answered a l cl rep) = reported (compiled_closure (compile_call_accepted c) t r o cl) rep
