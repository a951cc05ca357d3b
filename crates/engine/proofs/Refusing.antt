-- Demand 1 over the calls: each operation's refusal decides its call.
-- Assumes nothing.
use Prim.Native.Nat.{ℕ, ◌≤◌}
use mathlib.Core.Path.{◌≡◌}
use mathlib.Core.List.{List}
use lib.ListN.{length}
use Rattle.std.specs.Prelude.{Result}
use Rattle.semantics.specs.Limits.{row_limit}
use Rattle.semantics.proofs.Theorems.{accepted_decides}
use Rattle.refusal.specs.Refusal.{refusal_number}
use Rattle.refusal.specs.declared.Refused.{Refused}
use Rattle.refusal.proofs.Refusals.{refusal_number_injective}
use Rattle.buffers.specs.Buffers.{Buffers}
use Rattle.closure.specs.Contract.{DeckAcceptable, DeckRefused, Classified, refused as not_classified, classified}
use Rattle.workspace.specs.declared.Counts.{Counts}
use Rattle.grammar.specs.Accepted.{TextAcceptable}
use Rattle.compiler.specs.Contract.{Compiled, refused as not_compiled, accepted}
use Rattle.compiler.specs.Refused.{BookRefused}
use Rattle.compiler.specs.declared.Sizes.{Sizes}
use Rattle.compiler.proofs.Theorems.{compile_accepts, compile_refuses}
use Rattle.evaluator.specs.Contract.{LongEnough, Evaluated, refused as not_done, done}
use Rattle.evaluator.specs.declared.EvaluationCounts.{EvaluationCounts}
use Rattle.evaluator.proofs.Theorems.{evaluate_accepts, evaluate_refuses}
use Rattle.marking.specs.Contract.{MarkAcceptable, MarkRefused, Unchanged, Marked, refused as not_marked, marked}
use Rattle.sheets.specs.declared.Totals.{Totals}
use Rattle.marking.proofs.Theorems.{mark_exclusive, mark_one}
use Rattle.converter.specs.Contract.{Convertible, ConvertRefused, Converted, refused as not_converted, written}
use Rattle.converter.proofs.Theorems.{convert_exclusive, convert_one}
use Rattle.reports.specs.Reports.{compile_outcome, classify_outcome, evaluate_outcome, mark_outcome, convert_outcome}
use Rattle.engine.specs.Calls.{CompileCall, ClassifyCall, EvaluateCall, MarkCall, ConvertCall}
use Rattle.engine.specs.Refused.{Decided}
use Rattle.engine.proofs.Shape.{computed_one_way, Tells, call_decided}

module _ {text deck₀ deck : List ℕ} where
  compile_told : (a : Result Sizes Refused) → Compiled text deck₀ deck a →
      Tells (TextAcceptable text × (row_limit ≤ length deck₀)) (BookRefused (row_limit ≤ length deck₀) text) (deck ≡ deck₀) (compile_outcome a)
  compile_told _ (not_compiled {e} h k) = ((compile_refuses text (length deck₀) e.place e.why).0 h, k)
  compile_told _ (accepted h n) = (compile_accepts text (length deck₀)).0 h

  pub compile_decided : {answer₀ answer : List ℕ} {result : ℕ} → CompileCall text deck₀ deck answer₀ answer result →
      Decided (TextAcceptable text × (row_limit ≤ length deck₀)) (BookRefused (row_limit ≤ length deck₀) text) (deck ≡ deck₀) answer₀ answer result
  compile_decided = call_decided (computed_one_way (λ why. why) (λ why how e. e) (compile_accepts text (length deck₀)) (compile_refuses text (length deck₀))) compile_told

module _ {words : List ℕ} {N R : ℕ} {before after : Buffers} where
  classify_told : (a : Result Counts Refused) → Classified words N R before after a → Tells (DeckAcceptable N R words before) (DeckRefused N R words before) (after ≡ before) (classify_outcome a)
  classify_told _ (not_classified h k) = (h, k)
  classify_told _ (classified h u s) = (accepted_decides _ _ _ _ _ _).0 h

  -- settling's refusals are numbers
  pub classify_decided : {answer₀ answer : List ℕ} {result : ℕ} → ClassifyCall words N R before after answer₀ answer result →
      Decided (DeckAcceptable N R words before) (DeckRefused N R words before) (after ≡ before) answer₀ answer result
  classify_decided = call_decided (computed_one_way refusal_number refusal_number_injective (accepted_decides _ _ _ _ _ _) (λ p why. ((λ h. h), (λ h. h)))) classify_told

module _ {text deck₀ deck : List ℕ} {before after : Buffers} where
  evaluate_told : (a : Result EvaluationCounts Refused) → Evaluated text deck₀ deck before after a →
      Tells (TextAcceptable text × LongEnough deck₀ before) (BookRefused (LongEnough deck₀ before) text) ((deck ≡ deck₀) × (after ≡ before)) (evaluate_outcome a)
  evaluate_told _ (not_done {e} h d k) = ((evaluate_refuses text deck₀ before e.place e.why).0 h, (d, k))
  evaluate_told _ (done h b) = (evaluate_accepts text deck₀ before).0 h

  pub evaluate_decided : {answer₀ answer : List ℕ} {result : ℕ} → EvaluateCall text deck₀ deck before after answer₀ answer result →
      Decided (TextAcceptable text × LongEnough deck₀ before) (BookRefused (LongEnough deck₀ before) text) ((deck ≡ deck₀) × (after ≡ before)) answer₀ answer result
  evaluate_decided = call_decided (computed_one_way (λ why. why) (λ why how e. e) (evaluate_accepts text deck₀ before) (evaluate_refuses text deck₀ before)) evaluate_told

module _ {text sheets deck₀ deck : List ℕ} {before after : Buffers} {report₀ report : List ℕ} where
  mark_told : (a : Result Totals Refused) → Marked text sheets deck₀ deck before after report₀ report a →
      Tells (MarkAcceptable text sheets deck₀ before (length report₀)) (MarkRefused text sheets deck₀ before (length report₀)) (Unchanged deck₀ deck before after report₀ report) (mark_outcome a)
  mark_told _ (not_marked r u) = (r, u)
  mark_told _ (marked a m) = a

  pub mark_decided : {answer₀ answer : List ℕ} {result : ℕ} → MarkCall text sheets deck₀ deck before after report₀ report answer₀ answer result →
      Decided (MarkAcceptable text sheets deck₀ before (length report₀)) (MarkRefused text sheets deck₀ before (length report₀)) (Unchanged deck₀ deck before after report₀ report)
      answer₀ answer result
  mark_decided = call_decided record { exclusive = λ a p why. mark_exclusive a; one = λ p q why how. mark_one } mark_told

module _ {input text₀ text : List ℕ} where
  convert_told : (a : Result ℕ Refused) → Converted input text₀ text a → Tells (Convertible input (length text₀)) (ConvertRefused input (length text₀)) (text ≡ text₀) (convert_outcome a)
  convert_told _ (not_converted r k) = (r, k)
  convert_told _ (written c w) = c

  pub convert_decided : {answer₀ answer : List ℕ} {result : ℕ} → ConvertCall input text₀ text answer₀ answer result →
      Decided (Convertible input (length text₀)) (ConvertRefused input (length text₀)) (text ≡ text₀) answer₀ answer result
  convert_decided = call_decided record { exclusive = λ a p why. convert_exclusive a; one = λ p q why how. convert_one } convert_told
