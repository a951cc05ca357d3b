-- The theorems on the sitting, in reading order. With `evaluate_accepts` and `evaluate_refuses` nobody has to believe the reader that `evaluate_refusal` names.
--     compiled_closure    demand 3, whole (that `evaluate` meets it is in its contract, `Evaluated`)
--     compiled_order      the order that is written is that of the text's own lines; `book_order` says it of a sitting
--     own_words_closure   so it holds over the interpretations of the text's own words
--     yes_answered        and its count of yes is the number of the text's questions that are answered yes
--     evaluate_accepts    which texts are settled
--     evaluate_refuses    which are refused, by which refusal and at which place
--     marked_evaluated    P1 to P9 are settled
--     evaluated_unique    what `evaluate` promises has one outcome
--     evaluated_follows   and what it writes follows from the text
-- Assumes nothing.
use Prim.Native.Nat.{ℕ, ◌*◌, ◌≤◌}
use native.Mathlib.Omega.{arith}
use mathlib.Core.Path.{◌≡◌}
use mathlib.Core.Option.{none, some}
use mathlib.Core.List.{List, Memᴰ}
use mathlib.Core.Logic.{◌↔◌}
use lib.ListN.{length, take}
use Rattle.std.specs.Prelude.{Result, Ok}
use Rattle.semantics.specs.Closure.{Line, strict_of, RationalClosure, yes_count}
use Rattle.semantics.specs.Examples.{bytes, Example, marked}
use Rattle.semantics.specs.Limits.{set_words, row_limit}
use Rattle.semantics.specs.OwnNames.{line_names, line_roles, OwnName, plain_lines}
use Rattle.semantics.specs.Replies.{YesCounted}
use Rattle.semantics.proofs.Theorems.{yes_accepted}
use Rattle.refusal.specs.declared.Refusal.{Refusal}
use Rattle.refusal.specs.declared.Refused.{Refused}
use Rattle.buffers.specs.Buffers.{Buffers}
use Rattle.workspace.specs.declared.Counts.{Counts}
use Rattle.closure.specs.Contract.{Classified}
use Rattle.closure.specs.Same.{SameBuffers}
use Rattle.compiler.specs.Contract.{Compiled}
use Rattle.compiler.specs.Refused.{BookRefused}
use Rattle.compiler.specs.declared.Sizes.{Sizes}
use Rattle.grammar.specs.Accepted.{TextAcceptable}
use Rattle.grammar.proofs.Theorems.{marked_acceptable}
use Rattle.evaluator.specs.Contract.{TextClosure, GivesClosure, TextOrder, LongEnough, evaluate_refusal, BookEvaluated, Evaluated}
use Rattle.evaluator.specs.declared.EvaluationCounts.{EvaluationCounts}
use Rattle.evaluator.proofs.Evaluating as evaluating
use Rattle.evaluator.proofs.TextClosure as closing
use Rattle.evaluator.proofs.Ranked as ordering
use Rattle.evaluator.specs.Same.{SameEvaluation}
use Rattle.evaluator.proofs.Unique as unique

-- For every text that compiling accepts, whatever the lent buffers held: settling exactly the rows it wrote, with the counts it returned and
-- buffers at least as long as asked, accepts them, and levels, passes, the count of yes and each line's result are those of the text's own
-- nested lines; the definition rows' results are 0.
pub compiled_closure : {text deck₀ deck : List ℕ} {before after : Buffers} {s : Sizes} {a : Result Counts Refused} → Compiled text deck₀ deck (Ok s) →
    set_words * s.numbers ≤ length before.table → s.rows ≤ length before.results → s.rows ≤ length before.order →
    Classified (take s.rows deck) s.numbers s.roles before after a → GivesClosure text after.results s a
compiled_closure c t r o = closing.normal_closure (evaluating.compile_accepted c).form t r o

-- The order that settling then writes is that of the text's own defeasible lines: by their ranks in the closure that is reported, infinite last, and within a rank as
-- they stand in the text.
pub compiled_order : {text deck₀ deck : List ℕ} {before after : Buffers} {s : Sizes} {c c' : Counts} {line_count row_count : ℕ} → Compiled text deck₀ deck (Ok s) →
    Classified (take s.rows deck) s.numbers s.roles before after (Ok c) → (b : TextClosure text after.results line_count row_count c') → TextOrder b after.order
compiled_order c = ordering.text_order (evaluating.compile_accepted c).form

pub book_order : {text deck₀ deck : List ℕ} {before after : Buffers} {s : Sizes} {c : Counts} (b : BookEvaluated text deck₀ deck before after s c) → TextOrder b.reported after.order
book_order b = compiled_order b.compiled b.classified b.reported

-- Demand 3 over the text's own words, literally: the text's lines are lines over the type of the words and roles that stand in them, and what was settled is the
-- rational closure of these. Their interpretations are finite, and give sets and pairs to those words and roles and to nothing else.
pub own_words_closure : {text results : List ℕ} {line_count row_count : ℕ} {c : Counts} (b : TextClosure text results line_count row_count c) →
    (own : List (Line (OwnName (line_names b.lines)) (OwnName (line_roles b.lines)))) × (plain_lines own ≡ b.lines) ×
    RationalClosure own c.levels c.passes (take line_count results) × (c.yes ≡ yes_count own (take line_count results))
own_words_closure = closing.own_words_closure

-- The count of yes is the number of the text's questions that are answered yes, said of ranks and consequences and of no result word.
pub yes_answered : {text results : List ℕ} {line_count row_count : ℕ} {c : Counts} (b : TextClosure text results line_count row_count c) → row_count ≤ row_limit →
    YesCounted (strict_of b.lines) b.closure.T* b.closure.sets b.lines c.yes
yes_answered b few = rw b.yes_counted (yes_accepted b.closure (omega (arith, b.count, b.behind)))

-- A sitting refuses nothing exactly where the text is that of lines, within every limit, and each of the four lent buffers is as long as a text may need.
pub evaluate_accepts : (text deck : List ℕ) (lent : Buffers) → (evaluate_refusal text deck lent ≡ none) ↔ (TextAcceptable text × LongEnough deck lent)
evaluate_accepts = evaluating.evaluate_accepts

-- It refuses a text by this refusal at p exactly where `BookRefused` says so, which names no reader: the text is too long, or else one of the buffers
-- too short, or else what its author wrote is refused (`TextRefused`).
pub evaluate_refuses : (text deck : List ℕ) (lent : Buffers) (p : ℕ) (why : Refusal) →
    (evaluate_refusal text deck lent ≡ some (why, p)) ↔ BookRefused (LongEnough deck lent) text p why
evaluate_refuses = evaluating.evaluate_refuses

-- No marked book of the scope is refused, where the four buffers have the length that is asked.
pub marked_evaluated : (e : Example) → Memᴰ e marked → (deck : List ℕ) (lent : Buffers) → LongEnough deck lent → evaluate_refusal (bytes e.text) deck lent ≡ none
marked_evaluated e m deck lent h = (evaluate_accepts (bytes e.text) deck lent).1 (marked_acceptable e m, h)

-- The text and the four buffers at entry determine the answer, the deck, the results, the order, and the table where its words have 64 bits.
pub evaluated_unique : {text deck₀ deck deck' : List ℕ} {before after after' : Buffers} {a a' : Result EvaluationCounts Refused} →
    Evaluated text deck₀ deck before after a → Evaluated text deck₀ deck' before after' a' → (a ≡ a') × (deck ≡ deck') × SameBuffers after after'
evaluated_unique = unique.evaluated_unique

-- A shelf follows from the text and nothing else: where it is settled twice, with buffers of whatever contents and lengths, all counts are the same, and so
-- are the rows, their results, the table where its words have 64 bits and the order, as many places as the text has defeasible lines.
pub evaluated_follows : {text deck₀ deck deck₁ deck' : List ℕ} {before after before' after' : Buffers} {n n' : EvaluationCounts} →
    Evaluated text deck₀ deck before after (Ok n) → Evaluated text deck₁ deck' before' after' (Ok n') →
    SameEvaluation text deck deck' after after' n.sizes n'.sizes n.counts n'.counts
evaluated_follows = unique.evaluated_follows
