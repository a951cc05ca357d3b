-- What `evaluate` leaves is determined by what it was given: the answer, the deck, the results, the table and the order.
--     evaluated_unique    by the text and the buffers at entry: all of it
--     evaluated_follows   by the text alone: all that is written, where nothing is refused
-- Assumes nothing.
use Prim.Native.Nat.{ℕ}
use mathlib.Core.Path.{◌≡◌, sym, ◌∙◌, ap₂, subst, subst₂}
use mathlib.Core.List.{List}
use lib.ListN.{take}
use Rattle.std.specs.Prelude.{Result, Ok, Err}
use Rattle.refusal.specs.declared.Refused.{Refused}
use Rattle.closure.specs.Contract.{Classified}
use Rattle.buffers.specs.Buffers.{Buffers}
use Rattle.workspace.specs.declared.Counts.{Counts}
use Rattle.closure.specs.Same.{SameBuffers, SameWritten}
use Rattle.closure.proofs.Unique.{same_kept, classified_follows, classified_unique}
use Rattle.compiler.specs.declared.Sizes.{Sizes}
use Rattle.compiler.proofs.Refusing.{same_refusal}
use Rattle.compiler.proofs.Longer.{words_length}
use Rattle.compiler.proofs.Theorems.{compiled_follows, compiled_unique}
use Rattle.evaluator.specs.Contract.{BookEvaluated, Evaluated, refused, done}
use Rattle.evaluator.specs.Same.{SameEvaluation}
use Rattle.evaluator.specs.declared.EvaluationCounts.{EvaluationCounts}
use Rattle.evaluator.proofs.Evaluating.{compile_accepted, same_counts}
use Rattle.evaluator.proofs.Ranked.{ranked_count}

-- Both settle the same words with the same counts.
same_words : {text deck₀ deck deck₁ deck' : List ℕ} {before after before' after' : Buffers} {s s' : Sizes} {c c' : Counts} →
    BookEvaluated text deck₀ deck before after s c → BookEvaluated text deck₁ deck' before' after' s' c' →
    Classified (take s.rows deck) s.numbers s.roles before' after' (Ok c')
same_words {deck} {deck'} {before'} {after'} {s} {c'} b b' =
    let (sizes, words) = compiled_follows b.compiled b'.compiled in
    let there = subst (λ t. Classified (take t.rows deck') t.numbers t.roles before' after' (Ok c')) (sym sizes) b'.classified in
    subst (λ l. Classified l s.numbers s.roles before' after' (Ok c')) (sym words) there

same_lines : {text deck₀ deck deck₁ deck' : List ℕ} {before after before' after' : Buffers} {s s' : Sizes} {c c' : Counts} →
    BookEvaluated text deck₀ deck before after s c → BookEvaluated text deck₁ deck' before' after' s' c' → SameEvaluation text deck deck' after after' s s' c c'
same_lines {after} {after'} {s} b b' =
    let (sizes, words) = compiled_follows b.compiled b'.compiled in
    let form = (compile_accepted b.compiled).form in
    let (counts, rows, u, w) = classified_follows b.classified (same_words b b') in
    record {
      same_sizes = sizes;
      same_counts = counts;
      first_rows = words;
      lines = form.lines;
      reads = form.reads;
      written = subst₂ (λ n m. SameWritten s.numbers n m after after') (words_length form) (ranked_count form u) w;
    }

pub evaluated_follows : {text deck₀ deck deck₁ deck' : List ℕ} {before after before' after' : Buffers} {n n' : EvaluationCounts} →
    Evaluated text deck₀ deck before after (Ok n) → Evaluated text deck₁ deck' before' after' (Ok n') →
    SameEvaluation text deck deck' after after' n.sizes n'.sizes n.counts n'.counts
evaluated_follows (done h b) (done h' b') = same_lines b b'

module _ {text deck₀ deck deck' : List ℕ} {before after after' : Buffers} where
  pub evaluated_unique : {a a' : Result EvaluationCounts Refused} → Evaluated text deck₀ deck before after a → Evaluated text deck₀ deck' before after' a' →
      (a ≡ a') × (deck ≡ deck') × SameBuffers after after'
  evaluated_unique (refused h d k) (refused h' d' k') =
      let (w, p) = same_refusal (sym h ∙ h') in
      ((λ i. Err (record { why = w i; place = p i })), d ∙ sym d', same_kept k k')
  evaluated_unique (refused h d k) (done h' b') = absurd cc
  evaluated_unique (done h b) (refused h' d' k') = absurd cc
  -- compiling has one outcome, and so has settling what it wrote
  evaluated_unique (done h b) (done h' b') =
      let sizes = (compiled_follows b.compiled b'.compiled).0 in
      let (counts, same) = classified_unique b.classified (same_words b b') in
      (ap₂ (λ s c. Ok (record { sizes = s; counts = c })) sizes (same_counts counts), (compiled_unique b.compiled b'.compiled).1, same)
