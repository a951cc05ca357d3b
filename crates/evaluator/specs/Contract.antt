-- What `evaluate` (the scope's sitting) promises, for every input, and what compiling and then settling gives (demand 3).
--     TextClosure        the report of the text's own lines, nested
--     GivesClosure       demand 3: settling accepts what compiling wrote, and reports that
--     TextOrder          the order of the text's own lines
--     LongEnough         the lent buffers have the length that is asked
--     evaluate_refusal   refusals 1 to 8 in the scope's order, with their places
--     Evaluated          a case for each answer: refused, or done
use Rattle.std.specs.Prelude.{ℕ, ◌-◌, ◌≤◌, ◌≡◌, cond, ◌||◌, List, length, take, drop, replicate, ltb, Result, Ok, Err}
use Rattle.std.proofs.Math.Option.{Option, none, some}
use Rattle.semantics.specs.Closure.{Line, defeasible_of, RationalClosure, yes_count}
use Rattle.semantics.specs.Limits.{text_limit, row_limit, table_limit}
use Rattle.semantics.specs.Outputs.{ByRank}
use Rattle.semantics.specs.Source.{Word, Reads}
use Rattle.refusal.specs.declared.Refusal.{Refusal}
use Rattle.refusal.specs.declared.Refusal.TheVariants.{TextTooLong, BufferTooShort}
use Rattle.refusal.specs.declared.Refused.{Refused}
use Rattle.closure.specs.Contract.{Classified}
use Rattle.buffers.specs.Buffers.{Buffers}
use Rattle.workspace.specs.declared.Counts.{Counts}
use Rattle.compiler.specs.Contract.{compile_refusal, Compiled}
use Rattle.compiler.specs.declared.Sizes.{Sizes}
use Rattle.evaluator.specs.declared.EvaluationCounts.{EvaluationCounts}

-- Levels, passes, the count of yes and each line's result are those of the text's own lines, over all finite interpretations of their words (`own_words_closure`).
-- Of the counts that compiling gives only those of lines and rows are read here, to say where the lines' results end and the definition rows' begin.
pub record TextClosure (text results : List ℕ) (line_count row_count : ℕ) (c : Counts) : Type 0 where
  pub lines : List (Line Word Word)
  pub reads : Reads text lines
  pub count : line_count ≡ length lines
  pub closure : RationalClosure lines c.levels c.passes (take line_count results)
  pub yes_counted : c.yes ≡ yes_count lines (take line_count results)
  -- the definition rows' results are 0
  pub definitions : take (row_count - line_count) (drop line_count results) ≡ replicate (row_count - line_count) 0
  pub behind : line_count ≤ row_count
  pub inside : row_count ≤ length results

-- Demand 3, of settling what was compiled: the answer is no refusal, and it reports the text's own lines.
pub record GivesClosure (text results : List ℕ) (s : Sizes) (a : Result Counts Refused) : Type 0 where
  pub counts : Counts
  pub answer : a ≡ Ok counts
  pub reported : TextClosure text results s.lines s.rows counts

-- The order, too, is that of the text's own lines, as many places as it has defeasible ones: by their ranks in this closure, and within a rank as they stand in
-- the text (`compiled_order`).
abbrev pub TextOrder : {text results : List ℕ} {line_count row_count : ℕ} {c : Counts} → TextClosure text results line_count row_count c → List ℕ → Type 0
TextOrder b order = ByRank b.closure.T* b.closure.sets b.lines (take (length (defeasible_of b.lines)) order)

-- Each lent buffer is as long as any compiled text may need.
pub record LongEnough (deck : List ℕ) (lent : Buffers) : Type 0 where
  pub deck_long : row_limit ≤ length deck
  pub table_long : table_limit ≤ length lent.table
  pub results_long : row_limit ≤ length lent.results
  pub order_long : row_limit ≤ length lent.order

-- The text too long; then any of the four lent buffers shorter than any compiled text may need; then the reader's.
unfoldable pub evaluate_refusal : List ℕ → List ℕ → Buffers → Option (Refusal × ℕ)
evaluate_refusal text deck lent =
    cond (ltb text_limit (length text)) (some (TextTooLong, 0))
    (cond (ltb (length lent.table) table_limit || (ltb (length lent.results) row_limit || ltb (length lent.order) row_limit)) (some (BufferTooShort, 0))
    (compile_refusal text (length deck)))

-- Compiling, settling of exactly the rows that were written, and what demand 3 says of both.
pub record BookEvaluated (text deck₀ deck : List ℕ) (before after : Buffers) (s : Sizes) (c : Counts) : Type 0 where
  pub compiled : Compiled text deck₀ deck (Ok s)
  pub classified : Classified (take s.rows deck) s.numbers s.roles before after (Ok c)
  pub reported : TextClosure text after.results s.lines s.rows c

pub data Evaluated (text deck₀ deck : List ℕ) (before after : Buffers) : Result EvaluationCounts Refused → Type 0 where
  refused : {e : Refused} → evaluate_refusal text deck₀ before ≡ some (e.why, e.place) → deck ≡ deck₀ → after ≡ before →
      Evaluated text deck₀ deck before after (Err e)
  done : {n : EvaluationCounts} → evaluate_refusal text deck₀ before ≡ none → BookEvaluated text deck₀ deck before after n.sizes n.counts →
      Evaluated text deck₀ deck before after (Ok n)
