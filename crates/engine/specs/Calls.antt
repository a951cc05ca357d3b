-- What the calls from Rust promise, for every input.
--     Call           the shape of them all
--     CompileCall    `shelf_compile`
--     ClassifyCall   `shelf_classify`
--     EvaluateCall   `shelf_evaluate`
--     MarkCall       `shelf_mark`
--     ConvertCall    `shelf_convert`
use Rattle.std.specs.Prelude.{ℕ, ◌<◌, ◌≤◌, ◌≡◌, List, length}
use Rattle.semantics.specs.Limits.{answer_limit}
use Rattle.buffers.specs.Buffers.{Buffers}
use Rattle.closure.specs.Contract.{Classified}
use Rattle.compiler.specs.Contract.{Compiled}
use Rattle.evaluator.specs.Contract.{Evaluated}
use Rattle.marking.specs.Contract.{Unchanged, Marked}
use Rattle.converter.specs.Contract.{Converted}
use Rattle.reports.specs.Reports.{Outcome, compile_outcome, classify_outcome, evaluate_outcome, mark_outcome, convert_outcome, Reported}

-- `Kept` says that the lent buffers are as at entry, `Promise a` what the operation promises of its answer a, and `outcome` what an answer says.
-- A last slice that is too short is refused by 2, before all else, and everything is as at entry. Otherwise the operation's own promise holds, and its answer is
-- reported.
pub data Call {A : Type 0} (Kept : Type 0) (Promise : A → Type 0) (outcome : A → Outcome) (answer₀ answer : List ℕ) (result : ℕ) : Type 0 where
  too_short : length answer₀ < answer_limit → result ≡ 2 → Kept → answer ≡ answer₀ → Call Kept Promise outcome answer₀ answer result
  answered : (a : A) → answer_limit ≤ length answer₀ → Promise a → Reported (outcome a) answer₀ answer result → Call Kept Promise outcome answer₀ answer result

abbrev pub CompileCall : (text deck₀ deck answer₀ answer : List ℕ) (result : ℕ) → Type 0
CompileCall text deck₀ deck = Call (deck ≡ deck₀) (Compiled text deck₀ deck) compile_outcome

abbrev pub ClassifyCall : (words : List ℕ) (N R : ℕ) (before after : Buffers) (answer₀ answer : List ℕ) (result : ℕ) → Type 0
ClassifyCall words N R before after = Call (after ≡ before) (Classified words N R before after) classify_outcome

abbrev pub EvaluateCall : (text deck₀ deck : List ℕ) (before after : Buffers) (answer₀ answer : List ℕ) (result : ℕ) → Type 0
EvaluateCall text deck₀ deck before after = Call ((deck ≡ deck₀) × (after ≡ before)) (Evaluated text deck₀ deck before after) evaluate_outcome

abbrev pub MarkCall : (text sheets deck₀ deck : List ℕ) (before after : Buffers) (report₀ report answer₀ answer : List ℕ) (result : ℕ) → Type 0
MarkCall text sheets deck₀ deck before after report₀ report =
    Call (Unchanged deck₀ deck before after report₀ report) (Marked text sheets deck₀ deck before after report₀ report) mark_outcome

abbrev pub ConvertCall : (input text₀ text answer₀ answer : List ℕ) (result : ℕ) → Type 0
ConvertCall input text₀ text = Call (text ≡ text₀) (Converted input text₀ text) convert_outcome
