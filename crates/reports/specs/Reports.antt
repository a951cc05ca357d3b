-- An answer as a call reports it.
--     Outcome              what any answer says: accepted with its counts, or refused
--     code_of, values_of   the number that a call returns, and what it writes to the start of its last slice
--     outcome_of           what an answer says, by the list of what it counts
--     compile_outcome, ..  what each answer says
--     Reported             the call's number and its last slice
use Rattle.std.specs.Prelude.{ℕ, ◌≡◌, List, [], ◌∷◌, ◌++◌, length, drop, Result, Ok, Err}
use Rattle.refusal.specs.Refusal.{refusal_number}
use Rattle.refusal.specs.declared.Refusal.{Refusal}
use Rattle.refusal.specs.declared.Refused.{Refused}
use Rattle.workspace.specs.declared.Counts.{Counts}
use Rattle.compiler.specs.declared.Sizes.{Sizes}
use Rattle.evaluator.specs.declared.EvaluationCounts.{EvaluationCounts}
use Rattle.sheets.specs.declared.Totals.{Totals}

-- ---- one shape

pub data Outcome : Type 0 where
  accepted : (counts : List ℕ) → Outcome
  refused : (why : Refusal) (place : ℕ) → Outcome

-- 0, or the refusal's number
abbrev pub code_of : Outcome → ℕ
code_of (accepted counts) = 0
code_of (refused why place) = refusal_number why

-- the counts, or the place
abbrev pub values_of : Outcome → List ℕ
values_of (accepted counts) = counts
values_of (refused why place) = place ∷ []

-- an answer says its counts, or its refusal
abbrev pub outcome_of : {A : Type 0} → (A → List ℕ) → Result A Refused → Outcome
outcome_of values (Ok a) = accepted (values a)
outcome_of values (Err e) = refused e.why e.place

-- ---- each answer, its counts in the scope's order

abbrev pub sizes_of : Sizes → List ℕ
sizes_of s = s.lines ∷ s.rows ∷ s.numbers ∷ s.roles ∷ []

abbrev pub counts_of : Counts → List ℕ
counts_of c = c.levels ∷ c.passes ∷ c.yes ∷ []

abbrev pub all_counts_of : EvaluationCounts → List ℕ
all_counts_of n = sizes_of n.sizes ++ counts_of n.counts

abbrev pub totals_of : Totals → List ℕ
totals_of t = t.right ∷ t.wrong ∷ []

abbrev pub size_of : ℕ → List ℕ
size_of size = size ∷ []

abbrev pub compile_outcome : Result Sizes Refused → Outcome
compile_outcome = outcome_of sizes_of

abbrev pub classify_outcome : Result Counts Refused → Outcome
classify_outcome = outcome_of counts_of

abbrev pub evaluate_outcome : Result EvaluationCounts Refused → Outcome
evaluate_outcome = outcome_of all_counts_of

abbrev pub mark_outcome : Result Totals Refused → Outcome
mark_outcome = outcome_of totals_of

abbrev pub convert_outcome : Result ℕ Refused → Outcome
convert_outcome = outcome_of size_of

-- ---- the report

-- The call returns the outcome's number, and the slice begins with its values; the rest is as at entry.
pub record Reported (o : Outcome) (answer₀ answer : List ℕ) (result : ℕ) : Type 0 where
  pub returned : result ≡ code_of o
  pub written : answer ≡ values_of o ++ drop (length (values_of o)) answer₀
