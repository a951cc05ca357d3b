-- Strict queries, answered from the exact table of the written strict rows.
-- Assumes nothing.
use Prim.Native.Nat.{ℕ, ◌<◌}
use native.Mathlib.Omega.{arith}
use mathlib.Core.Path.{◌∙◌}
use mathlib.Core.List.{List}
use lib.ListN.{length, get_or}
use Rattle.semantics.specs.Limits.{set_words}
use Rattle.semantics.specs.Row.{a_of, c_of}
use Rattle.semantics.specs.Set.{cell}
use Rattle.normal.proofs.Decoding.{deck_row}
use Rattle.answers.specs.Answers.{StrictReady, StrictAnswered}
use Rattle.results.specs.Results.{Readable, strict_result}
use Rattle.answers.specs.Steps.{Rewritten}

-- the result of row j, whichever it had
abbrev pub strict_at : List ℕ → List ℕ → ℕ → ℕ → ℕ
strict_at table words j r = strict_result table (get_or words j 0)

module _ {N : ℕ} {words table : List ℕ} (ready : StrictReady N words table) where
  pub readable : (i : ℕ) → i < length words → Readable table (get_or words i 0)
  readable i h =
      let w = deck_row ready.deck i h in
      let small = ready.deck.numbers in
      record { row = omega (arith, w.lefts, ready.room); right = omega (arith, w.rights) }

  pub strict_answered : {old new : List ℕ} → Rewritten (strict_at table words) (length words) old new → StrictAnswered words new
  strict_answered r = record {
    strict_query = λ i h e.
        let w = get_or words i 0 in
        let row = deck_row ready.deck i h in
        record { reply = cell set_words table (a_of w) (c_of w); replies = ready.exact.bit (a_of w) (c_of w) row.lefts row.rights; is = r.done i h ∙ rw e };
    others = λ i h e. r.done i h ∙ rw e;
  }
