-- What `classify` (the scope's settling) promises, for every input.
--     deck_refusal     refusals 11 to 18 of a deck and of what is lent for it
--     DeckAcceptable   what is then not refused, said without tests, for the theorems
--     DeckRefused      which refusal, and its place
--     ClosureReport    what the buffers then hold, and what the counts are
--     Classified       a case for each answer: refused, or settled
use Rattle.std.specs.Prelude.{ℕ, ◌*◌, ◌≡◌, List, map, length, take, drop, Result, Ok, Err}
use Rattle.std.proofs.Math.Option.{Option, none, some}
use Rattle.semantics.specs.Closure.{yes_count, RationalClosure}
use Rattle.semantics.specs.Limits.{set_words}
use Rattle.semantics.specs.Row.{Row, line_of, Unpacked}
use Rattle.semantics.specs.Refusals.{refusal, DeckWithinLimits}
use Rattle.semantics.specs.Outputs.{StrictTable, defeasible_rows, RankOrder}
use Rattle.refusal.specs.Refusal.{refusal_number}
use Rattle.refusal.specs.declared.Refusal.{Refusal}
use Rattle.refusal.specs.declared.Refused.{Refused}
use Rattle.buffers.specs.Buffers.{Buffers}
use Rattle.workspace.specs.declared.Counts.{Counts}

abbrev pub deck_refusal : ℕ → ℕ → List ℕ → Buffers → Option (ℕ × ℕ)
deck_refusal N R words lent = refusal N R (length lent.table) (length lent.results) (length lent.order) words

abbrev pub DeckAcceptable : ℕ → ℕ → List ℕ → Buffers → Type 0
DeckAcceptable N R words lent = DeckWithinLimits N R (length lent.table) (length lent.results) (length lent.order) words

-- The deck is refused by this refusal at p.
abbrev pub DeckRefused : ℕ → ℕ → List ℕ → Buffers → ℕ → Refusal → Type 0
DeckRefused N R words lent p why = deck_refusal N R words lent ≡ some (refusal_number why, p)

-- The rational closure of the rows; the count of yes in it; the strict table over its T*, the results and the rank order at the start of each buffer, the rest as at entry.
pub record ClosureReport (rows : List Row) (N count : ℕ) (before after : Buffers) (c : Counts) : Type 0 where
  pub closure : RationalClosure (map line_of rows) c.levels c.passes (take count after.results)
  pub yes_counted : c.yes ≡ yes_count (map line_of rows) (take count after.results)
  pub strict_table : StrictTable N closure.T* after.table
  pub rank_order : RankOrder (map line_of rows) after.results (take (length (defeasible_rows rows)) after.order)
  pub table_kept : drop (set_words * N) after.table ≡ drop (set_words * N) before.table
  pub results_kept : drop count after.results ≡ drop count before.results
  pub order_kept : drop (length (defeasible_rows rows)) after.order ≡ drop (length (defeasible_rows rows)) before.order
  pub table_length : length after.table ≡ length before.table
  pub results_length : length after.results ≡ length before.results
  pub order_length : length after.order ≡ length before.order

pub data Classified (words : List ℕ) (N R : ℕ) (before after : Buffers) : Result Counts Refused → Type 0 where
  refused : {e : Refused} → deck_refusal N R words before ≡ some (refusal_number e.why, e.place) → after ≡ before → Classified words N R before after (Err e)
  classified : {c : Counts} {rows : List Row} → deck_refusal N R words before ≡ none → Unpacked N R words rows → ClosureReport rows N (length words) before after c →
      Classified words N R before after (Ok c)
