-- Column 1 is spread over the others: what is nothing is within every number.
-- Assumes nothing.
use Prim.Native.Nat.{ℕ, ◌*◌, ◌<◌, ◌≤◌}
use native.Mathlib.Omega.{arith}
use mathlib.Core.Path.{◌≡◌, sym, ap, ◌∙◌}
use mathlib.Core.Bool.{true, ◌||◌, or-true}
use mathlib.Core.List.{List}
use Rattle.semantics.specs.Limits.{set_words, number_limit}
use Rattle.semantics.specs.Row.{Row}
use Rattle.semantics.specs.Set.{has, cell}
use Rattle.semantics.proofs.Steps.{holds_rest}
use Rattle.semantics.proofs.Tests.{either}
use Rattle.tables.specs.Table.{row_words}
use Rattle.tables.proofs.Rows.{has_row}
use Rattle.columns.specs.Columns.{Seeded}
use Rattle.columns.specs.Steps.{RowsBecome}

-- Each column has column 1 besides what it had.
abbrev pub Spread : ℕ → List ℕ → List ℕ → Type 0
Spread N old new = RowsBecome N (λ a x. cell set_words old a x || cell set_words old 1 x) old new

pub spread_of : {N : ℕ} {bottom old new : List ℕ} → bottom ≡ row_words set_words old 1 → RowsBecome N (λ a x. cell set_words old a x || has bottom x) old new → Spread N old new
spread_of {old = old} is r = record {
  done = λ a x h l. r.done a x h l ∙ rw is (ap (λ t. cell set_words old a x || t) (has_row set_words old 1 x l));
  rest = r.rest;
  length_kept = r.length_kept;
}

module _ {N : ℕ} {old new : List ℕ} (spread : Spread N old new) where
  -- Column a has x: it had it, or x is nothing.
  pub spread_from : {X : Type 0} (a x : ℕ) → a < N → x < 64 * set_words → cell set_words new a x ≡ true → (cell set_words old a x ≡ true → X) → (cell set_words old 1 x ≡ true → X) → X
  spread_from a x ha l h = either (cell set_words old a x) (cell set_words old 1 x) (sym (spread.done a x ha l) ∙ h)

  pub spread_had : (a x : ℕ) → a < N → x < 64 * set_words → cell set_words old a x ≡ true → cell set_words new a x ≡ true
  spread_had a x ha l h = spread.done a x ha l ∙ rw h

  pub spread_nothing : (a x : ℕ) → a < N → x < 64 * set_words → cell set_words old 1 x ≡ true → cell set_words new a x ≡ true
  spread_nothing a x ha l h = spread.done a x ha l ∙ rw h (or-true (cell set_words old a x))

  pub spread_seeded : {rows : List Row} → 1 < N → N ≤ number_limit → Seeded N rows old → Seeded N rows new
  spread_seeded two few s = record {
    sound = λ a b ha hb h. spread_from b a hb (omega arith) h (s.sound a b ha hb) (λ e. holds_rest b (s.sound a 1 ha two e));
    own = λ a ha. spread_had a a ha (omega arith) (s.own a ha);
    top = λ a ha. spread_had 0 a (omega arith) (omega arith) (s.top a ha);
    zeros = λ a b ha l hb. spread.done b a hb l ∙ rw (s.zeros a b ha l hb, s.zeros a 1 ha l two);
  }
