-- The loop that checks rows one after the other. Invariant: what is left to check says what all rows say.
-- Assumes nothing.
use Prim.Native.Nat.{ℕ, suc, ◌+◌, ◌<◌, ◌≤◌}
use native.Mathlib.Numerals.{add-one}
use native.Mathlib.Omega.{arith}
use mathlib.Core.Path.{◌≡◌, refl, sym, ◌∙◌}
use mathlib.Core.Option.{Option, none, some}
use mathlib.Core.List.{List, [], ◌∷◌}
use lib.ListN.{length, get_or, drop, length-drop}
use lib.Seq.{drop-cons}
use Rattle.semantics.specs.Refusals.{row_refusal, rows_refusal, refused_at}

-- a row that is not refused leaves what comes later
clear : (i : ℕ) (x : Option ℕ) (later : Option (ℕ × ℕ)) → none ≡ refused_at i x none → refused_at i x later ≡ later
clear i none later h = refl
clear i (some n) later h = let z : ◌≡◌ {A = ℕ} 0 1 = cc in absurd (omega arith)

-- one that is refused hides it
hides : (i : ℕ) (x : Option ℕ) (p : ℕ × ℕ) (later : Option (ℕ × ℕ)) → some p ≡ refused_at i x none → some p ≡ refused_at i x later
hides i none p later h = let z : ◌≡◌ {A = ℕ} 0 1 = cc in absurd (omega arith)
hides i (some n) p later h = h

-- the rows below i are not refused
pub record Cleared (N R : ℕ) (rows : List ℕ) (i : ℕ) : Type 0 where
  pub within : i ≤ length rows
  pub rest : rows_refusal N R 0 rows ≡ rows_refusal N R i (drop i rows)

module _ (N R : ℕ) (rows : List ℕ) where
  next : (i : ℕ) → i < length rows → rows_refusal N R i (drop i rows) ≡ refused_at i (row_refusal N R (get_or rows i 0)) (rows_refusal N R (suc i) (drop (suc i) rows))
  unfolding rows_refusal
  next i h = rw (drop-cons rows i 0 h)

  pub cleared_more : {i : ℕ} → Cleared N R rows i → i < length rows → none ≡ refused_at i (row_refusal N R (get_or rows i 0)) none → Cleared N R rows (i + 1)
  cleared_more {i} k h e = record { within = omega arith; rest = rw add-one (k.rest ∙ next i h ∙ clear i (row_refusal N R (get_or rows i 0)) _ e) }

  pub cleared_refused : {i : ℕ} (p : ℕ × ℕ) → Cleared N R rows i → i < length rows → some p ≡ refused_at i (row_refusal N R (get_or rows i 0)) none → some p ≡ rows_refusal N R 0 rows
  cleared_refused {i} p k h e = hides i (row_refusal N R (get_or rows i 0)) p _ e ∙ sym (next i h) ∙ sym k.rest

  none_left : (i : ℕ) (l : List ℕ) → length l ≡ 0 → rows_refusal N R i l ≡ none
  unfolding rows_refusal
  none_left i [] e = refl
  none_left i (w ∷ l) e = absurd (omega arith)

  pub cleared_all : {i : ℕ} → Cleared N R rows i → length rows ≤ i → none ≡ rows_refusal N R 0 rows
  cleared_all {i} k h = sym (k.rest ∙ none_left i (drop i rows) (simp length-drop (omega arith)))
