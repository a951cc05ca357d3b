-- The first rows of a table become empty: its words before them are zeros.
-- Assumes nothing.
use Prim.Native.Nat.{ℕ, ◌+◌, ◌-◌, ◌*◌, ◌/◌, ◌%◌, ◌<◌, ◌≤◌}
use native.Mathlib.Omega.{arith}
use mathlib.Core.Path.{◌≡◌, refl, ap, ◌∙◌}
use mathlib.Core.Bool.{false}
use mathlib.Core.List.{List, ◌++◌}
use lib.ListN.{length, get_or, drop, replicate}
use Rattle.std.proofs.lemmas.List.{get_or_append_left, get_or-append_right, get_or-drop, length-replicate, length-drop, length-append}
use Rattle.semantics.specs.Limits.{set_words}
use Rattle.sets.proofs.Bits.{bit_zero}
use Rattle.sets.proofs.Members.{get_d_zeros}
use Rattle.tables.proofs.Rows.{cell_bit}
use Rattle.columns.specs.Steps.{RowsBecome}

module _ (n : ℕ) (old : List ℕ) (room : n ≤ length old) where
  abbrev cleared : List ℕ
  cleared = replicate n 0 ++ drop n old

  zeros : (i : ℕ) → i < n → ◌≡◌ {A = ℕ} (get_or cleared i 0) 0
  zeros i h = get_or_append_left (replicate n 0) (drop n old) 0 i (rw (length-replicate {A = ℕ} n 0) h) ∙ get_d_zeros n i

  kept : (i : ℕ) → n ≤ i → get_or cleared i 0 ≡ get_or old i 0
  kept i h =
      let at : n + (i - n) ≡ i = omega arith in
      get_or-append_right (replicate n 0) (drop n old) n i 0 (length-replicate {A = ℕ} n 0) h ∙ get_or-drop n old (i - n) 0 ∙ ap (λ j. get_or old j 0) at

  long : length cleared ≡ length old
  long = simp (length-append, length-replicate, length-drop) (omega arith)

pub rows_cleared : (N : ℕ) (old : List ℕ) → set_words * N ≤ length old → RowsBecome N (λ a c. false) old (replicate (set_words * N) 0 ++ drop (set_words * N) old)
rows_cleared N old room = record {
  done = λ a c h l. cell_bit set_words _ a c ∙ rw (zeros (set_words * N) old room (set_words * a + c / 64) (omega arith)) (bit_zero (63 - c % 64));
  rest = λ a c h l. cell_bit set_words _ a c ∙ rw (kept (set_words * N) old room (set_words * a + c / 64) (omega arith), cell_bit set_words old a c) refl;
  length_kept = long (set_words * N) old room;
}
