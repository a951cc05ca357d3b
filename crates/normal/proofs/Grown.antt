-- The grown rows: the written ones, and "left is nothing" for each stuck row.
--     StuckAt         a row that says "left is nothing", as the stuck word that says so
--     grown_cases     a grown row is written, or a stuck row's
--     grown_written   one of another kind is written
--     grown_below     the numbers of an accepted deck's rows, with those that stuck rows add, are below N
-- Assumes nothing.
use Prim.Native.Nat.{ℕ, ◌<◌}
use mathlib.Core.Path.{◌≡◌, ap, ◌∙◌}
use mathlib.Core.Bool.{true}
use mathlib.Core.Logic.{◌⊎◌, inl, inr, ⊎_elim}
use mathlib.Core.List.Memᴰ
use mathlib.Core.List.{List, map, Memᴰ}
use lib.ListN.{length, get_or}
use Rattle.semantics.specs.Closure.{strict}
use Rattle.semantics.specs.Limits.{role_limit}
use Rattle.semantics.specs.Row.{Row, simple, strict_kind, fields_of, RowBelow, Below, a_of}
use Rattle.semantics.specs.Saturated.{empty_row}
use Rattle.normal.specs.Rules.{Deck, row_of, is_stuck, stuck, grown}
use Rattle.normal.proofs.Decoding.{deck_row, deck_unpacked}
use Rattle.normal.proofs.Selected.{selected_index}

pub record StuckAt (words levels : List ℕ) (q : Row) : Type 0 where
  pub index : ℕ
  pub within : index < length words
  pub taken : is_stuck (get_or words index 0) (get_or levels index 0) ≡ true
  pub is : simple strict (a_of (get_or words index 0)) 1 ≡ q

module _ (words levels : List ℕ) where
  pub grown_cases : {q : Row} → Memᴰ q (grown words levels) → Memᴰ q (map row_of words) ⊎ StuckAt words levels q
  grown_cases m = ⊎_elim inl (λ m. inr (at m)) (Memᴰ.append_cases (map row_of words) m)
    where
      at : {q : Row} → Memᴰ q (map empty_row (stuck words levels)) → StuckAt words levels q
      at m =
          let (p, mp, e) = Memᴰ.of_map empty_row (stuck words levels) m in
          let s = selected_index is_stuck words levels mp in
          record { index = s.index; within = s.within; taken = s.taken; is = ap empty_row s.is ∙ e }

  pub grown_written : {q : Row} → (strict_kind ≡ (fields_of q).kind → ⊥) → Memᴰ q (grown words levels) → Memᴰ q (map row_of words)
  grown_written other m = ⊎_elim (λ m. m) (λ s. absurd (other (ap (λ q. (fields_of q).kind) s.is))) (grown_cases m)

pub grown_below : {N : ℕ} {words : List ℕ} (deck : Deck N words) (levels : List ℕ) → Below N role_limit (grown words levels)
grown_below {N} {words} deck levels = record { each = λ q m. ⊎_elim ((deck_unpacked deck).below.each q) (added q) (grown_cases words levels m) }
  where
    added : (q : Row) → StuckAt words levels q → RowBelow N role_limit q
    added q s = rw (← s.is) ((deck_row deck s.index s.within).lefts, deck.two)
