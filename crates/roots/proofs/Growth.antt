-- Sets on their way to a root: what they may take.
--     Covered                       the row can be read
--     union_growing                 two sets together
--     ready_of                      what a root is computed from
--     ready_growing, row_complete   a row of the table whose number holds of s, and what is in it
--     asked_holds                   the right of a row that asks for it holds of s
-- Assumes nothing.
use Prim.Native.Nat.{ℕ, ◌*◌, ◌<◌, ◌≤◌}
use native.Mathlib.Decide.{dec_lt}
use native.Mathlib.Omega.{arith}
use mathlib.Core.Path.{◌≡◌, refl, sym, ◌∙◌, subst}
use mathlib.Core.Bool.{Bool, true, false, ◌||◌}
use mathlib.Core.List.Memᴰ
use mathlib.Core.List.{List, [], map, Memᴰ}
use lib.ListN.{length, get_or, drop, length-take}
use borrow.Author.Tests.{eqb-true}
use Rattle.semantics.specs.Limits.{number_limit, set_words}
use Rattle.semantics.specs.Outputs.{StrictTable}
use Rattle.semantics.specs.Row.{Row, conj_subsumed, conj_subsumed_kind, Below, kind_of, a_of, b_of, c_of}
use Rattle.semantics.specs.Saturated.{strict_rows, Holds}
use Rattle.semantics.specs.Set.{has, cell}
use Rattle.semantics.proofs.Canonical.{table_trans}
use Rattle.semantics.proofs.Steps.{holds_conj, holds_table, holds_defeasible}
use Rattle.semantics.proofs.Tests.{either, both}
use Rattle.tables.specs.Table.{HasRow, row_words}
use Rattle.sets.proofs.Members.{has_past}
use Rattle.tables.proofs.Rows.{has_row}
use Rattle.normal.specs.Rules.{row_of, pair_of, is_active, active, grown}
use Rattle.normal.proofs.Decoding.{deck_row, row_conj, row_member}
use Rattle.normal.proofs.Grown.{grown_below}
use Rattle.normal.proofs.Selected.{selected_member}
use Rattle.roots.specs.Root.{Ready}
use Rattle.roots.specs.declared.settling.Settling.{Settling}
use Rattle.roots.specs.Found.{Exact}
use Rattle.roots.specs.Steps.{asks, Growing}
use Rattle.roots.proofs.Exact.{exact_sound, exact_complete, exact_closed}

pub or_right : (a b : Bool) → b ≡ true → (a || b) ≡ true
or_right true b e = refl
or_right false b e = e

-- ---- one row

-- the row can be read: its numbers are below the limit, and the table has the right's row
pub record Covered (table : List ℕ) (w : ℕ) : Type 0 where
  pub left : a_of w < number_limit
  pub second : b_of w < number_limit
  pub right : c_of w < number_limit
  pub row : HasRow set_words table (c_of w)

-- ---- any rows, and any E

pub union_growing : {N : ℕ} {rows : List Row} {E : List (ℕ × ℕ)} {table : List ℕ} {s : ℕ} {p q set : List ℕ} →
    Growing N rows E table s p → Growing N rows E table s q → ((b : ℕ) → has set b ≡ (has p b || has q b)) → Growing N rows E table s set
union_growing {p} {q} gp gq is = record {
  sound = record { bit = λ b h e. either (has p b) (has q b) (sym (is b) ∙ e) (gp.sound.bit b h) (gq.sound.bit b h) };
  table_in = λ a b ha hb e f.
      is b
      ∙ either (has p a) (has q a) (sym (is a) ∙ e)
      (λ h. rw (gp.table_in a b ha hb h f))
      (λ h. or_right (has p b) (has q b) (gq.table_in a b ha hb h f));
  zeros = λ d h. rw (is d, gp.zeros d h) (gq.zeros d h);
}

module _ {N R : ℕ} {rows : List Row} {table : List ℕ} (two : 1 < N) (small : N ≤ number_limit) (below : Below N R rows) (exact : StrictTable N (strict_rows rows) table) where
  row_zeros : (c d : ℕ) → c < N → N ≤ d → has (row_words set_words table c) d ≡ false
  row_zeros c d hc h =
      elim (dec_lt d (64 * set_words)) [
        | yes l ↦ has_row set_words table c d l ∙ exact.zeros c d hc h l
        | no l ↦ has_past (row_words set_words table c) d (omega (arith, length-take set_words (drop (set_words * c) table)))
      ]

  row_growing : {E : List (ℕ × ℕ)} {s c : ℕ} → c < N → Holds rows E s c → Growing N rows E table s (row_words set_words table c)
  row_growing {c} hc holds =
      let is : (b : ℕ) → b < N → has (row_words set_words table c) b ≡ cell set_words table c b = λ b h. has_row set_words table c b (omega arith) in
      record {
        sound = record { bit = λ b h e. holds_table holds ((exact_sound exact).bit c b hc h (sym (is b h) ∙ e)) };
        table_in = λ a b ha hb e f. is b hb ∙ table_trans below (exact_closed exact two below) (exact_sound exact) c a b hc ha hb (sym (is a ha) ∙ e) f;
        zeros = λ d. row_zeros c d hc;
      }

-- ---- the rows of a deck

pub ready_of : (s : Settling) → Exact s → Ready s.index.n s.index.rows.now s.levels.now s.table.now s.index.heads.now s.index.links.now
ready_of s exact = record { deck = s.index.deck; levels_room = s.levels_room; room = s.room; exact = exact; indexed = s.index.indexed }

pub conj_grown : (rows levels : List ℕ) (i : ℕ) → i < length rows → kind_of (get_or rows i 0) ≡ conj_subsumed_kind
    → Memᴰ (conj_subsumed (a_of (get_or rows i 0)) (b_of (get_or rows i 0)) (c_of (get_or rows i 0))) (grown rows levels)
conj_grown rows levels i h kind = Memᴰ.append_left _ (subst (λ (q : Row). Memᴰ q (map row_of rows)) (row_conj (get_or rows i 0) kind) (row_member rows i h))

module _ {N : ℕ} {rows levels table heads links : List ℕ} (ready : Ready N rows levels table heads links) where
  pub covered : (i : ℕ) → i < length rows → Covered table (get_or rows i 0)
  covered i h =
      let w = deck_row ready.deck i h in
      let small = ready.deck.numbers in
      record {
        left = omega (arith, w.lefts);
        second = omega (arith, w.seconds);
        right = omega (arith, w.rights);
        row = omega (arith, w.rights, ready.room);
      }

  -- row c of the table, where c holds of s
  pub ready_growing : {E : List (ℕ × ℕ)} {s c : ℕ} → c < N → Holds (grown rows levels) E s c → Growing N (grown rows levels) E table s (row_words set_words table c)
  ready_growing = row_growing ready.deck.two ready.deck.numbers (grown_below ready.deck levels) ready.exact

  -- what every c is within
  pub row_complete : {c d : ℕ} → c < N → d < N → Holds (grown rows levels) [] c d → has (row_words set_words table c) d ≡ true
  row_complete {c} {d} hc hd holds =
      let small = ready.deck.numbers in
      has_row set_words table c d (omega arith) ∙ exact_complete ready.exact hc hd holds

  module _ (k i : ℕ) (h : i < length rows) where
    pub asked_holds : {s : ℕ} {set : List ℕ} → Growing N (grown rows levels) (active k rows levels) table s set → asks k (get_or rows i 0) (get_or levels i 0) set ≡ true →
        Holds (grown rows levels) (active k rows levels) s (c_of (get_or rows i 0))
    unfolding asks
    asked_holds {s} {set} g e =
        let w : ℕ = get_or rows i 0 in
        let l : ℕ = get_or levels i 0 in
        let word = deck_row ready.deck i h in
        let (left, rest) = both (has set (a_of w)) _ e in
        let a = g.sound.bit (a_of w) word.lefts left in
        either (is_active k w l) _ rest
        (λ t. holds_defeasible (pair_of w) (selected_member (is_active k) rows levels ready.levels_room i h t) a)
        (λ t. let (kind, second) = both _ (has set (b_of w)) t in
        holds_conj (conj_grown rows levels i h (eqb-true (kind_of w) conj_subsumed_kind kind)) a (g.sound.bit (b_of w) word.seconds second))
