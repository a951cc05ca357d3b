-- Columns that are exact for the rows before, once they have taken what is emptied, are exact for the grown rows.
--     exact_ordered    exact columns are an order
--     emptied_sound    what is emptied is nothing in every model
--     closed_table     with that within every number, the table is saturated
--     grown_columns    so the columns are exact once each has taken the set,
--     grown_turned     and the table is theirs once the rows of what is newly nothing are full
-- Assumes nothing.
use Prim.Native.Nat.{ℕ, ◌<◌, ◌≤◌}
use native.Mathlib.Omega.{arith}
use mathlib.Core.Path.{◌≡◌, sym, ap, ◌∙◌, subst}
use mathlib.Core.Bool.{Bool, true, false, ◌||◌, ◌&&◌, not, cond, or-true, or-false, false≢true}
use mathlib.Core.Logic.{⊎_elim}
use mathlib.Core.List.Memᴰ
use mathlib.Core.List.{List, [], map, Memᴰ}
use lib.ListN.{get_or}
use borrow.Author.Tests.{not-false}
use Rattle.semantics.specs.Limits.{set_words, number_limit, role_limit}
use Rattle.semantics.specs.Row.{in_exist, fields_of, Below, a_of, c_of}
use Rattle.semantics.specs.Saturated.{strict_rows, empty_row, Holds, ClosedSet, ClosedTable, SoundTable}
use Rattle.semantics.specs.Set.{has, cell}
use Rattle.semantics.proofs.Canonical.{table_decides}
use Rattle.semantics.proofs.Steps.{holds_rest, holds_strict, holds_conj, holds_exist, holds_bottom, holds_table}
use Rattle.semantics.proofs.Tables.{replies_of}
use Rattle.semantics.proofs.Tests.{cases, either, both}
use Rattle.tables.specs.Table.{row_words}
use Rattle.tables.proofs.Rows.{has_row}
use Rattle.normal.specs.Rules.{row_of, is_stuck, grown}
use Rattle.normal.proofs.Decoding.{deck_row, row_fields, row_index, row_member, row_in_exist}
use Rattle.normal.proofs.Grown.{grown_cases, grown_written, grown_below}
use Rattle.normal.proofs.Selected.{selected_member}
use Rattle.columns.specs.Columns.{Columns, Seeded, Transposed}
use Rattle.columns.specs.Steps.{RowsBecome}
use Rattle.columns.proofs.ExactColumns.{columns_seeded}
use Rattle.emptying.specs.Emptiable.{Emptiable}
use Rattle.emptying.specs.Steps.{ColumnOrder, EmptiedNumber, was, at_stuck, by_role, EmptiedSet}

-- a is within b, or nothing
abbrev spread : List ℕ → List ℕ → ℕ → ℕ → Bool
spread columns set a b = cell set_words columns b a || has set a

-- ---- what exact columns have

module _ {N : ℕ} {words levels columns table : List ℕ} (start : Emptiable N words levels columns table) where
  sound_before : (a b : ℕ) → a < N → b < N → cell set_words columns b a ≡ true → Holds start.before [] a b
  sound_before = (columns_seeded start.exact (λ q m. m) start.deck.two).sound

  seeded : Seeded N (grown words levels) columns
  seeded = columns_seeded start.exact start.part start.deck.two

  complete : (a b : ℕ) → a < N → b < N → Holds start.before [] a b → cell set_words columns b a ≡ true
  complete a b ha hb h = cases (cell set_words columns b a) (λ e. e) (λ e. absurd ((rw e at (start.exact.bit a b ha hb)) h.within))

  pub exact_ordered : ColumnOrder N words columns
  exact_ordered = record {
    deck = start.deck;
    room = start.columns_room;
    own = seeded.own;
    trans = λ a b c ha hb hc p q. complete a c ha hc (holds_table (sound_before a b ha hb p) (sound_before b c hb hc q));
    zeros = seeded.zeros;
  }

  below : Below N role_limit (grown words levels)
  below = grown_below start.deck levels

  -- What is emptied is nothing in every model of the grown rows.
  emptied_sound : (x : ℕ) → x < N → EmptiedNumber words levels columns x → Holds (grown words levels) [] x 1
  emptied_sound x h (was p) = seeded.sound x 1 h start.deck.two p
  emptied_sound x h (at_stuck i l e p) =
      holds_strict (Memᴰ.append_right (map row_of words) (Memᴰ.map empty_row (selected_member is_stuck words levels start.levels_room i l e)))
      (seeded.sound x _ h (deck_row start.deck i l).lefts p)
  emptied_sound x h (by_role i l kind e p) =
      let row = deck_row start.deck i l in
      let m = subst (λ q. Memᴰ q (map row_of words)) (row_in_exist _ kind) (row_member words i l) in
      holds_bottom (Memᴰ.append_left _ m) (seeded.sound x _ h row.lefts p) (emptied_sound _ row.rights e)

  -- ---- the table that is closed

  module _ {set : List ℕ} (emptied : EmptiedSet N words levels columns set) where
    emptied_has : (x : ℕ) → x < N → EmptiedNumber words levels columns x → has set x ≡ true
    emptied_has x h e = cases (has set x) (λ t. t) (λ t. absurd ((rw t at (emptied.each x h)) e))

    emptied_of : (x : ℕ) → x < N → has set x ≡ true → EmptiedNumber words levels columns x
    emptied_of x h t = rw t at (emptied.each x h)

    spread_old : (x b : ℕ) → cell set_words columns b x ≡ true → spread columns set x b ≡ true
    spread_old x b p = rw p

    spread_nothing : (x b : ℕ) → has set x ≡ true → spread columns set x b ≡ true
    spread_nothing x b t = rw t (or-true (cell set_words columns b x))

    -- What is nothing is within c, so it is enough to look at what is not.
    spread_from : (x a c : ℕ) → spread columns set x a ≡ true → (cell set_words columns a x ≡ true → spread columns set x c ≡ true) → spread columns set x c ≡ true
    spread_from x a c e next = either (cell set_words columns a x) (has set x) e next (spread_nothing x c)

    within_bottom : (x : ℕ) → x < N → spread columns set x 1 ≡ true → has set x ≡ true
    within_bottom x h e = either (cell set_words columns 1 x) (has set x) e (λ p. emptied_has x h (was p)) (λ t. t)

    -- A row of kind 3 whose right is nothing.
    led : {a r c x : ℕ} → x < N → Memᴰ (in_exist a r c) (map row_of words) → has set c ≡ true → cell set_words columns a x ≡ true → has set x ≡ true
    led {a} {r} {c} {x} h m t p =
        let at = row_index {words = words} m in
        let row = deck_row start.deck at.index at.within in
        let e = sym (row_fields row) ∙ ap fields_of at.is in
        let right : c_of (get_or words at.index 0) ≡ c = ap (λ f. f.right) e in
        let left : a_of (get_or words at.index 0) ≡ a = ap (λ f. f.left) e in
        emptied_has x h (by_role at.index at.within (ap (λ f. f.kind) e) (emptied_of _ row.rights (rw right t)) (rw left p))

    closed_set : (x : ℕ) → x < N → ClosedSet (grown words levels) (spread columns set) (spread columns set x)
    closed_set x h = record {
      top_in = spread_old x 0 (seeded.top x h);
      strict_in = λ {a} {c} m e. spread_from x a c e (λ p.
          let (ha, hc) = below.each _ m in
          ⊎_elim
          (λ m. spread_old x c (complete x c h hc (holds_strict (start.written _ m) (sound_before x a h ha p))))
          (λ s. spread_nothing x c (emptied_has x h (at_stuck s.index s.within s.taken (rw (ap (λ q. (fields_of q).left) s.is) p))))
          (grown_cases words levels m));
      conj_in = λ {a} {b} {c} m e f. spread_from x a c e (λ p. spread_from x b c f (λ q.
          let (ha, hb, hc) = below.each _ m in
          let w = grown_written words levels (λ k. omega arith) m in
          spread_old x c (complete x c h hc (holds_conj (start.written _ w) (sound_before x a h ha p) (sound_before x b h hb q)))));
      by_exist_in = λ {a} {r} {c} {a'} {c'} m m' e f. spread_from x a c' e (λ p.
          let (ha, hr, hc) = below.each _ m in
          let (hr', ha', hc') = below.each _ m' in
          let w = grown_written words levels (λ k. omega arith) m in
          let w' = grown_written words levels (λ k. omega arith) m' in
          either (cell set_words columns a' c) (has set c) f
          (λ q. spread_old x c' (complete x c' h hc' (holds_exist (start.written _ w) (start.written _ w') (sound_before x a h ha p) (sound_before c a' hc ha' q))))
          (λ t. spread_nothing x c' (led h w t p)));
      bottom_in = λ {a} {r} {c} m e f. spread_from x a 1 e (λ p.
          let (ha, hr, hc) = below.each _ m in
          spread_nothing x 1 (led h (grown_written words levels (λ k. omega arith) m) (within_bottom c hc f) p));
    }

    closed_table : ClosedTable N (grown words levels) (spread columns set)
    closed_table = record {
      own = λ x h. spread_old x x (seeded.own x h);
      rest = λ x b h hb e. spread_nothing x b (within_bottom x h e);
      row = closed_set;
    }

    sound_table : SoundTable N (grown words levels) (spread columns set)
    sound_table = record {
      bit = λ a b ha hb e. either (cell set_words columns b a) (has set a) e (seeded.sound a b ha hb) (λ t. holds_rest b (emptied_sound a ha (emptied_of a ha t)));
    }

    -- ---- what `empty_stuck` leaves

    module _ {columns' : List ℕ} (joined : RowsBecome N (λ b x. cell set_words columns b x || has set x) columns columns') where
      pub grown_columns : Columns N (strict_rows (grown words levels)) columns'
      grown_columns = record {
        bit = λ a b ha hb.
            let iff = table_decides below closed_table sound_table a b ha hb in
            rw (joined.done b a hb (omega (arith, start.deck.numbers))) (replies_of (spread columns set a b) iff.1 (λ e p. false≢true (sym e ∙ iff.0 p)));
        zeros = λ a b ha l hb.
            let past : has set a ≡ false = cases (has set a) (λ t. absurd (omega (arith, emptied.below a t))) (λ t. t) in
            joined.done b a hb l ∙ rw (start.exact.zeros a b ha l hb, past);
      }

      -- Rows of what was nothing before have all numbers already.
      module _ (newly : List ℕ) {table' : List ℕ} (new : (x : ℕ) → has newly x ≡ (has set x && not (has (row_words set_words columns 1) x)))
          (filled : RowsBecome N (λ a b. cond (has newly a) (has (row_words set_words columns 0) b) (cell set_words table a b)) table table') where
        row_filled : (a b : ℕ) → a < N → b < N → cond (has newly a) (has (row_words set_words columns 0) b) (cell set_words table a b) ≡ spread columns set a b
        row_filled a b ha hb =
            cases (has newly a)
            (λ e. rw (e, (both (has set a) _ (sym (new a) ∙ e)).0, or-true (cell set_words columns b a)) (has_row set_words columns 0 b (omega (arith, start.deck.numbers)) ∙ seeded.top b hb))
            (λ e. rw (e, start.turned.turned a b ha hb) (cases (has set a)
            (λ t. let old = not-false _ (rw (t, has_row set_words columns 1 a (omega (arith, start.deck.numbers))) at (sym (new a) ∙ e)) in
            rw (complete a b ha hb (holds_rest b (sound_before a 1 ha start.deck.two old))))
            (λ t. rw (t, or-false (cell set_words columns b a)))))

        pub grown_turned : Transposed N columns' table'
        grown_turned = record {
          turned = λ a b ha hb.
              let small : N ≤ number_limit = start.deck.numbers in
              filled.done a b ha (omega arith) ∙ row_filled a b ha hb ∙ sym (joined.done b a hb (omega arith));
          zeros = λ a b ha hb l. filled.done a b ha l ∙ cases (has newly a)
              (λ e. rw e (has_row set_words columns 0 b l ∙ start.exact.zeros b 0 hb l (omega arith)))
              (λ e. rw e (start.turned.zeros a b ha hb l));
        }
