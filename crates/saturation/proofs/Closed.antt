-- Columns that meet every inference of the rows, and over which column 1 has been spread, have exactly the consequences.
--     Decoded    a row of the deck, as the word that packs it
-- Assumes nothing.
use Prim.Native.Nat.{ℕ, ◌*◌, ◌<◌}
use native.Mathlib.Omega.{arith}
use mathlib.Core.Path.{◌≡◌, sym, ap, ◌∙◌}
use mathlib.Core.Bool.{true, false, false≢true}
use mathlib.Core.List.{List, map, Memᴰ}
use lib.ListN.{length, get_or}
use Rattle.semantics.specs.Limits.{set_words}
use Rattle.semantics.specs.Row.{Row, in_exist_kind, fields_of, Below, kind_of, role_of, a_of, b_of, c_of}
use Rattle.semantics.specs.Saturated.{strict_rows, ClosedSet, ClosedTable}
use Rattle.semantics.specs.Set.{cell}
use Rattle.semantics.proofs.Canonical.{table_decides}
use Rattle.semantics.proofs.Tables.{replies_of}
use Rattle.semantics.proofs.Tests.{cases}
use Rattle.normal.specs.Rules.{Deck, row_of}
use Rattle.normal.proofs.Decoding.{deck_row, row_fields, row_index, deck_unpacked}
use Rattle.columns.specs.Columns.{Columns, Seeded}
use Rattle.saturation.specs.Worklist.{strictly, jointly, emptily, in_pair, forwards, Pair, Closed}
use Rattle.saturation.proofs.Spreading.{Spread, spread_from, spread_had, spread_nothing, spread_seeded}

-- Columns that are sound and closed are exact.
pub closed_exact : {N R : ℕ} {rows : List Row} {columns : List ℕ} → Below N R rows → Seeded N rows columns → ClosedTable N rows (λ a b. cell set_words columns b a) →
    Columns N (strict_rows rows) columns
closed_exact {columns = columns} below seeded closed = record {
  bit = λ a b ha hb.
      let iff = table_decides below closed (record { bit = seeded.sound }) a b ha hb in
      replies_of (cell set_words columns b a) iff.1 (λ e p. false≢true (sym e ∙ iff.0 p));
  zeros = seeded.zeros;
}

record Decoded (words : List ℕ) (q : Row) : Type 0 where
  index : ℕ
  within : index < length words
  kind : kind_of (get_or words index 0) ≡ (fields_of q).kind
  role : role_of (get_or words index 0) ≡ (fields_of q).role
  left : a_of (get_or words index 0) ≡ (fields_of q).left
  second : b_of (get_or words index 0) ≡ (fields_of q).second
  right : c_of (get_or words index 0) ≡ (fields_of q).right

decoded : {N : ℕ} {words : List ℕ} {q : Row} → Deck N words → Memᴰ q (map row_of words) → Decoded words q
decoded {words = words} deck m =
    let at = row_index {words = words} m in
    let e = sym (row_fields (deck_row deck at.index at.within)) ∙ ap fields_of at.is in
    record {
      index = at.index;
      within = at.within;
      kind = ap (λ f. f.kind) e;
      role = ap (λ f. f.role) e;
      left = ap (λ f. f.left) e;
      second = ap (λ f. f.second) e;
      right = ap (λ f. f.right) e;
    }

-- ---- a table that is closed

module _ {N : ℕ} {old new : List ℕ} (spread : Spread N old new) where
  module _ {words : List ℕ} (deck : Deck N words) (seeded : Seeded N (map row_of words) old) (closed : Closed words old) where
    -- Of a number that is not nothing the columns say what they said.
    follows : (a c x : ℕ) → a < N → c < N → x < 64 * set_words → cell set_words new a x ≡ true →
        (cell set_words old 1 x ≡ false → cell set_words old a x ≡ true → cell set_words old c x ≡ true) → cell set_words new c x ≡ true
    follows a c x ha hc l h f =
        cases (cell set_words old 1 x) (spread_nothing spread c x hc l) (λ e. spread_from spread a x ha l h (λ p. spread_had spread c x hc l (f e p)) (λ p. absurd (false≢true (sym e ∙ p))))

    left_emptied : (i x : ℕ) → i < length words → kind_of (get_or words i 0) ≡ in_exist_kind → x < 64 * set_words → cell set_words old 1 (c_of (get_or words i 0)) ≡ true →
        cell set_words old 1 x ≡ false → cell set_words old (a_of (get_or words i 0)) x ≡ true → cell set_words old 1 x ≡ true
    left_emptied i x h three l f e p = (closed.each i h _ (emptily three)).each x l (rw (f, p, e))

    paired : (i j x : ℕ) → i < length words → j < length words → Pair (get_or words i 0) (get_or words j 0) → x < 64 * set_words → cell set_words new (a_of (get_or words j 0)) (c_of (get_or words i 0)) ≡ true →
        cell set_words old 1 x ≡ false → cell set_words old (a_of (get_or words i 0)) x ≡ true → cell set_words old (c_of (get_or words j 0)) x ≡ true
    paired i j x first second pair l h e p =
        let right = (deck_row deck i first).rights in
        let known : cell set_words old 1 (c_of (get_or words i 0)) ≡ true → cell set_words old (c_of (get_or words j 0)) x ≡ true =
        λ g. absurd (false≢true (sym e ∙ left_emptied i x first pair.by_in_exist l g e p)) in
        cases (cell set_words old 1 (c_of (get_or words i 0))) known
        (λ n. spread_from spread (a_of (get_or words j 0)) (c_of (get_or words i 0)) (deck_row deck j second).lefts (omega (arith, deck.numbers)) h
        (λ g. (closed.each i first _ (in_pair (record { index = j; within = second; of = forwards pair }))).each x l (rw (g, n, p, e))) known)

    closed_set : (x : ℕ) → x < N → ClosedSet (map row_of words) (λ a b. cell set_words new b a) (λ b. cell set_words new b x)
    closed_set x h =
        let l : x < 64 * set_words = omega (arith, deck.numbers) in
        record {
          top_in = spread_had spread 0 x (omega arith) l (seeded.top x h);
          strict_in = λ m p.
              let d = decoded deck m in
              let fine = deck_row deck d.index d.within in
              rw d.right at (follows _ _ x fine.lefts fine.rights l (rw d.left p) (λ e q. (closed.each d.index d.within _ (strictly d.kind)).each x l (rw (q, e))));
          conj_in = λ m p p'.
              let d = decoded deck m in
              let fine = deck_row deck d.index d.within in
              rw d.right at (follows _ _ x fine.lefts fine.rights l (rw d.left p)
              (λ e q. spread_from spread _ x fine.seconds l (rw d.second p') (λ q'. (closed.each d.index d.within _ (jointly d.kind)).each x l (rw (q, e, q')))
              (λ f. absurd (false≢true (sym e ∙ f)))));
          by_exist_in = λ m m' p f.
              let d = decoded deck m in
              let d' = decoded deck m' in
              let pair : Pair (get_or words d.index 0) (get_or words d'.index 0) = record { by_in_exist = d.kind; by_exist_in = d'.kind; role = d'.role ∙ sym d.role } in
              rw d'.right at (follows _ _ x (deck_row deck d.index d.within).lefts (deck_row deck d'.index d'.within).rights l (rw d.left p)
              (paired _ _ x d.within d'.within pair l (rw (d'.left, d.right) f)));
          bottom_in = λ m p f.
              let d = decoded deck m in
              let fine = deck_row deck d.index d.within in
              follows _ 1 x fine.lefts deck.two l (rw d.left p)
              (left_emptied d.index x d.within d.kind l (spread_from spread 1 _ deck.two (omega (arith, fine.rights, deck.numbers)) (rw d.right f) (λ g. g) (λ g. g)));
        }

    pub closed_columns : Columns N (strict_rows (map row_of words)) new
    closed_columns =
        closed_exact (deck_unpacked deck).below (spread_seeded spread deck.two deck.numbers seeded) (record {
          own = λ x h. spread_had spread x x h (omega (arith, deck.numbers)) (seeded.own x h);
          rest = λ x b h hb e. let l : x < 64 * set_words = omega (arith, deck.numbers) in spread_from spread 1 x deck.two l e (spread_nothing spread b x hb l) (spread_nothing spread b x hb l);
          row = closed_set;
        })
