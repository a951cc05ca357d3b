-- A table by rows, from one by columns, word after word.
--     Added     the numbers of a word but for the rest have got b
--     Turned    the words below i are done
-- Assumes nothing.
use Prim.Native.Nat.{ℕ, ◌+◌, ◌-◌, ◌*◌, ◌/◌, ◌%◌, ◌<◌, ◌≤◌}
use native.Mathlib.Decide.{dec_lt, ℕ_discrete}
use native.Mathlib.Omega.{arith}
use mathlib.Core.Path.{◌≡◌, refl, sym, ap, ◌∙◌}
use mathlib.Core.Bool.{true, false, not, ◌||◌, ◌&&◌, or-false, and-true, and-false, and_assoc}
use mathlib.Core.List.{List}
use lib.Dec.{eqb, leb, ltb}
use lib.ListN.{get_or}
use borrow.Author.Tests.{lt-ltb, le-ltb, ltb-true, le-leb, leb-true, eq-eqb, ne_eqb, eqb-true}
use Rattle.semantics.specs.Limits.{set_words, number_limit}
use Rattle.semantics.specs.Set.{bit, cell}
use Rattle.semantics.proofs.Tests.{both, cases}
use Rattle.sets.proofs.Bits.{bit_zero}
use Rattle.sets.proofs.Members.{eqb_iff}
use Rattle.tables.specs.Table.{RowBecomes}
use Rattle.tables.proofs.Rows.{cell_bit, other_row}
use Rattle.columns.specs.Columns.{Transposed}
use Rattle.columns.specs.Steps.{RowsBecome, last_of, has_number, in_word}
use Rattle.columns.proofs.Lowest.{Lowest}

-- ---- the numbers of one word

in_none : (last a : ℕ) → has_number last 0 a ≡ false
in_none last a = rw (bit_zero (last - a), and-false (ltb (last - a) 64), and-false (leb a last))

module _ {last v t w : ℕ} (high : 63 ≤ last) (lowest : Lowest 64 v t w) where
  -- The number of the lowest bit is there,
  in_lowest : has_number last v (last - t) ≡ true
  in_lowest =
      let back : last - (last - t) ≡ t = omega (arith, lowest.small) in
      rw (le-leb (last - t) last (omega arith), back, lt-ltb t 64 lowest.small, lowest.set)

  -- and is all that is lost without it.
  in_rest : (a : ℕ) → has_number last w a ≡ (has_number last v a && not (eqb (last - t) a))
  in_rest a = cases (leb a last)
      (λ e. let l = leb-true a last e in
      rw (e, lowest.rest (last - a), eqb_iff t (last - a) (last - t) a (λ q. omega (arith, l)) (λ q. omega (arith, l, lowest.small)))
      (sym (and_assoc (ltb (last - a) 64) (bit v (last - a)) (not (eqb (last - t) a)))))
      (λ e. rw e)

-- ---- one word

-- What the rest lacks of w has got b.
pub record Added (N last b w : ℕ) (old new : List ℕ) (rest : ℕ) : Type 0 where
  pub part : (a : ℕ) → has_number last rest a ≡ true → has_number last w a ≡ true
  pub rows : RowsBecome N (λ a c. cell set_words old a c || ((has_number last w a && not (has_number last rest a)) && eqb b c)) old new

module _ {N last b w v t v' : ℕ} {old mid : List ℕ} (high : 63 ≤ last) (so_far : Added N last b w old mid v) (lowest : Lowest 64 v t v') where
  part_more : (a : ℕ) → has_number last v' a ≡ true → has_number last w a ≡ true
  part_more a e = so_far.part a (both (has_number last v a) (not (eqb (last - t) a)) (sym (in_rest high lowest a) ∙ e)).0

  -- Of another number nothing changes,
  other_number : (a c : ℕ) → (last - t ≡ a → ⊥) → a < N → c < 64 * set_words →
      cell set_words mid a c ≡ (cell set_words old a c || ((has_number last w a && not (has_number last v' a)) && eqb b c))
  other_number a c n h l = so_far.rows.done a c h l ∙ rw (in_rest high lowest a, ne_eqb (last - t) a n, and-true (has_number last v a))

  -- and the number of the lowest bit gets b, where it has a row.
  this_number : (c : ℕ) → last - t < N → c < 64 * set_words →
      (cell set_words mid (last - t) c || eqb b c) ≡ (cell set_words old (last - t) c || ((has_number last w (last - t) && not (has_number last v' (last - t))) && eqb b c))
  this_number c h l =
      let there = in_lowest high lowest in
      rw (so_far.rows.done (last - t) c h l, in_rest high lowest (last - t), there, so_far.part (last - t) there, eq-eqb (last - t) (last - t) refl, or-false (cell set_words old (last - t) c))

  pub added_more : {new : List ℕ} → last - t < N → RowBecomes set_words (last - t) (λ c. cell set_words mid (last - t) c || eqb b c) mid new → Added N last b w old new v'
  added_more h r = record {
    part = part_more;
    rows = record {
      done = λ a c k l. elim (ℕ_discrete (last - t) a) [
        | yes e ↦ rw (← e) (r.row c l ∙ this_number c h l)
        | no n ↦ other_row r a c (λ e. n (sym e)) l ∙ other_number a c n k l
      ];
      rest = λ a c k l. other_row r a c (λ e. omega arith) l ∙ so_far.rows.rest a c k l;
      length_kept = r.length_kept ∙ so_far.rows.length_kept;
    };
  }

  pub added_past : N ≤ last - t → Added N last b w old mid v'
  added_past h = record {
    part = part_more;
    rows = record { done = λ a c k l. other_number a c (λ e. omega arith) k l; rest = so_far.rows.rest; length_kept = so_far.rows.length_kept };
  }

pub added_all : {N last b w rest : ℕ} {old new : List ℕ} → rest ≡ 0 → Added N last b w old new rest → RowsBecome N (λ a c. cell set_words old a c || (has_number last w a && eqb b c)) old new
added_all {last = last} {w = w} end s = record {
  done = λ a c h l. s.rows.done a c h l ∙ rw (end, in_none last a, and-true (has_number last w a));
  rest = s.rows.rest;
  length_kept = s.rows.length_kept;
}

-- ---- all words

-- the word that has a of column c
abbrev place : ℕ → ℕ → ℕ
place a c = set_words * c + a / 64

pub record Turned (N i : ℕ) (columns table : List ℕ) : Type 0 where
  pub cells : (a c : ℕ) → a < N → c < 64 * set_words → cell set_words table a c ≡ (ltb (place a c) i && cell set_words columns c a)

pub turned_none : {N : ℕ} {columns old table : List ℕ} → RowsBecome N (λ a c. false) old table → Turned N 0 columns table
turned_none r = record { cells = λ a c h l. r.done a c h l ∙ rw (le-ltb (place a c) 0 (omega arith)) }

-- one word more
past_more : (i j : ℕ) → (j ≡ i → ⊥) → ltb j i ≡ ltb j (i + 1)
past_more i j n = elim (dec_lt j i) [ yes l ↦ rw (lt-ltb j i l, lt-ltb j (i + 1) (omega arith)) | no l ↦ rw (le-ltb j i (omega arith), le-ltb j (i + 1) (omega arith)) ]

module _ (columns : List ℕ) (i : ℕ) where
  -- The word at i has what its column has,
  this_word : (a c : ℕ) → a < 64 * set_words → place a c ≡ i → in_word i (get_or columns i 0) a c ≡ cell set_words columns c a
  this_word a c h e =
      let spot : last_of i - a ≡ 63 - a % 64 = omega arith in
      rw (le-leb a (last_of i) (omega arith), lt-ltb (last_of i - a) 64 (omega arith), eq-eqb (i / set_words) c (omega arith), spot, ← e)
      (and-true (bit (get_or columns (place a c) 0) (63 - a % 64)) ∙ sym (cell_bit set_words columns c a))

  -- and nothing else.
  other_word : (a c : ℕ) → (place a c ≡ i → ⊥) → in_word i (get_or columns i 0) a c ≡ false
  other_word a c n = cases (in_word i (get_or columns i 0) a c)
      (λ e.
      let (inside, column) = both (has_number (last_of i) (get_or columns i 0) a) (eqb (i / set_words) c) e in
      let (below, near) = both (leb a (last_of i)) (ltb (last_of i - a) 64 && bit (get_or columns i 0) (last_of i - a)) inside in
      let l = leb-true a (last_of i) below in
      let m = ltb-true (last_of i - a) 64 (both (ltb (last_of i - a) 64) (bit (get_or columns i 0) (last_of i - a)) near).0 in
      let k = eqb-true (i / set_words) c column in
      absurd (n (omega arith)))
      (λ e. e)

  pub turned_more : {N : ℕ} {old new : List ℕ} → N ≤ number_limit → Turned N i columns old → RowsBecome N (λ a c. cell set_words old a c || in_word i (get_or columns i 0) a c) old new →
      Turned N (i + 1) columns new
  turned_more few t r = record {
    cells = λ a c h l. r.done a c h l ∙ rw (t.cells a c h l) (elim (ℕ_discrete (place a c) i) [
      | yes e ↦ rw (this_word a c (omega arith) e, le-ltb (place a c) i (omega arith), lt-ltb (place a c) (i + 1) (omega arith))
      | no n ↦ rw (other_word a c n) (or-false (ltb (place a c) i && cell set_words columns c a) ∙ ap (λ p. p && cell set_words columns c a) (past_more i (place a c) n))
    ]);
  }

pub turned_all : {N : ℕ} {columns table : List ℕ} → N ≤ number_limit → Turned N (set_words * N) columns table → Transposed N columns table
turned_all {N} few t = record {
  turned = λ a b ha hb. t.cells a b ha (omega arith) ∙ rw (lt-ltb (place a b) (set_words * N) (omega arith));
  zeros = λ a b ha hb l. t.cells a b ha l ∙ rw (le-ltb (place a b) (set_words * N) (omega arith));
}
