-- What the rows ask: it is due no more where the columns that it reads are the same, and the rows that read a column are in its list of the index.
--     BottomOf       of a row, that its left is nothing
--     ColumnReader   a row that has a part in an inference, and a slot with the key b
-- Assumes nothing.
use Prim.Native.Nat.{ℕ, ◌*◌, ◌<◌}
use native.Mathlib.Omega.{arith}
use mathlib.Core.Path.{◌≡◌, sym, ◌∙◌}
use mathlib.Core.Bool.{Bool, true, not, ◌&&◌, false≢true}
use mathlib.Core.List.{List}
use lib.ListN.{length, get_or}
use Rattle.semantics.specs.Limits.{set_words, number_limit}
use Rattle.semantics.specs.Row.{in_exist_kind, kind_of, a_of, b_of, c_of}
use Rattle.semantics.specs.Set.{cell}
use Rattle.semantics.proofs.Tests.{both, cases}
use Rattle.sets.specs.Members.{Included}
use Rattle.normal.specs.Rules.{Deck}
use Rattle.normal.proofs.Decoding.{deck_row}
use Rattle.index.specs.Index.{slot_key}
use Rattle.index.proofs.Keys.{left_reads, second_reads}
use Rattle.index.proofs.Visit.{ToCome}
use Rattle.columns.specs.Steps.{in_apart}
use Rattle.saturation.specs.Worklist.{Inference, strict_inference, conj_inference, bottom_inference, pair_inference, OfPair, forwards, backwards, TakesPart, strictly, jointly, emptily, in_pair}
use Rattle.saturation.specs.Worklist.{ReadsColumn, by_first, by_second, SameColumn, Stable}

-- ---- stable

both_true : (p q : Bool) → p ≡ true → q ≡ true → (p && q) ≡ true
both_true p q e f = rw (e, f)

module _ {old new : List ℕ} (grows : Included old new) where
  apart_stays : (a : ℕ) → SameColumn a old new → (x : ℕ) → x < 64 * set_words → in_apart a new x ≡ true → in_apart a old x ≡ true
  apart_stays a same x l h =
      let (f, g) = both (cell set_words new a x) (not (cell set_words new 1 x)) h in
      cases (cell set_words old 1 x)
      (λ e. absurd (false≢true (rw (grows.kept _ e) at g)))
      (λ e. rw (sym (same x l) ∙ f, e))

pub strict_stable : (w : ℕ) → Stable (strict_inference w)
strict_stable w = record { stays = λ grows first second x l h. apart_stays grows (a_of w) first x l h }

pub conj_stable : (w : ℕ) → Stable (conj_inference w)
conj_stable w = record {
  stays = λ {old} {new} grows first second x l h.
      let (f, g) = both (in_apart (a_of w) new x) (cell set_words new (b_of w) x) h in
      both_true (in_apart (a_of w) old x) (cell set_words old (b_of w) x) (apart_stays grows (a_of w) first x l f) (sym (second x l) ∙ g);
}

pub bottom_stable : (w : ℕ) → c_of w < number_limit → Stable (bottom_inference w)
bottom_stable w small = record {
  stays = λ {old} {new} grows first second x l h.
      let (f, g) = both (cell set_words new 1 (c_of w)) (in_apart (a_of w) new x) h in
      both_true (cell set_words old 1 (c_of w)) (in_apart (a_of w) old x) (sym (second (c_of w) small) ∙ f) (apart_stays grows (a_of w) first x l g);
}

pub pair_stable : (w v : ℕ) → c_of w < number_limit → Stable (pair_inference w v)
pair_stable w v small = record {
  stays = λ {old} {new} grows first second x l h.
      let (f, g) = both (in_apart (a_of v) new (c_of w)) (in_apart (a_of w) new x) h in
      both_true (in_apart (a_of v) old (c_of w)) (in_apart (a_of w) old x) (apart_stays grows (a_of v) second (c_of w) small f) (apart_stays grows (a_of w) first x l g);
}

pair_of_stable : {w v : ℕ} {d : Inference} → c_of w < number_limit → c_of v < number_limit → OfPair w v d → Stable d
pair_of_stable {w} {v} h k (forwards p) = pair_stable w v h
pair_of_stable {w} {v} h k (backwards p) = pair_stable v w k

small_right : {N : ℕ} {words : List ℕ} → Deck N words → (i : ℕ) → i < length words → c_of (get_or words i 0) < number_limit
small_right deck i h = omega (arith, (deck_row deck i h).rights, deck.numbers)

pub part_stable : {N : ℕ} {words : List ℕ} → Deck N words → (i : ℕ) → i < length words → {d : Inference} → TakesPart words (get_or words i 0) d → Stable d
part_stable deck i h (strictly e) = strict_stable _
part_stable deck i h (jointly e) = conj_stable _
part_stable deck i h (emptily e) = bottom_stable _ (small_right deck i h)
part_stable deck i h (in_pair p) = pair_of_stable (small_right deck i h) (small_right deck p.index p.within) p.of

-- ---- a row of kind 3

pub record BottomOf (words : List ℕ) (i : ℕ) (d : Inference) : Type 0 where
  pub kind : kind_of (get_or words i 0) ≡ in_exist_kind
  pub is : d ≡ bottom_inference (get_or words i 0)

-- ---- the rows that read column b

pub record ColumnReader (words : List ℕ) (b : ℕ) (d : Inference) : Type 0 where
  pub index : ℕ
  pub part : TakesPart words (get_or words index 0) d
  pub slot : ToCome (slot_key words) b (2 * length words) index

module _ {words : List ℕ} {b i : ℕ} (h : i < length words) where
  -- Row i reads its left, and so does the other row of a pair.
  by_left : {d : Inference} → a_of (get_or words i 0) ≡ b → TakesPart words (get_or words i 0) d → ColumnReader words b d
  by_left r part = record { index = i; part = part; slot = rw r at (left_reads words i h) }

  pair_reader : (j : ℕ) {d : Inference} → j < length words → OfPair (get_or words i 0) (get_or words j 0) d → ReadsColumn d b → ColumnReader words b d
  pair_reader j l (forwards p) (by_first r) = by_left r (in_pair (record { index = j; within = l; of = forwards p }))
  pair_reader j l (forwards p) (by_second r) = record { index = j; part = in_pair (record { index = i; within = h; of = backwards p }); slot = rw r at (left_reads words j l) }
  pair_reader j l (backwards p) (by_first r) = record { index = j; part = in_pair (record { index = i; within = h; of = forwards p }); slot = rw r at (left_reads words j l) }
  pair_reader j l (backwards p) (by_second r) = by_left r (in_pair (record { index = j; within = l; of = backwards p }))

  pub part_reader : {d : Inference} → (b ≡ 1 → ⊥) → TakesPart words (get_or words i 0) d → ReadsColumn d b → ColumnReader words b d
  part_reader n (strictly e) (by_first r) = by_left r (strictly e)
  part_reader n (strictly e) (by_second r) = by_left r (strictly e)
  part_reader n (jointly e) (by_first r) = by_left r (jointly e)
  part_reader n (jointly e) (by_second r) = record { index = i; part = jointly e; slot = rw r at (second_reads words i h e) }
  part_reader n (emptily e) (by_first r) = by_left r (emptily e)
  part_reader n (emptily e) (by_second r) = absurd (n (sym r))
  part_reader n (in_pair p) reads = pair_reader p.index p.within p.of reads
