-- The rows of a table of sets, W words each. A table is one long set too: number b of row a is number 64 * (W * a) + b of it.
--     has_row, row_words_lem     a row as a set
--     other_row                  a function on row a leaves every other row
--     row_included               where row a only grows, the table only grows
--     row_becomes_unique         `RowBecomes` fixes the whole table
--     table_words                tables with the same bits have the same words
-- Assumes nothing.
use borrow.Author.Rules.{rules}
use Rattle.std.proofs.lemmas.List.{places}
use borrow.Rule.Slice.PartMut.{put_mid}
use mathlib.Core.Path.{◌≡◌, sym, ap, ◌∙◌}
use mathlib.Core.Bool.{Bool, true, ◌||◌}
use mathlib.Core.List.{List}
use Prim.Native.Nat.{ℕ, zero, suc, ◌+◌, ◌-◌, ◌*◌, ◌/◌, ◌%◌, ◌^◌, ◌≤◌, ◌<◌}
use native.Mathlib.Nat.{mul-suc, mul-le-mul_left}
use native.Mathlib.Decide.{dec_lt}
use native.Mathlib.Omega.{arith}
use lib.Bits.{bit_or}
use lib.Dec.{eqb}
use lib.ListN.{length, get_or, set, take, drop, length-set, get_or-eq_default, length-drop}
use lib.Seq.{length-take-le, get_or-take, get_or-drop, get_or-set_other, get_or-take, get_or-drop, ext_get_or, length-take-le}
use Rattle.semantics.specs.Set.{bit, has, cell, Are64}
use Rattle.tables.specs.Table.{HasRow, row_words, RowBecomes}
use Rattle.sets.specs.Members.{Included}
use Rattle.sets.proofs.Members.{eqb_iff, has_set_bit, has_ext}

-- The bit that holds number b of row a.
pub cell_bit : (W : ℕ) (table : List ℕ) (a b : ℕ) → cell W table a b ≡ bit (get_or table (W * a + b / 64) 0) (63 - b % 64)
unfolding has
cell_bit W table a b =
    let word : (64 * (W * a) + b) / 64 ≡ W * a + b / 64 = omega arith in
    let place : (64 * (W * a) + b) % 64 ≡ b % 64 = omega arith in
    rw (word, place)

-- A set whose word is the table's has what the table has there.
pub has_cell : (W : ℕ) (table words : List ℕ) (a b : ℕ) → get_or words (b / 64) 0 ≡ get_or table (W * a + b / 64) 0 → has words b ≡ cell W table a b
unfolding has
has_cell W table words a b e = rw e (sym (cell_bit W table a b))

pub has_row : (W : ℕ) (table : List ℕ) (a b : ℕ) → b < 64 * W → has (row_words W table a) b ≡ cell W table a b
has_row W table a b h =
    has_cell W table (row_words W table a) a b (get_or-take W (drop (W * a) table) (b / 64) 0 (omega arith) ∙ get_or-drop (W * a) table (b / 64) 0)

-- A set that has the words of row a, one by one, is the row.
pub row_words_lem : (W : ℕ) (table : List ℕ) (a : ℕ) (s : List ℕ) → HasRow W table a → length s ≡ W
    → ((j : ℕ) → j < W → get_or s j 0 ≡ get_or table (W * a + j) 0) → s ≡ row_words W table a
row_words_lem W table a s h l words =
    let rest : length (drop (W * a) table) ≡ length table - W * a = length-drop (W * a) table in
    let long : length (row_words W table a) ≡ W = length-take-le W (drop (W * a) table) (omega arith) in
    ext_get_or 0 s (row_words W table a) (l ∙ sym long)
    (λ j k. words j (omega arith) ∙ sym (get_or-take W (drop (W * a) table) j 0 (omega arith) ∙ get_or-drop (W * a) table j 0))

-- A number of the whole table lies below row a, in it, or above it.
by_row : (P : ℕ → Type 0) (W a : ℕ) → ((m : ℕ) → m / 64 < W * a → P m) → ((b : ℕ) → b < 64 * W → P (64 * (W * a) + b))
    → ((m : ℕ) → W * a + W ≤ m / 64 → P m) → (m : ℕ) → P m
by_row P W a below at above m =
    elim (dec_lt (m / 64) (W * a)) [
      | yes l ↦ below m l
      | no l ↦ elim (dec_lt (m / 64) (W * a + W)) [
        | yes h ↦ let e : 64 * (W * a) + (m - 64 * (W * a)) ≡ m = omega arith in rw e at (at (m - 64 * (W * a)) (omega arith))
        | no h ↦ above m (omega arith)
      ]
    ]

-- A lower row ends where the next one begins, or earlier.
rows_apart : (W x y : ℕ) → x < y → W * x + W ≤ W * y
rows_apart W x y l = omega (arith, mul-suc W x, mul-le-mul_left W l)

module _ {W a : ℕ} {p : ℕ → Bool} {old new : List ℕ} (r : RowBecomes W a p old new) where
  has_below : (m : ℕ) → m / 64 < W * a → has new m ≡ has old m
  unfolding has
  has_below m l = rw (r.below_kept (m / 64) l)

  has_above : (m : ℕ) → W * a + W ≤ m / 64 → has new m ≡ has old m
  unfolding has
  has_above m l = rw (r.above_kept (m / 64) l)

  pub other_row : (x b : ℕ) → (x ≡ a → ⊥) → b < 64 * W → cell W new x b ≡ cell W old x b
  other_row x b n h =
      elim (dec_lt x a) [
        | yes l ↦ has_below (64 * (W * x) + b) (omega (arith, rows_apart W x a l))
        | no l ↦ has_above (64 * (W * x) + b) (omega (arith, rows_apart W a x (omega arith)))
      ]

  pub row_included : ((b : ℕ) → b < 64 * W → cell W old a b ≡ true → p b ≡ true) → Included old new
  row_included grows = record {
    kept = by_row (λ m. has old m ≡ true → has new m ≡ true) W a
        (λ m l h. has_below m l ∙ h) (λ b l h. r.row b l ∙ grows b l h) (λ m l h. has_above m l ∙ h);
  }

-- So it is where the row has what it had and others.
pub joined_included : (q : ℕ → Bool) {W a : ℕ} {old new : List ℕ} → RowBecomes W a (λ c. cell W old a c || q c) old new → Included old new
joined_included q r = row_included r (λ b l h. rw h)

pub row_becomes_unique : {W a : ℕ} {p : ℕ → Bool} {old new new' : List ℕ} → RowBecomes W a p old new → RowBecomes W a p old new'
    → Are64 new → Are64 new' → new ≡ new'
row_becomes_unique {W} {a} {p} {old} {new} {new'} r r' f f' =
    has_ext new new' (r.length_kept ∙ sym r'.length_kept) f f'
    (λ m l. by_row (λ m. has new m ≡ has new' m) W a
    (λ m l. has_below r m l ∙ sym (has_below r' m l)) (λ b l. r.row b l ∙ sym (r'.row b l)) (λ m l. has_above r m l ∙ sym (has_above r' m l)) m)

-- ---- whole tables

-- Tables that have the same bits in N rows have them in all words of these.
rows_same : (W N : ℕ) (s t : List ℕ) → ((a b : ℕ) → a < N → b < 64 * W → cell W s a b ≡ cell W t a b) → (m : ℕ) → m / 64 < W * N → has s m ≡ has t m
rows_same W zero s t f m h = absurd (omega arith)
rows_same W (suc n) s t f m h =
    by_row (λ m. m / 64 < W * suc n → has s m ≡ has t m) W n
    (λ m l k. rows_same W n s t (λ a b lt. f a b (omega arith)) m l) (λ b l k. f n b (omega arith) l) (λ m l k. absurd (omega (arith, mul-suc W n))) m h

first_64 : (n : ℕ) (l : List ℕ) → n ≤ length l → Are64 l → Are64 (take n l)
first_64 n l le p i = elim (dec_lt i n) [
  | yes lt ↦ rw (get_or-take n l i 0 lt) (p i)
  | no ge ↦ rw (get_or-eq_default (take n l) 0 {n = i} (omega (arith, length-take-le n l le))) (omega arith)
]

-- So these words are the same.
pub table_words : (W N : ℕ) (s t : List ℕ) → ((a b : ℕ) → a < N → b < 64 * W → cell W s a b ≡ cell W t a b) →
    W * N ≤ length s → W * N ≤ length t → Are64 s → Are64 t → take (W * N) s ≡ take (W * N) t
unfolding has
table_words W N s t bits le le' p q =
    let n = W * N in
    let l = length-take-le n s le in
    let l' = length-take-le n t le' in
    has_ext (take n s) (take n t) (l ∙ sym l') (first_64 n s le p) (first_64 n t le' q) (λ b lt.
    let inside : b / 64 < n = omega (arith, l) in
    rw (get_or-take n s (b / 64) 0 inside, get_or-take n t (b / 64) 0 inside) (rows_same W N s t bits b inside))

-- ---- what the functions do

-- The words of row a are replaced by the set's.
pub put_becomes : (W a : ℕ) (words put old : List ℕ) → put ≡ words → length words ≡ W → HasRow W old a → RowBecomes W a (has words) old (put_mid (W * a) W old put)
put_becomes W a words put old is l h = record {
  row = λ b i. sym (has_cell W (put_mid (W * a) W old put) words a b (rw is (search (rules, places))));
  below_kept = λ j i. search (rules, places);
  above_kept = λ j i. search (rules, places);
  length_kept = search (rules, places);
}

-- One bit of row a is set.
pub set_bit_becomes : (W a b : ℕ) (old : List ℕ) → HasRow W old a → b < 64 * W
    → RowBecomes W a (λ c. cell W old a c || eqb b c) old
    (set old (W * a + b / 64) (bit_or (get_or old (W * a + b / 64) 0) ((1 * 2 ^ (63 - b % 64)) % 2 ^ 64)))
set_bit_becomes W a b old h l =
    let k : ℕ = W * a + b / 64 in
    let word : ℕ = bit_or (get_or old k 0) ((1 * 2 ^ (63 - b % 64)) % 2 ^ 64) in
    record {
      row = λ c i. has_set_bit old k (63 - b % 64) (64 * (W * a) + c) (omega arith) (omega arith)
          ∙ ap (λ t. cell W old a c || t) (eqb_iff (64 * k + (63 - (63 - b % 64))) (64 * (W * a) + c) b c (λ e. omega arith) (λ e. omega arith));
      below_kept = λ j i. get_or-set_other old k j word 0 (λ e. omega arith);
      above_kept = λ j i. get_or-set_other old k j word 0 (λ e. omega arith);
      length_kept = length-set old k word;
    }
