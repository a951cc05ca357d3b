-- Tables of sets, a row of W words each, as a list of words: row a is the words W * a to W * a + W - 1.
--     HasRow      the table is long enough for row a
--     row_words   the words of row a
--     RowBecomes  nothing but row a has changed, and what it has now
use Rattle.std.specs.Prelude.{ℕ, ◌+◌, ◌*◌, ◌≤◌, ◌<◌, ◌≡◌, Bool, List, length, get_or, take, drop}
use Rattle.semantics.specs.Set.{cell}

abbrev pub HasRow : ℕ → List ℕ → ℕ → Type 0
HasRow W table a = W * a + W ≤ length table

abbrev pub row_words : ℕ → List ℕ → ℕ → List ℕ
row_words W table a = take W (drop (W * a) table)

-- Row a of new has exactly the numbers that p has, and every other word of new is old's.
pub record RowBecomes (W a : ℕ) (p : ℕ → Bool) (old new : List ℕ) : Type 0 where
  pub row : (b : ℕ) → b < 64 * W → cell W new a b ≡ p b
  pub below_kept : (j : ℕ) → j < W * a → get_or new j 0 ≡ get_or old j 0
  pub above_kept : (j : ℕ) → W * a + W ≤ j → get_or new j 0 ≡ get_or old j 0
  pub length_kept : length new ≡ length old
