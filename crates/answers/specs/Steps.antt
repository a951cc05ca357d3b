-- What the inner functions of this crate cite. No reader has to believe it.
--     Rewritten   each of the first results is computed anew, from its place and its old value
--     ranked_at   the result of the defeasible row at a place
use Rattle.std.specs.Prelude.{ℕ, ◌<◌, ◌≤◌, ◌≡◌, List, length, get_or}
use Rattle.results.specs.Results.{ranked_result}

-- The results below n are what f makes of their place and of the old one; the others are the old ones.
pub record Rewritten (f : ℕ → ℕ → ℕ) (n : ℕ) (old new : List ℕ) : Type 0 where
  pub length_kept : length new ≡ length old
  pub done : (j : ℕ) → j < n → get_or new j 0 ≡ f j (get_or old j 0)
  pub left : (j : ℕ) → n ≤ j → get_or new j 0 ≡ get_or old j 0

abbrev pub ranked_at : List ℕ → List ℕ → ℕ → ℕ → ℕ
ranked_at words levels j r = ranked_result (get_or words j 0) (get_or levels j 0) r
