-- What a loop over the levels of the rows does. No reader has to believe it.
--     Relevelled   each row's level is computed from the row and its old one
--     LeftsFrom    the lefts of the rows of a level and above
use Rattle.std.specs.Prelude.{ℕ, ◌<◌, ◌≡◌, true, List, length, get_or}
use Rattle.semantics.specs.Row.{a_of}
use Rattle.semantics.specs.Set.{has}
use Rattle.normal.specs.Rules.{is_active, HasLefts}

-- each row's level is f of the row and its old level
pub record Relevelled (f : ℕ → ℕ → ℕ) (words old new : List ℕ) : Type 0 where
  pub length_kept : length new ≡ length old
  pub rows : (i : ℕ) → i < length words → get_or new i 0 ≡ f (get_or words i 0) (get_or old i 0)

-- a row that is active at level k and has the left a
pub record ActiveLeft (k : ℕ) (words levels : List ℕ) (a : ℕ) : Type 0 where
  pub index : ℕ
  pub within : index < length words
  pub taken : is_active k (get_or words index 0) (get_or levels index 0) ≡ true
  pub is : a_of (get_or words index 0) ≡ a

-- The set has the lefts of the rows active at level k, and no others.
pub record LeftsFrom (N k : ℕ) (words levels set : List ℕ) : Type 0 where
  pub has_lefts : HasLefts k words levels set
  pub source : (a : ℕ) → has set a ≡ true → ActiveLeft k words levels a
  pub below : (a : ℕ) → has set a ≡ true → a < N
