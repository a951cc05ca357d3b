-- What the inner functions of `find_root` keep on the way. No reader has to believe it. `dirty` are the numbers that are still to be followed.
--     asks           the row's lefts are in the set, so that its right is due
--     Satisfied      the set has what the row asks for, or one of the row's lefts is dirty
--     Growing        every member holds of s, and whole rows of the table are taken
--     FollowStep     from a set and its dirty numbers to others
--     FollowedRows   each row that reads b is satisfied
use Rattle.std.specs.Prelude.{ℕ, ◌<◌, ◌≤◌, ◌≡◌, Bool, true, false, not, ◌&&◌, ◌||◌, List, eqb, length, get_or}
use Rattle.semantics.specs.Limits.{set_words}
use Rattle.semantics.specs.Row.{Row, kind_of, a_of, b_of, c_of, conj_subsumed_kind}
use Rattle.semantics.specs.Saturated.{SoundRoot}
use Rattle.semantics.specs.Set.{has, cell}
use Rattle.sets.specs.Members.{Included}
use Rattle.normal.specs.Rules.{is_active, active, grown}

-- ---- one row, its word w and its level l

-- a row of kind 2 with both lefts in the set, or an active row with its left in it
unfoldable pub asks : ℕ → ℕ → ℕ → List ℕ → Bool
asks k w l set = has set (a_of w) && (is_active k w l || (eqb (kind_of w) conj_subsumed_kind && has set (b_of w)))

-- the left has P, or in kind 2 the second left
abbrev pub some_left : (ℕ → Bool) → ℕ → Bool
some_left P w = P (a_of w) || (eqb (kind_of w) conj_subsumed_kind && P (b_of w))

pub record Satisfied (k w l : ℕ) (set dirty : List ℕ) : Type 0 where
  pub right_in : some_left (has dirty) w ≡ false → asks k w l set ≡ true → has set (c_of w) ≡ true

-- ---- all rows

pub record Growing (N : ℕ) (rows : List Row) (E : List (ℕ × ℕ)) (table : List ℕ) (s : ℕ) (set : List ℕ) : Type 0 where
  pub sound : SoundRoot N rows E s (has set)
  pub table_in : (a b : ℕ) → a < N → b < N → has set a ≡ true → cell set_words table a b ≡ true → has set b ≡ true
  pub zeros : (d : ℕ) → N ≤ d → has set d ≡ false

-- The set grows, as a root may, and what is new in it is dirty too.
pub record FollowStep (N k : ℕ) (rows levels table set dirty set' dirty' : List ℕ) : Type 0 where
  pub growing : (s : ℕ) → Growing N (grown rows levels) (active k rows levels) table s set → Growing N (grown rows levels) (active k rows levels) table s set'
  pub included : Included set set'
  pub new_dirty : (c : ℕ) → has dirty' c ≡ (has dirty c || (has set' c && not (has set c)))

pub record FollowedRows (k : ℕ) (rows levels : List ℕ) (b : ℕ) (set dirty : List ℕ) : Type 0 where
  pub each : (j : ℕ) → j < length rows → some_left (eqb b) (get_or rows j 0) ≡ true → Satisfied k (get_or rows j 0) (get_or levels j 0) set dirty
