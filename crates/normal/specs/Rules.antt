-- What the loops of `classify` read of packed rows and of the levels so far. Inner functions cite these definitions; neither `classify`'s contract nor that of a call does.
--     Deck       the words of an accepted deck
--     row_of     the row that a word packs
--     active     the defeasible rows of level k or above that are not stuck, as pairs of numbers
--     stuck      those that are stuck
--     HasLefts   a set that has the lefts of the active ones
--     grown      the rows, and "left is nothing" for each stuck row
use Rattle.std.specs.Prelude.{ℕ, ◌+◌, ◌<◌, ◌≤◌, ◌≡◌, Bool, true, ◌&&◌, cond, List, [], ◌∷◌, ◌++◌, map, length, get_or, eqb, leb, ltb}
use Rattle.std.proofs.Math.Option.{none}
use Rattle.semantics.specs.Closure.{keep_if, rank_code}
use Rattle.semantics.specs.Limits.{number_limit, role_limit, row_limit}
use Rattle.semantics.specs.Refusals.{row_refusal}
use Rattle.semantics.specs.Row.{Row, defeasible_kind, kind_of, role_of, a_of, b_of, c_of}
use Rattle.semantics.specs.Decoding.{row_with}
use Rattle.semantics.specs.Saturated.{empty_row}
use Rattle.semantics.specs.Set.{has}

-- Nothing of the deck is refused, for some count of roles: then nothing is for the greatest.
pub record Deck (N : ℕ) (words : List ℕ) : Type 0 where
  pub two : 1 < N
  pub numbers : N ≤ number_limit
  pub few : length words ≤ row_limit
  pub clean : (i : ℕ) → i < length words → row_refusal N role_limit (get_or words i 0) ≡ none

-- the row over the fields of the word
unfoldable pub row_of : ℕ → Row
row_of w = row_with (kind_of w) (role_of w) (a_of w) (b_of w) (c_of w)

-- ---- levels: each defeasible row's so far, in the place of its row

-- the level of a stuck row
abbrev pub infinite : ℕ
infinite = rank_code none

abbrev pub pair_of : ℕ → ℕ × ℕ
pair_of w = (a_of w, c_of w)

-- the pairs of the rows that the test takes, with the level that stands at the row's place
unfoldable pub selected : (ℕ → ℕ → Bool) → List ℕ → List ℕ → List (ℕ × ℕ)
selected t [] levels = []
selected t (w ∷ words) [] = []
selected t (w ∷ words) (l ∷ levels) = keep_if (t w l) (pair_of w) (selected t words levels)

-- a defeasible row of level k or above that is not stuck
abbrev pub is_active : ℕ → ℕ → ℕ → Bool
is_active k w l = eqb (kind_of w) defeasible_kind && (leb k l && ltb l infinite)

-- of level k, and not above
abbrev pub is_at : ℕ → ℕ → ℕ → Bool
is_at k w l = eqb (kind_of w) defeasible_kind && eqb l k

abbrev pub is_stuck : ℕ → ℕ → Bool
is_stuck = is_at infinite

-- a row of level k whose left is in the set goes one level up
abbrev pub raised_level : ℕ → List ℕ → ℕ → ℕ → ℕ
raised_level k set w l = cond (is_at k w l && has set (a_of w)) (k + 1) l

-- after a pass that got stuck at level k: a row above it is stuck, every other one keeps its level
abbrev pub marked_level : ℕ → ℕ → ℕ → ℕ
marked_level k w l = cond (is_active (k + 1) w l) infinite l

abbrev pub active : ℕ → List ℕ → List ℕ → List (ℕ × ℕ)
active k = selected (is_active k)

abbrev pub stuck : List ℕ → List ℕ → List (ℕ × ℕ)
stuck = selected is_stuck

-- The set has the left of each row that is active at level k.
pub record HasLefts (k : ℕ) (words levels lefts : List ℕ) : Type 0 where
  pub each : (i : ℕ) → i < length words → is_active k (get_or words i 0) (get_or levels i 0) ≡ true → has lefts (a_of (get_or words i 0)) ≡ true

abbrev pub grown : List ℕ → List ℕ → List Row
grown words levels = map row_of words ++ map empty_row (stuck words levels)
