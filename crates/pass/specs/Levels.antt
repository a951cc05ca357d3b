-- The levels of defeasible rows while a pass runs: level k is the one that is looked at next. A level from k on is a lower bound, kept from the pass before.
--     at_level    E(j): the rows of level j or above that are not stuck
--     Levelled    a left is exceptional below its row's level, and where that is below k, not at it
--     Falling     no set before E(k) repeats
use Rattle.std.specs.Prelude.{ℕ, zero, suc, ◌<◌, ◌≤◌, ◌≡◌, true, List, [], ◌∷◌, ◌++◌, map, length, get_or}
use Rattle.semantics.specs.Concept.{Inclusion, Exceptional}
use Rattle.semantics.specs.Row.{numbered, a_of}
use Rattle.semantics.specs.Saturated.{between}
use Rattle.normal.specs.Rules.{is_active, active}

abbrev pub at_level : List ℕ → List ℕ → ℕ → List (Inclusion ℕ ℕ)
at_level words levels j = map between (active j words levels)

-- the row at i is defeasible and not stuck
abbrev pub Live : List ℕ → List ℕ → ℕ → Type 0
Live words levels i = (i < length words) × (is_active 0 (get_or words i 0) (get_or levels i 0) ≡ true)

-- the left of the row at i
abbrev pub left_at : List ℕ → ℕ → ℕ
left_at words i = a_of (get_or words i 0)

pub record Levelled (T : List (Inclusion ℕ ℕ)) (words levels : List ℕ) (k : ℕ) : Type 0 where
  pub long : length words ≤ length levels
  pub risen : (i j : ℕ) → Live words levels i → j < get_or levels i 0 → Exceptional T (at_level words levels j) (numbered (left_at words i))
  pub stayed : (i : ℕ) → Live words levels i → get_or levels i 0 < k → Exceptional T (at_level words levels (get_or levels i 0)) (numbered (left_at words i)) → ⊥

pub record Falling (words levels : List ℕ) (k : ℕ) : Type 0 where
  pub falls : (j : ℕ) → j < k → length (active (suc j) words levels) < length (active j words levels)

-- E(0) to E(k-1)
unfoldable pub sets_to : List ℕ → List ℕ → ℕ → List (List (Inclusion ℕ ℕ))
sets_to words levels zero = []
sets_to words levels (suc k) = sets_to words levels k ++ at_level words levels k ∷ []
