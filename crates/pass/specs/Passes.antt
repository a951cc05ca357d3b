-- How a pass ends, and how the passes end.
--     strict_of_words, defeasibles   T and D of the deck
--     SameRules                      lists with the same inclusions
--     PassEnded                      one pass, from the levels `start`
--     Ranked                         all passes
use Rattle.std.specs.Prelude.{ℕ, suc, ◌+◌, ◌<◌, ◌≤◌, ◌≡◌, Bool, true, false, length, get_or}
use mathlib.Core.List.{List, map, Memᴰ}
use Rattle.semantics.specs.Concept.{Inclusion}
use Rattle.semantics.specs.Closure.{defeasible_of, Passes}
use Rattle.semantics.specs.Row.{line_of}
use Rattle.semantics.specs.Outputs.{StrictTable}
use Rattle.semantics.specs.Saturated.{strict_rows}
use Rattle.normal.specs.Rules.{infinite, row_of, active, stuck, grown}
use Rattle.pass.specs.Levels.{Levelled, Falling, sets_to}

abbrev pub strict_of_words : List ℕ → List (Inclusion ℕ ℕ)
strict_of_words words = strict_rows (map row_of words)

abbrev pub defeasibles : List ℕ → List (Inclusion ℕ ℕ)
defeasibles words = defeasible_of (map line_of (map row_of words))

pub record SameRules (T T' : List (Inclusion ℕ ℕ)) : Type 0 where
  pub there : (ρ : Inclusion ℕ ℕ) → Memᴰ ρ T → Memᴰ ρ T'
  pub back : (ρ : Inclusion ℕ ℕ) → Memᴰ ρ T' → Memᴰ ρ T

-- no level is above that of a stuck row
pub record Bounded (words levels : List ℕ) : Type 0 where
  pub each : (i : ℕ) → i < length words → get_or levels i 0 ≤ infinite

-- before a pass: each row's level is a lower bound, below which its left is exceptional
pub record Fresh (words levels : List ℕ) : Type 0 where
  pub levelled : Levelled (strict_rows (grown words levels)) words levels 0
  pub bounded : Bounded words levels

-- Where nothing is left at level k, the pass has settled. Where all that is at level k goes on, it is stuck there.
pub data PassEnded (words start levels : List ℕ) (k : ℕ) : Bool → Type 0 where
  ends : Levelled (strict_rows (grown words levels)) words levels k → Falling words levels k → length (active k words levels) ≡ 0 →
      active 0 words levels ≡ active 0 words start → stuck words levels ≡ stuck words start → PassEnded words start levels k false
  sticks : Levelled (strict_rows (grown words levels)) words levels (k + 1) → Falling words levels k → length (active k words levels) ≡ length (active (suc k) words levels) →
      0 < length (active k words levels) → active 0 words levels ≡ active 0 words start → stuck words levels ≡ stuck words start → PassEnded words start levels k true

pub record PassRan (words start levels : List ℕ) (k : ℕ) (stuck : Bool) : Type 0 where
  pub ended : PassEnded words start levels k stuck
  pub small : k < infinite
  pub bounded : Bounded words levels
  pub length_kept : length levels ≡ length start

pub record Ranked (N : ℕ) (words levels table : List ℕ) (k passes : ℕ) : Type 0 where
  pub T* : List (Inclusion ℕ ℕ)
  pub passed : Passes (strict_of_words words) (defeasibles words) passes T* (sets_to words levels k)
  pub rules : SameRules T* (strict_rows (grown words levels))
  pub levelled : Levelled T* words levels k
  pub none_left : length (active k words levels) ≡ 0
  pub strict_table : StrictTable N T* table
