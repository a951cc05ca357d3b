-- Roots: what an s that obeys E is within, as a set of numbers.
--     Ready              what a root is computed from: an accepted deck, the levels so far, the exact table of T, with what stuck rows have added, and the index of the rows
--     KnownExceptional   what is known to be exceptional
--     Root               what the set has, and whether s is exceptional
use Rattle.std.specs.Prelude.{ℕ, ◌*◌, ◌<◌, ◌≤◌, ◌≡◌, Bool, true, false, List, length}
use Rattle.semantics.specs.Concept.{Inclusion, Within, Exceptional}
use Rattle.semantics.specs.Closure.{Replies}
use Rattle.semantics.specs.Limits.{set_words}
use Rattle.semantics.specs.Outputs.{StrictTable}
use Rattle.semantics.specs.Row.{numbered}
use Rattle.semantics.specs.Saturated.{strict_rows}
use Rattle.semantics.specs.Set.{has}
use Rattle.normal.specs.Rules.{Deck, grown}
use Rattle.index.specs.Index.{Indexed}

pub record Ready (N : ℕ) (rows levels table heads links : List ℕ) : Type 0 where
  pub deck : Deck N rows
  pub levels_room : length rows ≤ length levels
  pub room : set_words * N ≤ length table
  pub exact : StrictTable N (strict_rows (grown rows levels)) table
  pub indexed : Indexed rows heads links

-- 1 is known to be exceptional, and what else is known to be so is.
pub record KnownExceptional (N : ℕ) (T E : List (Inclusion ℕ ℕ)) (known : List ℕ) : Type 0 where
  pub bottom_in : has known 1 ≡ true
  pub exceptional : (b : ℕ) → b < N → has known b ≡ true → Exceptional T E (numbered b)

-- Whether s is exceptional for (T, E). Where it is not, the set has d exactly when every s that obeys E, in every model of T, is in d.
-- It has nothing from N on.
pub record Root (N : ℕ) (T E : List (Inclusion ℕ ℕ)) (s : ℕ) (set : List ℕ) (exceptional : Bool) : Type 0 where
  pub replies : Replies exceptional (Exceptional T E (numbered s))
  pub decides : exceptional ≡ false → (d : ℕ) → d < N → Replies (has set d) (Within T E (numbered s) (numbered d))
  pub zeros : (d : ℕ) → N ≤ d → has set d ≡ false
