-- How many numbers are not followed yet, not in the set or dirty: the measure of `find_root`. A step leaves what is followed, and adds only dirty numbers.
-- Assumes nothing.
use Prim.Native.Nat.{ℕ, ◌<◌}
use mathlib.Core.Path.{◌≡◌}
use mathlib.Core.Bool.{Bool, true, false, not, ◌&&◌}
use mathlib.Core.List.{List}
use Rattle.semantics.specs.Set.{has}
use Rattle.picking.specs.Size.{failing}
use Rattle.picking.proofs.Missing.{failing_lt}

abbrev pub followed : List ℕ → List ℕ → ℕ → Bool
followed set dirty b = has set b && not (has dirty b)

pub unfollowed : List ℕ → List ℕ → ℕ → ℕ
unfollowed set dirty = failing (followed set dirty)

-- b is followed now, and all that was.
pub unfollowed_lt : (set dirty set' dirty' : List ℕ) → ((c : ℕ) → followed set dirty c ≡ true → followed set' dirty' c ≡ true)
    → (b : ℕ) → followed set dirty b ≡ false → followed set' dirty' b ≡ true → (k : ℕ) → b < k → unfollowed set' dirty' k < unfollowed set dirty k
unfolding unfollowed
unfollowed_lt set dirty set' dirty' = failing_lt (followed set dirty) (followed set' dirty')
