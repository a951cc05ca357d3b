-- How many numbers fail a test, and how many a set lacks: the measure of a loop that only adds to a set, or to a table, which is one long set.
-- Assumes nothing.
use mathlib.Core.Path.{◌≡◌, refl}
use mathlib.Core.Logic.{⊎_elim}
use mathlib.Core.Bool.{Bool, true, false, not, false≢true}
use mathlib.Core.List.{List}
use Prim.Native.Nat.{ℕ, zero, suc, ◌≤◌, ◌<◌}
use native.Mathlib.Nat.{le_of_suc-le-suc, eq-or-lt_of_le}
use native.Mathlib.Omega.{arith}
use Rattle.semantics.specs.Set.{has}
use Rattle.sets.specs.Members.{Included}
use Rattle.picking.specs.Size.{counts, failing, missing}

lacks_le : (p q : Bool) → (p ≡ true → q ≡ true) → counts (not q) ≤ counts (not p)
unfolding counts
lacks_le p true h = omega arith
lacks_le false false h = omega arith
lacks_le true false h = absurd (false≢true (h refl))

module _ (p q : ℕ → Bool) (kept : (c : ℕ) → p c ≡ true → q c ≡ true) where
  failing_le : (k : ℕ) → failing q k ≤ failing p k
  unfolding failing
  failing_le zero = omega arith
  failing_le (suc k) = omega (arith, lacks_le (p k) (q k) (kept k), failing_le k)

  -- A number below k that passes now, and all that did.
  pub failing_lt : (b : ℕ) → p b ≡ false → q b ≡ true → (k : ℕ) → b < k → failing q k < failing p k
  unfolding failing counts
  failing_lt b f t zero l = absurd (omega arith)
  failing_lt b f t (suc k) l =
      ⊎_elim
      (λ e. rw (← e, f, t) (omega (arith, failing_le b)))
      (λ m. omega (arith, lacks_le (p k) (q k) (kept k), failing_lt b f t k m))
      (eq-or-lt_of_le (le_of_suc-le-suc l))

pub missing_le : {s t : List ℕ} → Included s t → (k : ℕ) → missing t k ≤ missing s k
missing_le {s} {t} h = failing_le (has s) (has t) h.kept

-- A new member below k is missing no more.
pub missing_lt : {s t : List ℕ} → Included s t → (b : ℕ) → has s b ≡ false → has t b ≡ true → (k : ℕ) → b < k → missing t k < missing s k
missing_lt {s} {t} h = failing_lt (has s) (has t) h.kept
