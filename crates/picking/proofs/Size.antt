-- How many members a set has: the measure of a loop that takes them out one by one.
-- Assumes nothing.
use mathlib.Core.Path.{◌≡◌, refl, sym, ◌∙◌}
use mathlib.Core.Logic.{⊎_elim}
use mathlib.Core.Bool.{Bool, true, false, not, ◌||◌, ◌&&◌, or-true, or-false, and-true, and-false}
use mathlib.Core.List.{List}
use Prim.Native.Nat.{ℕ, zero, suc, ◌+◌, ◌≤◌, ◌<◌}
use native.Mathlib.Nat.{le_of_suc-le-suc, eq-or-lt_of_le}
use native.Mathlib.Decide.{ℕ_discrete}
use native.Mathlib.Omega.{arith}
use lib.Dec.{eqb}
use borrow.Author.Tests.{eq-eqb, ne_eqb}
use Rattle.semantics.specs.Set.{has}
use Rattle.picking.specs.Size.{counts, size}

-- Sets with the same members below k have the same size.
pub size_same : (s t : List ℕ) (k : ℕ) → ((c : ℕ) → c < k → has s c ≡ has t c) → size s k ≡ size t k
unfolding size
size_same s t zero h = refl
size_same s t (suc k) h = rw (h k (omega arith), size_same s t k (λ c l. h c (omega arith)))

-- One member more, and no other difference.
pub size_more : (s t : List ℕ) (b : ℕ) → has s b ≡ false → has t b ≡ true → ((c : ℕ) → (c ≡ b → ⊥) → has s c ≡ has t c)
    → (k : ℕ) → b < k → size t k ≡ size s k + 1
unfolding size counts
size_more s t b p q same zero l = absurd (omega arith)
size_more s t b p q same (suc k) l =
    ⊎_elim
    (λ e. rw (← e, p, q) (omega (arith, size_same s t b (λ c m. same c (λ f. omega arith)))))
    (λ m. rw (same k (λ f. omega arith)) (omega (arith, size_more s t b p q same k m)))
    (eq-or-lt_of_le (le_of_suc-le-suc l))

-- What `add` gives of a number that is no member.
pub size_add : (s t : List ℕ) (b : ℕ) → has s b ≡ false → ((c : ℕ) → has t c ≡ (has s c || eqb b c)) → (k : ℕ) → b < k → size t k ≡ size s k + 1
size_add s t b p is =
    size_more s t b p (is b ∙ rw (eq-eqb b b refl) (or-true (has s b)))
    (λ c n. sym (is c ∙ rw (ne_eqb b c (λ e. n (sym e))) (or-false (has s c))))

-- What it gives of any number.
pub size_add_le : (s t : List ℕ) (b : ℕ) → ((c : ℕ) → has t c ≡ (has s c || eqb b c)) → (k : ℕ) → b < k → size t k ≤ size s k + 1
size_add_le s t b is k l = go (has s b) refl
  where
    member : has s b ≡ true → (c : ℕ) → has t c ≡ has s c
    member h c = elim (ℕ_discrete b c) [ yes e ↦ is c ∙ rw (← e, h) | no n ↦ is c ∙ rw (ne_eqb b c n) (or-false (has s c)) ]

    go : (p : Bool) → has s b ≡ p → size t k ≤ size s k + 1
    go true h = omega (arith, size_same t s k (λ c m. member h c))
    go false h = omega (arith, size_add s t b h is k l)

-- What `remove` gives of a member.
pub size_remove : (s t : List ℕ) (b : ℕ) → has s b ≡ true → ((c : ℕ) → has t c ≡ (has s c && not (eqb b c))) → (k : ℕ) → b < k → size s k ≡ size t k + 1
size_remove s t b p is =
    size_more t s b (is b ∙ rw (eq-eqb b b refl) (and-false (has s b))) p
    (λ c n. is c ∙ rw (ne_eqb b c (λ e. n (sym e))) (and-true (has s c)))
