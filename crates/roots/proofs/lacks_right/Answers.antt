-- `lacks_right` meets its contract: the tests are the definition's, in another order.
-- Assumes nothing.
use Prim.Native.Nat.{ℕ}
use native.Mathlib.Omega.{arith}
use mathlib.Core.Path.{◌≡◌}
use mathlib.Core.Bool.{true, false, not, ◌&&◌, ◌||◌, and-false}
use mathlib.Core.List.{List}
use lib.Dec.{eqb}
use Rattle.semantics.specs.Row.{conj_subsumed_kind, kind_of, a_of, b_of, c_of}
use Rattle.semantics.specs.Set.{has}
use Rattle.semantics.proofs.Tests.{cases, neither}
use Rattle.sets.proofs.Members.{and_true}
use Rattle.normal.specs.Rules.{is_active}
use Rattle.roots.specs.Steps.{asks}
use Rattle.roots.proofs.lacks_right.Goals as goal

module _ (k w l : ℕ) (set : List ℕ) where
  -- a row of another kind, or below the level
  idle : (is_active k w l || eqb (kind_of w) conj_subsumed_kind) ≡ false → false ≡ (asks k w l set && not (has set (c_of w)))
  unfolding asks
  idle h = let (obeyed, conj) = neither (is_active k w l) _ h in rw (obeyed, conj, and-false (has set (a_of w)))

  present : has set (c_of w) ≡ true → false ≡ (asks k w l set && not (has set (c_of w)))
  present h = rw (h, and-false (asks k w l set))

  due : (is_active k w l || eqb (kind_of w) conj_subsumed_kind) ≡ true → has set (c_of w) ≡ false →
      (has set (a_of w) && (is_active k w l || has set (b_of w))) ≡ (asks k w l set && not (has set (c_of w)))
  unfolding asks
  due h lacking = rw (lacking, and_true (asks k w l set)) (cases (is_active k w l) (λ t. rw t) (λ t. rw t (rw (rw t at h))))

pub returns-then-test : goal.returns-then-test
returns-then-test c = present _ _ _ _ (rw (c.test.ensures, c.right_of.ensures) at c.if-test.true)

pub returns-then-not-obeyed-is_kind : goal.returns-then-not-obeyed-is_kind
returns-then-not-obeyed-is_kind c =
    let active = c.is_active-obeyed in
    let kind = c.is_kind in
    idle _ _ _ _ (rw (active.ensures, kind.ensures) at c.if-not-obeyed-is_kind.true)

pub returns : goal.returns
returns c =
    let kind = c.is_kind in
    let active = c.is_active-obeyed in
    rw (c.test-2.ensures, c.left_of.ensures, c.test-3.ensures, c.second_of.ensures, active.ensures)
    (due _ _ _ _
    (rw (active.ensures, kind.ensures) at c.if-not-obeyed-is_kind.false)
    (rw (c.test.ensures, c.right_of.ensures) at c.if-test.false))

pub test-requires : goal.test-requires
test-requires c = omega (arith, c.requires.2, c.right_of.ensures)

pub test-requires-2 : goal.test-requires-2
test-requires-2 c = omega (arith, c.requires.0, c.left_of.ensures)

pub test-requires-3 : goal.test-requires-3
test-requires-3 c = omega (arith, c.requires.1, c.second_of.ensures)
