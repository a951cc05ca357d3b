-- A row of a table that gets the numbers of a test: what it has, and that there is nothing else.
-- Assumes nothing.
use Prim.Native.Nat.{ℕ, ◌*◌, ◌<◌}
use native.Mathlib.Decide.{ℕ_discrete}
use mathlib.Core.Path.{◌≡◌, sym, ◌∙◌}
use mathlib.Core.Bool.{Bool, true, ◌||◌, or-true}
use mathlib.Core.Logic.{◌⊎◌, inl, inr}
use mathlib.Core.List.{List}
use Rattle.semantics.specs.Set.{cell}
use Rattle.semantics.proofs.Tests.{either}
use Rattle.tables.specs.Table.{RowBecomes}
use Rattle.tables.proofs.Rows.{other_row}

module _ (q : ℕ → Bool) {W a : ℕ} {old new : List ℕ} (r : RowBecomes W a (λ c. cell W old a c || q c) old new) where
  pub joined_has : (b : ℕ) → b < 64 * W → q b ≡ true → cell W new a b ≡ true
  joined_has b l h = r.row b l ∙ rw h (or-true (cell W old a b))

  pub joined_only : (x b : ℕ) → b < 64 * W → cell W new x b ≡ true → (cell W old x b ≡ true) ⊎ ((x ≡ a) × (q b ≡ true))
  joined_only x b l h =
      elim (ℕ_discrete x a) [
        | yes e ↦ either (cell W old a b) (q b) (sym (r.row b l) ∙ (rw e at h)) (λ p. inl (rw e p)) (λ p. inr (e, p))
        | no n ↦ inl (sym (other_row r x b n l) ∙ h)
      ]
