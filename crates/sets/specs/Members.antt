-- Sets compared by their members. No reader has to believe it.
--     Included  every member of one set is in the other
use Rattle.std.specs.Prelude.{ℕ, ◌≡◌, true, List}
use Rattle.semantics.specs.Set.{has}

pub record Included (s t : List ℕ) : Type 0 where
  pub kept : (b : ℕ) → has s b ≡ true → has t b ≡ true
