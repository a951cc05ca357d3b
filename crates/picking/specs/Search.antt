-- What a search in a set gives. No reader has to believe it.
--     MemberFrom  a member below the limit, any one, or none where none is from `from` on
--     Picked      a member below the limit, any one, or none where there is none
use Rattle.std.specs.Prelude.{ℕ, ◌≤◌, ◌<◌, ◌≡◌, true, false, List, Option, IfSome, IsNone}
use Rattle.semantics.specs.Set.{has}

pub record MemberFrom (limit : ℕ) (words : List ℕ) (from : ℕ) (r : Option ℕ) : Type 0 where
  pub member : IfSome r (λ b. (b < limit) × (has words b ≡ true))
  pub none : IsNone r → (c : ℕ) → from ≤ c → has words c ≡ false

pub record Picked (limit : ℕ) (words : List ℕ) (r : Option ℕ) : Type 0 where
  pub member : IfSome r (λ b. (b < limit) × (has words b ≡ true))
  pub none : IsNone r → (c : ℕ) → has words c ≡ false
