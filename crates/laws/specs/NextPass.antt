-- What the next pass starts from.
use Rattle.std.specs.Prelude.{◌≡◌}
use mathlib.Core.List.{List, ◌++◌, Memᴰ}
use Rattle.semantics.specs.Concept.{Inclusion}
use Rattle.semantics.specs.Closure.{Filtered, emptied}

-- After a pass over (T, D) with this stuck set: T' adds "left is nothing" for each stuck rule, and D' is the other rules of D, as in `again` of `Passes`.
pub record NextPass {A R : Type 0} (T D stuck T' D' : List (Inclusion A R)) : Type 0 where
  pub lefts_emptied : T' ≡ T ++ emptied stuck
  pub rest : Filtered (λ (σ : Inclusion A R). Memᴰ σ stuck → ⊥) D D'
