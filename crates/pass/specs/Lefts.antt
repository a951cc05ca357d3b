-- Which lefts are exceptional at a level.
--     ExceptionalLefts   of the lefts of all active rows, the exceptional ones
use Rattle.std.specs.Prelude.{ℕ, ◌<◌, ◌≡◌, true, List, length, get_or}
use Rattle.semantics.specs.Concept.{Inclusion, Exceptional}
use Rattle.semantics.specs.Closure.{Replies}
use Rattle.semantics.specs.Row.{numbered}
use Rattle.semantics.specs.Set.{has}
use Rattle.normal.specs.Rules.{is_active}
use Rattle.pass.specs.Levels.{at_level, left_at}

pub record ExceptionalLefts (T : List (Inclusion ℕ ℕ)) (words levels : List ℕ) (k : ℕ) (set : List ℕ) : Type 0 where
  pub exact : (i : ℕ) → i < length words → is_active k (get_or words i 0) (get_or levels i 0) ≡ true →
      Replies (has set (left_at words i)) (Exceptional T (at_level words levels k) (numbered (left_at words i)))
