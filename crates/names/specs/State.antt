-- The state of a reader, and what a step of reading leaves, whole: what the code hands on by value and what it lends are in Lent.antt.
use Rattle.std.specs.Prelude.{ℕ, List, Result}
use Rattle.refusal.specs.declared.Refused.{Refused}
use Rattle.chains.specs.WordList.{WordList}
use Rattle.chains.specs.declared.Sort.{Sort}
use Rattle.chains.specs.declared.Sort.TheVariants.{Concepts}

-- The words of each sort, and the left and the right of each number.
pub record State : Type 0 where
  pub lists : Sort → WordList
  pub lefts : List ℕ
  pub rights : List ℕ

-- the number that is given out next to a concept
abbrev pub next_concept : State → ℕ
next_concept names = (names.lists Concepts).used

-- What a step finds: a number, and where what was read ends, or a refusal with its place.
abbrev pub Step : Type 0
Step = Result (ℕ × ℕ) Refused

-- A step, and the state when it ended.
pub record Ending : Type 0 where
  pub names : State
  pub step : Step
