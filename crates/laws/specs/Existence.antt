-- What some laws ask of the names. It is so over words and over numbers (`word_closures`, `number_closures`).
use Rattle.std.specs.Prelude.{ℕ, List}
use Rattle.semantics.specs.Closure.{Line, RationalClosure}

-- Every list of lines over these names and roles has a rational closure.
abbrev pub ClosuresExist : Type 0 → Type 0 → Type 0
ClosuresExist A R = (lines : List (Line A R)) → (levels passes : ℕ) × (results : List ℕ) × RationalClosure lines levels passes results
