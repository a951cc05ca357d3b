-- How a concept is read, from left to right. `read_concept`, `read_conjunction`, `read_existential` and `read_sides` are what the four readers that
-- call each other give.
use Rattle.std.specs.Prelude.{ℕ, zero, suc, ◌+◌, List, Option, Some, None}
use Rattle.refusal.specs.declared.Refusal.{Refusal}
use Rattle.refusal.specs.declared.Refusal.TheVariants.{SyntaxError, TooDeep}
use Rattle.chains.specs.declared.Sort.TheVariants.{Concepts}
use Rattle.names.specs.Names.{with_left, with_right, refuse, read_to, and_then, read_word}
use Rattle.forms.specs.Forms.{form_at}
use Rattle.forms.specs.Opened.{after_space, open_conjunction, open_existential}
use Rattle.forms.specs.declared.Form.{Form}
use Rattle.forms.specs.declared.Form.TheVariants.{Top, Bottom, Name, Conjunction, Existential}
use Rattle.names.specs.State.{State, Ending}

-- where no depth is left, whatever can start a concept is too deep
abbrev pub too_deep : Option Form → Refusal
too_deep (Some form) = TooDeep
too_deep None = SyntaxError

-- two concepts with a space between, as the left and the right of a number; `inner` reads a concept
unfoldable pub read_sides : (State → ℕ → Ending) → List ℕ → State → ℕ → ℕ → Ending
read_sides inner text names at number =
    and_then (inner names at) λ names left next.
    after_space text names next λ start.
    and_then (inner (with_left names number left) start) λ names right end.
    read_to (with_right names number right) number end

-- an & and its two sides
abbrev pub read_conjunction : (State → ℕ → Ending) → List ℕ → State → ℕ → Ending
read_conjunction inner text names at = and_then (open_conjunction text names at) λ names number next. read_sides inner text names next number

-- the side of a /
unfoldable pub read_filler : (State → ℕ → Ending) → State → ℕ → ℕ → Ending
read_filler inner names at number =
    and_then (inner names at) λ names right end.
    read_to (with_right names number right) number end

-- a / and its side
abbrev pub read_existential : (State → ℕ → Ending) → List ℕ → State → ℕ → Ending
read_existential inner text names at = and_then (open_existential text names at) λ names number next. read_filler inner names next number

-- a concept, by what it starts with
unfoldable pub read_form : Option Form → (State → ℕ → Ending) → List ℕ → State → ℕ → Ending
read_form (Some Top) inner text names at = read_to names 0 (at + 1)
read_form (Some Bottom) inner text names at = read_to names 1 (at + 1)
read_form (Some Name) inner text names at = read_word Concepts text names at
read_form (Some Conjunction) inner text names at = read_conjunction inner text names at
read_form (Some Existential) inner text names at = read_existential inner text names at
read_form None inner text names at = refuse names SyntaxError at

-- the concept at `at`, with so much depth left as the allowance says
unfoldable pub read_concept : ℕ → List ℕ → State → ℕ → Ending
read_concept zero text names at = refuse names (too_deep (form_at text at)) at
read_concept (suc allowance) text names at = read_form (form_at text at) (read_concept allowance text) text names at
