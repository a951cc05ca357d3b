-- How an & or a / is read up to its first side, and what a number stands for. Theorems say what reading is worth, so nobody has to believe this.
use Rattle.std.specs.Prelude.{ℕ, cond, List, eqb, Option, Some}
use Rattle.chains.specs.declared.Sort.TheVariants.{Roles}
use Rattle.names.specs.Names.{with_left, ended, read_to, past_space, and_then, take_number, read_word}
use Rattle.names.specs.State.{State, Ending}
use Rattle.forms.specs.Forms.{form_at}
use Rattle.forms.specs.declared.Form.{Form}
use Rattle.forms.specs.declared.Form.TheVariants.{Name}

-- goes on where the next field starts
unfoldable pub after_space : List ℕ → State → ℕ → (ℕ → Ending) → Ending
after_space text names at more = and_then (ended names (past_space text at)) λ names none start. more start

-- an & and the space behind it
unfoldable pub open_conjunction : List ℕ → State → ℕ → Ending
open_conjunction text names at =
    and_then (take_number names at) λ names number next.
    after_space text names next λ start. read_to names number start

-- a /, the role's word and the space behind it
unfoldable pub open_existential : List ℕ → State → ℕ → Ending
open_existential text names at =
    and_then (take_number names at) λ names number next.
    and_then (read_word Roles text names next) λ names role end.
    after_space text names end λ start. read_to (with_left names number role) number start

-- what a number stands for: a name where its word has bytes, and otherwise what stands at its start
unfoldable pub number_form : List ℕ → ℕ → ℕ → Option Form
number_form text start size = cond (eqb size 0) (form_at text start) (Some Name)
