-- The definition rows, number by number, and how many there are. Assumes nothing.
use Prim.Native.Nat.{ℕ, suc, ◌+◌, ◌-◌, ◌<◌, ◌≤◌}
use native.Mathlib.Omega.{arith}
use mathlib.Core.Path.{◌≡◌, refl}
use mathlib.Core.List.{List, [], ◌++◌}
use lib.ListN.{length, get_or, length-append}
use Rattle.semantics.specs.Limits.{number_limit, number_least}
use Rattle.chains.proofs.Parts.{first_get}
use Rattle.chains.specs.declared.WordStarts.{WordStarts}
use Rattle.names.specs.Lent.{lefts_in, rights_in, state_of}
use Rattle.names.specs.declared.ReaderState.{ReaderState}
use Rattle.forms.specs.Opened.{number_form}
use Rattle.std.specs.Prelude.{Option, Some, None}
use Rattle.forms.specs.declared.Form.{Form}
use Rattle.forms.specs.declared.Form.TheVariants.{Top, Bottom, Name, Conjunction, Existential}
use Rattle.source.specs.Lines.{form_rows, form_of_number, definitions_of, definitions_to}
use Rattle.names.specs.State.{State}

-- the state with the concepts' words, whatever the roles' are
abbrev pub with_roles : WordStarts → WordStarts → List ℕ → State
with_roles concepts roles links = state_of record { concepts = concepts; roles = roles } links

-- a number has at most three
form_few : (f : Option Form) (x l r : ℕ) → length (form_rows f x l r) ≤ 3
form_few (Some Conjunction) x l r = omega arith
form_few (Some Existential) x l r = omega arith
form_few (Some Top) x l r = omega arith
form_few (Some Bottom) x l r = omega arith
form_few (Some Name) x l r = omega arith
form_few None x l r = omega arith

-- whatever is no `&` and no `/` has none
pub rows_other : (f : Option Form) (x l r : ℕ) → (f ≡ Some Conjunction → ⊥) → (f ≡ Some Existential → ⊥) → form_rows f x l r ≡ []
rows_other (Some Top) x l r h k = refl
rows_other (Some Bottom) x l r h k = refl
rows_other (Some Name) x l r h k = refl
rows_other (Some Conjunction) x l r h k = absurd (h refl)
rows_other (Some Existential) x l r h k = absurd (k refl)
rows_other None x l r h k = refl

-- the rows of a number, by the form of what stands where it began
pub rows_by : (text : List ℕ) (names : ReaderState) (links : List ℕ) (x : ℕ) {f g : Option Form} → x < number_limit →
    f ≡ number_form text (get_or names.concepts.starts x 0) (get_or names.concepts.lengths x 0) → f ≡ g →
    definitions_of text (state_of names links) x ≡ form_rows g x (get_or (lefts_in links) x 0) (get_or (rights_in links) x 0)
unfolding definitions_of
rows_by text names links x h e k = rw (first_get number_limit names.concepts.starts x h, first_get number_limit names.concepts.lengths x h, ← e, k)

module _ (text : List ℕ) (names : State) (x : ℕ) where
  pub definitions_few : length (definitions_of text names x) ≤ 3
  unfolding definitions_of
  definitions_few = form_few (form_of_number text names x) x (get_or names.lefts x 0) (get_or names.rights x 0)

  -- those of the numbers up to x, and those of x
  pub definitions_next : number_least ≤ x → definitions_to text names (x + 1 - number_least) ≡ definitions_to text names (x - number_least) ++ definitions_of text names x
  unfolding definitions_to
  definitions_next h =
      let k : x + 1 - number_least ≡ suc (x - number_least) = omega arith in
      let e : (x - number_least) + number_least ≡ x = omega arith in
      rw (k, e)

  pub definitions_more :
      number_least ≤ x →
      length (definitions_to text names (x + 1 - number_least)) ≡ length (definitions_to text names (x - number_least)) + length (definitions_of text names x)
  definitions_more h = rw (definitions_next h, length-append)
