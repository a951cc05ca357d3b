-- The state of a reader as the code has it: where the numbers of each sort began, and the links. It goes by value from line to line, but for the links, and is
-- lent inside a line.
--     no_links, new_reader   before the first number
--     state_of               the state, of what goes by value
--     state_by               of what is lent of every sort
--     state_with, state_in   where that of one sort is named, or of concepts and roles; the others have the rest, whatever it is
--     state_lent             of concepts and roles, where they are lent as one
--     ending_in, ending_of   a step, and the state when it ended
--     ending_lent            and where concepts and roles are lent as one
--     HeldNames              what is lent is still the same, and as long
use Rattle.std.specs.Prelude.{ℕ, ◌+◌, ◌≡◌, List, length, replicate}
use Rattle.semantics.specs.Limits.{number_limit}
use Rattle.chains.specs.Sorts.{with_sort}
use Rattle.chains.specs.WordList.{WordList}
use Rattle.chains.specs.Chains.{no_starts, word_links, part, list_of, list_in, Held}
use Rattle.chains.specs.declared.Sort.{Sort}
use Rattle.chains.specs.declared.Sort.TheVariants.{Concepts, Roles}
use Rattle.chains.specs.declared.WordStarts.{WordStarts}
use Rattle.names.specs.State.{State, Step, Ending}
use Rattle.names.specs.Names.{ended}
use Rattle.names.specs.declared.ReaderState.{ReaderState}
use Rattle.names.specs.declared.lent.Names.{Names}
use Rattle.names.specs.declared.Reading.{Reading}

-- how many links there are: those of the words, and the left and the right of each number
abbrev pub link_count : ℕ
link_count = word_links + number_limit + number_limit

-- before the first number everything is 0, but for how many numbers are for no word
abbrev pub no_links : List ℕ
no_links = replicate link_count 0

abbrev pub new_reader : ReaderState
new_reader = record { concepts = no_starts Concepts; roles = no_starts Roles }

-- the left and the right of each number lie behind the words' links
abbrev pub lefts_in : List ℕ → List ℕ
lefts_in = part word_links number_limit

abbrev pub rights_in : List ℕ → List ℕ
rights_in = part (word_links + number_limit) number_limit

-- ---- by value

abbrev pub words_of : ReaderState → Sort → WordStarts
words_of names Concepts = names.concepts
words_of names Roles = names.roles

abbrev pub state_of : ReaderState → List ℕ → State
state_of names links = record { lists = λ sort. list_of sort (words_of names sort) links; lefts = lefts_in links; rights = rights_in links }

abbrev pub with_step : ReaderState → Step → Reading
with_step names step = record { names = names; step = step }

abbrev pub ending_of : Reading → List ℕ → Ending
ending_of r links = ended (state_of r.names links) r.step

-- ---- lent

-- the arrays that are lent of a sort: where its numbers began; how many there are is one of the links
pub record SortArrays : Type 0 where
  pub starts : List ℕ
  pub lengths : List ℕ

abbrev pub arrays : List ℕ → List ℕ → SortArrays
arrays starts lengths = record { starts = starts; lengths = lengths }

abbrev pub lists_by : (Sort → SortArrays) → List ℕ → Sort → WordList
lists_by words links sort = list_in sort (words sort).starts (words sort).lengths links

abbrev pub state_by : (Sort → SortArrays) → List ℕ → State
state_by words links = record { lists = lists_by words links; lefts = lefts_in links; rights = rights_in links }

-- the arrays of one sort are named, and those of the others are the rest
abbrev pub state_with : (Sort → SortArrays) → Sort → List ℕ → List ℕ → List ℕ → State
state_with rest sort starts lengths links = state_by (with_sort rest sort (arrays starts lengths)) links

-- the readers of concepts are lent those of concepts and of roles; today no other sort has the rest
abbrev pub words_in : (Sort → SortArrays) → List ℕ → List ℕ → List ℕ → List ℕ → Sort → SortArrays
words_in rest starts lengths rolestarts rolelengths = with_sort (with_sort rest Concepts (arrays starts lengths)) Roles (arrays rolestarts rolelengths)

abbrev pub state_in : (Sort → SortArrays) → List ℕ → List ℕ → List ℕ → List ℕ → List ℕ → State
state_in rest starts lengths rolestarts rolelengths links = state_by (words_in rest starts lengths rolestarts rolelengths) links

abbrev pub ending_in : (Sort → SortArrays) → List ℕ → List ℕ → List ℕ → List ℕ → List ℕ → Step → Ending
ending_in rest starts lengths rolestarts rolelengths links step = ended (state_in rest starts lengths rolestarts rolelengths links) step

-- ---- lent as one

abbrev pub state_lent : (Sort → SortArrays) → Names → State
state_lent rest names = state_in rest names.concepts.now.starts.now names.concepts.now.lengths.now names.roles.now.starts.now names.roles.now.lengths.now names.links.now

abbrev pub ending_lent : (Sort → SortArrays) → Names → Step → Ending
ending_lent rest names step = ended (state_lent rest names) step

-- what is lent is still the same, and as long: whoever lent it sees there what was written
abbrev pub HeldNames : Names → Names → Type 0
HeldNames old new =
    (new.concepts.ghost_name ≡ old.concepts.ghost_name) × Held old.concepts.now new.concepts.now ×
    (new.roles.ghost_name ≡ old.roles.ghost_name) × Held old.roles.now new.roles.now ×
    (new.links.ghost_name ≡ old.links.ghost_name) × (length new.links.now ≡ length old.links.now)
