-- The numbers that a reading gives out, and how a step of reading ends.
use Rattle.std.specs.Prelude.{ℕ, ◌+◌, ◌<◌, cond, List, set, replicate, leb, Result, Ok, Err}
use Rattle.semantics.specs.Limits.{number_limit}
use Rattle.refusal.specs.declared.Refusal.{Refusal}
use Rattle.refusal.specs.declared.Refusal.TheVariants.{SyntaxError}
use Rattle.words.specs.Bytes.{byte_at, class_of, is_space_class}
use Rattle.chains.specs.Sorts.{limit_of, least_of, full_of, with_sort}
use Rattle.chains.specs.WordList.{WordList, no_words, listed, word_listed, seek}
use Rattle.chains.specs.declared.Sort.{Sort}
use Rattle.chains.specs.declared.Sort.TheVariants.{Concepts}
use Rattle.chains.specs.declared.Sought.{Sought}
use Rattle.chains.specs.declared.Sought.TheVariants.{Known, New}
use Rattle.names.specs.State.{State, Step, Ending, next_concept}

-- ---- the state

-- no number is given out but 0 and 1, and no role
unfoldable pub no_numbers : State
no_numbers = record { lists = λ sort. no_words (limit_of sort) (least_of sort); lefts = replicate number_limit 0; rights = replicate number_limit 0 }

-- with another list of the sort
abbrev pub with_list : State → Sort → WordList → State
with_list names sort list = record { lists = with_sort names.lists sort list; lefts = names.lefts; rights = names.rights }

abbrev pub with_left : State → ℕ → ℕ → State
with_left names number left = record { lists = names.lists; lefts = set names.lefts number left; rights = names.rights }

abbrev pub with_right : State → ℕ → ℕ → State
with_right names number right = record { lists = names.lists; lefts = names.lefts; rights = set names.rights number right }

-- ---- steps

-- a reading that ends with the step
abbrev pub ended : State → Step → Ending
ended names step = record { names = names; step = step }

abbrev pub refuse : State → Refusal → ℕ → Ending
refuse names why place = ended names (Err record { why = why; place = place })

abbrev pub read_to : State → ℕ → ℕ → Ending
read_to names number next = ended names (Ok (number, next))

-- goes on after a step that read a number; a refusal stays as it is
unfoldable pub onward : Step → Ending → (State → ℕ → ℕ → Ending) → Ending
onward (Ok read) r more = more r.names read.0 read.1
onward (Err refused) r more = r

abbrev pub and_then : Ending → (State → ℕ → ℕ → Ending) → Ending
and_then r more = onward r.step r more

-- a number that a step read is below the limit
abbrev pub Small : Step → Type 0
Small (Ok read) = read.0 < number_limit
Small (Err refused) = Unit {0}

-- what is due between two fields, one space: where the next one starts; it has no number of its own
unfoldable pub past_space : List ℕ → ℕ → Step
past_space text at = cond (is_space_class (class_of (byte_at text at))) (Ok (0, at + 1)) (Err record { why = SyntaxError; place = at })

-- ---- numbers and words

-- the next number of concepts goes to an & or a / at `at`, and to no bytes of a word
abbrev pub sign_taken : State → ℕ → State
sign_taken names at = with_list names Concepts (listed (names.lists Concepts) at 0)

-- the next number of the sort goes to the word of `size` bytes at `at`
abbrev pub word_taken : Sort → List ℕ → State → ℕ → ℕ → State
word_taken sort text names at size = with_list names sort (word_listed text (names.lists sort) at size)

-- an & or a / at `at` takes the next number; one too many is refused
unfoldable pub take_number : State → ℕ → Ending
take_number names at =
    cond (leb (limit_of Concepts) (next_concept names)) (refuse names (full_of Concepts) at) (read_to (sign_taken names at) (next_concept names) (at + 1))

-- how the step over a word at `at` ends, by what is known of it
abbrev pub sought_step : Result Sought Refusal → ℕ → Step
sought_step (Ok (Known n end)) at = Ok (n, end)
sought_step (Ok (New n size end)) at = Ok (n, end)
sought_step (Err why) at = Err record { why = why; place = at }

-- the state then: a new word takes the next number
abbrev pub sought_state : Result Sought Refusal → Sort → List ℕ → State → ℕ → State
sought_state (Ok (Known n end)) sort text names at = names
sought_state (Ok (New n size end)) sort text names at = word_taken sort text names at size
sought_state (Err why) sort text names at = names

unfoldable pub after_seek : Result Sought Refusal → Sort → List ℕ → State → ℕ → Ending
after_seek s sort text names at = ended (sought_state s sort text names at) (sought_step s at)

-- the word of the sort at `at`
unfoldable pub read_word : Sort → List ℕ → State → ℕ → Ending
read_word sort text names at = after_seek (seek (limit_of sort) (full_of sort) text (names.lists sort) at) sort text names at
