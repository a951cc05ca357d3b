-- The names that a state of the reader stands for: the words and the roles of its numbers, read off the text. The theorem `accepted_names` cites this, and no contract does.
--     word_at       the word of as many bytes, from its start on
--     word_of       the word of a number of a list
--     state_names   the names of a state
use Rattle.std.specs.Prelude.{ℕ, zero, suc, cond, List, [], ◌∷◌, ◌++◌, get_or, eqb}
use Rattle.semantics.specs.Numbering.{Names}
use Rattle.semantics.specs.Source.{Word}
use Rattle.words.specs.Bytes.{byte_at}
use Rattle.names.specs.State.{State, next_concept}
use Rattle.chains.specs.WordList.{WordList}
use Rattle.chains.specs.declared.Sort.TheVariants.{Concepts, Roles}

-- the bytes of a word: as many as it is long, from its start on
unfoldable pub word_at : List ℕ → ℕ → ℕ → Word
word_at text start zero = []
word_at text start (suc size) = byte_at text start ∷ word_at text (suc start) size

abbrev pub word_of : List ℕ → WordList → ℕ → Word
word_of text l n = word_at text (get_or l.starts n 0) (get_or l.lengths n 0)

-- the words of the numbers below n, the last first
unfoldable pub words_to : List ℕ → WordList → ℕ → List (Word × ℕ)
words_to text l zero = []
words_to text l (suc n) = cond (eqb (get_or l.lengths n 0) 0) (words_to text l n) ((word_of text l n, n) ∷ words_to text l n)

-- the first n roles
unfoldable pub roles_to : List ℕ → WordList → ℕ → List Word
roles_to text l zero = []
roles_to text l (suc n) = roles_to text l n ++ word_of text l n ∷ []

abbrev pub state_names : List ℕ → State → Names
state_names text s = record { next = next_concept s; words = words_to text (s.lists Concepts) (next_concept s); roles = roles_to text (s.lists Roles) (s.lists Roles).used }
