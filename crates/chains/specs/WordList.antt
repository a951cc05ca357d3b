-- Lists of words with their numbers, one for each sort of word.
--     WordList      the words that have numbers
--     no_words      no word has a number
--     listed        the next number goes to some bytes
--     chained       and to the head of a hash's chain
--     find_word     the number of a word that stood before
--     seek          what is known of the word at an offset
use Rattle.std.specs.Prelude.{ℕ, zero, suc, ◌+◌, cond, List, get_or, set, replicate, leb, ltb, eqb, Option, Some, None, Result, Ok, Err}
use Rattle.semantics.specs.Limits.{word_limit}
use Rattle.refusal.specs.declared.Refusal.{Refusal}
use Rattle.refusal.specs.declared.Refusal.TheVariants.{SyntaxError, WordTooLong}
use Rattle.words.specs.Bytes.{word_length, same_word_at, hashes, word_hash}
use Rattle.chains.specs.declared.Sought.{Sought}
use Rattle.chains.specs.declared.Sought.TheVariants.{Known, New}

-- The words of the first `used` numbers, each by its start and its length in the text, and the chains of their hashes. A number that no word has is of length 0.
pub record WordList : Type 0 where
  pub used : ℕ
  pub starts : List ℕ
  pub lengths : List ℕ
  pub heads : List ℕ
  pub nexts : List ℕ

-- no word has a number below the limit, and `used` numbers are for no word
abbrev pub no_words : ℕ → ℕ → WordList
no_words limit used = record {
  used = used;
  starts = replicate limit 0;
  lengths = replicate limit 0;
  heads = replicate hashes 0;
  nexts = replicate limit 0;
}

-- the next number goes to the `size` bytes at `at`
abbrev pub listed : WordList → ℕ → ℕ → WordList
listed list at size = record {
  used = list.used + 1;
  starts = set list.starts list.used at;
  lengths = set list.lengths list.used size;
  heads = list.heads;
  nexts = list.nexts;
}

-- the next number becomes the head of the hash's chain
abbrev pub chained : WordList → ℕ → WordList
chained list hash = record {
  used = list.used;
  starts = list.starts;
  lengths = list.lengths;
  heads = set list.heads hash list.used;
  nexts = set list.nexts list.used (get_or list.heads hash 0);
}

-- the next number goes to the word of `size` bytes at `at`
abbrev pub word_listed : List ℕ → WordList → ℕ → ℕ → WordList
word_listed text list at size = listed (chained list (word_hash text at size)) at size

-- from n on down its chain, while its links fall: the first number below the bound whose word is that of `size` bytes at `at`; as many steps are enough
-- as there are numbers below the bound
unfoldable pub find_below : List ℕ → List ℕ → List ℕ → List ℕ → ℕ → ℕ → ℕ → ℕ → ℕ → Option ℕ
find_below text starts lengths nexts at size zero bound n = None
find_below text starts lengths nexts at size (suc steps) bound n =
    cond (ltb n bound)
    (cond (same_word_at text (get_or starts n 0) (get_or lengths n 0) at size) (Some n) (find_below text starts lengths nexts at size steps n (get_or nexts n 0)))
    None

-- the number below the limit, in the chain of its hash, of the word of `size` bytes at `at`
unfoldable pub find_word : List ℕ → WordList → ℕ → ℕ → ℕ → Option ℕ
find_word text list at size limit = find_below text list.starts list.lengths list.nexts at size limit limit (get_or list.heads (word_hash text at size) 0)

-- a word that stood before, or one that is new; from the limit on a new one is refused
unfoldable pub sought_by : Option ℕ → ℕ → Refusal → WordList → ℕ → ℕ → Result Sought Refusal
sought_by (Some n) limit full list at size = Ok (Known n (at + size))
sought_by None limit full list at size = cond (leb limit list.used) (Err full) (Ok (New list.used size (at + size)))

-- the word at `at`, looked for among the numbers below the limit
unfoldable pub seek : ℕ → Refusal → List ℕ → WordList → ℕ → Result Sought Refusal
seek limit full text list at =
    let size = word_length text at in
    cond (eqb size 0) (Err SyntaxError)
    (cond (ltb word_limit size) (Err WordTooLong)
    (sought_by (find_word text list at size limit) limit full list at size))
