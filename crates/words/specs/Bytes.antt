-- The bytes of a text. A text is the list of its bytes; an offset counts them from 0; past the end stands 0, which is of class Other.
--     offset_limit  which offsets are remembered
--     class_of      the five classes of bytes
--     word_length   how many word bytes stand in a row
--     same_word_at  whether two words of a text are the same
--     word_hash     a number that words which are the same have in common
use Rattle.std.specs.Prelude.{ℕ, zero, suc, ◌+◌, ◌*◌, ◌%◌, Bool, true, false, cond, ◌||◌, List, [], ◌∷◌, get_or, drop, eqb}
use Rattle.semantics.specs.Source.{star_byte, dash_byte, ampersand_byte, slash_byte, space_byte, line_feed, word_byte}
use Rattle.words.specs.declared.ByteClass.{ByteClass}
use Rattle.words.specs.declared.ByteClass.TheVariants.{Word, Sign, Space, LineEnd, Other}

-- an offset that is remembered is one of 16 bits
abbrev pub offset_limit : ℕ
offset_limit = 65536

abbrev pub byte_at : List ℕ → ℕ → ℕ
byte_at text at = get_or text at 0

abbrev pub sign_byte : ℕ → Bool
sign_byte b = (eqb b star_byte || eqb b dash_byte) || (eqb b ampersand_byte || eqb b slash_byte)

-- the formula, with which the code's table agrees (Table); a line ends at 10 alone, and the letters of lines are Other
unfoldable pub class_of : ℕ → ByteClass
class_of b = cond (word_byte b) Word (cond (sign_byte b) Sign (cond (eqb b space_byte) Space (cond (eqb b line_feed) LineEnd Other)))

abbrev pub is_word_class : ByteClass → Bool
is_word_class Word = true
is_word_class Sign = false
is_word_class Space = false
is_word_class LineEnd = false
is_word_class Other = false

abbrev pub is_space_class : ByteClass → Bool
is_space_class Word = false
is_space_class Sign = false
is_space_class Space = true
is_space_class LineEnd = false
is_space_class Other = false

abbrev pub is_line_end_class : ByteClass → Bool
is_line_end_class Word = false
is_line_end_class Sign = false
is_line_end_class Space = false
is_line_end_class LineEnd = true
is_line_end_class Other = false

abbrev pub is_word_byte : ℕ → Bool
is_word_byte b = is_word_class (class_of b)

abbrev pub is_line_end : ℕ → Bool
is_line_end b = is_line_end_class (class_of b)

-- how many word bytes stand in a row at the front of a list
unfoldable pub word_run : List ℕ → ℕ
word_run [] = 0
word_run (b ∷ bs) = cond (is_word_byte b) (suc (word_run bs)) 0

abbrev pub word_length : List ℕ → ℕ → ℕ
word_length text at = word_run (drop at text)

-- the `size` bytes from a on are those from b on
unfoldable pub same_bytes : List ℕ → ℕ → ℕ → ℕ → Bool
same_bytes text a b zero = true
same_bytes text a b (suc size) = cond (eqb (byte_at text a) (byte_at text b)) (same_bytes text (suc a) (suc b) size) false

-- the word of `long` bytes at `start` is that of `size` bytes at `at`
unfoldable pub same_word_at : List ℕ → ℕ → ℕ → ℕ → ℕ → Bool
same_word_at text start long at size = cond (eqb long size) (same_bytes text start at size) false

-- a word's hash is one of so many
abbrev pub hashes : ℕ
hashes = 256

-- the hash h, gone on with over the `size` bytes from `at` on
unfoldable pub hash_from : ℕ → List ℕ → ℕ → ℕ → ℕ
hash_from h text at zero = h
hash_from h text at (suc size) = hash_from ((9 * h + byte_at text at) % hashes) text (suc at) size

abbrev pub word_hash : List ℕ → ℕ → ℕ → ℕ
word_hash text at size = hash_from 0 text at size
