-- The limits of the engine, each once. The code has them as associated constants beside the empty set.
use Rattle.std.specs.Prelude.{ℕ, ◌*◌}

-- bytes of a text
abbrev pub text_limit : ℕ
text_limit = 16384

-- bytes of a word
abbrev pub word_limit : ℕ
word_limit = 12

-- how deep a concept may be
abbrev pub depth_limit : ℕ
depth_limit = 16

-- concept numbers, 0 and 1 among them
abbrev pub number_limit : ℕ
number_limit = 256

-- and at least those two
abbrev pub number_least : ℕ
number_least = 2

abbrev pub role_limit : ℕ
role_limit = 64

abbrev pub row_limit : ℕ
row_limit = 1024

-- 64-bit words of a set
abbrev pub set_words : ℕ
set_words = 4

-- 64-bit words of the subsumption table that a sitting lends: a set for each number, 1,024 in all
abbrev pub table_limit : ℕ
table_limit = set_words * number_limit

-- 64-bit numbers of the slice that takes an answer
abbrev pub answer_limit : ℕ
answer_limit = 32

-- score sheets of a class
abbrev pub sheet_limit : ℕ
sheet_limit = 64

-- 16-bit numbers of the report for each sheet
abbrev pub score_size : ℕ
score_size = 3
