-- Sets of concept numbers (the scope's trait sets) as lists of 64-bit words, of any length, and tables of such sets.
--     bit    bit k of a word
--     has    the number b is in the set
--     cell   the number b is in row a of a table
--     Are64  each word of a list has 64 bits
use Rattle.std.specs.Prelude.{ℕ, ◌+◌, ◌-◌, ◌*◌, ◌/◌, ◌%◌, ◌^◌, ◌<◌, Bool, List, get_or, eqb}

-- bit k of w, counted from the least
unfoldable pub bit : ℕ → ℕ → Bool
bit w k = eqb (w / 2 ^ k % 2) 1

-- Number b is bit 63 - (b mod 64), counted from the least, of word b div 64.
unfoldable pub has : List ℕ → ℕ → Bool
has words b = bit (get_or words (b / 64) 0) (63 - b % 64)

-- Row a of a table is its words W * a to W * a + W - 1, where a row has W words.
abbrev pub cell : ℕ → List ℕ → ℕ → ℕ → Bool
cell W words a b = has words (64 * (W * a) + b)

-- Each word has 64 bits.
abbrev pub Are64 : List ℕ → Type 0
Are64 words = (i : ℕ) → get_or words i 0 < 2 ^ 64
