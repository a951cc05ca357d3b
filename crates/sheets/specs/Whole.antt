-- What the theorems on sheets say; no contract cites it.
--     joined    all bytes of sheets, in order: a line feed behind each that is ended
--     sum_over  the sum of the first values of a function
--     Whole     how a text falls into sheets: none holds a line feed, and only the last may be unended, where it has a byte
use Rattle.std.specs.Prelude.{ℕ, zero, suc, ◌+◌, ◌≡◌, Bool, true, false}
use mathlib.Core.List.{List, [], ◌∷◌, ◌++◌, Memᴰ}
use Rattle.semantics.specs.Source.{line_feed}
use Rattle.sheets.specs.Sheets.{Sheet}

abbrev pub feed_of : Bool → List ℕ
feed_of true = line_feed ∷ []
feed_of false = []

unfoldable pub joined : List Sheet → List ℕ
joined [] = []
joined (s ∷ sheets) = s.bytes ++ (feed_of s.ended ++ joined sheets)

abbrev pub NoFeed : List ℕ → Type 0
NoFeed bytes = (b : ℕ) → Memᴰ b bytes → b ≡ line_feed → ⊥

pub data Whole : List Sheet → Type 0 where
  none : Whole []
  unended : {b : ℕ} {bytes : List ℕ} → NoFeed (b ∷ bytes) → Whole (record { bytes = b ∷ bytes; ended = false } ∷ [])
  ended : {bytes : List ℕ} {sheets : List Sheet} → NoFeed bytes → Whole sheets → Whole (record { bytes = bytes; ended = true } ∷ sheets)

unfoldable pub sum_over : (ℕ → ℕ) → ℕ → ℕ
sum_over f zero = 0
sum_over f (suc n) = sum_over f n + f n
