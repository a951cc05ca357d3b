-- One column takes some numbers, or each column does. Only inner functions cite these definitions.
--     Marks       one column gets some numbers, nothing else changes, and the column is dirty where that adds anything
--     Covers      it has them
--     in..        the numbers that a rule lets a column take
--     in_word     what one word of the columns says
--     RowsBecome  the first rows of a table of sets have changed, and what they have now
use Rattle.std.specs.Prelude.{ℕ, ◌+◌, ◌-◌, ◌*◌, ◌/◌, ◌%◌, ◌<◌, ◌≤◌, ◌≡◌, Bool, true, false, not, ◌||◌, ◌&&◌, List, eqb, leb, ltb, length}
use Rattle.semantics.specs.Limits.{set_words}
use Rattle.semantics.specs.Set.{bit, has, cell}
use Rattle.tables.specs.Table.{RowBecomes}

-- a number that old lacks and new has
pub record Gained (old new : List ℕ) : Type 0 where
  pub number : ℕ
  pub inside : number < 64 * length old
  pub lacked : has old number ≡ false
  pub gained : has new number ≡ true

-- Column c gets the numbers that q finds in the old columns.
pub record Marks (c : ℕ) (q : List ℕ → ℕ → Bool) (old new dirty dirty' : List ℕ) : Type 0 where
  pub joined : RowBecomes set_words c (λ x. cell set_words old c x || q old x) old new
  pub changed : Bool
  pub gains : changed ≡ true → Gained old new
  pub same : changed ≡ false → new ≡ old
  pub marked : (x : ℕ) → has dirty' x ≡ (has dirty x || (changed && eqb c x))

-- Column c has every number that q finds.
pub record Covers (c : ℕ) (q : List ℕ → ℕ → Bool) (columns : List ℕ) : Type 0 where
  pub each : (x : ℕ) → x < 64 * set_words → q columns x ≡ true → cell set_words columns c x ≡ true

-- ---- what a column takes

abbrev pub in_set : List ℕ → List ℕ → ℕ → Bool
in_set set columns x = has set x

-- columns, less what is nothing: column 1 is left out

abbrev pub in_apart : ℕ → List ℕ → ℕ → Bool
in_apart a columns x = cell set_words columns a x && not (cell set_words columns 1 x)

abbrev pub in_shared : ℕ → ℕ → List ℕ → ℕ → Bool
in_shared a b columns x = in_apart a columns x && cell set_words columns b x

abbrev pub in_apart_where : ℕ → ℕ → ℕ → List ℕ → ℕ → Bool
in_apart_where d y a columns x = cell set_words columns d y && in_apart a columns x

-- ---- tables of sets

-- the last number of the word at i
abbrev pub last_of : ℕ → ℕ
last_of i = 64 * (i % set_words) + 63

-- a is one of the 64 numbers up to `last`, and the word w has it
abbrev pub has_number : ℕ → ℕ → ℕ → Bool
has_number last w a = leb a last && (ltb (last - a) 64 && bit w (last - a))

-- The word w, at i, has a of column c.
abbrev pub in_word : ℕ → ℕ → ℕ → ℕ → Bool
in_word i w a c = has_number (last_of i) w a && eqb (i / set_words) c

-- Each row before i has what p has for it, and every other row is old's.
pub record RowsBecome (i : ℕ) (p : ℕ → ℕ → Bool) (old new : List ℕ) : Type 0 where
  pub done : (a b : ℕ) → a < i → b < 64 * set_words → cell set_words new a b ≡ p a b
  pub rest : (a b : ℕ) → i ≤ a → b < 64 * set_words → cell set_words new a b ≡ cell set_words old a b
  pub length_kept : length new ≡ length old
