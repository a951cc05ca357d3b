-- The limits on the lines of a text.
--     depth, ShortWords   depth of a concept, the length of its words
--     WithinLimits        every limit of the scope on a text and its lines
use Rattle.std.specs.Prelude.{ℕ, ◌+◌, ◌≤◌, max, length}
use mathlib.Core.List.{List, Memᴰ}
use Rattle.semantics.specs.Concept.{Concept, top, bottom, name, conj, exist}
use Rattle.semantics.specs.Closure.{Line, left_of, right_of}
use Rattle.semantics.specs.Limits.{text_limit, word_limit, depth_limit, number_limit, role_limit, row_limit}
use Rattle.semantics.specs.Numbering.{Names, no_names, number_lines, normal_rows}
use Rattle.semantics.specs.Source.{Word}

-- how deep the concept is: one, and one more for each & or / around a part
unfoldable pub depth : Concept Word Word → ℕ
depth top = 1
depth bottom = 1
depth (name w) = 1
depth (conj C D) = max (depth C) (depth D) + 1
depth (exist r C) = depth C + 1

-- no word that stands in the concept is longer than n
abbrev pub ShortWords : ℕ → Concept Word Word → Type 0
ShortWords n top = Unit {0}
ShortWords n bottom = Unit {0}
ShortWords n (name w) = length w ≤ n
ShortWords n (conj C D) = ShortWords n C × ShortWords n D
ShortWords n (exist r C) = (length r ≤ n) × ShortWords n C

-- what has been read at the end of the lines
abbrev pub names_after : List (Line Word Word) → Names
names_after lines = (number_lines lines no_names).after

-- Words, depth, numbers and roles of the lines are within the limits, with depth up to `deepest`.
pub record LinesWithin (deepest : ℕ) (lines : List (Line Word Word)) : Type 0 where
  pub short : (l : Line Word Word) → Memᴰ l lines → ShortWords word_limit (left_of l) × ShortWords word_limit (right_of l)
  pub shallow : (l : Line Word Word) → Memᴰ l lines → (depth (left_of l) ≤ deepest) × (depth (right_of l) ≤ deepest)
  pub numbers : (names_after lines).next ≤ number_limit
  pub roles : length (names_after lines).roles ≤ role_limit

-- Every limit.
pub record WithinLimits (text : List ℕ) (lines : List (Line Word Word)) : Type 0 where
  pub within : LinesWithin depth_limit lines
  pub rows : length (normal_rows lines) ≤ row_limit
  pub bytes : length text ≤ text_limit
