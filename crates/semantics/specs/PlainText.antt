-- The plainest text of lines: one space wherever one is due, every word as it is.
--     source_text   the text of the lines
--     PlainText     the text is that of the lines, and their words are words
-- `reads_plain` says that `Reads` is this, as long as every part of a text is written in one way only. No contract cites this file.
use Rattle.std.specs.Prelude.{ℕ, ◌≡◌}
use mathlib.Core.List.{List, [], ◌∷◌, ◌++◌, Memᴰ}
use Rattle.semantics.specs.Concept.{Concept, top, bottom, name, conj, exist}
use Rattle.semantics.specs.Closure.{Line, line, left_of, right_of}
use Rattle.semantics.specs.Source.{star_byte, dash_byte, ampersand_byte, slash_byte, space_byte, line_feed, letter_byte, Word, IsWord}

unfoldable pub concept_text : Concept Word Word → List ℕ
concept_text top = star_byte ∷ []
concept_text bottom = dash_byte ∷ []
concept_text (name w) = w
concept_text (conj C D) = ampersand_byte ∷ (space_byte ∷ (concept_text C ++ (space_byte ∷ concept_text D)))
concept_text (exist r C) = slash_byte ∷ (r ++ (space_byte ∷ concept_text C))

unfoldable pub line_text : Line Word Word → List ℕ
line_text (line k C D) = letter_byte k ∷ (space_byte ∷ (concept_text C ++ (space_byte ∷ (concept_text D ++ (line_feed ∷ [])))))

unfoldable pub source_text : List (Line Word Word) → List ℕ
source_text [] = []
source_text (l ∷ ls) = line_text l ++ source_text ls

-- every word that stands in the concept is a word
abbrev pub Words : Concept Word Word → Type 0
Words top = Unit {0}
Words bottom = Unit {0}
Words (name w) = IsWord w
Words (conj C D) = Words C × Words D
Words (exist r C) = IsWord r × Words C

abbrev pub LineWords : Line Word Word → Type 0
LineWords l = Words (left_of l) × Words (right_of l)

-- `source_text` alone does not fix the lines: a word could hold any byte.
pub record PlainText (text : List ℕ) (lines : List (Line Word Word)) : Type 0 where
  pub words : (l : Line Word Word) → Memᴰ l lines → LineWords l
  pub spelled : source_text lines ≡ text
