-- Where the concept names (the scope's trait words) of a text stand.
--     lines_occurrences   each of them with its offset, from left to right
--     first_occurrence    where a word first stands
use Rattle.std.specs.Prelude.{ℕ, ◌+◌, List, [], ◌∷◌, ◌++◌, length}
use Rattle.std.proofs.Math.Option.{Option}
use Rattle.semantics.specs.Numbering.{lookup}
use Rattle.semantics.specs.Source.{Word, ConceptSyntax, star, dash, word, ampersand, slash, LineSyntax, concept_bytes, line_bytes}

-- those of a concept whose text starts at `at`; a role's word is none
unfoldable pub concept_occurrences : ℕ → ConceptSyntax → List (Word × ℕ)
concept_occurrences at star = []
concept_occurrences at dash = []
concept_occurrences at (word w b) = (w, at) ∷ []
concept_occurrences at (ampersand g C h D) = concept_occurrences (at + 1 + length g) C ++ concept_occurrences (at + 1 + length g + length (concept_bytes C) + length h) D
concept_occurrences at (slash r b g C) = concept_occurrences (at + 1 + length b + length g) C

abbrev pub line_occurrences : ℕ → LineSyntax → List (Word × ℕ)
line_occurrences at e =
    let start = at + length e.letter + length e.front in
    concept_occurrences start e.left ++ concept_occurrences (start + length (concept_bytes e.left) + length e.middle) e.right

unfoldable pub lines_occurrences : ℕ → List LineSyntax → List (Word × ℕ)
lines_occurrences at [] = []
lines_occurrences at (e ∷ es) = line_occurrences at e ++ lines_occurrences (at + length (line_bytes e)) es

-- the offset beside the first occurrence of the word
abbrev pub first_occurrence : Word → List (Word × ℕ) → Option ℕ
first_occurrence w occurrences = lookup w occurrences
