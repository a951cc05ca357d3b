-- The grammar of a source text (the scope's book), with words and levels of any size. A text is written by lines that keep the bytes of their parts.
--     star_byte, .., letter_byte   the bytes of the grammar, each named once; `word_byte` those of words
--     Spelled, Gap, Letter         the parts: a word, what stands where a space is due, a line's letter
--     ConceptSyntax, LineSyntax    a concept and a line as they are written, with the bytes of every part
--     concept_bytes, lines_bytes   all bytes, in order
--     WellFormed, WellFormedLine   each part is what it should be
--     concept_meant, lines_meant   the concept and the lines that are meant
--     Reads                        the text is a text of the lines
-- `reads_plain` says it without parts: lines have one text, the plainest (PlainText.antt).
use Rattle.std.specs.Prelude.{ℕ, ◌<◌, ◌≡◌, Bool, true, ◌&&◌, ◌||◌, length, leb}
use mathlib.Core.List.{List, [], ◌∷◌, ◌++◌, map, Memᴰ}
use Rattle.semantics.specs.Concept.{Concept, top, bottom, name, conj, exist}
use Rattle.semantics.specs.Closure.{Kind, Line, line, strict, defeasible, query, strict_query}

-- ---- bytes

abbrev pub star_byte : ℕ
star_byte = 42  -- *

abbrev pub dash_byte : ℕ
dash_byte = 45  -- -

abbrev pub ampersand_byte : ℕ
ampersand_byte = 38  -- &

abbrev pub slash_byte : ℕ
slash_byte = 47  -- /

abbrev pub space_byte : ℕ
space_byte = 32

abbrev pub line_feed : ℕ
line_feed = 10

-- the letter of a line
abbrev pub letter_byte : Kind → ℕ
letter_byte strict = 83  -- S
letter_byte defeasible = 85  -- U
letter_byte query = 81  -- Q
letter_byte strict_query = 75  -- K

-- a-z, 0-9
abbrev pub word_byte : ℕ → Bool
word_byte b = (leb 97 b && leb b 122) || (leb 48 b && leb b 57)

-- ---- words

-- a word is its bytes
abbrev pub Word : Type 0
Word = List ℕ

pub record IsWord (w : Word) : Type 0 where
  pub nonempty : 0 < length w
  pub bytes : (b : ℕ) → Memᴰ b w → word_byte b ≡ true

-- ---- the parts: each has its laws in a file of its own (Spelling, Gaps, Letters in proofs/), and what is above uses the laws

-- The word is written with these bytes: its own.
pub record Spelled (w : Word) (bytes : List ℕ) : Type 0 where
  pub same : bytes ≡ w
  pub word : IsWord w

-- These bytes may stand where a space is due: one space.
pub record Gap (bytes : List ℕ) : Type 0 where
  pub one : bytes ≡ space_byte ∷ []

-- A line of this kind starts with these bytes: its letter.
pub record Letter (kind : Kind) (bytes : List ℕ) : Type 0 where
  pub one : bytes ≡ letter_byte kind ∷ []

-- ---- concepts and lines as they are written

-- A concept (the scope's description), by the sign that it starts with: g and h are gaps, b is how the word is spelled.
pub data ConceptSyntax : Type 0 where
  star : ConceptSyntax  -- *
  dash : ConceptSyntax  -- -
  word : (w : Word) (b : List ℕ) → ConceptSyntax
  ampersand : (g : List ℕ) (C : ConceptSyntax) (h : List ℕ) (D : ConceptSyntax) → ConceptSyntax  -- & C D
  slash : (r : Word) (b g : List ℕ) (C : ConceptSyntax) → ConceptSyntax  -- /r C

-- A line: a letter, a gap, the left, a gap, the right, and then a line feed.
pub record LineSyntax : Type 0 where
  pub kind : Kind
  pub letter : List ℕ
  pub front : List ℕ  -- the gap behind the letter
  pub left : ConceptSyntax
  pub middle : List ℕ  -- the gap between the sides
  pub right : ConceptSyntax

-- all bytes, in order
unfoldable pub concept_bytes : ConceptSyntax → List ℕ
concept_bytes star = star_byte ∷ []
concept_bytes dash = dash_byte ∷ []
concept_bytes (word w b) = b
concept_bytes (ampersand g C h D) = ampersand_byte ∷ (g ++ (concept_bytes C ++ (h ++ concept_bytes D)))
concept_bytes (slash r b g C) = slash_byte ∷ (b ++ (g ++ concept_bytes C))

unfoldable pub line_bytes : LineSyntax → List ℕ
line_bytes e = e.letter ++ (e.front ++ (concept_bytes e.left ++ (e.middle ++ (concept_bytes e.right ++ (line_feed ∷ [])))))

unfoldable pub lines_bytes : List LineSyntax → List ℕ
lines_bytes [] = []
lines_bytes (e ∷ es) = line_bytes e ++ lines_bytes es

-- each part is what it should be
abbrev pub WellFormed : ConceptSyntax → Type 0
WellFormed star = Unit {0}
WellFormed dash = Unit {0}
WellFormed (word w b) = Spelled w b
WellFormed (ampersand g C h D) = Gap g × WellFormed C × Gap h × WellFormed D
WellFormed (slash r b g C) = Spelled r b × Gap g × WellFormed C

pub record WellFormedLine (e : LineSyntax) : Type 0 where
  pub letter : Letter e.kind e.letter
  pub front : Gap e.front
  pub left : WellFormed e.left
  pub middle : Gap e.middle
  pub right : WellFormed e.right

-- what is meant: * is everything, - nothing, & both, / some
abbrev pub concept_meant : ConceptSyntax → Concept Word Word
concept_meant star = top
concept_meant dash = bottom
concept_meant (word w b) = name w
concept_meant (ampersand g C h D) = conj (concept_meant C) (concept_meant D)
concept_meant (slash r b g C) = exist r (concept_meant C)

abbrev pub line_meant : LineSyntax → Line Word Word
line_meant e = line e.kind (concept_meant e.left) (concept_meant e.right)

abbrev pub lines_meant : List LineSyntax → List (Line Word Word)
lines_meant es = map line_meant es

-- ---- texts

-- The text is written so.
pub record Writes (syntax : List LineSyntax) (text : List ℕ) : Type 0 where
  pub well_formed : (e : LineSyntax) → Memᴰ e syntax → WellFormedLine e
  pub spelled : lines_bytes syntax ≡ text

-- The text is a text of the lines.
pub record Reads (text : List ℕ) (lines : List (Line Word Word)) : Type 0 where
  pub syntax : List LineSyntax
  pub writes : Writes syntax text
  pub means : lines_meant syntax ≡ lines
