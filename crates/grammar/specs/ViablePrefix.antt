-- What a refused text has before the place of its refusal, and at it.
--     ViablePrefix  some lines have a text that begins so
--     StartsIn      where the concepts of lines start, and at which depth
--     UpTo          what stands before a place, with the shortest end
--     SyntaxAt      refusal 3
--     LimitAt       refusals 4 to 7
use Rattle.std.specs.Prelude.{ℕ, ◌+◌, ◌<◌, ◌≤◌, ◌≡◌, Bool, true, ◌||◌, length, take, drop, eqb, Some, None}
use Rattle.std.proofs.Math.Option.{none, some}
use mathlib.Core.List.{List, [], ◌∷◌, ◌++◌, Memᴰ}
use Rattle.semantics.specs.Closure.{Line}
use Rattle.semantics.specs.Limits.{word_limit, depth_limit, number_limit, role_limit}
use Rattle.semantics.specs.Numbering.{lookup, place_of}
use Rattle.semantics.specs.Source.{star_byte, slash_byte, space_byte, line_feed, Word, Spelled, ConceptSyntax, ampersand, slash, LineSyntax, lines_meant, concept_bytes, line_bytes, Writes, Reads}
use Rattle.refusal.specs.declared.Refusal.{Refusal}
use Rattle.refusal.specs.declared.Refusal.TheVariants.{WordTooLong, TooDeep, TooManyNumbers, TooManyRoles}
use Rattle.words.specs.Bytes.{byte_at, word_length}
use Rattle.forms.specs.Forms.{form_at}
use Rattle.forms.specs.declared.Form.TheVariants.{Name, Conjunction, Existential}
use Rattle.grammar.specs.Limits.{names_after, LinesWithin}

-- Some lines, with words of any length and concepts of any depth, have a text that begins with these bytes.
pub record ViablePrefix (bytes : List ℕ) : Type 0 where
  pub syntax : List LineSyntax
  pub rest : List ℕ
  pub writes : Writes syntax (bytes ++ rest)

-- the bytes of the word that stands at the offset: all the word bytes that follow
abbrev pub word_from : List ℕ → ℕ → List ℕ
word_from text p = take (word_length text p) (drop p text)

-- ---- where concepts start

-- k bytes into the text of C starts a part of C, at depth m
pub data StartsAt : ConceptSyntax → ℕ → ℕ → Type 0 where
  whole : {C : ConceptSyntax} {k m : ℕ} → k ≡ 0 → m ≡ 1 → StartsAt C k m
  left : {g h : List ℕ} {C D : ConceptSyntax} {j k m n : ℕ} → StartsAt C j n → k ≡ 1 + length g + j → m ≡ n + 1 → StartsAt (ampersand g C h D) k m
  right : {g h : List ℕ} {C D : ConceptSyntax} {j k m n : ℕ} → StartsAt D j n → k ≡ 1 + length g + length (concept_bytes C) + length h + j → m ≡ n + 1 →
      StartsAt (ampersand g C h D) k m
  filler : {r : Word} {b g : List ℕ} {C : ConceptSyntax} {j k m n : ℕ} → StartsAt C j n → k ≡ 1 + length b + length g + j → m ≡ n + 1 → StartsAt (slash r b g C) k m

-- k bytes into the text of the lines starts a concept, at depth m
pub data StartsIn : List LineSyntax → ℕ → ℕ → Type 0 where
  left_side : {e : LineSyntax} {es : List LineSyntax} {j k m : ℕ} → StartsAt e.left j m → k ≡ length e.letter + length e.front + j → StartsIn (e ∷ es) k m
  right_side : {e : LineSyntax} {es : List LineSyntax} {j k m : ℕ} →
      StartsAt e.right j m → k ≡ length e.letter + length e.front + length (concept_bytes e.left) + length e.middle + j → StartsIn (e ∷ es) k m
  later : {e : LineSyntax} {es : List LineSyntax} {j k m : ℕ} → StartsIn es j m → k ≡ length (line_bytes e) + j → StartsIn (e ∷ es) k m

-- ---- what stands before a place

-- a byte of the shortest end: a *, a space, a line feed
abbrev pub end_byte : ℕ → Bool
end_byte b = eqb b star_byte || (eqb b space_byte || eqb b line_feed)

-- A concept is due at p, at depth m, and `put` is a *.
pub record ConceptDue (p : ℕ) (syntax : List LineSyntax) (put : List ℕ) (m : ℕ) : Type 0 where
  pub star : put ≡ star_byte ∷ []
  pub starts : StartsIn syntax p m

-- A role is due at p: a / stands before it, where a concept starts. `put` spells the first of all roles, and so a new one only where none stands before p.
pub record RoleDue (text : List ℕ) (p : ℕ) (syntax : List LineSyntax) (put : List ℕ) : Type 0 where
  pub sign : ℕ
  pub behind : p ≡ sign + 1
  pub slash : byte_at text sign ≡ slash_byte
  pub depth : ℕ
  pub starts : StartsIn syntax sign depth
  pub role : Word
  pub spelled : Spelled role put
  pub first : place_of role (names_after (lines_meant syntax)).roles ≡ some 0

-- What the lines have at p, before the shortest end: nothing, a * or a role.
pub data Put (text : List ℕ) (p : ℕ) (syntax : List LineSyntax) (put : List ℕ) : Type 0 where
  no_put : put ≡ [] → Put text p syntax put
  star_put : {m : ℕ} → ConceptDue p syntax put m → Put text p syntax put
  role_put : RoleDue text p syntax put → Put text p syntax put

-- What stands before p, with the shortest end that there is, is the text of the lines: so they have no other numbers and roles than what
-- stands before p, but for the first role of all where one is put. They are within every limit but those on text and rows, and but concepts from p on that may stand at depth 17.
pub record UpTo (text : List ℕ) (p : ℕ) : Type 0 where
  pub syntax : List LineSyntax
  pub put : List ℕ
  pub rest : List ℕ
  pub writes : Writes syntax (take p text ++ (put ++ rest))
  pub due : Put text p syntax put
  pub shortest : (b : ℕ) → Memᴰ b rest → end_byte b ≡ true
  pub within : LinesWithin (depth_limit + 1) (lines_meant syntax)
  pub shallow : (q m : ℕ) → q < p → StartsIn syntax q m → m ≤ depth_limit

-- ---- refusal 3

-- Refusal 3 at p: what stands before p is within the limits, and nothing goes on with the byte at p, or the text ends too early.
pub record SyntaxAt (text : List ℕ) (p : ℕ) : Type 0 where
  pub inside : p ≤ length text
  pub before : UpTo text p
  pub byte : p < length text → ViablePrefix (take (p + 1) text) → ⊥
  pub end : p ≡ length text → (lines : List (Line Word Word)) → Reads text lines → ⊥

-- ---- refusals 4 to 7

-- What begins at p exceeds a limit, after what the lines have before p: a concept that is too deep, a word that is too long,
-- a number or a role more than there can be. `put` is what the lines have at p: a *, or a role.
pub data Exceeds (text : List ℕ) (p : ℕ) (syntax : List LineSyntax) (put : List ℕ) : Refusal → Type 0 where
  deep : ConceptDue p syntax put (depth_limit + 1) → (form_at text p ≡ None → ⊥) → Exceeds text p syntax put TooDeep
  long_name : {m : ℕ} → ConceptDue p syntax put m → m ≤ depth_limit → word_limit < word_length text p → Exceeds text p syntax put WordTooLong
  long_role : RoleDue text p syntax put → word_limit < word_length text p → Exceeds text p syntax put WordTooLong
  conjunction : {m : ℕ} → ConceptDue p syntax put m → m ≤ depth_limit → (names_after (lines_meant syntax)).next ≡ number_limit → form_at text p ≡ Some Conjunction →
      Exceeds text p syntax put TooManyNumbers
  existential : {m : ℕ} → ConceptDue p syntax put m → m ≤ depth_limit → (names_after (lines_meant syntax)).next ≡ number_limit → form_at text p ≡ Some Existential →
      Exceeds text p syntax put TooManyNumbers
  new_name : {m : ℕ} {w : Word} → ConceptDue p syntax put m → m ≤ depth_limit → (names_after (lines_meant syntax)).next ≡ number_limit → form_at text p ≡ Some Name → word_length text p ≤ word_limit →
      Spelled w (word_from text p) → lookup w (names_after (lines_meant syntax)).words ≡ none → Exceeds text p syntax put TooManyNumbers
  new_role : {w : Word} → RoleDue text p syntax put → length (names_after (lines_meant syntax)).roles ≡ role_limit → 0 < word_length text p → word_length text p ≤ word_limit →
      Spelled w (word_from text p) → place_of w (names_after (lines_meant syntax)).roles ≡ none → Exceeds text p syntax put TooManyRoles

-- Refusal 4 to 7 at p.
pub record LimitAt (text : List ℕ) (p : ℕ) (why : Refusal) : Type 0 where
  pub inside : p < length text
  pub before : UpTo text p
  pub exceeds : Exceeds text p before.syntax before.put why
  pub goes_on : ViablePrefix (take (p + 1) text)
