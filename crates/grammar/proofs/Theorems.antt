-- The theorems on reading, in reading order. `read_text` is the definition that `read_text` meets; with these nobody has to believe it.
--     accepts_decides      it accepts a text exactly when there are lines with this text, within every limit
--     marked_acceptable    P1 to P9 are such texts
--     accepted_numbers     then its counts and its rows are those of numbering these lines
--     accepted_names       and each number and each role has the word that numbering gives it
--     text_refused         what it refuses it refuses for a reason, at the right place
--     refused_unique       there is one such reason and place at most, and none in an acceptable text (`acceptable_not_refused`)
--     refuses_decides      so it refuses a text exactly for that reason, at that place
--     occurrence_spelled   where a concept name is listed as standing its bytes stand, and (`starts_spelled`) where a concept starts, those of one
-- Assumes nothing.
use Prim.Native.Nat.{ℕ}
use mathlib.Core.Path.{◌≡◌}
use mathlib.Core.List.{List, ◌++◌, Memᴰ}
use lib.ListN.{drop}
use mathlib.Core.Logic.{◌↔◌}
use Rattle.semantics.specs.Closure.{Line}
use Rattle.semantics.specs.Examples.{bytes, Example, marked}
use Rattle.semantics.specs.Source.{Word, Spelled, ConceptSyntax, LineSyntax, concept_bytes, WellFormed, Writes, Reads}
use Rattle.refusal.specs.declared.Refusal.{Refusal}
use Rattle.source.specs.Lines.{read_text}
use Rattle.std.specs.Prelude.{Ok, Err}
use Rattle.grammar.specs.Accepted.{AcceptedReading, TextAcceptable, TextNumbered}
use Rattle.grammar.specs.Refused.{TextRefused}
use Rattle.grammar.specs.Limits.{names_after}
use Rattle.grammar.specs.Occurrences.{lines_occurrences}
use Rattle.grammar.specs.ViablePrefix.{StartsIn}
use Rattle.grammar.specs.StateNames.{state_names}
use Rattle.grammar.proofs.AcceptsDecides as accepts
use Rattle.grammar.proofs.MarkedAccepted as marking
use Rattle.grammar.proofs.RefusalsRight as refusals
use Rattle.grammar.proofs.RefusalUnique as distinct
use Rattle.grammar.proofs.Offsets as offsets

-- A text is accepted exactly where it is that of lines, within every limit.
pub accepts_decides : (text : List ℕ) → AcceptedReading text ↔ TextAcceptable text
accepts_decides = accepts.accepts_decides

-- Each marked book of the scope is such a text.
pub marked_acceptable : (e : Example) → Memᴰ e marked → TextAcceptable (bytes e.text)
marked_acceptable = marking.marked_acceptable

-- The counts and the rows that an accepted text is read with are those of its lines, of which it has only these (`reads_unique`).
pub accepted_numbers : {text : List ℕ} {lines : List (Line Word Word)} {count end : ℕ} → Reads text lines → (read_text text).reading.step ≡ Ok (count, end) →
    TextNumbered text lines count end
accepted_numbers = accepts.accepted_numbers

-- So are the words of its numbers and its roles: `state_names` reads them off the state, by their starts and lengths.
pub accepted_names : {text : List ℕ} {lines : List (Line Word Word)} {count end : ℕ} → Reads text lines → (read_text text).reading.step ≡ Ok (count, end) →
    state_names text (read_text text).reading.names ≡ names_after lines
accepted_names = accepts.accepted_names

-- A refusal is 1, 3, 4, 5, 6, 7 or 8, and `TextRefused` says what each stands for: before its place stands what begins some lines' text, within
-- the limits on words, depth, numbers and roles (`UpTo`); at it what can't stand there (3) or what passes a limit (4 to 7).
pub text_refused : (text : List ℕ) (p : ℕ) (why : Refusal) → (read_text text).reading.step ≡ Err record { why = why; place = p } → TextRefused text p why
text_refused = refusals.text_refused

-- A text has one refusal at most, at one place: whichever place is refused, nothing before it is.
pub refused_unique : {text : List ℕ} {p q : ℕ} {why how : Refusal} → TextRefused text p why → TextRefused text q how → (p ≡ q) × (why ≡ how)
refused_unique = distinct.refused_unique

-- A text that is that of lines, within every limit, has none.
pub acceptable_not_refused : {text : List ℕ} {p : ℕ} {why : Refusal} → TextAcceptable text → TextRefused text p why → ⊥
acceptable_not_refused = distinct.acceptable_not_refused

-- A text is refused exactly for what `TextRefused` says of it, at that place.
pub refuses_decides : (text : List ℕ) (p : ℕ) (why : Refusal) → ((read_text text).reading.step ≡ Err record { why = why; place = p }) ↔ TextRefused text p why
refuses_decides = distinct.refuses_decides

-- The offsets of the definitions are those of the text. Where a concept name is listed as standing, bytes that spell it stand.
pub occurrence_spelled : {text : List ℕ} {es : List LineSyntax} {w : Word} {k : ℕ} → Writes es text → Memᴰ (w, k) (lines_occurrences 0 es) →
    (bytes rest : List ℕ) × Spelled w bytes × (drop k text ≡ bytes ++ rest)
occurrence_spelled = offsets.occurrence_spelled

-- Where a concept starts, the bytes of one stand.
pub starts_spelled : {text : List ℕ} {es : List LineSyntax} {k m : ℕ} → Writes es text → StartsIn es k m →
    (C : ConceptSyntax) × (rest : List ℕ) × WellFormed C × (drop k text ≡ concept_bytes C ++ rest)
starts_spelled = offsets.starts_spelled
