-- A text is accepted exactly where it is that of lines within the limits; then it has their numbers and rows.
-- Assumes nothing.
use Prim.Native.Nat.{ℕ, suc, ◌+◌, ◌≤◌}
use native.Mathlib.Omega.{arith}
use mathlib.Core.Path.{◌≡◌, refl, sym, ◌∙◌, ap, ap₂, subst}
use mathlib.Core.Bool.{Bool, true, false, cond}
use mathlib.Core.Logic.{◌↔◌}
use mathlib.Core.List.{List, [], ◌∷◌, ◌++◌}
use lib.ListN.{length, length-append, length-map}
use lib.Dec.{ltb}
use borrow.Author.Tests.{ltb-false, le-ltb}
use Rattle.semantics.specs.Closure.{Line, left_of, right_of}
use Rattle.semantics.specs.Limits.{text_limit, word_limit, depth_limit, row_limit}
use Rattle.semantics.specs.Numbering.{Names, no_names, number_concept, number_lines, normal_rows}
use Rattle.semantics.specs.Row.{Row}
use Rattle.semantics.specs.Source.{Word, line_meant, lines_meant, Writes, Reads}
use Rattle.grammar.proofs.SyntaxMeasures.{lines_each, syntax_each}
use Rattle.semantics.proofs.Reading.{writes_unique, reads_unique}
use Rattle.refusal.specs.declared.Refusal.TheVariants.{TextTooLong, TooManyRows}
use Rattle.chains.specs.declared.Sort.TheVariants.{Roles}
use Rattle.names.specs.Names.{no_numbers, refuse, read_to, and_then}
use Rattle.source.specs.Lines.{RowsRead, definitions_to, read_lines, within_rows, read_text, definitions}
use Rattle.names.specs.State.{State, Ending, next_concept}
use Rattle.std.specs.Prelude.{Ok}
use Rattle.grammar.specs.Limits.{depth, ShortWords, names_after, LinesWithin}
use Rattle.grammar.specs.Occurrences.{lines_occurrences}
use Rattle.grammar.specs.Accepted.{AcceptedReading, TextAcceptable, TextNumbered}
use Rattle.grammar.specs.StateNames.{state_names}
use Rattle.grammar.proofs.StateNames.{Valid}
use Rattle.grammar.proofs.FirstOccurrences.{Placed, placed_none}
use Rattle.grammar.proofs.FoundNumbers.{roles_length}
use Rattle.grammar.proofs.ValidStates.{names_none, valid_none}
use Rattle.grammar.proofs.SoundSteps.{Gives, gives_refused, gives_read, gives_cond, gives_then}
use Rattle.grammar.proofs.SoundLines.{LinesRead, LinesSound, lines_sound}
use Rattle.grammar.proofs.CompleteSteps.{PassesOn, passes_read, passes_else, passes_then, passes_gives}
use Rattle.grammar.proofs.CompleteReader.{WithinCounts}
use Rattle.grammar.proofs.CompleteLines.{lines_pass}

definitions_none : (text : List ℕ) → definitions text no_numbers ≡ []
unfolding no_numbers definitions_to
definitions_none text = refl

pub lines_length : (ls : List (Line Word Word)) (n : Names) → length (number_lines ls n).line_rows ≡ length ls
unfolding number_lines
lines_length [] n = refl
lines_length (l ∷ ls) n = ap suc (lines_length ls (number_concept (right_of l) (number_concept (left_of l) n).after).after)

-- ---- all lines, from the start

module _ {text : List ℕ} {t : State} {count end : ℕ} {rows : List Row} (r : LinesRead text no_numbers t 0 0 count end rows) where
  all_written : Writes r.lines text
  all_written = record { well_formed = r.words; spelled = r.spelled }

  pub all_reads : Reads text (lines_meant r.lines)
  all_reads = record { syntax = r.lines; writes = all_written; means = refl }

  -- the numbering of the lines
  all_numbered : number_lines (lines_meant r.lines) (state_names text no_numbers) ≡ number_lines (lines_meant r.lines) no_names
  all_numbered = ap (number_lines (lines_meant r.lines)) (names_none text)

  all_names : state_names text t ≡ names_after (lines_meant r.lines)
  all_names = sym r.after ∙ ap (λ m. m.after) all_numbered

  all_numbers : next_concept t ≡ (names_after (lines_meant r.lines)).next
  all_numbers = ap (λ n. n.next) all_names

  all_roles : (t.lists Roles).used ≡ length (names_after (lines_meant r.lines)).roles
  all_roles = sym (roles_length text (t.lists Roles) (t.lists Roles).used) ∙ ap (λ n. length n.roles) all_names

  all_line_rows : rows ≡ (number_lines (lines_meant r.lines) no_names).line_rows
  all_line_rows = r.line_rows ∙ ap (λ m. m.line_rows) all_numbered

  all_definitions : definitions text t ≡ (number_lines (lines_meant r.lines) no_names).definitions
  all_definitions = r.rows_defined ∙ ap₂ ◌++◌ (definitions_none text) (ap (λ m. m.definitions) all_numbered)

  pub row_count : count + length (definitions text t) ≡ length (normal_rows (lines_meant r.lines))
  row_count =
      let l : length rows ≡ count = ap length all_line_rows ∙ lines_length (lines_meant r.lines) no_names ∙ omega (arith, r.counted, length-map r.lines line_meant) in
      omega (arith, ap length (ap₂ ◌++◌ all_line_rows all_definitions), length-append rows (definitions text t))

  pub all_within : LinesWithin depth_limit (lines_meant r.lines)
  all_within = record {
    short = lines_each (ShortWords word_limit) r.lines r.short;
    shallow = lines_each (λ C. depth C ≤ depth_limit) r.lines r.shallow;
    numbers = omega (arith, all_numbers, r.valid.concepts.most);
    roles = omega (arith, all_roles, r.valid.roles.most);
  }

-- ---- the reading of a text

all_read : List ℕ → RowsRead
all_read text = read_lines (length text) text no_numbers 0 0

all_sound : (text : List ℕ) → LinesSound text no_numbers 0 0 (all_read text)
unfolding all_read
all_sound text = lines_sound (length text) text no_numbers 0 0 (valid_none text) (omega arith) (omega arith)

-- what is known of an accepted text
record TextAccepted (text : List ℕ) (rows : List Row) (t : State) (count end : ℕ) : Type 0 where
  read : LinesRead text no_numbers t 0 0 count end rows
  few : count + length (definitions text t) ≤ row_limit
  bytes : length text ≤ text_limit

limited : (text : List ℕ) → State → ℕ → ℕ → Ending
limited text t count end = cond (ltb row_limit (count + length (definitions text t))) (refuse t TooManyRows end) (read_to t count end)

text_sound : (text : List ℕ) → Gives (TextAccepted text (read_text text).rows) (read_text text).reading
unfolding read_text within_rows all_read limited
text_sound text = go (ltb text_limit (length text)) refl
  where
    refused : RowsRead
    refused = record { rows = []; reading = refuse no_numbers TextTooLong 0 }

    read : RowsRead
    read = record { rows = (all_read text).rows; reading = and_then (all_read text).reading (limited text) }

    go : (b : Bool) → ltb text_limit (length text) ≡ b → Gives (TextAccepted text (cond b refused read).rows) (cond b refused read).reading
    go true e = gives_refused no_numbers TextTooLong 0
    go false e =
        gives_then (all_read text).reading (limited text) (all_sound text) λ t count end r.
        gives_cond (ltb row_limit (count + length (definitions text t)))
        (λ h. gives_refused t TooManyRows end)
        (λ h. gives_read t count end record { read = r; few = ltb-false row_limit (count + length (definitions text t)) h; bytes = ltb-false text_limit (length text) e })

-- ---- acceptance

accepts_sound : {text : List ℕ} → AcceptedReading text → TextAcceptable text
accepts_sound {text} a =
    let b = (text_sound text).holds a.count a.end a.read in
    let r = b.read in
    record {
      lines = lines_meant r.lines;
      reads = all_reads r;
      within = record {
        within = all_within r;
        rows = omega (arith, row_count r, b.few);
        bytes = b.bytes;
      };
    }

all_pass : {text : List ℕ} (a : TextAcceptable text) → PassesOn (λ t count end. Unit {0}) (all_read text).reading
unfolding all_read
all_pass {text} a =
    let es = a.reads.syntax in
    let w : LinesWithin depth_limit (lines_meant es) = subst (LinesWithin depth_limit) (sym a.reads.means) a.within.within in
    let room : WithinCounts (names_after (lines_meant es)) = record { numbers = w.numbers; roles = w.roles } in
    lines_pass (length text) es text no_numbers 0 0 a.reads.writes.well_formed
    (syntax_each (ShortWords word_limit) es w.short) (syntax_each (λ C. depth C ≤ depth_limit) es w.shallow) (sym a.reads.writes.spelled)
    (subst (λ n. WithinCounts (number_lines (lines_meant es) n).after) (sym (names_none text)) room) (valid_none text)

text_passes : {text : List ℕ} (a : TextAcceptable text) → PassesOn (λ t count end. Unit {0}) (read_text text).reading
unfolding read_text within_rows all_read limited
text_passes {text} a =
    rw (le-ltb text_limit (length text) a.within.bytes)
    (passes_then (all_read text).reading (limited text) (passes_gives (all_sound text) (all_pass a)) λ t count end (u, r).
    let same = reads_unique (all_reads r) a.reads in
    let few : count + length (definitions text t) ≤ row_limit = rw (row_count r, same) a.within.rows in
    passes_else (ltb row_limit (count + length (definitions text t))) (refuse t TooManyRows end) (le-ltb row_limit (count + length (definitions text t)) few)
    (passes_read t count end tt))

-- A text is accepted exactly where it is that of lines, within every limit.
pub accepts_decides : (text : List ℕ) → AcceptedReading text ↔ TextAcceptable text
accepts_decides text = (accepts_sound, λ a. let p = text_passes a in record { count = p.number; end = p.next; read = p.read })

module _ {text : List ℕ} {lines : List (Line Word Word)} {count end : ℕ} (r : Reads text lines) (a : (read_text text).reading.step ≡ Ok (count, end)) where
  accepted_read : LinesRead text no_numbers (read_text text).reading.names 0 0 count end (read_text text).rows
  accepted_read = ((text_sound text).holds count end a).read

  -- The counts and the rows that the reading of an accepted text gives are those of its lines.
  pub accepted_numbers : TextNumbered text lines count end
  accepted_numbers =
      let b = accepted_read in
      subst (λ ls. TextNumbered text ls count end) (reads_unique (all_reads b) r) record {
        counted = omega (arith, b.counted, length-map b.lines line_meant);
        to_end = b.to_end;
        numbers = all_numbers b;
        roles = all_roles b;
        line_rows = all_line_rows b;
        definition_rows = all_definitions b;
      }

  -- So are the words and the roles that its state stands for.
  pub accepted_names : state_names text (read_text text).reading.names ≡ names_after lines
  accepted_names = all_names accepted_read ∙ ap (λ ls. names_after ls) (reads_unique (all_reads accepted_read) r)

  -- The start of each number is where its word first stands.
  pub accepted_placed : Placed text (read_text text).reading.names (lines_occurrences 0 r.syntax)
  accepted_placed =
      subst (λ ls. Placed text (read_text text).reading.names (lines_occurrences 0 ls)) (writes_unique (all_written accepted_read) r.writes) (accepted_read.placed [] (placed_none text))

  pub accepted_valid : Valid text (read_text text).reading.names
  accepted_valid = accepted_read.valid
