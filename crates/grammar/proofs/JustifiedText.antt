-- What a refused text has at the place of its refusal and before it: for 3 to 7, the text up to there begins the text of some lines within the limits,
-- and for 4 to 7, what begins there passes one; for 8, the text is that of lines.
-- The lines that have been read are the context of the next.
-- Assumes nothing.
use Prim.Native.Nat.{ℕ, zero, suc, ◌+◌, ◌<◌, ◌≤◌}
use native.Mathlib.Omega.{arith}
use mathlib.Core.Path.{◌≡◌, refl, sym}
use mathlib.Core.Bool.{false, true≢false}
use mathlib.Core.List.{List, [], ◌∷◌, ◌++◌, append-nil}
use lib.ListN.{length, take}
use lib.Dec.{leb, ltb, eqb}
use borrow.Author.Tests.{ltb-true, ltb-false}
use Rattle.semantics.proofs.Tests.{cases}
use Rattle.semantics.specs.Limits.{text_limit, depth_limit, row_limit}
use Rattle.semantics.specs.Numbering.{no_names}
use Rattle.semantics.specs.Source.{Gap, lines_meant, line_bytes}
use Rattle.grammar.proofs.SyntaxMeasures.{number_syntax}
use Rattle.refusal.specs.declared.Refusal.{Refusal}
use Rattle.refusal.specs.declared.Refusal.TheVariants.{TextTooLong, TooManyRows}
use Rattle.words.specs.Bytes.{byte_at, is_line_end}
use Rattle.names.specs.Names.{no_numbers, onward}
use Rattle.source.specs.Lines.{line_kind, RowsRead, read_line, read_lines, definitions, within_rows, read_text, read_letter}
use Rattle.names.specs.State.{State, Step}
use Rattle.std.specs.Prelude.{Ok, Err}
use Rattle.grammar.specs.ViablePrefix.{UpTo}
use Rattle.grammar.specs.Refused.{RowsAt}
use Rattle.grammar.proofs.AcceptsDecides.{all_reads, all_within, row_count}
use Rattle.grammar.proofs.CompletedPrefix.{Open, blank_to}
use Rattle.grammar.proofs.Contexts.{Context, lines, sides, whole}
use Rattle.grammar.proofs.JustifiedSteps.{Fault, syntax, Justified, done, refused, ends_then, ends_gap}
use Rattle.grammar.proofs.ReachedPlaces.{byte_later, take_byte, take_spelled, Past, DueAt, ready_past, roles_few}
use Rattle.grammar.proofs.JustifiedReader.{sides_ends, concept_ends}
use Rattle.grammar.proofs.OpenedContexts.{blank_lines, blank_sides, in_line, in_lines}
use Rattle.grammar.proofs.SoundLines.{lines_sound}
use Rattle.grammar.specs.StateNames.{state_names}
use Rattle.grammar.proofs.Readings.{LineRead}
use Rattle.grammar.proofs.SoundReader.{lettered, line_sound}
use Rattle.grammar.proofs.ValidStates.{names_none, valid_none}
use Rattle.grammar.proofs.ReaderCases.{and_then_cases, onward_lines_cases}

-- ---- a line

letter_there : (b : ℕ) → eqb (line_kind b) 0 ≡ false → 0 < b
unfolding line_kind
letter_there zero h = absurd (true≢false h)
letter_there (suc b) h = omega arith

module _ {text : List ℕ} {s : State} {x at : ℕ} (r : DueAt text lines depth_limit s x at) where
  letter_justified : eqb (line_kind (byte_at text at)) 0 ≡ false → Justified text (read_line text s at)
  unfolding read_line read_letter onward
  letter_justified e =
      let b = letter_there (byte_at text at) e in
      let l = lettered (byte_at text at) e in
      let c : (g : List ℕ) → Gap g → Context lines sides ((byte_at text at ∷ []) ++ g) (state_names text s) (state_names text s) depth_limit depth_limit =
      λ g h. in_line (state_names text s) depth_limit l.is h in
      let p : Past text at (byte_at text at ∷ []) (state_names text s) s x (at + 1) =
      record { valid = r.valid; inside = byte_later text at refl b; names = refl; bytes = take_byte text at refl b } in
      rw e (ends_gap r p _ c blank_sides λ start g q.
      ends_then _ (sides_ends text 0 (ready_past r q (c g.gap g.is)) (concept_ends text depth_limit)) λ t y end h.
      cases (is_line_end (byte_at text end)) (λ g. rw g (done tt)) (λ g. rw g (refused (syntax h.0 h.1))))

  line_missing : UpTo text at
  line_missing =
      let o : Open lines (take at text ++ []) (state_names text s) depth_limit = rw append-nil r.opened in
      blank_to text at [] o blank_lines tt r.inside r.valid.concepts.most (roles_few r.valid)

  line_justified : Justified text (read_line text s at)
  unfolding read_line read_letter onward
  line_justified = cases (eqb (line_kind (byte_at text at)) 0) (λ e. rw e (refused (syntax r.inside line_missing))) letter_justified

  line_past : {t : State} {kind next : ℕ} (l : LineRead text s t at kind next) →
      Past text at (line_bytes l.line) (number_syntax l.line.right (number_syntax l.line.left (state_names text s)).after).after t kind next
  line_past {next} l = record {
    valid = l.valid;
    inside = l.inside;
    names = sym l.after;
    bytes = take_spelled text (line_bytes l.line) at next r.inside l.inside l.spelled;
  }

  -- the next line is due behind one that has been read
  line_ready : {t : State} {kind next : ℕ} → LineRead text s t at kind next → DueAt text lines depth_limit t kind next
  line_ready l = ready_past r (line_past l) (in_lines (state_names text s) depth_limit l.line l.words l.short (omega (arith, l.shallow.0, l.shallow.1)))

-- ---- all lines

lines_justified : (text : List ℕ) (steps : ℕ) (s : State) (x at count : ℕ) → DueAt text lines depth_limit s x at → Justified text (read_lines steps text s at count).reading
unfolding read_lines
lines_justified text zero s x at count r = done tt
lines_justified text (suc steps) s x at count r = cases (leb (length text) at) (λ e. rw e (done tt)) λ e. rw e
    (onward_lines_cases (λ read. Justified text read.reading) (read_line text s at) _
    (λ kind next f. lines_justified text steps (read_line text s at).names kind next (count + 1) (line_ready r (line_sound text s at kind next r.valid f)))
    (λ why p f. line_justified r))

-- ---- a text

-- A refusal of a text: what is found at its place, and before it.
pub data TextFault (text : List ℕ) (p : ℕ) : Refusal → Type 0 where
  long : text_limit < length text → p ≡ 0 → TextFault text p TextTooLong
  many : length text ≤ text_limit → RowsAt text p → TextFault text p TooManyRows
  placed : {why : Refusal} → length text ≤ text_limit → Fault text p why → TextFault text p why

abbrev TextEnds : List ℕ → Step → Type 0
TextEnds text (Ok (x, next)) = Unit {0}
TextEnds text (Err r) = TextFault text r.place r.why

text_ends : (text : List ℕ) → TextEnds text (read_text text).reading.step
unfolding read_text within_rows
text_ends text = cases (ltb text_limit (length text)) (λ e. rw e (long (ltb-true text_limit (length text) e) refl)) λ e.
    let short = ltb-false text_limit (length text) e in
    rw e
    (and_then_cases (λ r. TextEnds text r.step) all_read.reading _
    (λ count end f. cases (ltb row_limit (count + length (definitions text all_read.reading.names)))
    (λ g. rw g (many short (too_many count end f (ltb-true row_limit (count + length (definitions text all_read.reading.names)) g))))
    (λ g. rw g tt))
    (λ why p f. rw f (placed short (rw f at read.outcome))))
  where
    all_read : RowsRead
    all_read = read_lines (length text) text no_numbers 0 0

    too_many : (count end : ℕ) → all_read.reading.step ≡ Ok (count, end) → row_limit < count + length (definitions text all_read.reading.names) → RowsAt text end
    too_many count end f over =
        let r = (lines_sound (length text) text no_numbers 0 0 (valid_none text) (omega arith) (omega arith)).holds count end f in
        record { lines = lines_meant r.lines; reads = all_reads r; within = all_within r; many = omega (arith, row_count r); end = r.to_end }

    start : DueAt text lines depth_limit no_numbers 0 0
    start = record { valid = valid_none text; inside = omega arith; opened = rw (names_none text) (whole lines no_names depth_limit) }

    read : Justified text all_read.reading
    read = lines_justified text (length text) no_numbers 0 0 0 start

pub text_fault : (text : List ℕ) (p : ℕ) (why : Refusal) → (read_text text).reading.step ≡ Err record { why = why; place = p } → TextFault text p why
text_fault text p why e = rw e at (text_ends text)
