-- How lines are read one after another, and their rows written. Assumes nothing.
--     line_ends   a line that was read ends behind its start, and its kind is that of a row
--     lines_room  no number too many is given out
--     Lines       what is read and written after some lines, with its laws
use Prim.Native.Nat.{ℕ, zero, suc, ◌+◌, ◌-◌, ◌<◌, ◌≤◌}
use native.Mathlib.Omega.{arith}
use mathlib.Core.Path.{◌≡◌, refl, sym, ap, subst, ◌∙◌}
use mathlib.Core.Bool.{Bool, true, false, cond}
use mathlib.Core.List.{List, [], ◌∷◌, ◌++◌, map, append-nil, append_assoc}
use lib.ListN.{length, get_or, set, take, length-append, length-take, length-drop}
use lib.Seq.{take-length, take-take, take-append_seam}
use lib.Dec.{leb, ltb, eqb}
use borrow.Author.Tests.{eqb-false, lt-leb, le-leb, lt-ltb, le-ltb}
use Rattle.semantics.specs.Source.{letter_byte}
use Rattle.semantics.specs.Closure.{strict, defeasible, query, strict_query}
use Rattle.semantics.specs.Limits.{number_limit, depth_limit, text_limit, row_limit}
use Rattle.semantics.specs.Row.{Row, simple, packed, pack}
use Rattle.semantics.specs.Decoding.{kind_numbered}
use Rattle.refusal.specs.declared.Refusal.TheVariants.{SyntaxError, TooManyRows}
use Rattle.words.specs.Bytes.{byte_at, is_line_end}
use Rattle.semantics.proofs.Tests.{cases}
use Rattle.chains.specs.declared.Sort.TheVariants.{Concepts}
use Rattle.names.specs.Names.{no_numbers, ended, refuse, read_to, onward}
use Rattle.concepts.specs.Reader.{read_concept}
use Rattle.source.specs.Lines.{line_kind, read_letter, read_line, line_row, RowsRead, onward_lines, read_lines, definitions, within_rows, read_text, overlaid}
use Rattle.names.specs.State.{State, Ending, next_concept, Step}
use Rattle.std.specs.Prelude.{Ok, Err}
use Rattle.refusal.specs.declared.Refused.{Refused}
use Rattle.words.proofs.Within.{inside_line_end}
use Rattle.names.proofs.Ends.{ReadWith, Ends, Further, refuse_ends, then_ends}
use Rattle.concepts.proofs.Ends.{space_ends, sides_ends, concept_ends}

-- ---- a line

-- the kind of a row over a left and a right, and how such a row is packed
abbrev pub OwnKind : ℕ → Type 0
OwnKind kind = (kind < 16) × ((a c : ℕ) → pack (simple (kind_numbered kind) a c) ≡ packed kind 0 a 0 c)

line_kind_lem : (b : ℕ) → (line_kind b ≡ 0 → ⊥) → OwnKind (line_kind b)
unfolding line_kind kind_numbered
line_kind_lem b = go (eqb b (letter_byte strict)) (eqb b (letter_byte defeasible)) (eqb b (letter_byte query)) (eqb b (letter_byte strict_query))
  where
    go : (t u v w : Bool) → let kind : ℕ = cond t 1 (cond u 5 (cond v 6 (cond w 7 0))) in (kind ≡ 0 → ⊥) → OwnKind kind
    go true u v w h = (omega arith, λ a c. refl)
    go false true v w h = (omega arith, λ a c. refl)
    go false false true w h = (omega arith, λ a c. refl)
    go false false false true h = (omega arith, λ a c. refl)
    go false false false false h = absurd (h refl)

abbrev pub LineEnds : List ℕ → ℕ → ℕ → ℕ → Type 0
LineEnds text at kind next = (at < next) × (next ≤ length text) × OwnKind kind

feed_ends :
    (text : List ℕ) (names : State) (at kind end : ℕ) → next_concept names ≤ number_limit → OwnKind kind → at < end →
    Ends (LineEnds text at) (cond (is_line_end (byte_at text end)) (read_to names kind (end + 1)) (refuse names SyntaxError end))
feed_ends text names at kind end room row h = go (is_line_end (byte_at text end)) (inside_line_end text end)
  where
    go : (t : Bool) → (t ≡ true → end < length text) → Ends (LineEnds text at) (cond t (read_to names kind (end + 1)) (refuse names SyntaxError end))
    go true f = let k = f refl in record { room = room; read = (omega arith, omega arith, row) }
    go false f = refuse_ends (LineEnds text at) names room SyntaxError end

abbrev LetterRead : ℕ → ℕ → ℕ → Type 0
LetterRead at kind next = (at < next) × OwnKind kind

letter_ends : (text : List ℕ) (names : State) (at : ℕ) → next_concept names ≤ number_limit → Ends (LetterRead at) (ended names (read_letter text at))
unfolding read_letter
letter_ends text names at room = cases (eqb (line_kind (byte_at text at)) 0)
    (λ e. rw e (refuse_ends (LetterRead at) names room SyntaxError at))
    (λ e. rw e record { room = room; read = (omega arith, line_kind_lem (byte_at text at) (eqb-false _ _ e)) })

pub line_ends : (text : List ℕ) (names : State) (at : ℕ) → next_concept names ≤ number_limit → Ends (LineEnds text at) (read_line text names at)
unfolding read_line
line_ends text names at room =
    then_ends (LineEnds text at) (LetterRead at) _ _ (letter_ends text names at room) λ names kind next room (later, row).
    space_ends (LineEnds text at) names room text next _ λ start h k.
    then_ends (LineEnds text at) (Further text start) _ _ (sides_ends text (read_concept depth_limit text) (concept_ends depth_limit text) names start 0 room)
    λ names number end room m.
    feed_ends text names at kind end room row (omega arith)

-- ---- all lines

abbrev pub LinesRoom : RowsRead → Type 0
LinesRoom read = (read.reading.names.lists Concepts).used ≤ number_limit

pub lines_room : (steps : ℕ) (text : List ℕ) (names : State) (at lines : ℕ) → next_concept names ≤ number_limit → LinesRoom (read_lines steps text names at lines)
unfolding read_lines onward_lines
lines_room zero text names at lines room = room
lines_room (suc steps) text names at lines room =
    go (leb (length text) at) _ (turn (read_line text names at).step λ kind next. lines_room steps text (read_line text names at).names next (lines + 1) line)
  where
    line : ((read_line text names at).names.lists Concepts).used ≤ number_limit
    line = (line_ends text names at room).room

    turn : (s : Step) → ((kind next : ℕ) → LinesRoom (read_lines steps text (read_line text names at).names next (lines + 1))) →
        LinesRoom (onward_lines s (read_line text names at) λ names kind next. read_lines steps text names next (lines + 1))
    turn (Ok (kind, next)) f = f kind next
    turn (Err refused) f = line

    go : (t : Bool) (more : RowsRead) → LinesRoom more → LinesRoom (cond t (record { rows = []; reading = read_to names lines at }) more)
    go true more h = room
    go false more h = h

pub text_room : (text : List ℕ) → LinesRoom (read_lines (length text) text no_numbers 0 0)
unfolding no_numbers
text_room text = lines_room (length text) text no_numbers 0 0 (omega arith)

module _ (text : List ℕ) (names : State) (at lines steps : ℕ) where
  -- where a line is left
  pub read_lines_more :
      at < length text → length text ≤ at + steps →
      read_lines steps text names at lines ≡
      onward_lines (read_line text names at).step (read_line text names at) (λ names kind next. read_lines (steps - 1) text names next (lines + 1))
  unfolding read_lines
  read_lines_more h enough =
      let e : steps ≡ suc (steps - 1) = omega arith in
      rw (ap (λ k. read_lines k text names at lines) e, lt-leb _ _ h)

-- and where none is
pub read_lines_end :
    (steps : ℕ) (text : List ℕ) (names : State) (at lines : ℕ) → length text ≤ at →
    read_lines steps text names at lines ≡ record { rows = []; reading = read_to names lines at }
unfolding read_lines
read_lines_end zero text names at lines h = refl
read_lines_end (suc steps) text names at lines h = rw (le-leb _ _ h)

-- ---- rows written over a buffer

overlaid_more : (done : List Row) (row : Row) (before : List ℕ) → set (overlaid (map pack done) before) (length done) (pack row) ≡ overlaid (map pack (done ++ (row ∷ []))) before
overlaid_more done row [] = refl
overlaid_more [] row (b ∷ bs) = refl
overlaid_more (q ∷ qs) row (b ∷ bs) = ap (λ l. pack q ∷ l) (overlaid_more qs row bs)

pub overlaid_length : (words before : List ℕ) → length (overlaid words before) ≡ length before
overlaid_length words before = simp (length-take, length-append, length-drop) (omega arith)

-- where there is room for them all, the words stand at the start
pub overlaid_take : (words before : List ℕ) → length words ≤ length before → take (length words) (overlaid words before) ≡ words
overlaid_take words before h = take-take (length words) (length before) _ h ∙ take-append_seam words _

-- ---- after some lines

-- Some lines are read: as many as are counted, at most one for each byte. What is left to read is what the whole text still has, and
-- the buffer has the rows of these lines.
pub record Lines (text before rows : List ℕ) (names : State) (at lines : ℕ) : Type 0 where
  pub steps : ℕ
  pub done : List Row
  pub enough : length text ≤ at + steps
  pub reading : (read_lines (length text) text no_numbers 0 0).reading ≡ (read_lines steps text names at lines).reading
  pub all : (read_lines (length text) text no_numbers 0 0).rows ≡ done ++ (read_lines steps text names at lines).rows
  pub counted : lines ≡ length done
  pub fewer : lines ≤ at
  pub within : at ≤ length text
  pub room : next_concept names ≤ number_limit
  pub written : rows ≡ overlaid (map pack done) before

-- What the loop leaves: the reading of the whole text, and the rows of all its lines.
pub record AllLines (text before rows : List ℕ) (r : Ending) : Type 0 where
  pub reading : r ≡ (read_lines (length text) text no_numbers 0 0).reading
  pub written : rows ≡ overlaid (map pack (read_lines (length text) text no_numbers 0 0).rows) before

pub lines_none : (text before : List ℕ) → Lines text before before no_numbers 0 0
unfolding no_numbers
lines_none text before = record {
  steps = length text;
  done = [];
  enough = omega arith;
  reading = refl;
  all = refl;
  counted = refl;
  fewer = omega arith;
  within = omega arith;
  room = omega arith;
  written = sym (take-length before);
}

module _ {text before rows : List ℕ} {names : State} {at lines : ℕ} (i : Lines text before rows names at lines) where
  pub lines_length : length rows ≡ length before
  lines_length = rw i.written (overlaid_length (map pack i.done) before)

  pub lines_all : length text ≤ at → AllLines text before rows (read_to names lines at)
  lines_all h =
      let e = read_lines_end i.steps text names at lines h in
      record {
        reading = sym (i.reading ∙ rw e);
        written = rw (i.written, i.all, e, append-nil);
      }

  module _ {r : Ending} (is : r ≡ read_line text names at) (more : at < length text) where
    pub lines_refused : {refused : Refused} → r.step ≡ Err refused → AllLines text before rows r
    unfolding onward_lines
    lines_refused e =
        let b = read_lines_more text names at lines i.steps more i.enough in
        record {
          reading = sym (i.reading ∙ rw (b, ← is, e));
          written = rw (i.written, i.all, b, ← is, e, append-nil);
        }

    pub lines_line : {kind next : ℕ} → r.step ≡ Ok (kind, next) → LineEnds text at kind next
    lines_line e = subst (ReadWith (LineEnds text at)) e (rw is (line_ends text names at i.room).read)

    pub lines_more :
        {kind next : ℕ} {after : List ℕ} → r.step ≡ Ok (kind, next) →
        after ≡ set rows lines (packed kind 0 (get_or r.names.lefts 0 0) 0 (get_or r.names.rights 0 0)) →
        Lines text before after r.names next (lines + 1)
    unfolding onward_lines
    lines_more {kind} {next} e w =
        let b = read_lines_more text names at lines i.steps more i.enough in
        let line = lines_line e in
        let row = line_row r.names kind in
        record {
          steps = i.steps - 1;
          done = i.done ++ (row ∷ []);
          enough = omega (arith, i.enough);
          reading = i.reading ∙ rw (b, ← is, e);
          all = i.all ∙ rw (b, ← is, e, append_assoc);
          counted = omega (arith, length-append i.done (row ∷ []), i.counted);
          fewer = omega (arith, i.fewer);
          within = line.1;
          room = rw is (line_ends text names at i.room).room;
          written =
              w
              ∙ rw (i.written, i.counted, ← line.2.1 (get_or r.names.lefts 0 0) (get_or r.names.rights 0 0)) (overlaid_more i.done row before);
        }

-- ---- a text

-- all lines of a text were read: the rest is whether there are too many rows
pub text_counted : (text : List ℕ) {names : State} {step : Step} {lines end count : ℕ} → length text ≤ text_limit →
    ended names step ≡ (read_lines (length text) text no_numbers 0 0).reading → step ≡ Ok (lines, end) → count ≡ length (definitions text names) →
    (read_text text).reading ≡ cond (ltb row_limit (lines + count)) (refuse names TooManyRows end) (read_to names lines end)
unfolding read_text within_rows onward
text_counted text short e f g = rw (le-ltb _ _ short, ← e, f, g)

pub too_many : {n : ℕ} (r s : Ending) → row_limit < n → cond (ltb row_limit n) r s ≡ r
too_many r s h = rw (lt-ltb _ _ h)

pub few_enough : {n : ℕ} (r s : Ending) → n ≤ row_limit → cond (ltb row_limit n) r s ≡ s
few_enough r s h = rw (le-ltb _ _ h)
