-- Soundness of reading all lines: where no line is refused, the text is that of the lines, with their rows and numbers.
--     LinesRead   what was read from an offset on
-- By induction on the steps: a line has at least one byte, so the steps are enough to come to the end.
-- Assumes nothing.
use Prim.Native.Nat.{ℕ, zero, suc, ◌+◌, ◌≤◌}
use native.Mathlib.Omega.{arith}
use mathlib.Core.Path.{◌≡◌, refl, sym, ◌∙◌, ap, ap₂, subst}
use mathlib.Core.Bool.{Bool, true, false, cond}
use mathlib.Core.List.Memᴰ
use mathlib.Core.List.{List, [], ◌∷◌, ◌++◌, append-nil, append_assoc, Memᴰ}
use lib.ListN.{length, drop, drop_of_length-le}
use lib.Dec.{leb}
use borrow.Author.Tests.{leb-true}
use Rattle.semantics.specs.Row.{Row}
use Rattle.semantics.specs.Numbering.{number_lines}
use Rattle.semantics.specs.Source.{Word, LineSyntax, line_bytes, lines_bytes, WellFormedLine, lines_meant}
use Rattle.grammar.proofs.SyntaxMeasures.{ShortLine, ShallowLine}
use Rattle.source.specs.Lines.{read_line, line_row, RowsRead, onward_lines, read_lines, definitions}
use Rattle.names.specs.State.{State, Ending, Step}
use Rattle.std.specs.Prelude.{Ok, Err}
use Rattle.grammar.specs.Occurrences.{line_occurrences, lines_occurrences}
use Rattle.grammar.specs.StateNames.{state_names}
use Rattle.grammar.proofs.StateNames.{Valid}
use Rattle.grammar.proofs.FirstOccurrences.{Placed, ends_at}
use Rattle.grammar.proofs.Readings.{LineRead}
use Rattle.grammar.proofs.SoundSteps.{Gives, gives_read}
use Rattle.grammar.proofs.SoundReader.{line_sound}

-- every line has P
abbrev pub EveryLine : (LineSyntax → Type 0) → List LineSyntax → Type 0
EveryLine P lines = (l : LineSyntax) → Memᴰ l lines → P l

pub each_none : (P : LineSyntax → Type 0) → EveryLine P []
each_none P l i = absurd (Memᴰ.not-nil i)

pub each_more : (P : LineSyntax → Type 0) {l : LineSyntax} {ls : List LineSyntax} → P l → EveryLine P ls → EveryLine P (l ∷ ls)
each_more P p ps k (Memᴰ.head e) = subst P (sym e) p
each_more P p ps k (Memᴰ.tail i) = ps k i

-- From the offset on, after `before` lines.
pub record LinesRead (text : List ℕ) (s t : State) (at before count end : ℕ) (rows : List Row) : Type 0 where
  pub lines : List LineSyntax
  pub words : EveryLine WellFormedLine lines
  pub short : EveryLine ShortLine lines
  pub shallow : EveryLine ShallowLine lines
  pub spelled : lines_bytes lines ≡ drop at text
  pub to_end : end ≡ length text
  pub counted : count ≡ before + length lines
  pub line_rows : rows ≡ (number_lines (lines_meant lines) (state_names text s)).line_rows
  pub after : (number_lines (lines_meant lines) (state_names text s)).after ≡ state_names text t
  pub rows_defined : definitions text t ≡ definitions text s ++ (number_lines (lines_meant lines) (state_names text s)).definitions
  pub placed : (occurrences : List (Word × ℕ)) → Placed text s occurrences → Placed text t (occurrences ++ lines_occurrences at lines)
  pub valid : Valid text t

pub lines_none : (text : List ℕ) (s : State) (at before : ℕ) → Valid text s → at ≡ length text → LinesRead text s s at before before at []
unfolding lines_bytes number_lines lines_occurrences
lines_none text s at before v e = record {
  lines = [];
  words = each_none WellFormedLine;
  short = each_none ShortLine;
  shallow = each_none ShallowLine;
  spelled = sym (drop_of_length-le text {i = at} (omega arith));
  to_end = e;
  counted = omega arith;
  line_rows = refl;
  after = refl;
  rows_defined = sym (append-nil (definitions text s));
  placed = λ occurrences p. rw append-nil p;
  valid = v;
}

pub lines_more : {text : List ℕ} {s m t : State} {at kind next before count end : ℕ} {rows : List Row} → LineRead text s m at kind next →
    LinesRead text m t next (before + 1) count end rows → LinesRead text s t at before count end (line_row m kind ∷ rows)
unfolding lines_bytes number_lines lines_occurrences
lines_more {text} {s} {m} {at} {kind} {next} {before} l r =
    let names = sym l.after in
    record {
      lines = l.line ∷ r.lines;
      words = each_more WellFormedLine l.words r.words;
      short = each_more ShortLine l.short r.short;
      shallow = each_more ShallowLine l.shallow r.shallow;
      spelled = ap (λ k. line_bytes l.line ++ k) r.spelled ∙ sym l.spelled;
      to_end = r.to_end;
      counted = omega (arith, r.counted);
      line_rows = ap₂ ◌∷◌ l.row (rw names at r.line_rows);
      after = rw names at r.after;
      rows_defined = rw names at r.rows_defined ∙ rw (l.rows, append_assoc, append_assoc);
      placed = λ occurrences p.
          rw (← ends_at text at next (line_bytes l.line) l.later l.inside l.spelled, ← append_assoc)
          (r.placed (occurrences ++ line_occurrences at l.line) (l.placed occurrences p));
      valid = r.valid;
    }

abbrev pub LinesSound : List ℕ → State → ℕ → ℕ → RowsRead → Type 0
LinesSound text s at before read = Gives (λ t count end. LinesRead text s t at before count end read.rows) read.reading

lines_cases : (text : List ℕ) (s : State) (at before : ℕ) (b : Bool) {c d : RowsRead} → (b ≡ true → LinesSound text s at before c) → (b ≡ false → LinesSound text s at before d) →
    LinesSound text s at before (cond b c d)
lines_cases text s at before true f g = f refl
lines_cases text s at before false f g = g refl

onward_sound : (text : List ℕ) (s : State) (at before : ℕ) (r : Ending) (more : State → ℕ → ℕ → RowsRead) (step : Step) → r.step ≡ step →
    ((kind next : ℕ) → r.step ≡ Ok (kind, next) → LineRead text s r.names at kind next) →
    ((kind next : ℕ) → LineRead text s r.names at kind next → LinesSound text r.names next (before + 1) (more r.names kind next)) →
    LinesSound text s at before (onward_lines step r more)
unfolding onward_lines
onward_sound text s at before r more (Ok (kind, next)) e line rest =
    let l = line kind next e in
    record { holds = λ count end h. lines_more l ((rest kind next l).holds count end h) }
onward_sound text s at before r more (Err f) e line rest =
    record { holds = λ count end h. absurd cc }

pub lines_sound : (steps : ℕ) (text : List ℕ) (s : State) (at before : ℕ) → Valid text s → at ≤ length text → length text ≤ at + steps →
    LinesSound text s at before (read_lines steps text s at before)
unfolding read_lines
lines_sound zero text s at before v inside enough = gives_read s before at (lines_none text s at before v (omega arith))
lines_sound (suc steps) text s at before v inside enough = lines_cases text s at before (leb (length text) at)
    (λ h. gives_read s before at (lines_none text s at before v (omega (arith, leb-true (length text) at h))))
    (λ h. onward_sound text s at before (read_line text s at) (λ t kind next. read_lines steps text t next (before + 1)) (read_line text s at).step refl
    (λ kind next e. line_sound text s at kind next v e)
    (λ kind next l. lines_sound steps text (read_line text s at).names next (before + 1) l.valid l.inside (omega (arith, l.later))))
