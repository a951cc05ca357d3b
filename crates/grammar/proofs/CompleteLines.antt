-- Completeness of reading lines: lines that are the text, within the limits, are all read.
-- By induction on the lines; what a line's reading gives is known by soundness, and by the uniqueness of a line with that text.
-- Assumes nothing.
use Prim.Native.Nat.{ℕ, zero, suc, ◌+◌, ◌<◌}
use native.Mathlib.Omega.{arith}
use mathlib.Core.Path.{◌≡◌, refl, sym, ◌∙◌, ap, subst}
use mathlib.Core.Bool.{true, false, cond}
use mathlib.Core.List.Memᴰ
use mathlib.Core.List.{List, [], ◌∷◌, ◌++◌}
use lib.ListN.{length, drop, length-drop}
use lib.Dec.{eqb}
use borrow.Author.Tests.{le-leb, lt-leb}
use Rattle.semantics.specs.Limits.{depth_limit}
use Rattle.semantics.specs.Closure.{Kind}
use Rattle.semantics.specs.Numbering.{number_lines}
use Rattle.semantics.specs.Source.{letter_byte, LineSyntax, concept_bytes, line_bytes, lines_bytes, WellFormedLine, lines_meant, line_feed}
use Rattle.semantics.proofs.Letters.{letter_one, each_letter}
use Rattle.grammar.proofs.NumberingGrows.{lines_grow}
use Rattle.grammar.proofs.SyntaxMeasures.{number_syntax, ShortLine, ShallowLine}
use Rattle.semantics.proofs.Reading.{concept_fresh, line_spread, line_unique}
use Rattle.refusal.specs.declared.Refusal.TheVariants.{SyntaxError}
use Rattle.words.specs.Bytes.{byte_at, class_of, is_line_end}
use Rattle.names.specs.Names.{refuse, read_to, and_then, onward}
use Rattle.concepts.specs.Reader.{read_sides, read_concept}
use Rattle.source.specs.Lines.{line_kind, read_line, onward_lines, read_lines, read_letter}
use Rattle.names.specs.State.{State, Ending}
use Rattle.grammar.specs.StateNames.{state_names}
use Rattle.grammar.proofs.StateNames.{Valid}
use Rattle.grammar.proofs.SoundReader.{reader_sound, line_sound}
use Rattle.grammar.proofs.SoundLines.{EveryLine}
use Rattle.grammar.proofs.CompleteSteps.{PassesOn, passes_read, passes_if, passes_then, passes_gap}
use Rattle.grammar.proofs.BytesAhead.{ahead_inside, ahead_byte, ahead_behind}
use Rattle.grammar.proofs.CompleteWords.{Behind}
use Rattle.grammar.proofs.CompleteReader.{WithinCounts, room_before, SidesFit, sides_passes, reader_complete}

-- ---- a line

pub record LineFits (l : LineSyntax) (text : List ℕ) (s : State) (at : ℕ) (rest : List ℕ) : Type 0 where
  pub words : WellFormedLine l
  pub short : ShortLine l
  pub shallow : ShallowLine l
  pub spelled : drop at text ≡ line_bytes l ++ rest
  pub room : WithinCounts (number_syntax l.right (number_syntax l.left (state_names text s)).after).after
  pub valid : Valid text s

letter_kind : (k : Kind) → eqb (line_kind (letter_byte k)) 0 ≡ false
unfolding line_kind
letter_kind k = each_letter (λ b. eqb (line_kind b) 0 ≡ false) refl refl refl refl k

line_stops : (text rest : List ℕ) (at : ℕ) → drop at text ≡ line_feed ∷ rest → is_line_end (byte_at text at) ≡ true
unfolding class_of
line_stops text rest at e = rw (ahead_byte text at line_feed rest e)

module _ {l : LineSyntax} {text : List ℕ} {s : State} {at : ℕ} {rest : List ℕ} (f : LineFits l text s at rest) where
  sides_ahead : List ℕ
  sides_ahead = concept_bytes l.left ++ (l.middle ++ (concept_bytes l.right ++ (line_feed ∷ rest)))

  line_ahead : drop at text ≡ letter_byte l.kind ∷ (l.front ++ sides_ahead)
  unfolding sides_ahead
  line_ahead = f.spelled ∙ line_spread l rest ∙ ap (λ b. b ++ (l.front ++ sides_ahead)) (letter_one f.words.letter)

  line_inside : at < length text
  line_inside = ahead_inside text at (letter_byte l.kind) (l.front ++ sides_ahead) line_ahead

  line_passes : PassesOn (Behind text rest) (read_line text s at)
  unfolding read_line read_letter onward sides_ahead
  line_passes =
      let C = l.left in
      let D = l.right in
      let kind = line_kind (byte_at text at) in
      let inner = read_concept depth_limit text in
      let second = ahead_behind text at (letter_byte l.kind ∷ []) (l.front ++ sides_ahead) line_ahead in
      let more : State → ℕ → ℕ → Ending = λ t x end. cond (is_line_end (byte_at text end)) (read_to t kind (end + 1)) (refuse t SyntaxError end) in
      let start = at + 1 + length l.front in
      let fits : drop start text ≡ sides_ahead → SidesFit depth_limit C l.middle D text s start (line_feed ∷ rest) = λ there. record {
        words = (f.words.left, f.words.right);
        short = f.short;
        shallow = f.shallow;
        gap = f.words.middle;
        spelled = there;
        stops = refl;
        room = f.room;
        valid = f.valid;
      } in
      let letter : eqb kind 0 ≡ false = rw (ahead_byte text at (letter_byte l.kind) (l.front ++ sides_ahead) line_ahead) (letter_kind l.kind) in
      let fresh = concept_fresh C (l.middle ++ (concept_bytes D ++ (line_feed ∷ rest))) f.words.left in
      rw letter (passes_gap text s (at + 1) l.front sides_ahead (λ start. and_then (read_sides inner text s start 0) more) f.words.front fresh second λ there.
      passes_then (read_sides inner text s start 0) more
      (sides_passes (reader_sound depth_limit text) (reader_complete depth_limit text) C l.middle D s start 0 (line_feed ∷ rest) (fits there)) λ t x end b.
      passes_if (is_line_end (byte_at text end)) (refuse t SyntaxError end) (line_stops text rest end b)
      (passes_read t kind (end + 1) (ahead_behind text end (line_feed ∷ []) rest b)))

-- what is known behind a line that was read
pub record LineDone (l : LineSyntax) (text : List ℕ) (s : State) (rest : List ℕ) (t : State) (kind next : ℕ) : Type 0 where
  pub behind : drop next text ≡ rest
  pub after : (number_syntax l.right (number_syntax l.left (state_names text s)).after).after ≡ state_names text t
  pub valid : Valid text t

pub line_done : {l : LineSyntax} {text : List ℕ} {s : State} {at : ℕ} {rest : List ℕ} → LineFits l text s at rest → PassesOn (LineDone l text s rest) (read_line text s at)
line_done {l} {text} {s} {at} {rest} f =
    let p = line_passes f in
    let r = line_sound text s at p.number p.next f.valid p.read in
    let same : r.line ≡ l = (line_unique r.line l (drop p.next text) rest r.words f.words (sym r.spelled ∙ f.spelled)).0 in
    record {
      number = p.number;
      next = p.next;
      read = p.read;
      holds = record { behind = p.holds; after = rw same at r.after; valid = r.valid };
    }

-- ---- all lines

pub lines_pass : (steps : ℕ) (ls : List LineSyntax) (text : List ℕ) (s : State) (at before : ℕ) →
    EveryLine WellFormedLine ls → EveryLine ShortLine ls → EveryLine ShallowLine ls → drop at text ≡ lines_bytes ls →
    WithinCounts (number_lines (lines_meant ls) (state_names text s)).after → Valid text s →
    PassesOn (λ t count end. Unit {0}) (read_lines steps text s at before).reading
unfolding read_lines onward_lines lines_bytes number_lines
lines_pass zero ls text s at before w h d e r v = passes_read s before at tt
lines_pass (suc steps) [] text s at before w h d e r v =
    rw (le-leb (length text) at (omega (arith, length-drop at text, ap length e))) (passes_read s before at tt)
lines_pass (suc steps) (l ∷ ls) text s at before w h d e r v =
    let n = (number_syntax l.right (number_syntax l.left (state_names text s)).after).after in
    let fits : LineFits l text s at (lines_bytes ls) = record {
      words = w l (Memᴰ.head refl);
      short = h l (Memᴰ.head refl);
      shallow = d l (Memᴰ.head refl);
      spelled = e;
      room = room_before (lines_grow (lines_meant ls) n) r;
      valid = v;
    } in
    let p = line_done fits in
    let q = p.holds in
    rw (lt-leb (length text) at (line_inside fits), p.read)
    (lines_pass steps ls text (read_line text s at).names p.next (before + 1) (λ k i. w k (Memᴰ.tail i)) (λ k i. h k (Memᴰ.tail i)) (λ k i. d k (Memᴰ.tail i))
    q.behind (subst (λ m. WithinCounts (number_lines (lines_meant ls) m).after) q.after r) q.valid)
