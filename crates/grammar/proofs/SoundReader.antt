-- Soundness of reading: where a concept or a line is not refused, it stands in the text, it is within the limits, and it has its numbers and its rows.
-- By induction on the allowance, and by what a concept starts with.
-- Assumes nothing.
use Prim.Native.Nat.{ℕ, zero, suc, ◌+◌, ◌<◌}
use native.Mathlib.Omega.{arith}
use mathlib.Core.Path.{◌≡◌, refl, sym, ap, subst₂}
use mathlib.Core.Bool.{false, cond, true≢false}
use mathlib.Core.List.{List, [], ◌∷◌}
use lib.ListN.{length, get_or, drop}
use Rattle.semantics.proofs.Reading.{line_spread}
use lib.Dec.{eqb}
use borrow.Author.Tests.{eqb-true}
use Rattle.semantics.specs.Limits.{depth_limit}
use Rattle.semantics.specs.Closure.{Kind, strict, defeasible, query, strict_query}
use Rattle.semantics.specs.Source.{Letter, LineSyntax, line_feed, letter_byte}
use Rattle.semantics.specs.Row.{simple}
use Rattle.semantics.specs.Decoding.{kind_numbered}
use Rattle.semantics.proofs.Letters.{letter_plain}
use Rattle.semantics.proofs.Tests.{cases}
use Rattle.refusal.specs.declared.Refusal.TheVariants.{SyntaxError}
use Rattle.words.specs.Bytes.{byte_at, is_line_end}
use Rattle.names.specs.Names.{refuse, read_to, and_then, onward}
use Rattle.forms.specs.Forms.{form_at}
use Rattle.forms.specs.Opened.{open_conjunction, open_existential}
use Rattle.concepts.specs.Reader.{too_deep, read_sides, read_filler, read_form, read_concept}
use Rattle.source.specs.Lines.{line_kind, read_line, read_letter}
use Rattle.forms.specs.declared.Form.{Form}
use Rattle.std.specs.Prelude.{Option, Some, None}
use Rattle.forms.specs.declared.Form.TheVariants.{Top, Bottom, Name, Conjunction, Existential}
use Rattle.names.specs.State.{State, Ending, next_concept}
use Rattle.grammar.proofs.StateNames.{Valid}
use Rattle.grammar.proofs.Readings.{ConceptRead, ConceptSound, LineRead, LineSound}
use Rattle.grammar.proofs.BytesAt.{byte_here, line_end_class, word_starts, FormByte, form_byte}
use Rattle.grammar.proofs.ValidStates.{valid_sign, valid_left}
use Rattle.grammar.proofs.AddedRows.{definitions_added}
use Rattle.grammar.proofs.SoundSteps.{Gives, gives_refused, gives_read, gives_cond, gives_then, gives_gap}
use Rattle.grammar.proofs.GapReading.{GapHere, gap_next}
use Rattle.grammar.proofs.SoundWords.{word_sound}
use Rattle.grammar.proofs.SoundSides.{but_same, Reader, ReaderSound, FillerRead, SidesRead, filler_sound, sides_sound}
use Rattle.grammar.proofs.SoundSides.{sides_spelled, sides_left, sides_right, sides_after, sides_rows, sides_kept, sides_placed}
use Rattle.grammar.proofs.SoundSigns.{sign_here, sign_inside, top_sound, bottom_sound, open_sound, conj_sound, slash_opened, exist_sound}

-- ---- concepts

module _ (allowance : ℕ) (text : List ℕ) (inner : Reader) (sound : ReaderSound allowance text inner) (s : State) (at : ℕ) (v : Valid text s) where
  form_sound : (form : Option Form) → FormByte form (byte_at text at) → Gives (λ t x next. ConceptRead (suc allowance) text s t at x next) (read_form form inner text s at)
  unfolding read_form
  form_sound (Some Top) b = gives_read s 0 (at + 1) (top_sound text s at v allowance b)
  form_sound (Some Bottom) b = gives_read s 1 (at + 1) (bottom_sound text s at v allowance b)
  form_sound (Some Name) b = word_sound text s at v (word_starts text at b) allowance
  form_sound (Some Conjunction) b =
      gives_then (open_conjunction text s at) (λ t x next. read_sides inner text t next x) (open_sound text s at v) λ t x next o.
      let w : Valid text t = rw o.state (valid_sign text s at v o.room (omega (arith, sign_inside text at b (omega arith)))) in
      let r = sides_sound sound x t next w (rw (o.state, o.number) (omega arith)) in
      let end = (read_sides inner text t next x).names in
      record {
        holds = λ y to h. conj_sound text s at v o.room b o.behind
            (subst₂ (λ t x. SidesRead allowance text t end next x y to) o.state o.number (r.holds y to h));
      }
  form_sound (Some Existential) b =
      gives_then (open_existential text s at) (λ t x next. read_filler inner t next x) (slash_opened text s at v (sign_inside text at b (omega arith))) λ t x next o.
      let w : Valid text t = rw o.state (valid_left (next_concept s) o.value o.role.valid) in
      let f = filler_sound sound x t next w (rw (o.state, o.number) (omega (arith, ap (λ l. l.used) o.role.concepts))) in
      let end = (read_filler inner t next x).names in
      record {
        holds = λ y to h. exist_sound text s at v b o
            (subst₂ (λ t x. FillerRead allowance text t end next x y to) o.state o.number (f.holds y to h));
      }
  form_sound None b = gives_refused s SyntaxError at

pub reader_sound : (allowance : ℕ) (text : List ℕ) → ReaderSound allowance text (read_concept allowance text)
unfolding read_concept
reader_sound zero text = record { reads = λ s at v. gives_refused s (too_deep (form_at text at)) at }
reader_sound (suc allowance) text = record {
  reads = λ s at v.
      form_sound allowance text (read_concept allowance text) (reader_sound allowance text) s at v (form_at text at) (form_byte text at);
}

pub concept_sound : ConceptSound
concept_sound allowance text s at x next v e = ((reader_sound allowance text).reads s at v).holds x next e

-- ---- lines

-- what the letter of a line says: the kind of its row
pub record Lettered (b : ℕ) : Type 0 where
  pub kind : Kind
  pub is : Letter kind (b ∷ [])
  pub numbered : kind_numbered (line_kind b) ≡ kind

pub lettered : (b : ℕ) → eqb (line_kind b) 0 ≡ false → Lettered b
unfolding line_kind kind_numbered
lettered b h =
    cases (eqb b (letter_byte strict)) (λ p. rw (eqb-true b (letter_byte strict) p) record { kind = strict; is = letter_plain strict; numbered = refl }) λ p.
    cases (eqb b (letter_byte defeasible)) (λ q. rw (eqb-true b (letter_byte defeasible) q) record { kind = defeasible; is = letter_plain defeasible; numbered = refl }) λ q.
    cases (eqb b (letter_byte query)) (λ r. rw (eqb-true b (letter_byte query) r) record { kind = query; is = letter_plain query; numbered = refl }) λ r.
    cases (eqb b (letter_byte strict_query)) (λ t. rw (eqb-true b (letter_byte strict_query) t) record { kind = strict_query; is = letter_plain strict_query; numbered = refl }) λ t.
    absurd (true≢false (rw (p, q, r, t) at h))

module _ (text : List ℕ) (s : State) (at : ℕ) (v : Valid text s) where
  sides_line : {t : State} {x start next : ℕ} → eqb (line_kind (byte_at text at)) 0 ≡ false → GapHere text (at + 1) start → byte_at text next ≡ line_feed →
      SidesRead depth_limit text s t start 0 x next → LineRead text s t at (line_kind (byte_at text at)) (next + 1)
  sides_line {t} {x} {start} {next} kind gap stop r =
      let L = lettered (byte_at text at) kind in
      let C = r.read.side in
      let D = r.other.read.side in
      let old : 0 < next_concept s = omega (arith, v.least) in
      let k = sides_kept old r in
      let here : at + 1 + length gap.gap ≡ start = sym (gap_next gap) in
      let e : LineSyntax = record { kind = L.kind; letter = byte_at text at ∷ []; front = gap.gap; left = C; middle = r.between.gap; right = D } in
      record {
        line = e;
        words = record { letter = L.is; front = gap.is; left = r.read.words; middle = r.between.is; right = r.other.read.words };
        short = (r.read.short, r.other.read.short);
        shallow = (r.read.shallow, r.other.read.shallow);
        spelled = rw (
          line_spread e (drop (next + 1) text),
          byte_here text at (omega (arith, gap.later, gap.inside)),
          gap.spelled,
          sides_spelled old r,
          sign_here text next stop (omega arith),
        );
        later = omega (arith, gap.later, r.read.later, r.between.later, r.other.read.later);
        inside = sign_inside text next stop (omega arith);
        row = rw (← sides_left old r, ← sides_right old r) (ap (λ k. simple k (get_or t.lefts 0 0) (get_or t.rights 0 0)) L.numbered);
        after = sides_after old r;
        rows = rw (← sides_rows old r) (definitions_added text s t v.least k.more (λ n a b. but_same k n b (λ e. omega arith)));
        placed = λ occurrences p. rw here (sides_placed old r occurrences p);
        valid = r.other.read.valid;
      }

  reads_line : Gives (λ t kind next. LineRead text s t at kind next) (read_line text s at)
  unfolding read_line read_letter onward
  reads_line =
      let kind = line_kind (byte_at text at) in
      let inner = read_concept depth_limit text in
      let more : State → ℕ → ℕ → Ending = λ t x end. cond (is_line_end (byte_at text end)) (read_to t kind (end + 1)) (refuse t SyntaxError end) in
      cases (eqb kind 0) (λ h. rw h (gives_refused s SyntaxError at)) λ h. rw h
      (gives_gap text s (at + 1) (λ start. and_then (read_sides inner text s start 0) more) λ start gap.
      gives_then (read_sides inner text s start 0) more (sides_sound (reader_sound depth_limit text) 0 s start v (omega (arith, v.least))) λ t x end r.
      gives_cond (is_line_end (byte_at text end))
      (λ stop. gives_read t kind (end + 1) (sides_line h gap (line_end_class (byte_at text end) stop) r))
      (λ stop. gives_refused t SyntaxError end))

pub line_sound : LineSound
line_sound text s at kind next v e = (reads_line text s at v).holds kind next e
