-- Where a concept that starts with a sign is read (* - & /), it stands in the text, and it has its number and its rows.
--     Opened        an & with the gap behind it
--     SlashOpened   a / with the role's word and the gap behind it
-- Assumes nothing.
use Prim.Native.Nat.{ℕ, suc, ◌+◌, ◌-◌, ◌<◌, ◌≤◌}
use native.Mathlib.Omega.{arith}
use mathlib.Core.Path.{◌≡◌, refl, sym, ◌∙◌, ap, subst, subst₂}
use mathlib.Core.List.{List, [], ◌∷◌, ◌++◌, append-nil, append_assoc}
use lib.ListN.{length, get_or, drop}
use lib.Seq.{get_or-set_same}
use Rattle.semantics.specs.Concept.{exist}
use Rattle.semantics.specs.Limits.{number_limit}
use Rattle.semantics.specs.Numbering.{number_concept, number_role, place_of, number_taken}
use Rattle.semantics.specs.Row.{in_exist, exist_in}
use Rattle.semantics.specs.Source.{star_byte, dash_byte, ampersand_byte, slash_byte, Word, ConceptSyntax, star, dash, ampersand, slash, concept_meant, concept_bytes, WellFormed}
use Rattle.grammar.proofs.SyntaxMeasures.{number_syntax, syntax_depth, ShortSyntax}
use Rattle.words.specs.Bytes.{byte_at, class_of}
use Rattle.chains.specs.declared.Sort.TheVariants.{Concepts, Roles}
use Rattle.names.specs.Names.{with_left, read_to, and_then, take_number, read_word, sign_taken}
use Rattle.forms.specs.Forms.{sign_form, form_at}
use Rattle.forms.specs.Opened.{after_space, open_conjunction, open_existential, number_form}
use Rattle.source.specs.Lines.{form_rows, definitions_of}
use Rattle.forms.specs.declared.Form.{Form}
use Rattle.std.specs.Prelude.{Option, Some}
use Rattle.forms.specs.declared.Form.TheVariants.{Conjunction, Existential}
use Rattle.refusal.specs.declared.Refusal.TheVariants.{TooManyNumbers}
use Rattle.names.specs.State.{State, next_concept}
use Rattle.grammar.specs.Limits.{depth}
use Rattle.grammar.specs.Occurrences.{concept_occurrences}
use Rattle.grammar.specs.StateNames.{words_to, state_names}
use Rattle.grammar.proofs.StateNames.{Valid}
use Rattle.grammar.proofs.FirstOccurrences.{Placed, placed_same, placed_sign, ends_at}
use Rattle.grammar.proofs.Readings.{Kept, ConceptRead}
use Rattle.grammar.proofs.BytesAt.{byte_inside, byte_here}
use Rattle.grammar.proofs.ValidStates.{listed_start, listed_length, names_sign, valid_sign}
use Rattle.grammar.proofs.AddedRows.{rows_from, added, added_more}
use Rattle.grammar.proofs.ReaderCases.{take_number_cases}
use Rattle.grammar.proofs.SoundSteps.{Gives, gives_refused, gives_read, gives_then, gives_gap}
use Rattle.grammar.proofs.GapReading.{GapHere, gap_next}
use Rattle.grammar.proofs.SoundWords.{kept_refl, kept_listed, kept_rows, RoleRead, role_sound}
use Rattle.grammar.proofs.SoundSides.{KeptBut, kept_trans, kept_left, FillerRead, SidesRead, sides_spelled, sides_left, sides_right, sides_after, sides_rows, sides_kept, sides_placed}

module _ (text : List ℕ) (at : ℕ) where
  -- a byte that stands at the offset, and what follows it
  pub sign_here : {b : ℕ} → byte_at text at ≡ b → 0 < b → drop at text ≡ b ∷ drop (at + 1) text
  sign_here e h = byte_here text at (byte_inside text at (omega arith)) ∙ ap (λ c. c ∷ drop (at + 1) text) e

  pub sign_inside : {b : ℕ} → byte_at text at ≡ b → 0 < b → at + 1 ≤ length text
  sign_inside e h = omega (arith, byte_inside text at (omega arith))

module _ (text : List ℕ) (s : State) (at : ℕ) (v : Valid text s) where
  -- a concept of one byte, which takes no number and has no rows
  byte_sound : (C : ConceptSyntax) {b x allowance : ℕ} → WellFormed C × ShortSyntax C → syntax_depth C ≤ allowance → concept_bytes C ≡ b ∷ [] → concept_occurrences at C ≡ [] →
      number_syntax C (state_names text s) ≡ record { number = x; rows = []; after = state_names text s } → byte_at text at ≡ b → 0 < b → ConceptRead allowance text s s at x (at + 1)
  byte_sound C (words, short) shallow bytes occurrences numbered e some = record {
    concept = C;
    words = words;
    short = short;
    shallow = shallow;
    spelled = rw bytes (sign_here text at e some);
    later = omega arith;
    inside = sign_inside text at e some;
    number = ap (λ m. m.number) numbered;
    after = ap (λ m. m.after) numbered;
    rows = rw (numbered, append-nil);
    kept = kept_refl s;
    placed = λ before p. rw (occurrences, append-nil) p;
    valid = v;
  }

  pub top_sound : (allowance : ℕ) → byte_at text at ≡ star_byte → ConceptRead (suc allowance) text s s at 0 (at + 1)
  unfolding depth concept_bytes number_concept concept_occurrences
  top_sound allowance b = byte_sound star (tt, tt) (omega arith) refl refl refl b (omega arith)

  pub bottom_sound : (allowance : ℕ) → byte_at text at ≡ dash_byte → ConceptRead (suc allowance) text s s at 1 (at + 1)
  unfolding depth concept_bytes number_concept concept_occurrences
  bottom_sound allowance b = byte_sound dash (tt, tt) (omega arith) refl refl refl b (omega arith)

  -- an & with the gap behind it
  pub record Opened (t : State) (x next : ℕ) : Type 0 where
    pub room : next_concept s < number_limit
    pub state : t ≡ sign_taken s at
    pub number : x ≡ next_concept s
    pub behind : GapHere text (at + 1) next

  number_sound : Gives (λ t x next. (next_concept s < number_limit) × (t ≡ sign_taken s at) × (x ≡ next_concept s) × (next ≡ at + 1)) (take_number s at)
  number_sound = take_number_cases (Gives _) s at
      (λ room. gives_read (sign_taken s at) (next_concept s) (at + 1) (room, refl, refl, refl))
      (λ full. gives_refused s TooManyNumbers at)

  pub open_sound : Gives Opened (open_conjunction text s at)
  unfolding open_conjunction
  open_sound =
      gives_then (take_number s at) (λ t x next. after_space text t next λ start. read_to t x start) number_sound λ t x next (room, state, number, behind).
      gives_gap text t next (λ start. read_to t x start) λ start gap.
      gives_read t x start record { room = room; state = state; number = number; behind = subst (λ k. GapHere text k start) behind gap }

  -- the rows of a number that a sign has taken
  sign_rows : (t : State) {f : Option Form} → next_concept s < number_limit → KeptBut (next_concept s) (sign_taken s at) t → form_at text at ≡ f →
      definitions_of text t (next_concept s) ≡ form_rows f (next_concept s) (get_or t.lefts (next_concept s) 0) (get_or t.rights (next_concept s) 0)
  unfolding definitions_of number_form
  sign_rows t room k e =
      let l = s.lists Concepts in
      rw (k.lengths l.used (omega arith), k.starts l.used (omega arith), listed_length l at 0 v.concepts room, listed_start l at 0 v.concepts room, e)

  kept_over : (t : State) → KeptBut (next_concept s) (sign_taken s at) t → Kept s t
  kept_over t k =
      let a = kept_listed s at 0 in
      record {
        more = omega (arith, k.more);
        starts = λ n h. k.starts n (omega arith) ∙ a.starts n h;
        lengths = λ n h. k.lengths n (omega arith) ∙ a.lengths n h;
        lefts = λ n h. k.lefts n (omega arith) (λ e. omega arith);
        rights = λ n h. k.rights n (omega arith) (λ e. omega arith);
      }

  sign_added : (t : State) → KeptBut (next_concept s) (sign_taken s at) t → added text s t ≡ definitions_of text t (next_concept s) ++ added text (sign_taken s at) t
  sign_added t k = added_more text s (sign_taken s at) t refl k.more

  pub conj_sound : {allowance : ℕ} {t : State} {x next : ℕ} → {start : ℕ} → next_concept s < number_limit → byte_at text at ≡ ampersand_byte → GapHere text (at + 1) start →
      SidesRead allowance text (sign_taken s at) t start (next_concept s) x next → ConceptRead (suc allowance) text s t at x next
  unfolding depth concept_bytes number_concept class_of sign_form concept_occurrences
  conj_sound {allowance} {t} {x} {next} {start} room sign gap r =
      let C = r.read.side in
      let D = r.other.read.side in
      let old : next_concept s < next_concept s + 1 = omega arith in
      let form : form_at text at ≡ Some Conjunction = rw sign in
      let names = names_sign text s at v room in
      let k = sides_kept old r in
      let here : at + 1 + length gap.gap ≡ start = sym (gap_next gap) in
      record {
        concept = ampersand gap.gap C r.between.gap D;
        words = (gap.is, r.read.words, r.between.is, r.other.read.words);
        short = (r.read.short, r.other.read.short);
        shallow = omega (arith, r.read.shallow, r.other.read.shallow);
        spelled = rw (sign_here text at sign (omega arith), gap.spelled, sides_spelled old r) (simp append_assoc);
        later = omega (arith, gap.later, r.read.later, r.between.later, r.other.read.later);
        inside = r.other.read.inside;
        number = sym r.other.same_number;
        after = rw names at (sides_after old r);
        rows = kept_rows v (kept_over t k) (sign_added t k ∙ rw (sign_rows t room k form, sides_left old r, sides_right old r, sides_rows old r, names));
        kept = kept_over t k;
        placed = λ occurrences p. rw here (sides_placed old r occurrences (placed_sign text s at occurrences v room p));
        valid = r.other.read.valid;
      }

  -- a /, the role's word and the gap behind it
  pub record SlashOpened (t : State) (x next : ℕ) : Type 0 where
    pub room : next_concept s < number_limit
    pub middle : State
    pub value : ℕ
    pub stop : ℕ
    pub role : RoleRead text (sign_taken s at) middle (at + 1) value stop
    pub gap : GapHere text stop next
    pub state : t ≡ with_left middle (next_concept s) value
    pub number : x ≡ next_concept s

  pub slash_opened : at + 1 ≤ length text → Gives SlashOpened (open_existential text s at)
  unfolding open_existential
  slash_opened inside =
      gives_then (take_number s at)
      (λ t x next. and_then (read_word Roles text t next) λ u role end. after_space text u end λ start. read_to (with_left u x role) x start) number_sound
      λ t x next (room, state, number, behind).
      let w : Valid text t = rw state (valid_sign text s at v room (omega arith)) in
      gives_then (read_word Roles text t next) (λ u role end. after_space text u end λ start. read_to (with_left u x role) x start) (role_sound text t next w)
      λ u value stop role.
      gives_gap text u stop (λ start. read_to (with_left u x value) x start) λ start gap.
      gives_read (with_left u x value) x start record {
        room = room;
        middle = u;
        value = value;
        stop = stop;
        role = subst₂ (λ t next. RoleRead text t u next value stop) state behind role;
        gap = gap;
        state = ap (λ k. with_left u k value) number;
        number = number;
      }

  pub exist_sound : {allowance : ℕ} {t u : State} {x number next end : ℕ} → byte_at text at ≡ slash_byte → (o : SlashOpened t number next) →
      FillerRead allowance text (with_left o.middle (next_concept s) o.value) u next (next_concept s) x end → ConceptRead (suc allowance) text s u at x end
  unfolding depth concept_bytes number_concept class_of sign_form concept_occurrences
  exist_sound {allowance} {u} {x} {next} {end} sign o f =
      let C = f.read.side in
      let w = o.role.role in
      let m = o.middle in
      let form : form_at text at ≡ Some Existential = rw sign in
      let n = with_left m (next_concept s) o.value in
      let c = number_syntax C (state_names text n) in
      let names = sym (names_sign text s at v o.room) in
      let role : number_role w (number_taken (state_names text s)) (place_of w (state_names text s).roles) ≡ (o.value, state_names text n) =
      ap (λ k. number_role w k (place_of w k.roles)) names ∙ o.role.number in
      let numbered : number_concept (exist w (concept_meant C)) (state_names text s) ≡
      record { number = next_concept s; rows = in_exist (next_concept s) o.value c.number ∷ exist_in o.value c.number (next_concept s) ∷ c.rows; after = c.after } =
      ap (λ r. let c = number_syntax C r.1 in
      record { number = next_concept s; rows = in_exist (next_concept s) r.0 c.number ∷ exist_in r.0 c.number (next_concept s) ∷ c.rows; after = c.after }) role in
      let k : KeptBut (next_concept s) (sign_taken s at) u = kept_trans (kept_slash o) (kept_trans (kept_left m (next_concept s) o.value) f.read.kept) in
      let value : get_or n.lefts (next_concept s) 0 ≡ o.value =
      get_or-set_same m.lefts (next_concept s) o.value 0 (omega (arith, o.role.valid.lefts_size, o.room)) in
      let same : added text (sign_taken s at) u ≡ added text n u = ap (λ l. rows_from text u l.used (next_concept u - l.used)) (sym o.role.concepts) in
      let b = o.role.spelling in
      let stop : o.stop ≡ at + 1 + length b = ends_at text (at + 1) o.stop b o.role.later o.role.inside o.role.spelled in
      let start : at + 1 + length b + length o.gap.gap ≡ next = omega (arith, gap_next o.gap) in
      record {
        concept = slash w b o.gap.gap C;
        words = (o.role.word, o.gap.is, f.read.words);
        short = (o.role.short, f.read.short);
        shallow = omega (arith, f.read.shallow);
        spelled = rw (sign_here text at sign (omega arith), o.role.spelled, o.gap.spelled, f.read.spelled) (simp append_assoc);
        later = omega (arith, o.role.later, o.gap.later, f.read.later);
        inside = f.read.inside;
        number = sym f.same_number;
        after = ap (λ m. m.after) numbered ∙ f.read.after;
        rows = kept_rows v (kept_over u k)
            (sign_added u k ∙ rw (sign_rows u o.room k form, f.left, value, f.right, ← f.read.value, same, f.read.rows) (ap (λ m. m.rows) (sym numbered)));
        kept = kept_over u k;
        placed = λ occurrences p. rw start (f.read.placed occurrences (placed_slash o occurrences p));
        valid = f.read.valid;
      }
    where
      kept_slash : {t : State} {number next : ℕ} (o : SlashOpened t number next) → KeptBut (next_concept s) (sign_taken s at) o.middle
      kept_slash o = record {
        more = omega (arith, ap (λ l. l.used) o.role.concepts);
        starts = λ n h. ap (λ l. get_or l.starts n 0) o.role.concepts;
        lengths = λ n h. ap (λ l. get_or l.lengths n 0) o.role.concepts;
        lefts = λ n h d. ap (λ l. get_or l n 0) o.role.lefts;
        rights = λ n h d. ap (λ l. get_or l n 0) o.role.rights;
      }

      placed_slash : {t : State} {number next : ℕ} (o : SlashOpened t number next) (occurrences : List (Word × ℕ)) → Placed text s occurrences →
          Placed text (with_left o.middle (next_concept s) o.value) occurrences
      placed_slash o occurrences p =
          placed_same text (sign_taken s at) occurrences (placed_sign text s at occurrences v o.room p) (with_left o.middle (next_concept s) o.value)
          (ap (λ l. words_to text l l.used) o.role.concepts)
          (λ n l h. (omega (arith, ap (λ l. l.used) o.role.concepts), ap (λ l. get_or l.starts n 0) o.role.concepts, ap (λ l. get_or l.lengths n 0) o.role.concepts))
