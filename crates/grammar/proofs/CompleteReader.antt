-- Completeness of reading a concept: one that stands in the text, within the limits, is read.
--     ConceptFits, SidesFit   a concept, or two with a gap between, that can be read at an offset
-- By induction on the allowance. What a part's reading gives is known by soundness, and by the uniqueness of a concept with that text.
-- Assumes nothing.
use Prim.Native.Nat.{ℕ, zero, suc, ◌+◌, ◌<◌, ◌≤◌}
use native.Mathlib.Omega.{arith}
use mathlib.Core.Path.{◌≡◌, sym, ◌∙◌, ap, subst}
use mathlib.Core.List.{List, [], ◌∷◌, ◌++◌, append_assoc}
use lib.ListN.{length, drop}
use Rattle.semantics.specs.Limits.{number_limit, role_limit}
use Rattle.semantics.specs.Numbering.{Names, number_concept, number_role, place_of, number_taken}
use Rattle.semantics.specs.Source.{star_byte, dash_byte, ampersand_byte, slash_byte, Word, Gap, ConceptSyntax, star, dash, word, ampersand, slash, concept_bytes, WellFormed}
use Rattle.semantics.proofs.Spelling.{Stops}
use Rattle.semantics.proofs.Gaps.{Unspaced, gap_stops}
use Rattle.grammar.proofs.SyntaxMeasures.{number_syntax, syntax_depth, ShortSyntax, syntax_grows}
use Rattle.semantics.proofs.Reading.{concept_fresh, concept_unique}
use Rattle.chains.specs.declared.Sort.TheVariants.{Roles}
use Rattle.names.specs.Names.{with_left, with_right, read_to, onward, and_then, read_word, sign_taken}
use Rattle.forms.specs.Opened.{after_space, open_conjunction, open_existential}
use Rattle.concepts.specs.Reader.{read_sides, read_filler, read_form, read_concept}
use Rattle.names.specs.State.{State, Ending, next_concept}
use Rattle.grammar.specs.Limits.{depth}
use Rattle.grammar.specs.StateNames.{state_names}
use Rattle.grammar.proofs.StateNames.{Valid}
use Rattle.grammar.proofs.Readings.{ConceptRead}
use Rattle.grammar.proofs.GapReading.{gap_ahead}
use Rattle.grammar.proofs.ValidStates.{names_sign, valid_sign, valid_left}
use Rattle.grammar.proofs.SoundSides.{Reader, ReaderSound}
use Rattle.grammar.proofs.SoundReader.{reader_sound}
use Rattle.grammar.proofs.NumberingGrows.{Grows, grows_trans, role_grows}
use Rattle.grammar.proofs.CompleteSteps.{PassesOn, passes_read, passes_then, passes_gap, takes_number, passes_gives}
use Rattle.grammar.proofs.BytesAhead.{ahead_inside, ahead_behind, form_of, ahead_form}
use Rattle.grammar.proofs.CompleteWords.{Behind, word_passes, role_done}

-- what is read comes to a count of numbers and of roles that there can be
pub record WithinCounts (n : Names) : Type 0 where
  pub numbers : n.next ≤ number_limit
  pub roles : length n.roles ≤ role_limit

pub room_before : {n m : Names} → Grows n m → WithinCounts m → WithinCounts n
room_before {n} {m} g r = record { numbers = omega (arith, g.next, r.numbers); roles = omega (arith, g.roles, r.roles) }

pub record ConceptFits (allowance : ℕ) (C : ConceptSyntax) (text : List ℕ) (s : State) (at : ℕ) (rest : List ℕ) : Type 0 where
  pub words : WellFormed C
  pub short : ShortSyntax C
  pub shallow : syntax_depth C ≤ allowance
  pub spelled : drop at text ≡ concept_bytes C ++ rest
  pub stops : Stops rest
  pub room : WithinCounts (number_syntax C (state_names text s)).after
  pub valid : Valid text s

pub record ReaderComplete (allowance : ℕ) (text : List ℕ) (inner : Reader) : Type 0 where
  pub passes : (C : ConceptSyntax) (s : State) (at : ℕ) (rest : List ℕ) → ConceptFits allowance C text s at rest → PassesOn (Behind text rest) (inner s at)

-- what is known behind a concept that was read
pub record Done (C : ConceptSyntax) (text : List ℕ) (s : State) (rest : List ℕ) (t : State) (x next : ℕ) : Type 0 where
  pub behind : drop next text ≡ rest
  pub after : (number_syntax C (state_names text s)).after ≡ state_names text t
  pub valid : Valid text t

module _ {allowance : ℕ} {text : List ℕ} {inner : Reader} (sound : ReaderSound allowance text inner) (complete : ReaderComplete allowance text inner) where
  concept_same : {C : ConceptSyntax} {s t : State} {at x next : ℕ} {rest : List ℕ} → ConceptFits allowance C text s at rest → drop next text ≡ rest →
      (c : ConceptRead allowance text s t at x next) → c.concept ≡ C
  concept_same {C} {next} {rest} f b c =
      (concept_unique c.concept C (drop next text) rest c.words f.words (subst Stops (sym b) f.stops) f.stops (sym c.spelled ∙ f.spelled)).0

  pub reader_done : {C : ConceptSyntax} {s : State} {at : ℕ} {rest : List ℕ} → ConceptFits allowance C text s at rest → PassesOn (Done C text s rest) (inner s at)
  reader_done {C} {s} {at} {rest} f =
      let p = passes_gives (sound.reads s at f.valid) (complete.passes C s at rest f) in
      let c = p.holds.1 in
      let same = concept_same f p.holds.0 c in
      record {
        number = p.number;
        next = p.next;
        read = p.read;
        holds = record { behind = p.holds.0; after = rw same at c.after; valid = c.valid };
      }

  filler_passes : (C : ConceptSyntax) (s : State) (at number : ℕ) (rest : List ℕ) → ConceptFits allowance C text s at rest →
      PassesOn (Behind text rest) (read_filler inner s at number)
  unfolding read_filler
  filler_passes C s at number rest f =
      passes_then (inner s at) (λ t x next. read_to (with_right t number x) number next) (complete.passes C s at rest f) λ t x next b.
      passes_read (with_right t number x) number next b

-- ---- two sides

pub record SidesFit (allowance : ℕ) (C : ConceptSyntax) (g : List ℕ) (D : ConceptSyntax) (text : List ℕ) (s : State) (at : ℕ) (rest : List ℕ) : Type 0 where
  pub words : WellFormed C × WellFormed D
  pub short : ShortSyntax C × ShortSyntax D
  pub shallow : (syntax_depth C ≤ allowance) × (syntax_depth D ≤ allowance)
  pub gap : Gap g
  pub spelled : drop at text ≡ concept_bytes C ++ (g ++ (concept_bytes D ++ rest))
  pub stops : Stops rest
  pub room : WithinCounts (number_syntax D (number_syntax C (state_names text s)).after).after
  pub valid : Valid text s

module _ {allowance : ℕ} {C D : ConceptSyntax} {g text : List ℕ} {s : State} {at : ℕ} {rest : List ℕ} (f : SidesFit allowance C g D text s at rest) where
  left_fits : ConceptFits allowance C text s at (g ++ (concept_bytes D ++ rest))
  left_fits = record {
    words = f.words.0;
    short = f.short.0;
    shallow = f.shallow.0;
    spelled = f.spelled;
    stops = gap_stops f.gap (concept_bytes D ++ rest);
    room = room_before (syntax_grows D (number_syntax C (state_names text s)).after) f.room;
    valid = f.valid;
  }

  right_fits : {m : State} {l stop start : ℕ} (number : ℕ) → Done C text s (g ++ (concept_bytes D ++ rest)) m l stop → drop start text ≡ concept_bytes D ++ rest →
      ConceptFits allowance D text (with_left m number l) start rest
  right_fits {m} {l} number d behind =
      let names : (number_syntax C (state_names text s)).after ≡ state_names text (with_left m number l) = d.after in
      record {
        words = f.words.1;
        short = f.short.1;
        shallow = f.shallow.1;
        spelled = behind;
        stops = f.stops;
        room = subst (λ n. WithinCounts (number_syntax D n).after) names f.room;
        valid = valid_left number l d.valid;
      }

pub sides_passes : {allowance : ℕ} {text : List ℕ} {inner : Reader} → ReaderSound allowance text inner → ReaderComplete allowance text inner →
    (C : ConceptSyntax) (g : List ℕ) (D : ConceptSyntax) (s : State) (at number : ℕ) (rest : List ℕ) → SidesFit allowance C g D text s at rest →
    PassesOn (Behind text rest) (read_sides inner text s at number)
unfolding read_sides read_filler
sides_passes {allowance} {text} {inner} sound complete C g D s at number rest f =
    passes_then (inner s at) (λ m l stop. after_space text m stop λ start. read_filler inner (with_left m number l) start number)
    (reader_done sound complete (left_fits f)) λ m l stop d.
    passes_gap text m stop g (concept_bytes D ++ rest) (λ start. read_filler inner (with_left m number l) start number) f.gap (concept_fresh D rest f.words.1) d.behind λ behind.
    filler_passes sound complete D (with_left m number l) (stop + length g) number rest (right_fits f number d behind)

-- ---- signs

opens : (text : List ℕ) (s : State) (at : ℕ) (g rest : List ℕ) → next_concept s < number_limit → Gap g → Unspaced rest → drop (at + 1) text ≡ g ++ rest →
    open_conjunction text s at ≡ read_to (sign_taken s at) (next_concept s) (at + 1 + length g)
unfolding open_conjunction after_space onward
opens text s at g rest room h f e = rw (takes_number s at room, gap_ahead text (at + 1) g rest h f e)

module _ {allowance : ℕ} {text : List ℕ} {inner : Reader} (sound : ReaderSound allowance text inner) (complete : ReaderComplete allowance text inner)
    (s : State) (at : ℕ) (rest : List ℕ) where
  conj_passes : (g : List ℕ) (C : ConceptSyntax) (h : List ℕ) (D : ConceptSyntax) → ConceptFits (suc allowance) (ampersand g C h D) text s at rest →
      PassesOn (Behind text rest) (and_then (open_conjunction text s at) λ t x next. read_sides inner text t next x)
  unfolding concept_bytes depth number_concept onward
  conj_passes g C h D f =
      let ahead = concept_bytes C ++ (h ++ (concept_bytes D ++ rest)) in
      let spelled : drop at text ≡ ampersand_byte ∷ (g ++ ahead) = f.spelled ∙ simp append_assoc in
      let first = ahead_behind text at (ampersand_byte ∷ []) (g ++ ahead) spelled in
      let n = number_taken (state_names text s) in
      let grows = grows_trans (syntax_grows C n) (syntax_grows D (number_syntax C n).after) in
      let room : next_concept s < number_limit = omega (arith, grows.next, f.room.numbers) in
      let names : n ≡ state_names text (sign_taken s at) = sym (names_sign text s at f.valid room) in
      let fits : SidesFit allowance C h D text (sign_taken s at) (at + 1 + length g) rest = record {
        words = (f.words.1, f.words.3);
        short = f.short;
        shallow = (omega (arith, f.shallow), omega (arith, f.shallow));
        gap = f.words.2;
        spelled = ahead_behind text (at + 1) g ahead first;
        stops = f.stops;
        room = subst (λ n. WithinCounts (number_syntax D (number_syntax C n).after).after) names f.room;
        valid = valid_sign text s at f.valid room (omega (arith, ahead_inside text at ampersand_byte (g ++ ahead) spelled));
      } in
      rw (opens text s at g ahead room f.words.0 (concept_fresh C (h ++ (concept_bytes D ++ rest)) f.words.1) first)
      (sides_passes sound complete C h D (sign_taken s at) (at + 1 + length g) (next_concept s) rest fits)

  exist_passes : (w : Word) (b g : List ℕ) (C : ConceptSyntax) → ConceptFits (suc allowance) (slash w b g C) text s at rest →
      PassesOn (Behind text rest) (and_then (open_existential text s at) λ t x next. read_filler inner t next x)
  unfolding concept_bytes depth number_concept open_existential onward
  exist_passes w b g C f =
      let ahead = concept_bytes C ++ rest in
      let spelled : drop at text ≡ slash_byte ∷ (b ++ (g ++ ahead)) = f.spelled ∙ simp append_assoc in
      let inside = ahead_inside text at slash_byte (b ++ (g ++ ahead)) spelled in
      let n = number_taken (state_names text s) in
      let t = sign_taken s at in
      let r = number_role w n (place_of w (state_names text s).roles) in
      let grows = role_grows w n (place_of w (state_names text s).roles) in
      let later = syntax_grows C r.1 in
      let room : next_concept s < number_limit = omega (arith, grows.next, later.next, f.room.numbers) in
      let names : n ≡ state_names text t = sym (names_sign text s at f.valid room) in
      let same : r ≡ number_role w (state_names text t) (place_of w (state_names text t).roles) = ap (λ k. number_role w k (place_of w k.roles)) names in
      let fits = (room_before later f.room).roles in
      let valid = valid_sign text s at f.valid room (omega arith) in
      let role = role_done text t (at + 1) b (g ++ ahead) valid f.words.0 f.short.0 (gap_stops f.words.1 ahead)
      (ahead_behind text at (slash_byte ∷ []) (b ++ (g ++ ahead)) spelled) (subst (λ k. length k.1.roles ≤ role_limit) same fits) in
      let more : State → ℕ → ℕ → Ending = λ u value stop. after_space text u stop λ start. read_to (with_left u (next_concept s) value) (next_concept s) start in
      let opened : PassesOn (λ u x next. ConceptFits allowance C text u next rest) (and_then (read_word Roles text t (at + 1)) more) =
      passes_then (read_word Roles text t (at + 1)) more role λ u value stop (behind, v, q).
      passes_gap text u stop g ahead (λ start. read_to (with_left u (next_concept s) value) (next_concept s) start) f.words.1 (concept_fresh C rest f.words.2) behind λ there.
      passes_read (with_left u (next_concept s) value) (next_concept s) (stop + length g) record {
        words = f.words.2;
        short = f.short.1;
        shallow = omega (arith, f.shallow);
        spelled = there;
        stops = f.stops;
        room = subst (λ k. WithinCounts (number_syntax C k).after) (ap (λ k. k.1) (same ∙ q)) f.room;
        valid = valid_left (next_concept s) value v;
      } in
      rw (takes_number s at room)
      (passes_then (and_then (read_word Roles text t (at + 1)) more) (λ u x next. read_filler inner u next x) opened λ u x next fits. filler_passes sound complete C u next x rest fits)

-- ---- concepts

depth_some : (C : ConceptSyntax) → 0 < syntax_depth C
unfolding depth
depth_some star = omega arith
depth_some dash = omega arith
depth_some (word w b) = omega arith
depth_some (ampersand g C h D) = omega arith
depth_some (slash w b g C) = omega arith

form_passes : {allowance : ℕ} {text : List ℕ} {inner : Reader} → ReaderSound allowance text inner → ReaderComplete allowance text inner →
    (C : ConceptSyntax) (s : State) (at : ℕ) (rest : List ℕ) → ConceptFits (suc allowance) C text s at rest → PassesOn (Behind text rest) (read_form (form_of C) inner text s at)
unfolding read_form concept_bytes
form_passes {text} sound complete star s at rest f = passes_read s 0 (at + 1) (ahead_behind text at (star_byte ∷ []) rest f.spelled)
form_passes {text} sound complete dash s at rest f = passes_read s 1 (at + 1) (ahead_behind text at (dash_byte ∷ []) rest f.spelled)
form_passes {text} sound complete (word w b) s at rest f = word_passes text s at b rest f.valid f.words f.short f.stops f.spelled f.room.numbers
form_passes sound complete (ampersand g C h D) s at rest f = conj_passes sound complete s at rest g C h D f
form_passes sound complete (slash w b g C) s at rest f = exist_passes sound complete s at rest w b g C f

pub reader_complete : (allowance : ℕ) (text : List ℕ) → ReaderComplete allowance text (read_concept allowance text)
unfolding read_concept
reader_complete zero text = record { passes = λ C s at rest f. absurd (omega (arith, depth_some C, f.shallow)) }
reader_complete (suc allowance) text = record {
  passes = λ C s at rest f. rw (ahead_form text at C rest f.words f.spelled)
      (form_passes (reader_sound allowance text) (reader_complete allowance text) C s at rest f);
}
