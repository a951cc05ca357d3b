-- Where the two sides of a line or of an & are read, or the side of a /, they are concepts of the text with their numbers.
-- The number whose sides they are is an old one, so that its left and its right are all that changes for the old numbers.
-- Assumes nothing.
use Prim.Native.Nat.{ℕ, ◌+◌, ◌<◌, ◌≤◌}
use native.Mathlib.Omega.{arith}
use mathlib.Core.Path.{◌≡◌, refl, sym, ◌∙◌, ap, ap₂}
use mathlib.Core.List.{List, ◌++◌, append_assoc, append_cancel_left}
use lib.ListN.{length, get_or, drop}
use lib.Seq.{get_or-set_same, get_or-set_other}
use Rattle.semantics.specs.Source.{Word, ConceptSyntax, concept_bytes, WellFormed}
use Rattle.grammar.proofs.SyntaxMeasures.{number_syntax, syntax_depth, ShortSyntax}
use Rattle.chains.specs.declared.Sort.TheVariants.{Concepts}
use Rattle.names.specs.Names.{read_to, with_left, with_right}
use Rattle.forms.specs.Opened.{after_space}
use Rattle.concepts.specs.Reader.{read_sides, read_filler}
use Rattle.source.specs.Lines.{definitions}
use Rattle.names.specs.State.{State, Ending, next_concept}
use Rattle.grammar.specs.Occurrences.{concept_occurrences}
use Rattle.grammar.specs.StateNames.{state_names}
use Rattle.grammar.proofs.StateNames.{Valid}
use Rattle.grammar.proofs.FirstOccurrences.{Placed, placed_same, ends_at}
use Rattle.grammar.proofs.Readings.{Kept, ConceptRead}
use Rattle.grammar.proofs.GapReading.{GapHere, gap_next}
use Rattle.grammar.proofs.ValidStates.{valid_left, valid_right}
use Rattle.grammar.proofs.AddedRows.{SameAt, same_left, same_right, added, added_trans, added_same, definitions_added}
use Rattle.grammar.proofs.SoundWords.{kept_same}
use Rattle.grammar.proofs.SoundSteps.{Gives, gives_read, gives_then, gives_gap}

-- ---- what is kept but the sides of one number

pub record KeptBut (k : ℕ) (s t : State) : Type 0 where
  pub more : next_concept s ≤ next_concept t
  pub starts : (n : ℕ) → n < next_concept s → get_or (t.lists Concepts).starts n 0 ≡ get_or (s.lists Concepts).starts n 0
  pub lengths : (n : ℕ) → n < next_concept s → get_or (t.lists Concepts).lengths n 0 ≡ get_or (s.lists Concepts).lengths n 0
  pub lefts : (n : ℕ) → n < next_concept s → (n ≡ k → ⊥) → get_or t.lefts n 0 ≡ get_or s.lefts n 0
  pub rights : (n : ℕ) → n < next_concept s → (n ≡ k → ⊥) → get_or t.rights n 0 ≡ get_or s.rights n 0

pub kept_but : {s t : State} (k : ℕ) → Kept s t → KeptBut k s t
kept_but k h = record { more = h.more; starts = h.starts; lengths = h.lengths; lefts = λ n l d. h.lefts n l; rights = λ n l d. h.rights n l }

pub but_same : {k : ℕ} {s t : State} → KeptBut k s t → (n : ℕ) → n < next_concept s → (n ≡ k → ⊥) → SameAt s t n
but_same h n l d = record { starts = h.starts n l; lengths = h.lengths n l; lefts = h.lefts n l d; rights = h.rights n l d }

pub kept_trans : {k : ℕ} {s t u : State} → KeptBut k s t → KeptBut k t u → KeptBut k s u
kept_trans {k} {s} {t} {u} a b = record {
  more = omega (arith, a.more, b.more);
  starts = λ n l. b.starts n (omega (arith, a.more)) ∙ a.starts n l;
  lengths = λ n l. b.lengths n (omega (arith, a.more)) ∙ a.lengths n l;
  lefts = λ n l d. b.lefts n (omega (arith, a.more)) d ∙ a.lefts n l d;
  rights = λ n l d. b.rights n (omega (arith, a.more)) d ∙ a.rights n l d;
}

pub kept_left : (s : State) (k side : ℕ) → KeptBut k s (with_left s k side)
kept_left s k side = record {
  more = omega arith;
  starts = λ n l. refl;
  lengths = λ n l. refl;
  lefts = λ n l d. get_or-set_other s.lefts k n side 0 d;
  rights = λ n l d. refl;
}

pub kept_right : (s : State) (k side : ℕ) → KeptBut k s (with_right s k side)
kept_right s k side = record {
  more = omega arith;
  starts = λ n l. refl;
  lengths = λ n l. refl;
  lefts = λ n l d. refl;
  rights = λ n l d. get_or-set_other s.rights k n side 0 d;
}

-- the rows that a concept adds
pub concept_added : {allowance : ℕ} {text : List ℕ} {s t : State} {at x next : ℕ} → Valid text s → (c : ConceptRead allowance text s t at x next) →
    added text s t ≡ (number_syntax c.concept (state_names text s)).rows
concept_added {text} {s} {t} v c =
    append_cancel_left (definitions text s) (added text s t) (number_syntax c.concept (state_names text s)).rows
    (sym (definitions_added text s t v.least c.kept.more (λ n a b. kept_same c.kept n b)) ∙ c.rows)

-- ---- a side, which is then kept as the left or the right of the number

pub record SideRead (allowance : ℕ) (text : List ℕ) (s t : State) (at number x next : ℕ) : Type 0 where
  pub side : ConceptSyntax
  pub words : WellFormed side
  pub short : ShortSyntax side
  pub shallow : syntax_depth side ≤ allowance
  pub spelled : drop at text ≡ concept_bytes side ++ drop next text
  pub later : at < next
  pub inside : next ≤ length text
  pub value : (number_syntax side (state_names text s)).number ≡ x
  pub after : (number_syntax side (state_names text s)).after ≡ state_names text t
  pub rows : added text s t ≡ (number_syntax side (state_names text s)).rows
  pub kept : KeptBut number s t
  pub placed : (occurrences : List (Word × ℕ)) → Placed text s occurrences → Placed text t (occurrences ++ concept_occurrences at side)
  pub valid : Valid text t

module _ {allowance : ℕ} {text : List ℕ} {s t : State} {at x next : ℕ} (number : ℕ) (v : Valid text s) (old : number < next_concept s)
    (c : ConceptRead allowance text s t at x next) where
  kept_side : (u : State) → u.lists Concepts ≡ t.lists Concepts → ((n : ℕ) → (n ≡ number → ⊥) → SameAt t u n) →
      state_names text u ≡ state_names text t → KeptBut number t u → Valid text u → SideRead allowance text s u at number x next
  kept_side u concepts same names kept valid = record {
    side = c.concept;
    words = c.words;
    short = c.short;
    shallow = c.shallow;
    spelled = c.spelled;
    later = c.later;
    inside = c.inside;
    value = c.number;
    after = c.after ∙ sym names;
    rows = added_same text s t u (ap (λ l. l.used) concepts) (λ n a b. same n (λ e. omega arith)) ∙ concept_added v c;
    kept = kept_trans (kept_but number c.kept) kept;
    placed = λ occurrences p. placed_same text t (occurrences ++ concept_occurrences at c.concept) (c.placed occurrences p) u (ap (λ m. m.words) names)
        (λ n h i. (omega (arith, ap (λ l. l.used) concepts), ap (λ l. get_or l.starts n 0) concepts, ap (λ l. get_or l.lengths n 0) concepts));
    valid = valid;
  }

  side_left : SideRead allowance text s (with_left t number x) at number x next
  side_left = kept_side (with_left t number x) refl (same_left t number x) refl (kept_left t number x) (valid_left number x c.valid)

  side_right : SideRead allowance text s (with_right t number x) at number x next
  side_right = kept_side (with_right t number x) refl (same_right t number x) refl (kept_right t number x) (valid_right number x c.valid)

  inside_left : number < length t.lefts
  inside_left = omega (arith, c.valid.lefts_size, c.valid.concepts.most, c.kept.more)

  inside_right : number < length t.rights
  inside_right = omega (arith, c.valid.rights_size, c.valid.concepts.most, c.kept.more)

-- ---- the readers of sides

abbrev pub Reader : Type 0
Reader = State → ℕ → Ending

pub record ReaderSound (allowance : ℕ) (text : List ℕ) (inner : Reader) : Type 0 where
  pub reads : (s : State) (at : ℕ) → Valid text s → Gives (λ t x next. ConceptRead allowance text s t at x next) (inner s at)

pub record FillerRead (allowance : ℕ) (text : List ℕ) (s t : State) (at number x next : ℕ) : Type 0 where
  pub value : ℕ
  pub read : SideRead allowance text s t at number value next
  pub same_number : x ≡ number
  pub left : get_or t.lefts number 0 ≡ get_or s.lefts number 0
  pub right : get_or t.rights number 0 ≡ value

pub record SidesRead (allowance : ℕ) (text : List ℕ) (s t : State) (at number x next : ℕ) : Type 0 where
  pub middle : State
  pub value : ℕ
  pub stop : ℕ
  pub start : ℕ
  pub read : SideRead allowance text s middle at number value stop
  pub left : get_or middle.lefts number 0 ≡ value
  pub between : GapHere text stop start
  pub other : FillerRead allowance text middle t start number x next

module _ {allowance : ℕ} {text : List ℕ} {inner : Reader} (sound : ReaderSound allowance text inner) (number : ℕ) where
  pub filler_sound : (s : State) (at : ℕ) → Valid text s → number < next_concept s →
      Gives (λ t x next. FillerRead allowance text s t at number x next) (read_filler inner s at number)
  unfolding read_filler
  filler_sound s at v old =
      gives_then (inner s at) (λ t x next. read_to (with_right t number x) number next) (sound.reads s at v) λ t x next c.
      gives_read (with_right t number x) number next record {
        value = x;
        read = side_right number v old c;
        same_number = refl;
        left = c.kept.lefts number old;
        right = get_or-set_same t.rights number x 0 (inside_right number v old c);
      }

  pub sides_sound : (s : State) (at : ℕ) → Valid text s → number < next_concept s →
      Gives (λ t x next. SidesRead allowance text s t at number x next) (read_sides inner text s at number)
  unfolding read_sides read_filler
  sides_sound s at v old =
      gives_then (inner s at) (λ t x stop. after_space text t stop λ start. read_filler inner (with_left t number x) start number) (sound.reads s at v) λ m l stop c.
      gives_gap text m stop (λ start. read_filler inner (with_left m number l) start number) λ start between.
      let d = filler_sound (with_left m number l) start (valid_left number l c.valid) (omega (arith, c.kept.more)) in
      record {
        holds = λ x next e. record {
          middle = with_left m number l;
          value = l;
          stop = stop;
          start = start;
          read = side_left number v old c;
          left = get_or-set_same m.lefts number l 0 (inside_left number v old c);
          between = between;
          other = d.holds x next e;
        };
      }

-- ---- both sides

module _ {allowance : ℕ} {text : List ℕ} {s t : State} {at number x next : ℕ} (old : number < next_concept s) (r : SidesRead allowance text s t at number x next) where
  names_middle : state_names text r.middle ≡ (number_syntax r.read.side (state_names text s)).after
  names_middle = sym r.read.after

  pub sides_spelled : drop at text ≡ concept_bytes r.read.side ++ (r.between.gap ++ (concept_bytes r.other.read.side ++ drop next text))
  sides_spelled = r.read.spelled ∙ ap (λ l. concept_bytes r.read.side ++ l) (r.between.spelled ∙ ap (λ l. r.between.gap ++ l) r.other.read.spelled)

  pub sides_left : get_or t.lefts number 0 ≡ (number_syntax r.read.side (state_names text s)).number
  sides_left = r.other.left ∙ r.left ∙ sym r.read.value

  pub sides_right : get_or t.rights number 0 ≡ (number_syntax r.other.read.side (number_syntax r.read.side (state_names text s)).after).number
  sides_right = r.other.right ∙ sym (rw names_middle at r.other.read.value)

  pub sides_after : (number_syntax r.other.read.side (number_syntax r.read.side (state_names text s)).after).after ≡ state_names text t
  sides_after = rw names_middle at r.other.read.after

  pub sides_rows : added text s t ≡
      (number_syntax r.read.side (state_names text s)).rows ++ (number_syntax r.other.read.side (number_syntax r.read.side (state_names text s)).after).rows
  sides_rows =
      added_trans text s r.middle t r.read.kept.more r.other.read.kept.more (λ n a b. but_same r.other.read.kept n b (λ e. omega arith)) ∙
      ap₂ ◌++◌ r.read.rows (rw names_middle at r.other.read.rows)

  pub sides_kept : KeptBut number s t
  sides_kept = kept_trans r.read.kept r.other.read.kept

  -- both sides stand behind each other, with a gap between
  pub sides_placed : (occurrences : List (Word × ℕ)) → Placed text s occurrences →
      Placed text t (occurrences ++ (concept_occurrences at r.read.side ++ concept_occurrences (at + length (concept_bytes r.read.side) + length r.between.gap) r.other.read.side))
  sides_placed occurrences p =
      let stop : r.stop ≡ at + length (concept_bytes r.read.side) = ends_at text at r.stop (concept_bytes r.read.side) r.read.later r.read.inside r.read.spelled in
      let start : at + length (concept_bytes r.read.side) + length r.between.gap ≡ r.start = omega (arith, gap_next r.between) in
      rw (start, ← append_assoc) (r.other.read.placed (occurrences ++ concept_occurrences at r.read.side) (r.read.placed occurrences p))
