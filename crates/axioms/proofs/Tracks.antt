-- What the code keeps of a state goes along with it, and at the end its output is the book. Assumes nothing.
--     Layers    the output and the stack, up to where the class that is read begins
--     Matches   what is kept matches a state
--     agree     a token takes both on, or neither
use Prim.Native.Nat.{ℕ, suc, ◌+◌, ◌-◌}
use native.Mathlib.Omega.{arith}
use mathlib.Core.Path.{◌≡◌, refl, sym, ◌∙◌, ap}
use mathlib.Core.Bool.{Bool, true, false, cond, true≢false}
use mathlib.Core.Option.{Option, none, some}
use mathlib.Core.List.{List, [], ◌∷◌, ◌++◌, append_assoc, append-nil, Memᴰ}
use lib.ListN.{length, set}
use lib.Dec.{eqb}
use borrow.Author.Tests.{ne_eqb}
use Rattle.semantics.proofs.Tests.{cases}
use Rattle.semantics.specs.Source.{Word, word_byte}
use Rattle.ontology.specs.Axiom.{Class, intersection, some_values_from, one, Axiom}
use Rattle.ontology.specs.Book.{class_text, parts_text, axiom_text, book}
use Rattle.ontology.specs.Text.{Token, sub_class_of, annotation, comment, usual, opening, closing, owl_thing, owl_nothing, intersection_of, some_values, name, WellNamed}
use Rattle.ontology.specs.Points.{code}
use Rattle.ontology.proofs.Reader.{Frame, first, later, filler, Side, left, right, Awaited, an_axiom, open_axiom, annotation_or_class, open_annotation, property, value}
use Rattle.ontology.proofs.Reader.{close_annotation, a_class, open_parts, open_some, a_role, behind, State, at, begin_class, take_role, preceded, close_behind, next_behind}
use Rattle.ontology.proofs.Reader.{take_due}
use Rattle.axioms.specs.declared.Due.{Due}
use Rattle.axioms.specs.declared.Due.TheVariants.{NextAxiom, OpenAxiom, AnnotationOrClass, OpenAnnotation, Property, Value, CloseAnnotation, NextClass, OpenParts}
use Rattle.axioms.specs.declared.Due.TheVariants.{OpenSome, NextRole, BehindClass}
use Rattle.axioms.specs.Track.{Track, track, compact, begin_track, role_track, unmarked, close_track, next_track, track_due}

-- ---- what is printed

-- a space and the class
abbrev pub printed : Class → List ℕ
printed C = 32 ∷ class_text C

-- parts that others follow
unfoldable pub printed_parts : List Class → List ℕ
printed_parts [] = []
printed_parts (P ∷ Ps) = 32 ∷ (38 ∷ (printed P ++ printed_parts Ps))

abbrev letter_of : Bool → ℕ
letter_of true = 85
letter_of false = 83

abbrev pub side_printed : Side → List ℕ
side_printed (left u) = letter_of u ∷ []
side_printed (right u B) = letter_of u ∷ printed B

abbrev pub is_right : Side → Bool
is_right (left u) = false
is_right (right u B) = true

abbrev pub base : List Axiom → Side → List ℕ
base axioms s = book axioms ++ side_printed s

-- ---- the layers of the output

pub data Layers (start : List ℕ) : List Frame → List ℕ → List ℕ → Type 0 where
  no_layer : {out : List ℕ} → compact out ≡ start → Layers start [] [] out
  first_layer : {fs : List Frame} {st o out : List ℕ} → Layers start fs st o → out ≡ o ++ (32 ∷ (38 ∷ [])) → Layers start (first ∷ fs) (1 ∷ st) out
  filler_layer : {fs : List Frame} {r : Word} {st o out : List ℕ} → Layers start fs st o → compact r ≡ r → out ≡ o ++ (32 ∷ (47 ∷ r)) → Layers start (filler r ∷ fs) (0 ∷ st) out
  later_layer : {fs : List Frame} {P : Class} {Ps : List Class} {e : ℕ} {st o out : List ℕ} (x : List ℕ) → Layers start fs st o → compact x ≡ printed_parts (P ∷ Ps) →
      out ≡ (o ++ x) ++ (32 ∷ (38 ∷ [])) → e ≡ 2 + length (o ++ x) → Layers start (later P Ps ∷ fs) (e ∷ st) out

pub data Matches (axioms : List Axiom) (s : Side) (fs : List Frame) : Awaited → Due → Bool → List ℕ → List ℕ → Type 0 where
  at_axiom : {out : List ℕ} → compact out ≡ book axioms → Matches axioms s fs an_axiom NextAxiom false [] out
  at_open : {out : List ℕ} → compact out ≡ book axioms → Matches axioms s fs open_axiom OpenAxiom false [] out
  at_first : {out : List ℕ} → compact out ≡ book axioms → Matches axioms s fs annotation_or_class AnnotationOrClass false [] out
  at_open_annotation : {out : List ℕ} → compact out ≡ book axioms ++ (85 ∷ []) → Matches axioms s fs open_annotation OpenAnnotation false [] out
  at_property : {out : List ℕ} → compact out ≡ book axioms ++ (85 ∷ []) → Matches axioms s fs property Property false [] out
  at_value : {out : List ℕ} → compact out ≡ book axioms ++ (85 ∷ []) → Matches axioms s fs value Value false [] out
  at_close_annotation : {out : List ℕ} → compact out ≡ book axioms ++ (85 ∷ []) → Matches axioms s fs close_annotation CloseAnnotation false [] out
  at_class : {r : Bool} {st out : List ℕ} → Layers (base axioms s) fs st out → r ≡ is_right s → Matches axioms s fs a_class NextClass r st out
  at_parts : {r : Bool} {st out : List ℕ} → Layers (base axioms s) fs st out → r ≡ is_right s → Matches axioms s fs open_parts OpenParts r st out
  at_some : {r : Bool} {st out : List ℕ} → Layers (base axioms s) fs st out → r ≡ is_right s → Matches axioms s fs open_some OpenSome r st out
  at_role : {r : Bool} {st out : List ℕ} → Layers (base axioms s) fs st out → r ≡ is_right s → Matches axioms s fs a_role NextRole r st out
  at_behind : {C : Class} {r : Bool} {st o out : List ℕ} (y : List ℕ) → Layers (base axioms s) fs st o → compact y ≡ printed C → out ≡ o ++ y → r ≡ is_right s →
      Matches axioms s fs (behind C) BehindClass r st out

pub data Agree : Option State → Option Track → Type 0 where
  neither : Agree none none
  both : {axioms : List Axiom} {s : Side} {fs : List Frame} {d : Awaited} {n : Due} {r : Bool} {st out : List ℕ} → Matches axioms s fs d n r st out →
      Agree (some (at axioms s fs d)) (some (track n r st out))

-- ---- compact

pub compact_append : (a b : List ℕ) → compact (a ++ b) ≡ compact a ++ compact b
unfolding compact
compact_append [] b = refl
compact_append (x ∷ a) b = cases (eqb x 0) (λ q. rw q (compact_append a b)) (λ q. rw q (ap (x ∷◌) (compact_append a b)))

-- a word has no 0
compact_word : (w : Word) → ((b : ℕ) → Memᴰ b w → word_byte b ≡ true) → compact w ≡ w
unfolding compact
compact_word [] h = refl
compact_word (b ∷ w) h = rw (no_zero) (ap (b ∷◌) (compact_word w (λ c i. h c (Memᴰ.tail i))))
  where
    no_zero : eqb b 0 ≡ false
    no_zero = ne_eqb b 0 (λ e. true≢false (sym (h b (Memᴰ.head refl)) ∙ rw e))

-- ---- a class begins

module _ (axioms : List Axiom) (s : Side) (fs : List Frame) {r : Bool} {st out : List ℕ} (l : Layers (base axioms s) fs st out) (e : r ≡ is_right s) where
  class_agree : (t : Token) → WellNamed t → Agree (begin_class axioms s fs t) (begin_track r st out t)
  unfolding compact class_text WellNamed
  class_agree sub_class_of n = neither
  class_agree annotation n = neither
  class_agree comment n = neither
  class_agree usual n = neither
  class_agree opening n = neither
  class_agree closing n = neither
  class_agree owl_thing n = both (at_behind (32 ∷ (42 ∷ [])) l refl refl e)
  class_agree owl_nothing n = both (at_behind (32 ∷ (45 ∷ [])) l refl refl e)
  class_agree intersection_of n = both (at_parts l e)
  class_agree some_values n = both (at_some l e)
  class_agree (name w) n = both (at_behind (32 ∷ w) l (ap (32 ∷◌) (compact_word w n.word.bytes)) refl e)

  role_agree : (t : Token) → WellNamed t → Agree (take_role axioms s fs t) (role_track r st out t)
  unfolding WellNamed
  role_agree sub_class_of n = neither
  role_agree annotation n = neither
  role_agree comment n = neither
  role_agree usual n = neither
  role_agree opening n = neither
  role_agree closing n = neither
  role_agree owl_thing n = neither
  role_agree owl_nothing n = neither
  role_agree intersection_of n = neither
  role_agree some_values n = neither
  role_agree (name w) n = both (at_class (filler_layer l (compact_word w n.word.bytes) refl) e)

-- ---- behind a class

book_append : (l : List Axiom) (a : Axiom) → book (l ++ (a ∷ [])) ≡ book l ++ axiom_text a
unfolding book
book_append [] a = append-nil _
book_append (b ∷ l) a = rw (book_append l a, append_assoc)

line_printed : (u : Bool) (B C : Class) → axiom_text record { usual = u; sub = B; super = C } ≡ letter_of u ∷ (printed B ++ (printed C ++ (10 ∷ [])))
line_printed true B C = refl
line_printed false B C = refl

axiom_printed : (axioms : List Axiom) (u : Bool) (B C : Class) (o y : List ℕ) → compact o ≡ base axioms (right u B) → compact y ≡ printed C →
    compact ((o ++ y) ++ (10 ∷ [])) ≡ book (axioms ++ (record { usual = u; sub = B; super = C } ∷ []))
unfolding compact
axiom_printed axioms u B C o y h k =
    compact_append (o ++ y) (10 ∷ []) ∙ ap (◌++ (10 ∷ [])) (compact_append o y) ∙ rw (h, k, book_append, line_printed) (simp append_assoc)

set_two : (a y : List ℕ) (b c : ℕ) → set (set ((a ++ (b ∷ (c ∷ []))) ++ y) (length a) 0) (length a + 1) 0 ≡ a ++ (0 ∷ (0 ∷ y))
set_two [] y b c = refl
set_two (x ∷ a) y b c =
    let e : suc (length a) + 1 ≡ suc (length a + 1) = omega arith in
    rw e (ap (x ∷◌) (set_two a y b c))

preceded_printed : (Ps : List Class) (C : Class) → printed_parts Ps ++ printed C ≡ 32 ∷ parts_text (preceded Ps (one C))
unfolding printed_parts preceded parts_text
preceded_printed [] C = refl
preceded_printed (P ∷ Ps) C = ap (λ l. 32 ∷ (38 ∷ l)) (append_assoc (printed P) (printed_parts Ps) (printed C) ∙ ap (printed P ++◌) (preceded_printed Ps C))

parts_printed : (Ps : List Class) (C : Class) → printed_parts Ps ++ (32 ∷ (38 ∷ printed C)) ≡ printed_parts (Ps ++ (C ∷ []))
unfolding printed_parts
parts_printed [] C = ap (λ l. 32 ∷ (38 ∷ l)) (sym (append-nil (printed C)))
parts_printed (P ∷ Ps) C = ap (λ l. 32 ∷ (38 ∷ l)) (append_assoc (printed P) (printed_parts Ps) (32 ∷ (38 ∷ printed C)) ∙ ap (printed P ++◌) (parts_printed Ps C))

intersection_printed : (P : Class) (Ps : List Class) (C : Class) → printed_parts (P ∷ Ps) ++ printed C ≡ printed (intersection P (preceded Ps (one C)))
unfolding printed_parts class_text
intersection_printed P Ps C = ap (λ l. 32 ∷ (38 ∷ l)) (append_assoc (printed P) (printed_parts Ps) (printed C) ∙ ap (printed P ++◌) (preceded_printed Ps C))

module _ (axioms : List Axiom) (C : Class) {r : Bool} (y : List ℕ) (k : compact y ≡ printed C) where
  close_agree : (s : Side) (fs : List Frame) {st o out : List ℕ} → Layers (base axioms s) fs st o → out ≡ o ++ y → r ≡ is_right s →
      Agree (close_behind axioms s fs C) (close_track r st out)
  unfolding close_behind compact class_text
  close_agree (left u) [] (no_layer h) q e = rw e neither
  close_agree (right u B) [] {o = o} (no_layer h) q e = rw (e, q) (both (at_axiom (axiom_printed axioms u B C o y h k)))
  close_agree s (first ∷ fs) (first_layer l q') q e = neither
  close_agree s (filler w ∷ fs) (filler_layer {o = o} l z q') q e =
      both (at_behind {C = some_values_from w C} ((32 ∷ (47 ∷ w)) ++ y) l (compact_append (32 ∷ (47 ∷ w)) y ∙ rw (z, k)) (q ∙ rw (q', append_assoc)) e)
  close_agree s (later P Ps ∷ fs) {out = out} (later_layer {e = m} {st = st} {o = o} x l z q' d) q e =
      rw (ne_eqb m 0 (λ i. omega arith), ne_eqb m 1 (λ i. omega arith))
      (both (at_behind {C = intersection P (preceded Ps (one C))} (x ++ (0 ∷ (0 ∷ y))) l (compact_append x (0 ∷ (0 ∷ y)) ∙ rw (z, k) (intersection_printed P Ps C)) there e))
    where
      there : unmarked out m ≡ o ++ (x ++ (0 ∷ (0 ∷ y)))
      there =
          let f : m - 2 ≡ length (o ++ x) = omega arith in
          rw (f, q, q') (set_two (o ++ x) y 32 38 ∙ append_assoc o x (0 ∷ (0 ∷ y)))

  next_agree : (s : Side) (fs : List Frame) {st o out : List ℕ} → Layers (base axioms s) fs st o → out ≡ o ++ y → r ≡ is_right s → (t : Token) → WellNamed t →
      Agree (next_behind axioms s fs C t) (next_track r st out t)
  unfolding next_behind compact printed_parts
  next_agree (left u) [] {o = o} (no_layer h) q e t n =
      rw e (class_agree axioms (right u C) [] (no_layer (rw q (compact_append o y ∙ rw (h, k) (append_assoc (book axioms) (letter_of u ∷ []) (printed C))))) refl t n)
  next_agree (right u B) [] (no_layer h) q e t n = rw e neither
  next_agree s (first ∷ fs) {out = out} (first_layer {o = o} l q') q e t n =
      let whole : out ≡ o ++ (32 ∷ (38 ∷ y)) = q ∙ rw (q', append_assoc) in
      class_agree axioms s (later C [] ∷ fs)
      (later_layer (32 ∷ (38 ∷ y)) l (compact_append (32 ∷ (38 ∷ [])) y ∙ rw k (ap (λ i. 32 ∷ (38 ∷ i)) (sym (append-nil (printed C)))))
      (ap (◌++ (32 ∷ (38 ∷ []))) whole) (ap (λ i. 2 + length i) whole)) e t n
  next_agree s (filler w ∷ fs) (filler_layer l z q') q e t n = neither
  next_agree s (later P Ps ∷ fs) {out = out} (later_layer {e = m} {o = o} x l z q' d) q e t n =
      rw (ne_eqb m 0 (λ i. omega arith))
      (class_agree axioms s (later P (Ps ++ (C ∷ [])) ∷ fs) (later_layer (x ++ (32 ∷ (38 ∷ y))) l inner (ap (◌++ (32 ∷ (38 ∷ []))) whole) (ap (λ i. 2 + length i) whole)) e t n)
    where
      inner : compact (x ++ (32 ∷ (38 ∷ y))) ≡ printed_parts (P ∷ (Ps ++ (C ∷ [])))
      inner = compact_append x (32 ∷ (38 ∷ y)) ∙ rw (z, k) (parts_printed (P ∷ Ps) C)

      whole : out ≡ o ++ (x ++ (32 ∷ (38 ∷ y)))
      whole = q ∙ rw q' (simp append_assoc)

-- ---- one token

expect_agree : {axioms : List Axiom} {s : Side} {fs : List Frame} {d : Awaited} {n : Due} {r : Bool} {st out : List ℕ} (b : Bool) → Matches axioms s fs d n r st out →
    Agree (cond b (some (at axioms s fs d)) none) (cond b (some (track n r st out)) none)
expect_agree true m = both m
expect_agree false m = neither

ended_compact : (o : List ℕ) (b : ℕ) (l : List ℕ) → eqb b 0 ≡ false → compact o ≡ l → compact (o ++ (b ∷ [])) ≡ l ++ (b ∷ [])
unfolding compact
ended_compact o b l z h = compact_append o (b ∷ []) ∙ rw (z, h)

pub agree : (axioms : List Axiom) (s : Side) (fs : List Frame) {d : Awaited} {n : Due} {r : Bool} {st out : List ℕ} → Matches axioms s fs d n r st out →
    (t : Token) → WellNamed t → Agree (take_due axioms s fs d t) (track_due n r st out t)
unfolding take_due track_due
agree axioms s fs (at_axiom h) t n = expect_agree (eqb 0 (code t)) (at_open h)
agree axioms s fs (at_open h) t n = expect_agree (eqb 4 (code t)) (at_first h)
agree axioms s fs (at_first {out = out} h) t n = cases (eqb 1 (code t))
    (λ q. rw q (both (at_open_annotation (ended_compact out 85 (book axioms) refl h))))
    (λ q. rw q (class_agree axioms (left false) [] (no_layer (ended_compact out 83 (book axioms) refl h)) refl t n))
agree axioms s fs (at_open_annotation h) t n = expect_agree (eqb 4 (code t)) (at_property h)
agree axioms s fs (at_property h) t n = expect_agree (eqb 2 (code t)) (at_value h)
agree axioms s fs (at_value h) t n = expect_agree (eqb 3 (code t)) (at_close_annotation h)
agree axioms s fs (at_close_annotation h) t n = expect_agree (eqb 5 (code t)) (at_class (no_layer h) refl)
agree axioms s fs (at_class l e) t n = class_agree axioms s fs l e t n
agree axioms s fs (at_parts l e) t n = expect_agree (eqb 4 (code t)) (at_class (first_layer l refl) e)
agree axioms s fs (at_some l e) t n = expect_agree (eqb 4 (code t)) (at_role l e)
agree axioms s fs (at_role l e) t n = role_agree axioms s fs l e t n
agree axioms s fs (at_behind {C = C} y l k q e) t n = cases (eqb 5 (code t))
    (λ h. rw h (close_agree axioms C y k s fs l q e))
    (λ h. rw h (next_agree axioms C y k s fs l q e t n))
