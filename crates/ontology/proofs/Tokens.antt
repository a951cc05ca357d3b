-- Tokens, with no gaps: a state has read its tokens, and reads those of axioms.
--     spelt         the tokens that a state has read
--     run_tokens     the axioms of the tokens that follow
--     tokens_sound, tokens_complete   a run of tokens is read exactly as the axioms that have them
--     ending        every state can be brought to an end
-- Assumes nothing.
use Prim.Native.Nat.{ℕ}
use native.Mathlib.Omega.{arith}
use mathlib.Core.Path.{◌≡◌, refl, sym, ◌∙◌, ap}
use mathlib.Core.Bool.{Bool, true, false}
use mathlib.Core.Option.{Option, none, some, none-ne-some, some-injective}
use mathlib.Core.List.{List, [], ◌∷◌, ◌++◌, append_assoc, append-nil, Memᴰ}
use lib.ListN.{get_or}
use lib.Dec.{eqb}
use borrow.Author.Tests.{eqb-true}
use Rattle.semantics.proofs.Tests.{cases}
use Rattle.semantics.specs.Source.{word_byte}
use Rattle.ontology.specs.Axiom.{Class, named, thing, nothing, intersection, some_values_from, Classes, one, more, Axiom}
use Rattle.ontology.specs.Text.{Token, sub_class_of, annotation, comment, usual, opening, closing, owl_thing, owl_nothing, intersection_of, some_values, name}
use Rattle.ontology.specs.Text.{class_tokens, classes_tokens, annotation_tokens, axiom_tokens, axioms_tokens, WellNamed, IsName}
use Rattle.ontology.specs.Points.{code}
use Rattle.ontology.proofs.Reader.{Frame, first, later, filler, Side, left, right, Awaited, an_axiom, open_axiom, annotation_or_class, open_annotation, property, value}
use Rattle.ontology.proofs.Reader.{close_annotation, a_class, open_parts, open_some, a_role, behind, State, at, expect, begin_class, take_role, preceded, close_behind}
use Rattle.ontology.proofs.Reader.{next_behind, take_due, take_token, ended}

-- ---- what a state has read

abbrev side_tokens : Side → List Token
side_tokens (left u) = sub_class_of ∷ (opening ∷ annotation_tokens u)
side_tokens (right u C) = sub_class_of ∷ (opening ∷ (annotation_tokens u ++ class_tokens C))

unfoldable pub parts_tokens : List Class → List Token
parts_tokens [] = []
parts_tokens (P ∷ Ps) = class_tokens P ++ parts_tokens Ps

abbrev frame_tokens : Frame → List Token
frame_tokens first = intersection_of ∷ (opening ∷ [])
frame_tokens (later P Ps) = intersection_of ∷ (opening ∷ (class_tokens P ++ parts_tokens Ps))
frame_tokens (filler r) = some_values ∷ (opening ∷ (name r ∷ []))

unfoldable pub frames_tokens : List Frame → List Token
frames_tokens [] = []
frames_tokens (f ∷ fs) = frames_tokens fs ++ frame_tokens f

abbrev around : Side → List Frame → List Token
around s fs = side_tokens s ++ frames_tokens fs

abbrev due_tokens : Side → List Frame → Awaited → List Token
due_tokens s fs an_axiom = []
due_tokens s fs open_axiom = sub_class_of ∷ []
due_tokens s fs annotation_or_class = sub_class_of ∷ (opening ∷ [])
due_tokens s fs open_annotation = sub_class_of ∷ (opening ∷ (annotation ∷ []))
due_tokens s fs property = sub_class_of ∷ (opening ∷ (annotation ∷ (opening ∷ [])))
due_tokens s fs value = sub_class_of ∷ (opening ∷ (annotation ∷ (opening ∷ (comment ∷ []))))
due_tokens s fs close_annotation = sub_class_of ∷ (opening ∷ (annotation ∷ (opening ∷ (comment ∷ (usual ∷ [])))))
due_tokens s fs a_class = around s fs
due_tokens s fs open_parts = around s fs ++ (intersection_of ∷ [])
due_tokens s fs open_some = around s fs ++ (some_values ∷ [])
due_tokens s fs a_role = around s fs ++ (some_values ∷ (opening ∷ []))
due_tokens s fs (behind C) = around s fs ++ class_tokens C

abbrev pub spelt : State → List Token
spelt s = axioms_tokens s.done ++ due_tokens s.side s.frames s.due

-- ---- one token

unfoldable of_code : ℕ → Token
of_code k = get_or (sub_class_of ∷ annotation ∷ comment ∷ usual ∷ opening ∷ closing ∷ owl_thing ∷ owl_nothing ∷ intersection_of ∷ some_values ∷ []) k closing

code_back : (t : Token) → (code t ≡ 10 → ⊥) → of_code (code t) ≡ t
unfolding of_code
code_back sub_class_of h = refl
code_back annotation h = refl
code_back comment h = refl
code_back usual h = refl
code_back opening h = refl
code_back closing h = refl
code_back owl_thing h = refl
code_back owl_nothing h = refl
code_back intersection_of h = refl
code_back some_values h = refl
code_back (name w) h = absurd (h refl)

-- a token with the number of one that is no name is that one
same_code : (e t : Token) → (code e ≡ 10 → ⊥) → eqb (code e) (code t) ≡ true → t ≡ e
same_code e t h q =
    let c : code e ≡ code t = eqb-true (code e) (code t) q in
    sym (code_back t (λ x. h (c ∙ x))) ∙ ap of_code (sym c) ∙ code_back e h

pub none_absurd : {X : Type 0} {A : Type 0} (x : A) → none ≡ some x → X
none_absurd x e = absurd (none-ne-some x e)

module _ (e t : Token) (s s' : State) (l : code e ≡ 10 → ⊥) where
  expect_is : expect e s t ≡ some s' → (t ≡ e) × (s' ≡ s)
  expect_is = cases (eqb (code e) (code t))
      (λ q h. (same_code e t l q, sym (some-injective s s' (rw q at h))))
      (λ q h. none_absurd s' (rw q at h))

module _ (axioms : List Axiom) (s : Side) (fs : List Frame) where
  begin_spelt : (t : Token) (s' : State) → begin_class axioms s fs t ≡ some s' → spelt s' ≡ axioms_tokens axioms ++ (around s fs ++ (t ∷ []))
  unfolding class_tokens
  begin_spelt sub_class_of s' e = none_absurd s' e
  begin_spelt annotation s' e = none_absurd s' e
  begin_spelt comment s' e = none_absurd s' e
  begin_spelt usual s' e = none_absurd s' e
  begin_spelt opening s' e = none_absurd s' e
  begin_spelt closing s' e = none_absurd s' e
  begin_spelt owl_thing s' e = rw (← some-injective _ s' e)
  begin_spelt owl_nothing s' e = rw (← some-injective _ s' e)
  begin_spelt intersection_of s' e = rw (← some-injective _ s' e)
  begin_spelt some_values s' e = rw (← some-injective _ s' e)
  begin_spelt (name w) s' e = rw (← some-injective _ s' e)

  role_spelt : (t : Token) (s' : State) → take_role axioms s fs t ≡ some s' → spelt s' ≡ (axioms_tokens axioms ++ due_tokens s fs a_role) ++ (t ∷ [])
  unfolding frames_tokens
  role_spelt sub_class_of s' e = none_absurd s' e
  role_spelt annotation s' e = none_absurd s' e
  role_spelt comment s' e = none_absurd s' e
  role_spelt usual s' e = none_absurd s' e
  role_spelt opening s' e = none_absurd s' e
  role_spelt closing s' e = none_absurd s' e
  role_spelt owl_thing s' e = none_absurd s' e
  role_spelt owl_nothing s' e = none_absurd s' e
  role_spelt intersection_of s' e = none_absurd s' e
  role_spelt some_values s' e = none_absurd s' e
  role_spelt (name w) s' e = rw (← some-injective _ s' e) (simp append_assoc)

axioms_append : (l : List Axiom) (a : Axiom) → axioms_tokens (l ++ (a ∷ [])) ≡ axioms_tokens l ++ axiom_tokens a
unfolding axioms_tokens
axioms_append [] a = append-nil (axiom_tokens a)
axioms_append (b ∷ l) a = rw (axioms_append l a, append_assoc)

preceded_spelt : (Ps : List Class) (Cs : Classes) → classes_tokens (preceded Ps Cs) ≡ parts_tokens Ps ++ classes_tokens Cs
unfolding preceded parts_tokens classes_tokens
preceded_spelt [] Cs = refl
preceded_spelt (P ∷ Ps) Cs = rw (preceded_spelt Ps Cs, append_assoc)

parts_append : (Ps : List Class) (C : Class) → parts_tokens (Ps ++ (C ∷ [])) ≡ parts_tokens Ps ++ class_tokens C
unfolding parts_tokens
parts_append [] C = append-nil (class_tokens C)
parts_append (P ∷ Ps) C = rw (parts_append Ps C, append_assoc)

regroup : (a s f p q c z : List Token) →
    a ++ ((s ++ f) ++ (intersection_of ∷ (opening ∷ (p ++ ((q ++ c) ++ z))))) ≡ (a ++ ((s ++ (f ++ (intersection_of ∷ (opening ∷ (p ++ q))))) ++ c)) ++ z
regroup a s f p q c z = simp append_assoc

module _ (axioms : List Axiom) (C : Class) (s' : State) where
  close_spelt : (s : Side) (fs : List Frame) → close_behind axioms s fs C ≡ some s' →
      spelt s' ≡ (axioms_tokens axioms ++ due_tokens s fs (behind C)) ++ (closing ∷ [])
  unfolding close_behind frames_tokens class_tokens
  close_spelt (left u) [] e = none_absurd s' e
  close_spelt (right u B) [] e = rw (← some-injective _ s' e) (simp (axioms_append, append_assoc, append-nil))
  close_spelt s (first ∷ fs) e = none_absurd s' e
  close_spelt s (later P Ps ∷ fs) e =
      ap spelt (sym (some-injective _ s' e)) ∙
      ap (λ x. axioms_tokens axioms ++ (around s fs ++ (intersection_of ∷ (opening ∷ (class_tokens P ++ (x ++ (closing ∷ []))))))) (preceded_spelt Ps (one C)) ∙
      regroup (axioms_tokens axioms) (side_tokens s) (frames_tokens fs) (class_tokens P) (parts_tokens Ps) (class_tokens C) (closing ∷ [])
  close_spelt s (filler r ∷ fs) e = rw (← some-injective _ s' e) (simp append_assoc)

  next_spelt : (s : Side) (fs : List Frame) (t : Token) → next_behind axioms s fs C t ≡ some s' →
      spelt s' ≡ (axioms_tokens axioms ++ due_tokens s fs (behind C)) ++ (t ∷ [])
  unfolding next_behind frames_tokens parts_tokens
  next_spelt (left u) [] t e = begin_spelt axioms (right u C) [] t s' e ∙ simp (append_assoc, append-nil)
  next_spelt (right u B) [] t e = none_absurd s' e
  next_spelt s (first ∷ fs) t e = begin_spelt axioms s (later C [] ∷ fs) t s' e ∙ simp (append_assoc, append-nil)
  next_spelt s (later P Ps ∷ fs) t e = begin_spelt axioms s (later P (Ps ++ (C ∷ [])) ∷ fs) t s' e ∙ simp (parts_append, append_assoc)
  next_spelt s (filler r ∷ fs) t e = none_absurd s' e

token_spelt : (axioms : List Axiom) (s : Side) (fs : List Frame) (d : Awaited) (t : Token) (s' : State) → take_due axioms s fs d t ≡ some s' →
    spelt s' ≡ (axioms_tokens axioms ++ due_tokens s fs d) ++ (t ∷ [])
unfolding take_due frames_tokens
token_spelt axioms s fs an_axiom t s' e = let h = expect_is sub_class_of t _ s' (λ x. omega arith) e in rw (h.0, h.1) (simp append-nil)
token_spelt axioms s fs open_axiom t s' e = let h = expect_is opening t _ s' (λ x. omega arith) e in rw (h.0, h.1) (simp append_assoc)
token_spelt axioms s fs annotation_or_class t s' e = cases (eqb (code annotation) (code t))
    (λ q. let h = expect_is annotation t (at axioms (left true) [] open_annotation) s' (λ x. omega arith) (rw q (rw q at e)) in rw (h.0, h.1) (simp append_assoc))
    (λ q. begin_spelt axioms (left false) [] t s' (rw q at e) ∙ simp append_assoc)
token_spelt axioms s fs open_annotation t s' e = let h = expect_is opening t _ s' (λ x. omega arith) e in rw (h.0, h.1) (simp append_assoc)
token_spelt axioms s fs property t s' e = let h = expect_is comment t _ s' (λ x. omega arith) e in rw (h.0, h.1) (simp append_assoc)
token_spelt axioms s fs value t s' e = let h = expect_is usual t _ s' (λ x. omega arith) e in rw (h.0, h.1) (simp append_assoc)
token_spelt axioms s fs close_annotation t s' e = let h = expect_is closing t _ s' (λ x. omega arith) e in rw (h.0, h.1) (simp (append_assoc, append-nil))
token_spelt axioms s fs a_class t s' e = begin_spelt axioms s fs t s' e ∙ simp append_assoc
token_spelt axioms s fs open_parts t s' e = let h = expect_is opening t _ s' (λ x. omega arith) e in rw (h.0, h.1) (simp append_assoc)
token_spelt axioms s fs open_some t s' e = let h = expect_is opening t _ s' (λ x. omega arith) e in rw (h.0, h.1) (simp append_assoc)
token_spelt axioms s fs a_role t s' e = role_spelt axioms s fs t s' e
token_spelt axioms s fs (behind C) t s' e = cases (eqb (code closing) (code t))
    (λ q. rw (same_code closing t (λ x. omega arith) q) (close_spelt axioms C s' s fs (rw q at e)))
    (λ q. next_spelt axioms C s' s fs t (rw q at e))

-- ---- a run of tokens

abbrev pub continued : {X : Type 0} → (State → Option X) → Option State → Option X
continued f none = none
continued f (some s) = f s

unfoldable pub run_tokens : List Token → State → Option (List Axiom)
run_tokens [] s = ended s.done s.due
run_tokens (t ∷ ts) s = continued (run_tokens ts) (take_token s t)

ended_spelt : (axioms : List Axiom) (s : Side) (fs : List Frame) (d : Awaited) (all : List Axiom) → ended axioms d ≡ some all → axioms_tokens all ≡ axioms_tokens axioms ++ due_tokens s fs d
ended_spelt axioms s fs an_axiom all e = rw (← some-injective axioms all e) (sym (append-nil _))
ended_spelt axioms s fs open_axiom all e = none_absurd all e
ended_spelt axioms s fs annotation_or_class all e = none_absurd all e
ended_spelt axioms s fs open_annotation all e = none_absurd all e
ended_spelt axioms s fs property all e = none_absurd all e
ended_spelt axioms s fs value all e = none_absurd all e
ended_spelt axioms s fs close_annotation all e = none_absurd all e
ended_spelt axioms s fs a_class all e = none_absurd all e
ended_spelt axioms s fs open_parts all e = none_absurd all e
ended_spelt axioms s fs open_some all e = none_absurd all e
ended_spelt axioms s fs a_role all e = none_absurd all e
ended_spelt axioms s fs (behind C) all e = none_absurd all e

-- the tokens of the axioms are those that were read and those that follow
pub tokens_sound : (ts : List Token) (s : State) (all : List Axiom) → run_tokens ts s ≡ some all → axioms_tokens all ≡ spelt s ++ ts
unfolding run_tokens
tokens_sound [] s all e = ended_spelt s.done s.side s.frames s.due all e ∙ sym (append-nil _)
tokens_sound (t ∷ ts) s all e = go (take_token s t) refl (tokens_sound ts) e
  where
    go : (o : Option State) → take_token s t ≡ o → ((s' : State) (all : List Axiom) → run_tokens ts s' ≡ some all → axioms_tokens all ≡ spelt s' ++ ts) →
        continued (run_tokens ts) o ≡ some all → axioms_tokens all ≡ spelt s ++ (t ∷ ts)
    go none q ih e = none_absurd all e
    go (some s') q ih e = ih s' all e ∙ rw (token_spelt s.done s.side s.frames s.due t s' q, append_assoc)

-- ---- the tokens of axioms are read as these axioms

-- a class may begin
pub record MayBegin (x : State) (axioms : List Axiom) (s : Side) (fs : List Frame) : Type 0 where
  pub begins : (t : Token) → eqb (code closing) (code t) ≡ false → eqb (code annotation) (code t) ≡ false → take_token x t ≡ begin_class axioms s fs t

may_begin : (axioms : List Axiom) (s : Side) (fs : List Frame) → MayBegin (at axioms s fs a_class) axioms s fs
unfolding take_due
may_begin axioms s fs = record { begins = λ t g h. refl }

preceded_more : (Ps : List Class) (C : Class) (Cs : Classes) → preceded (Ps ++ (C ∷ [])) Cs ≡ preceded Ps (more C Cs)
unfolding preceded
preceded_more [] C Cs = refl
preceded_more (P ∷ Ps) C Cs = ap (more P) (preceded_more Ps C Cs)

behind_first : (axioms : List Axiom) (s : Side) (fs : List Frame) (C : Class) → MayBegin (at axioms s (first ∷ fs) (behind C)) axioms s (later C [] ∷ fs)
unfolding take_due next_behind
behind_first axioms s fs C = record { begins = λ t g h. rw g }

behind_later : (axioms : List Axiom) (s : Side) (fs : List Frame) (P : Class) (Ps : List Class) (C : Class) →
    MayBegin (at axioms s (later P Ps ∷ fs) (behind C)) axioms s (later P (Ps ++ (C ∷ [])) ∷ fs)
unfolding take_due next_behind
behind_later axioms s fs P Ps C = record { begins = λ t g h. rw g }

behind_left : (axioms : List Axiom) (u : Bool) (C : Class) → MayBegin (at axioms (left u) [] (behind C)) axioms (right u C) []
unfolding take_due next_behind
behind_left axioms u C = record { begins = λ t g h. rw g }

module _ (axioms : List Axiom) (s : Side) where
  mutual
    unfolding run_tokens take_due class_tokens close_behind preceded

    class_run : (C : Class) (fs : List Frame) (x : State) (ts : List Token) → MayBegin x axioms s fs →
        run_tokens (class_tokens C ++ ts) x ≡ run_tokens ts (at axioms s fs (behind C))
    class_run (named w) fs x ts b = rw (b.begins (name w) refl refl)
    class_run thing fs x ts b = rw (b.begins owl_thing refl refl)
    class_run nothing fs x ts b = rw (b.begins owl_nothing refl refl)
    class_run (intersection C Cs) fs x ts b =
        ap (λ l. run_tokens (intersection_of ∷ (opening ∷ l)) x) (append_assoc (class_tokens C) (classes_tokens Cs ++ (closing ∷ [])) ts) ∙
        rw (b.begins intersection_of refl refl)
        (class_run C (first ∷ fs) (at axioms s (first ∷ fs) a_class) ((classes_tokens Cs ++ (closing ∷ [])) ++ ts) (may_begin axioms s (first ∷ fs)) ∙
        ap (λ l. run_tokens l (at axioms s (first ∷ fs) (behind C))) (append_assoc (classes_tokens Cs) (closing ∷ []) ts) ∙
        classes_run Cs fs C [] (at axioms s (first ∷ fs) (behind C)) ts (behind_first axioms s fs C))
    class_run (some_values_from r C) fs x ts b =
        ap (λ l. run_tokens (some_values ∷ (opening ∷ (name r ∷ l))) x) (append_assoc (class_tokens C) (closing ∷ []) ts) ∙
        rw (b.begins some_values refl refl)
        (class_run C (filler r ∷ fs) (at axioms s (filler r ∷ fs) a_class) (closing ∷ ts) (may_begin axioms s (filler r ∷ fs)))

    classes_run : (Cs : Classes) (fs : List Frame) (P : Class) (Ps : List Class) (x : State) (ts : List Token) → MayBegin x axioms s (later P Ps ∷ fs) →
        run_tokens (classes_tokens Cs ++ (closing ∷ ts)) x ≡ run_tokens ts (at axioms s fs (behind (intersection P (preceded Ps Cs))))
    classes_run (one C) fs P Ps x ts b = class_run C (later P Ps ∷ fs) x (closing ∷ ts) b
    classes_run (more C Cs) fs P Ps x ts b =
        ap (λ l. run_tokens l x) (append_assoc (class_tokens C) (classes_tokens Cs) (closing ∷ ts)) ∙
        class_run C (later P Ps ∷ fs) x (classes_tokens Cs ++ (closing ∷ ts)) b ∙
        classes_run Cs fs P (Ps ++ (C ∷ [])) (at axioms s (later P Ps ∷ fs) (behind C)) ts (behind_later axioms s fs P Ps C) ∙
        ap (λ Ds. run_tokens ts (at axioms s fs (behind (intersection P Ds)))) (preceded_more Ps C Cs)

annotated_run : (axioms : List Axiom) (u : Bool) (C : Class) (ts : List Token) →
    run_tokens (annotation_tokens u ++ (class_tokens C ++ ts)) (at axioms (left false) [] annotation_or_class) ≡ run_tokens ts (at axioms (left u) [] (behind C))
unfolding run_tokens take_due
annotated_run axioms true C ts = class_run axioms (left true) C [] (at axioms (left true) [] a_class) ts (may_begin axioms (left true) [])
annotated_run axioms false C ts =
    class_run axioms (left false) C [] (at axioms (left false) [] annotation_or_class) ts (record { begins = λ t g h. rw h })

pub tokens_complete : (l axioms : List Axiom) → run_tokens (axioms_tokens l) (at axioms (left false) [] an_axiom) ≡ some (axioms ++ l)
unfolding run_tokens take_due axioms_tokens close_behind
tokens_complete [] axioms = ap some (sym (append-nil axioms))
tokens_complete (a ∷ l) axioms =
    let tail = axioms_tokens l in
    let e : (annotation_tokens a.usual ++ (class_tokens a.sub ++ (class_tokens a.super ++ (closing ∷ [])))) ++ tail ≡
    annotation_tokens a.usual ++ (class_tokens a.sub ++ (class_tokens a.super ++ (closing ∷ tail))) = simp append_assoc in
    ap (λ ts. run_tokens ts (at axioms (left false) [] annotation_or_class)) e ∙
    annotated_run axioms a.usual a.sub (class_tokens a.super ++ (closing ∷ tail)) ∙
    class_run axioms (right a.usual a.sub) a.super [] (at axioms (left a.usual) [] (behind a.sub)) (closing ∷ tail)
    (behind_left axioms a.usual a.sub) ∙
    tokens_complete l (axioms ++ (a ∷ [])) ∙
    ap some (append_assoc axioms (a ∷ []) l)

-- ---- every state can be brought to an end

pub data Names : List Token → Type 0 where
  no_names : Names []
  the_name : {t : Token} {ts : List Token} → WellNamed t → Names ts → Names (t ∷ ts)

pub record Ending (s : State) : Type 0 where
  pub tokens : List Token
  pub all : List Axiom
  pub names : Names tokens
  pub runs : run_tokens tokens s ≡ some all

pub ending_token : (t : Token) {s s' : State} → take_token s t ≡ some s' → WellNamed t → Ending s' → Ending s
unfolding run_tokens
ending_token t e n k = record { tokens = t ∷ k.tokens; all = k.all; names = the_name n k.names; runs = rw e k.runs }

ending_behind : (axioms : List Axiom) (s : Side) (fs : List Frame) (C : Class) → Ending (at axioms s fs (behind C))
unfolding take_due close_behind next_behind WellNamed run_tokens preceded
ending_behind axioms (left u) [] C =
    ending_token owl_thing refl tt (ending_token closing refl tt (record { tokens = []; all = _; names = no_names; runs = refl }))
ending_behind axioms (right u B) [] C = ending_token closing refl tt (record { tokens = []; all = _; names = no_names; runs = refl })
ending_behind axioms s (first ∷ fs) C = ending_token owl_thing refl tt (ending_token closing refl tt (ending_behind axioms s fs (intersection C (one thing))))
ending_behind axioms s (later P Ps ∷ fs) C = ending_token closing refl tt (ending_behind axioms s fs (intersection P (preceded Ps (one C))))
ending_behind axioms s (filler r ∷ fs) C = ending_token closing refl tt (ending_behind axioms s fs (some_values_from r C))

ending_class : (axioms : List Axiom) (s : Side) (fs : List Frame) → Ending (at axioms s fs a_class)
unfolding take_due WellNamed
ending_class axioms s fs = ending_token owl_thing refl tt (ending_behind axioms s fs thing)

pub a_name : IsName (97 ∷ [])
a_name = record { word = record { nonempty = omega arith; bytes = λ b m. go m }; short = omega arith }
  where
    go : {b : ℕ} → Memᴰ b (97 ∷ []) → word_byte b ≡ true
    go (Memᴰ.head e) = rw e
    go {b = b} (mathlib.Core.List.Memᴰ.tail x4) = elim x4 [ ]

ending_due : (axioms : List Axiom) (s : Side) (fs : List Frame) (d : Awaited) → Ending (at axioms s fs d)
unfolding take_due WellNamed run_tokens
ending_due axioms s fs an_axiom = record { tokens = []; all = axioms; names = no_names; runs = refl }
ending_due axioms s fs open_axiom =
    ending_token opening refl tt (ending_token owl_thing refl tt (ending_behind axioms (left false) [] thing))
ending_due axioms s fs annotation_or_class = ending_token owl_thing refl tt (ending_behind axioms (left false) [] thing)
ending_due axioms s fs open_annotation =
    ending_token opening refl tt (ending_token comment refl tt (ending_token usual refl tt (ending_token closing refl tt (ending_class axioms (left true) []))))
ending_due axioms s fs property =
    ending_token comment refl tt (ending_token usual refl tt (ending_token closing refl tt (ending_class axioms (left true) [])))
ending_due axioms s fs value = ending_token usual refl tt (ending_token closing refl tt (ending_class axioms (left true) []))
ending_due axioms s fs close_annotation = ending_token closing refl tt (ending_class axioms (left true) [])
ending_due axioms s fs a_class = ending_class axioms s fs
ending_due axioms s fs open_parts = ending_token opening refl tt (ending_class axioms s (first ∷ fs))
ending_due axioms s fs open_some = ending_token opening refl tt (ending_token (name (97 ∷ [])) refl a_name (ending_class axioms s (filler (97 ∷ []) ∷ fs)))
ending_due axioms s fs a_role = ending_token (name (97 ∷ [])) refl a_name (ending_class axioms s (filler (97 ∷ []) ∷ fs))
ending_due axioms s fs (behind C) = ending_behind axioms s fs C

pub ending : (s : State) → Ending s
ending s = ending_due s.done s.side s.frames s.due
