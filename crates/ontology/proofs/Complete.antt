-- Every text of axioms is read as these axioms. Assumes nothing.
--     Accepts           a reading reads the rest, and gives the axioms
--     spaced_accepts    a text of tokens is read as the tokens are
use Prim.Native.Nat.{ℕ, suc, ◌≤◌}
use native.Mathlib.Omega.{arith}
use mathlib.Core.Path.{◌≡◌, refl, ◌∙◌}
use mathlib.Core.Bool.{true, false, ◌||◌}
use mathlib.Core.Option.{Option, none, some}
use mathlib.Core.List.Memᴰ
use mathlib.Core.List.{List, [], ◌∷◌, ◌++◌, append_assoc, append-nil}
use lib.ListN.{length, length-append}
use lib.Dec.{eqb, ltb}
use borrow.Author.Tests.{eqb-true, eq-eqb, ne_eqb, lt-ltb}
use Rattle.semantics.proofs.Tests.{cases, either}
use Rattle.semantics.specs.Limits.{word_limit}
use Rattle.semantics.specs.Source.{Word, word_byte}
use Rattle.ontology.specs.Axiom.{Class, Axiom}
use Rattle.ontology.specs.Text.{Token, sub_class_of, annotation, comment, usual, opening, closing, owl_thing, owl_nothing, intersection_of, some_values, name, token_bytes}
use Rattle.ontology.specs.Text.{gap_byte, bracket_byte, Parted, PartedFrom, IsName, WellNamed, Spaced, end, gap, token, RunOf}
use Rattle.ontology.specs.Points.{code, between, touching, word, naming, behind_token}
use Rattle.ontology.proofs.Reader.{Frame, first, later, filler, Side, left, right, Awaited, an_axiom, open_axiom, annotation_or_class, open_annotation, property, value}
use Rattle.ontology.proofs.Reader.{close_annotation, a_class, open_parts, open_some, a_role, behind, State, begin_class, take_role, next_behind, take_due, take_token}
use Rattle.ontology.proofs.Reader.{Reading, reading, is_some, allowed, begin_token, step_touching, step_at, accepted, run, read_axioms}
use Rattle.ontology.proofs.Tokens.{run_tokens, continued, tokens_complete, none_absurd}

pub record Accepts (r : Reading) (t : List ℕ) (all : List Axiom) : Type 0 where
  pub runs : (n : ℕ) → run t n r ≡ accepted all

-- ---- gaps

touching_step : (s : State) (b : ℕ) → (gap_byte b || bracket_byte b) ≡ true → step_touching s b ≡ step_at s between b
unfolding step_at step_touching
touching_step s b h = cases (gap_byte b) (λ q. rw q) (λ q. let e : bracket_byte b ≡ true = rw q at h in rw (q, e))

module _ {s : State} {all : List Axiom} where
  gap_accepts : {rest : List ℕ} (b : ℕ) → gap_byte b ≡ true → Accepts (reading s between) rest all → Accepts (reading s between) (b ∷ rest) all
  unfolding run step_at
  gap_accepts b h k = record { runs = λ n. rw h (k.runs (suc n)) }

  touching_accepts : {rest : List ℕ} → Parted rest → Accepts (reading s between) rest all → Accepts (reading s touching) rest all
  unfolding run step_at
  touching_accepts p k = record { runs = λ n. rw p.begins (go n) }
    where
      go : (n : ℕ) → run (p.byte ∷ p.others) n (reading s touching) ≡ accepted all
      go n = rw (touching_step s p.byte p.parts) (rw p.begins at (k.runs n))

-- ---- words of one token

module _ {s : State} {all : List Axiom} {rest : List ℕ} where
  behind_accepts : (t : Token) → PartedFrom t rest → Accepts (reading s between) rest all → Accepts (reading s (behind_token t)) rest all
  unfolding PartedFrom
  behind_accepts sub_class_of p k = k
  behind_accepts annotation p k = k
  behind_accepts comment p k = k
  behind_accepts usual p k = k
  behind_accepts opening p k = k
  behind_accepts closing p k = k
  behind_accepts owl_thing p k = touching_accepts p k
  behind_accepts owl_nothing p k = touching_accepts p k
  behind_accepts intersection_of p k = k
  behind_accepts some_values p k = k
  behind_accepts (name w) p k = touching_accepts p k

module _ (s : State) {s' : State} {all : List Axiom} {rest : List ℕ} (t : Token) (e : take_token s t ≡ some s') (k : Accepts (reading s' (behind_token t)) rest all) where
  word_accepts : (c : ℕ) (cs : List ℕ) → Accepts (reading s (word (c ∷ cs) t)) (c ∷ (cs ++ rest)) all
  unfolding run step_at
  word_accepts c [] = record { runs = λ n. rw (eq-eqb c c refl, e) (k.runs (suc n)) }
  word_accepts c (d ∷ ds) = let ih = word_accepts d ds in record { runs = λ n. rw (eq-eqb c c refl) (ih.runs (suc n)) }

-- ---- tokens that are allowed alike

pub record Alike (t u : Token) : Type 0 where
  pub begins : (axioms : List Axiom) (s : Side) (fs : List Frame) → is_some (begin_class axioms s fs t) ≡ is_some (begin_class axioms s fs u)
  pub roles : (axioms : List Axiom) (s : Side) (fs : List Frame) → is_some (take_role axioms s fs t) ≡ is_some (take_role axioms s fs u)
  pub other : (k : ℕ) → k ≤ 5 → eqb k (code t) ≡ false
  pub other' : (k : ℕ) → k ≤ 5 → eqb k (code u) ≡ false

module _ {t u : Token} (a : Alike t u) where
  next_alike : (axioms : List Axiom) (s : Side) (fs : List Frame) (C : Class) → is_some (next_behind axioms s fs C t) ≡ is_some (next_behind axioms s fs C u)
  unfolding next_behind
  next_alike axioms (left v) [] C = a.begins _ _ _
  next_alike axioms (right v B) [] C = refl
  next_alike axioms s (first ∷ fs) C = a.begins _ _ _
  next_alike axioms s (later P Ps ∷ fs) C = a.begins _ _ _
  next_alike axioms s (filler r ∷ fs) C = refl

  due_alike : (axioms : List Axiom) (s : Side) (fs : List Frame) (d : Awaited) → is_some (take_due axioms s fs d t) ≡ is_some (take_due axioms s fs d u)
  unfolding take_due
  due_alike axioms s fs an_axiom = rw (a.other 0 (omega arith), a.other' 0 (omega arith))
  due_alike axioms s fs open_axiom = rw (a.other 4 (omega arith), a.other' 4 (omega arith))
  due_alike axioms s fs annotation_or_class = rw (a.other 1 (omega arith), a.other' 1 (omega arith)) (a.begins _ _ _)
  due_alike axioms s fs open_annotation = rw (a.other 4 (omega arith), a.other' 4 (omega arith))
  due_alike axioms s fs property = rw (a.other 2 (omega arith), a.other' 2 (omega arith))
  due_alike axioms s fs value = rw (a.other 3 (omega arith), a.other' 3 (omega arith))
  due_alike axioms s fs close_annotation = rw (a.other 5 (omega arith), a.other' 5 (omega arith))
  due_alike axioms s fs a_class = a.begins _ _ _
  due_alike axioms s fs open_parts = rw (a.other 4 (omega arith), a.other' 4 (omega arith))
  due_alike axioms s fs open_some = rw (a.other 4 (omega arith), a.other' 4 (omega arith))
  due_alike axioms s fs a_role = a.roles _ _ _
  due_alike axioms s fs (behind C) = rw (a.other 5 (omega arith), a.other' 5 (omega arith)) (next_alike axioms s fs C)

  pub alike : (s : State) → allowed s t ≡ allowed s u
  alike s = due_alike s.done s.side s.frames s.due

pub owl_alike : Alike owl_thing owl_nothing
owl_alike = record { begins = λ a s fs. refl; roles = λ a s fs. refl; other = λ k h. ne_eqb k 6 (λ e. omega arith); other' = λ k h. ne_eqb k 7 (λ e. omega arith) }

pub object_alike : Alike intersection_of some_values
object_alike = record { begins = λ a s fs. refl; roles = λ a s fs. refl; other = λ k h. ne_eqb k 8 (λ e. omega arith); other' = λ k h. ne_eqb k 9 (λ e. omega arith) }

pub names_alike : (v w : Word) → Alike (name v) (name w)
names_alike v w = record { begins = λ a s fs. refl; roles = λ a s fs. refl; other = λ k h. ne_eqb k 10 (λ e. omega arith); other' = λ k h. ne_eqb k 10 (λ e. omega arith) }

-- ---- names

parts_no_word : (b : ℕ) → (gap_byte b || bracket_byte b) ≡ true → word_byte b ≡ false
parts_no_word b h = either (gap_byte b) (bracket_byte b) h
    (λ g. either (eqb b 32) (eqb b 10) g (λ q. rw (eqb-true b 32 q)) (λ q. rw (eqb-true b 10 q)))
    (λ g. either (eqb b 40) (eqb b 41) g (λ q. rw (eqb-true b 40 q)) (λ q. rw (eqb-true b 41 q)))

module _ {s s' : State} {all : List Axiom} {rest : List ℕ} (p : Parted rest) (k : Accepts (reading s' between) rest all) where
  naming_accepts : (v w : Word) → IsName (w ++ v) → take_token s (name (w ++ v)) ≡ some s' → Accepts (reading s (naming w)) (v ++ rest) all
  unfolding run step_at
  naming_accepts [] w i e =
      let e' : take_token s (name w) ≡ some s' = rw append-nil at e in
      let i' : IsName w = rw append-nil at i in
      record { runs = λ n. rw p.begins (rw (parts_no_word p.byte p.parts, lt-ltb 0 (length w) i'.word.nonempty, e') (rw p.begins at ((touching_accepts p k).runs n))) }
  naming_accepts (c ∷ v) w i e =
      let q : (w ++ (c ∷ [])) ++ v ≡ w ++ (c ∷ v) = append_assoc w (c ∷ []) v in
      let ih = naming_accepts v (w ++ (c ∷ [])) (rw q i) (rw q e) in
      let b : word_byte c ≡ true = i.word.bytes c (Memᴰ.append_right w (Memᴰ.head refl)) in
      let l : ltb (length w) word_limit ≡ true = lt-ltb (length w) word_limit (omega (arith, i.short, length-append w (c ∷ v))) in
      record { runs = λ n. rw (b, l) (ih.runs (suc n)) }

-- ---- one token

allowed_of : (s : State) (t : Token) {s' : State} → take_token s t ≡ some s' → allowed s t ≡ true
allowed_of s t e = rw e

module _ {s s' : State} {all : List Axiom} {rest : List ℕ} where
  token_accepts : (t : Token) → WellNamed t → PartedFrom t rest → take_token s t ≡ some s' → Accepts (reading s' between) rest all →
      Accepts (reading s between) (token_bytes t ++ rest) all
  unfolding run step_at begin_token token_bytes PartedFrom WellNamed
  token_accepts sub_class_of i p e k =
      let w = word_accepts s sub_class_of e (behind_accepts sub_class_of p k) 117 (98 ∷ 67 ∷ 108 ∷ 97 ∷ 115 ∷ 115 ∷ 79 ∷ 102 ∷ []) in
      record { runs = λ n. rw (allowed_of s sub_class_of e) (w.runs (suc n)) }
  token_accepts annotation i p e k =
      let w = word_accepts s annotation e (behind_accepts annotation p k) 110 (110 ∷ 111 ∷ 116 ∷ 97 ∷ 116 ∷ 105 ∷ 111 ∷ 110 ∷ []) in
      record { runs = λ n. rw (allowed_of s annotation e) (w.runs (suc n)) }
  token_accepts comment i p e k =
      let w = word_accepts s comment e (behind_accepts comment p k) 100 (102 ∷ 115 ∷ 58 ∷ 99 ∷ 111 ∷ 109 ∷ 109 ∷ 101 ∷ 110 ∷ 116 ∷ []) in
      record { runs = λ n. rw (allowed_of s comment e) (w.runs (suc n)) }
  token_accepts usual i p e k =
      let w = word_accepts s usual e (behind_accepts usual p k) 117 (115 ∷ 117 ∷ 97 ∷ 108 ∷ 34 ∷ []) in
      record { runs = λ n. rw (allowed_of s usual e) (w.runs (suc n)) }
  token_accepts opening i p e k = record { runs = λ n. rw (allowed_of s opening e, e) (k.runs (suc n)) }
  token_accepts closing i p e k = record { runs = λ n. rw (allowed_of s closing e, e) (k.runs (suc n)) }
  token_accepts owl_thing i p e k =
      let w = word_accepts s owl_thing e (behind_accepts owl_thing p k) 104 (105 ∷ 110 ∷ 103 ∷ []) in
      record { runs = λ n. rw (allowed_of s owl_thing e) (w.runs (suc (suc (suc (suc (suc n)))))) }
  token_accepts owl_nothing i p e k =
      let w = word_accepts s owl_nothing e (behind_accepts owl_nothing p k) 111 (116 ∷ 104 ∷ 105 ∷ 110 ∷ 103 ∷ []) in
      record { runs = λ n. rw (alike owl_alike s ∙ allowed_of s owl_nothing e) (w.runs (suc (suc (suc (suc (suc n)))))) }
  token_accepts intersection_of i p e k =
      let w = word_accepts s intersection_of e (behind_accepts intersection_of p k) 110 (116 ∷ 101 ∷ 114 ∷ 115 ∷ 101 ∷ 99 ∷ 116 ∷ 105 ∷ 111 ∷ 110 ∷ 79 ∷ 102 ∷ []) in
      record { runs = λ n. rw (allowed_of s intersection_of e) (w.runs (suc (suc (suc (suc (suc (suc (suc n)))))))) }
  token_accepts some_values i p e k =
      let w = word_accepts s some_values e (behind_accepts some_values p k) 111 (109 ∷ 101 ∷ 86 ∷ 97 ∷ 108 ∷ 117 ∷ 101 ∷ 115 ∷ 70 ∷ 114 ∷ 111 ∷ 109 ∷ []) in
      record { runs = λ n. rw (alike object_alike s ∙ allowed_of s some_values e) (w.runs (suc (suc (suc (suc (suc (suc (suc n)))))))) }
  token_accepts (name w) i p e k =
      let l = naming_accepts {s = s} p k w [] i e in
      record { runs = λ n. rw (alike (names_alike [] w) s ∙ allowed_of s (name w) e) (l.runs (suc n)) }

-- ---- texts

pub spaced_accepts : {ts : List Token} {t : List ℕ} {s : State} {all : List Axiom} → Spaced ts t → run_tokens ts s ≡ some all → Accepts (reading s between) t all
unfolding run run_tokens
spaced_accepts end h = record { runs = λ n. rw h }
spaced_accepts (gap g l e) h = rw e (gap_accepts _ g (spaced_accepts l h))
spaced_accepts {s = s} {all = all} (token {t = t} {ts = ts} {rest = rest} i p l e) h = rw e (go (take_token s t) refl (λ s' q. spaced_accepts {s = s'} l q) h)
  where
    go : (o : Option State) → take_token s t ≡ o → ((s' : State) → run_tokens ts s' ≡ some all → Accepts (reading s' between) rest all) →
        continued (run_tokens ts) o ≡ some all → Accepts (reading s between) (token_bytes t ++ rest) all
    go none q ih h = none_absurd all h
    go (some s') q ih h = token_accepts t i p q (ih s' h)

pub axioms_accepted : {input : List ℕ} {axioms : List Axiom} → RunOf input axioms → read_axioms input ≡ accepted axioms
axioms_accepted {axioms = axioms} a = (spaced_accepts a.spaced (tokens_complete axioms [])).runs 0
