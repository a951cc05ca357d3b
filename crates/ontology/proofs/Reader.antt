-- Reading a run of axioms, byte by byte, by definitions that compute. The theorems say what it is worth.
--     State         what has been read up to a token, as syntax: axioms, the side of the one begun, the expressions around, and what is due
--     take_token    a state and the token that follows
--     step          one byte
--     read_axioms   a whole input: its axioms, or the place of refusal 24
-- Assumes nothing.
use Prim.Native.Nat.{ℕ, suc}
use mathlib.Core.Bool.{Bool, true, false, cond, ◌&&◌}
use mathlib.Core.Option.{Option, none, some}
use mathlib.Core.List.{List, [], ◌∷◌, ◌++◌}
use lib.ListN.{length}
use lib.Dec.{eqb, ltb}
use Rattle.semantics.specs.Limits.{word_limit}
use Rattle.semantics.specs.Source.{Word, word_byte}
use Rattle.ontology.specs.Axiom.{Class, named, thing, nothing, intersection, some_values_from, Classes, one, more, Axiom}
use Rattle.ontology.specs.Text.{Token, sub_class_of, annotation, comment, usual, opening, closing, owl_thing, owl_nothing, intersection_of, some_values, name, token_bytes, gap_byte, bracket_byte}
use Rattle.ontology.specs.Points.{code, Fork, owl, object, Point, between, touching, word, fork, naming, behind_token, tail}

-- ---- states

-- an expression that has begun around the class that is read
pub data Frame : Type 0 where
  first : Frame  -- the first part of an intersection
  later : Class → List Class → Frame  -- a later part, behind the first and these
  filler : Word → Frame

-- which side of the axiom it is on, with the annotation and the left side
pub data Side : Type 0 where
  left : Bool → Side
  right : Bool → Class → Side

pub data Awaited : Type 0 where
  an_axiom : Awaited
  open_axiom : Awaited
  annotation_or_class : Awaited
  open_annotation : Awaited
  property : Awaited
  value : Awaited
  close_annotation : Awaited
  a_class : Awaited
  open_parts : Awaited
  open_some : Awaited
  a_role : Awaited
  behind : Class → Awaited  -- what follows the class

pub record State : Type 0 where
  pub done : List Axiom
  pub side : Side
  pub frames : List Frame
  pub due : Awaited

abbrev pub at : List Axiom → Side → List Frame → Awaited → State
at axioms s fs d = record { done = axioms; side = s; frames = fs; due = d }

-- ---- one token

abbrev pub expect : Token → State → Token → Option State
expect e s t = cond (eqb (code e) (code t)) (some s) none

-- a class begins with the token
abbrev pub begin_class : List Axiom → Side → List Frame → Token → Option State
begin_class axioms s fs sub_class_of = none
begin_class axioms s fs annotation = none
begin_class axioms s fs comment = none
begin_class axioms s fs usual = none
begin_class axioms s fs opening = none
begin_class axioms s fs closing = none
begin_class axioms s fs owl_thing = some (at axioms s fs (behind thing))
begin_class axioms s fs owl_nothing = some (at axioms s fs (behind nothing))
begin_class axioms s fs intersection_of = some (at axioms s fs open_parts)
begin_class axioms s fs some_values = some (at axioms s fs open_some)
begin_class axioms s fs (name w) = some (at axioms s fs (behind (named w)))

abbrev pub take_role : List Axiom → Side → List Frame → Token → Option State
take_role axioms s fs sub_class_of = none
take_role axioms s fs annotation = none
take_role axioms s fs comment = none
take_role axioms s fs usual = none
take_role axioms s fs opening = none
take_role axioms s fs closing = none
take_role axioms s fs owl_thing = none
take_role axioms s fs owl_nothing = none
take_role axioms s fs intersection_of = none
take_role axioms s fs some_values = none
take_role axioms s fs (name w) = some (at axioms s (filler w ∷ fs) a_class)

-- the others of an intersection, with those that come before them
unfoldable pub preceded : List Class → Classes → Classes
preceded [] Cs = Cs
preceded (P ∷ Ps) Cs = more P (preceded Ps Cs)

-- a bracket closes behind the class
unfoldable pub close_behind : List Axiom → Side → List Frame → Class → Option State
close_behind axioms (left u) [] C = none
close_behind axioms (right u B) [] C = some (at (axioms ++ (record { usual = u; sub = B; super = C } ∷ [])) (left false) [] an_axiom)
close_behind axioms s (first ∷ fs) C = none
close_behind axioms s (later P Ps ∷ fs) C = some (at axioms s fs (behind (intersection P (preceded Ps (one C)))))
close_behind axioms s (filler r ∷ fs) C = some (at axioms s fs (behind (some_values_from r C)))

-- another class begins behind the class
unfoldable pub next_behind : List Axiom → Side → List Frame → Class → Token → Option State
next_behind axioms (left u) [] C t = begin_class axioms (right u C) [] t
next_behind axioms (right u B) [] C t = none
next_behind axioms s (first ∷ fs) C t = begin_class axioms s (later C [] ∷ fs) t
next_behind axioms s (later P Ps ∷ fs) C t = begin_class axioms s (later P (Ps ++ (C ∷ [])) ∷ fs) t
next_behind axioms s (filler r ∷ fs) C t = none

unfoldable pub take_due : List Axiom → Side → List Frame → Awaited → Token → Option State
take_due axioms s fs an_axiom t = expect sub_class_of (at axioms (left false) [] open_axiom) t
take_due axioms s fs open_axiom t = expect opening (at axioms (left false) [] annotation_or_class) t
take_due axioms s fs annotation_or_class t = cond (eqb (code annotation) (code t)) (some (at axioms (left true) [] open_annotation)) (begin_class axioms (left false) [] t)
take_due axioms s fs open_annotation t = expect opening (at axioms (left true) [] property) t
take_due axioms s fs property t = expect comment (at axioms (left true) [] value) t
take_due axioms s fs value t = expect usual (at axioms (left true) [] close_annotation) t
take_due axioms s fs close_annotation t = expect closing (at axioms (left true) [] a_class) t
take_due axioms s fs a_class t = begin_class axioms s fs t
take_due axioms s fs open_parts t = expect opening (at axioms s (first ∷ fs) a_class) t
take_due axioms s fs open_some t = expect opening (at axioms s fs a_role) t
take_due axioms s fs a_role t = take_role axioms s fs t
take_due axioms s fs (behind C) t = cond (eqb (code closing) (code t)) (close_behind axioms s fs C) (next_behind axioms s fs C t)

abbrev pub take_token : State → Token → Option State
take_token s t = take_due s.done s.side s.frames s.due t

-- the axioms, where the run may end
abbrev pub ended : List Axiom → Awaited → Option (List Axiom)
ended axioms an_axiom = some axioms
ended axioms open_axiom = none
ended axioms annotation_or_class = none
ended axioms open_annotation = none
ended axioms property = none
ended axioms value = none
ended axioms close_annotation = none
ended axioms a_class = none
ended axioms open_parts = none
ended axioms open_some = none
ended axioms a_role = none
ended axioms (behind C) = none

-- ---- one byte

pub record Reading : Type 0 where
  pub state : State
  pub point : Point

abbrev pub reading : State → Point → Reading
reading s p = record { state = s; point = p }

abbrev pub is_some : Option State → Bool
is_some none = false
is_some (some s) = true

abbrev pub allowed : State → Token → Bool
allowed s t = is_some (take_token s t)

abbrev pub reading_at : Point → Option State → Option Reading
reading_at p none = none
reading_at p (some s) = some (reading s p)

-- the token with these bytes left
abbrev pub in_token : State → List ℕ → Token → Option Reading
in_token s [] t = reading_at (behind_token t) (take_token s t)
in_token s (b ∷ bs) t = some (reading s (word (b ∷ bs) t))

abbrev pub begin : State → Token → Option Reading
begin s t = cond (allowed s t) (in_token s (tail (token_bytes t)) t) none

abbrev pub begin_at : State → Token → Point → Option Reading
begin_at s t p = cond (allowed s t) (some (reading s p)) none

unfoldable pub begin_token : State → ℕ → Option Reading
begin_token s b =
    cond (eqb b 83) (begin s sub_class_of)
    (cond (eqb b 65) (begin s annotation)
    (cond (eqb b 114) (begin s comment)
    (cond (eqb b 34) (begin s usual)
    (cond (eqb b 40) (begin s opening)
    (cond (eqb b 41) (begin s closing)
    (cond (eqb b 111) (begin_at s owl_thing (fork (119 ∷ 108 ∷ 58 ∷ []) owl))
    (cond (eqb b 79) (begin_at s intersection_of (fork (98 ∷ 106 ∷ 101 ∷ 99 ∷ 116 ∷ []) object))
    (cond (eqb b 58) (begin_at s (name []) (naming [])) none))))))))

unfoldable pub step_touching : State → ℕ → Option Reading
step_touching s b = cond (gap_byte b) (some (reading s between)) (cond (bracket_byte b) (begin_token s b) none)

abbrev pub touching_at : Option State → ℕ → Option Reading
touching_at none b = none
touching_at (some s) b = step_touching s b

-- the byte in which the two tokens differ
abbrev pub step_fork : State → Fork → ℕ → Option Reading
step_fork s owl b =
    cond (eqb b 84) (some (reading s (word (104 ∷ 105 ∷ 110 ∷ 103 ∷ []) owl_thing)))
    (cond (eqb b 78) (some (reading s (word (111 ∷ 116 ∷ 104 ∷ 105 ∷ 110 ∷ 103 ∷ []) owl_nothing))) none)
step_fork s object b =
    cond (eqb b 73) (some (reading s (word (110 ∷ 116 ∷ 101 ∷ 114 ∷ 115 ∷ 101 ∷ 99 ∷ 116 ∷ 105 ∷ 111 ∷ 110 ∷ 79 ∷ 102 ∷ []) intersection_of)))
    (cond (eqb b 83) (some (reading s (word (111 ∷ 109 ∷ 101 ∷ 86 ∷ 97 ∷ 108 ∷ 117 ∷ 101 ∷ 115 ∷ 70 ∷ 114 ∷ 111 ∷ 109 ∷ []) some_values))) none)

unfoldable pub step_at : State → Point → ℕ → Option Reading
step_at s between b = cond (gap_byte b) (some (reading s between)) (begin_token s b)
step_at s touching b = step_touching s b
step_at s (word [] t) b = none
step_at s (word (c ∷ cs) t) b = cond (eqb b c) (in_token s cs t) none
step_at s (fork [] f) b = step_fork s f b
step_at s (fork (c ∷ cs) f) b = cond (eqb b c) (some (reading s (fork cs f))) none
step_at s (naming w) b =
    cond (word_byte b && ltb (length w) word_limit) (some (reading s (naming (w ++ (b ∷ [])))))
    (cond (ltb 0 (length w)) (touching_at (take_token s (name w)) b) none)

abbrev pub step : Reading → ℕ → Option Reading
step r b = step_at r.state r.point b

-- ---- a whole input

pub data Outcome : Type 0 where
  accepted : List Axiom → Outcome
  stopped : ℕ → Outcome  -- refusal 24, at the place

abbrev pub outcome_of : ℕ → Option (List Axiom) → Outcome
outcome_of n none = stopped n
outcome_of n (some axioms) = accepted axioms

abbrev pub end_at : ℕ → State → Point → Outcome
end_at n s between = outcome_of n (ended s.done s.due)
end_at n s touching = stopped n
end_at n s (word bs t) = stopped n
end_at n s (fork bs f) = stopped n
end_at n s (naming w) = stopped n

abbrev pub onward : ℕ → (Reading → Outcome) → Option Reading → Outcome
onward n f none = stopped n
onward n f (some r) = f r

-- n bytes stand before
unfoldable pub run : List ℕ → ℕ → Reading → Outcome
run [] n r = end_at n r.state r.point
run (b ∷ bs) n r = onward n (run bs (suc n)) (step r b)

abbrev pub start : Reading
start = reading (at [] (left false) [] an_axiom) between

abbrev pub read_axioms : List ℕ → Outcome
read_axioms input = run input 0 start
