-- What the code keeps of a state of reading: what is due, the side, a stack of numbers, and the output, in which a 0 stands for nothing.
--     Track         what is kept
--     compact       the output without its zeros
--     track_token   a token
-- The stack has for each expression around, the innermost first: 0 in a role's filler, 1 in the first part of an intersection, and in a later part
-- 2 more than the place of its ` &` in the output. Where the intersection ends there, the two bytes become 0.
use Rattle.std.specs.Prelude.{ℕ, ◌+◌, ◌-◌, Bool, true, false, cond, List, [], ◌∷◌, ◌++◌, length, set, eqb}
use Rattle.std.proofs.Math.Option.{Option, none, some}
use Rattle.semantics.specs.Closure.{strict, defeasible}
use Rattle.semantics.specs.Source.{star_byte, dash_byte, ampersand_byte, slash_byte, space_byte, line_feed, letter_byte}
use Rattle.ontology.specs.Text.{Token, sub_class_of, annotation, comment, usual, opening, closing, owl_thing, owl_nothing, intersection_of, some_values, name}
use Rattle.ontology.specs.Points.{code}
use Rattle.axioms.specs.declared.Due.{Due}
use Rattle.axioms.specs.declared.Due.TheVariants.{NextAxiom, OpenAxiom, AnnotationOrClass, OpenAnnotation, Property, Value, CloseAnnotation, NextClass, OpenParts}
use Rattle.axioms.specs.declared.Due.TheVariants.{OpenSome, NextRole, BehindClass}

pub record Track : Type 0 where
  pub due : Due
  pub right : Bool
  pub stack : List ℕ
  pub out : List ℕ

abbrev pub track : Due → Bool → List ℕ → List ℕ → Track
track d r st o = record { due = d; right = r; stack = st; out = o }

-- the output without its zeros
unfoldable pub compact : List ℕ → List ℕ
compact [] = []
compact (b ∷ bs) = cond (eqb b 0) (compact bs) (b ∷ compact bs)

abbrev pub expect_track : Token → Track → Token → Option Track
expect_track e x t = cond (eqb (code e) (code t)) (some x) none

-- a class begins
abbrev pub begin_track : Bool → List ℕ → List ℕ → Token → Option Track
begin_track r st o sub_class_of = none
begin_track r st o annotation = none
begin_track r st o comment = none
begin_track r st o usual = none
begin_track r st o opening = none
begin_track r st o closing = none
begin_track r st o owl_thing = some (track BehindClass r st (o ++ (space_byte ∷ (star_byte ∷ []))))
begin_track r st o owl_nothing = some (track BehindClass r st (o ++ (space_byte ∷ (dash_byte ∷ []))))
begin_track r st o intersection_of = some (track OpenParts r st o)
begin_track r st o some_values = some (track OpenSome r st o)
begin_track r st o (name w) = some (track BehindClass r st (o ++ (space_byte ∷ w)))

abbrev pub role_track : Bool → List ℕ → List ℕ → Token → Option Track
role_track r st o sub_class_of = none
role_track r st o annotation = none
role_track r st o comment = none
role_track r st o usual = none
role_track r st o opening = none
role_track r st o closing = none
role_track r st o owl_thing = none
role_track r st o owl_nothing = none
role_track r st o intersection_of = none
role_track r st o some_values = none
role_track r st o (name w) = some (track NextClass r (0 ∷ st) (o ++ (space_byte ∷ (slash_byte ∷ w))))

-- what stands before a part that another follows
abbrev pub part_mark : List ℕ
part_mark = space_byte ∷ (ampersand_byte ∷ [])

-- the two bytes of a mark become 0
abbrev pub unmarked : List ℕ → ℕ → List ℕ
unmarked o e = set (set o (e - 2) 0) (e - 2 + 1) 0

-- a bracket closes behind a class
abbrev pub close_track : Bool → List ℕ → List ℕ → Option Track
close_track r [] o = cond r (some (track NextAxiom false [] (o ++ (line_feed ∷ [])))) none
close_track r (e ∷ st) o = cond (eqb e 0) (some (track BehindClass r st o)) (cond (eqb e 1) none (some (track BehindClass r st (unmarked o e))))

-- another class begins behind a class
abbrev pub next_track : Bool → List ℕ → List ℕ → Token → Option Track
next_track r [] o t = cond r none (begin_track true [] o t)
next_track r (e ∷ st) o t = cond (eqb e 0) none (begin_track r ((2 + length o) ∷ st) (o ++ part_mark) t)

unfoldable pub track_due : Due → Bool → List ℕ → List ℕ → Token → Option Track
track_due NextAxiom r st o t = expect_track sub_class_of (track OpenAxiom r st o) t
track_due OpenAxiom r st o t = expect_track opening (track AnnotationOrClass r st o) t
track_due AnnotationOrClass r st o t =
    cond (eqb (code annotation) (code t)) (some (track OpenAnnotation r st (o ++ (letter_byte defeasible ∷ [])))) (begin_track r st (o ++ (letter_byte strict ∷ [])) t)
track_due OpenAnnotation r st o t = expect_track opening (track Property r st o) t
track_due Property r st o t = expect_track comment (track Value r st o) t
track_due Value r st o t = expect_track usual (track CloseAnnotation r st o) t
track_due CloseAnnotation r st o t = expect_track closing (track NextClass r st o) t
track_due NextClass r st o t = begin_track r st o t
track_due OpenParts r st o t = expect_track opening (track NextClass r (1 ∷ st) (o ++ part_mark)) t
track_due OpenSome r st o t = expect_track opening (track NextRole r st o) t
track_due NextRole r st o t = role_track r st o t
track_due BehindClass r st o t = cond (eqb (code closing) (code t)) (close_track r st o) (next_track r st o t)

abbrev pub track_token : Track → Token → Option Track
track_token x t = track_due x.due x.right x.stack x.out t
