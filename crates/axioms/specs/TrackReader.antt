-- Reading byte by byte over tracks: as the reader of axioms does it, with `track_token` for what a token does.
--     track_step    one byte
--     track_run     the bytes that are left
--     track_axioms  a whole input: the output, or the place where reading stops
use Rattle.std.specs.Prelude.{ℕ, suc, Bool, true, false, cond, ◌&&◌, List, [], ◌∷◌, ◌++◌, length, eqb, ltb}
use Rattle.std.proofs.Math.Option.{Option, none, some}
use Rattle.semantics.specs.Limits.{word_limit}
use Rattle.semantics.specs.Source.{word_byte}
use Rattle.ontology.specs.Text.{Token, sub_class_of, annotation, comment, usual, opening, closing, owl_thing, owl_nothing, intersection_of, some_values, name, token_bytes, gap_byte, bracket_byte}
use Rattle.ontology.specs.Points.{Fork, owl, object, Point, between, touching, word, fork, naming, behind_token, tail}
use Rattle.axioms.specs.Track.{Track, track, track_token}
use Rattle.axioms.specs.declared.Due.{Due}
use Rattle.axioms.specs.declared.Due.TheVariants.{NextAxiom, OpenAxiom, AnnotationOrClass, OpenAnnotation, Property, Value, CloseAnnotation, NextClass, OpenParts}
use Rattle.axioms.specs.declared.Due.TheVariants.{OpenSome, NextRole, BehindClass}

pub record TrackReading : Type 0 where
  pub held : Track
  pub point : Point

abbrev pub track_reading : Track → Point → TrackReading
track_reading x p = record { held = x; point = p }

abbrev pub is_track : Option Track → Bool
is_track none = false
is_track (some x) = true

abbrev pub track_allowed : Track → Token → Bool
track_allowed x t = is_track (track_token x t)

abbrev pub track_at : Point → Option Track → Option TrackReading
track_at p none = none
track_at p (some x) = some (track_reading x p)

abbrev pub in_track_token : Track → List ℕ → Token → Option TrackReading
in_track_token x [] t = track_at (behind_token t) (track_token x t)
in_track_token x (b ∷ bs) t = some (track_reading x (word (b ∷ bs) t))

abbrev pub begin_tok : Track → Token → Option TrackReading
begin_tok x t = cond (track_allowed x t) (in_track_token x (tail (token_bytes t)) t) none

abbrev pub begin_tok_at : Track → Token → Point → Option TrackReading
begin_tok_at x t p = cond (track_allowed x t) (some (track_reading x p)) none

unfoldable pub track_begin : Track → ℕ → Option TrackReading
track_begin x b =
    cond (eqb b 83) (begin_tok x sub_class_of)
    (cond (eqb b 65) (begin_tok x annotation)
    (cond (eqb b 114) (begin_tok x comment)
    (cond (eqb b 34) (begin_tok x usual)
    (cond (eqb b 40) (begin_tok x opening)
    (cond (eqb b 41) (begin_tok x closing)
    (cond (eqb b 111) (begin_tok_at x owl_thing (fork (119 ∷ 108 ∷ 58 ∷ []) owl))
    (cond (eqb b 79) (begin_tok_at x intersection_of (fork (98 ∷ 106 ∷ 101 ∷ 99 ∷ 116 ∷ []) object))
    (cond (eqb b 58) (begin_tok_at x (name (97 ∷ [])) (naming [])) none))))))))

unfoldable pub track_touching : Track → ℕ → Option TrackReading
track_touching x b = cond (gap_byte b) (some (track_reading x between)) (cond (bracket_byte b) (track_begin x b) none)

abbrev pub track_touching_at : Option Track → ℕ → Option TrackReading
track_touching_at none b = none
track_touching_at (some x) b = track_touching x b

abbrev pub track_fork : Track → Fork → ℕ → Option TrackReading
track_fork x owl b =
    cond (eqb b 84) (some (track_reading x (word (104 ∷ 105 ∷ 110 ∷ 103 ∷ []) owl_thing)))
    (cond (eqb b 78) (some (track_reading x (word (111 ∷ 116 ∷ 104 ∷ 105 ∷ 110 ∷ 103 ∷ []) owl_nothing))) none)
track_fork x object b =
    cond (eqb b 73) (some (track_reading x (word (110 ∷ 116 ∷ 101 ∷ 114 ∷ 115 ∷ 101 ∷ 99 ∷ 116 ∷ 105 ∷ 111 ∷ 110 ∷ 79 ∷ 102 ∷ []) intersection_of)))
    (cond (eqb b 83) (some (track_reading x (word (111 ∷ 109 ∷ 101 ∷ 86 ∷ 97 ∷ 108 ∷ 117 ∷ 101 ∷ 115 ∷ 70 ∷ 114 ∷ 111 ∷ 109 ∷ []) some_values))) none)

unfoldable pub track_step : Track → Point → ℕ → Option TrackReading
track_step x between b = cond (gap_byte b) (some (track_reading x between)) (track_begin x b)
track_step x touching b = track_touching x b
track_step x (word [] t) b = none
track_step x (word (c ∷ cs) t) b = cond (eqb b c) (in_track_token x cs t) none
track_step x (fork [] f) b = track_fork x f b
track_step x (fork (c ∷ cs) f) b = cond (eqb b c) (some (track_reading x (fork cs f))) none
track_step x (naming w) b =
    cond (word_byte b && ltb (length w) word_limit) (some (track_reading x (naming (w ++ (b ∷ [])))))
    (cond (ltb 0 (length w)) (track_touching_at (track_token x (name w)) b) none)

pub data TrackOutcome : Type 0 where
  output : List ℕ → TrackOutcome
  halted : ℕ → TrackOutcome

-- the run may end
abbrev pub may_end : Due → Bool
may_end NextAxiom = true
may_end OpenAxiom = false
may_end AnnotationOrClass = false
may_end OpenAnnotation = false
may_end Property = false
may_end Value = false
may_end CloseAnnotation = false
may_end NextClass = false
may_end OpenParts = false
may_end OpenSome = false
may_end NextRole = false
may_end BehindClass = false

abbrev pub track_end : ℕ → Track → Point → TrackOutcome
track_end n x between = cond (may_end x.due) (output x.out) (halted n)
track_end n x touching = halted n
track_end n x (word bs t) = halted n
track_end n x (fork bs f) = halted n
track_end n x (naming w) = halted n

abbrev pub track_onward : ℕ → (TrackReading → TrackOutcome) → Option TrackReading → TrackOutcome
track_onward n f none = halted n
track_onward n f (some q) = f q

unfoldable pub track_run : List ℕ → ℕ → TrackReading → TrackOutcome
track_run [] n q = track_end n q.held q.point
track_run (b ∷ bs) n q = track_onward n (track_run bs (suc n)) (track_step q.held q.point b)

abbrev pub track_axioms : List ℕ → TrackOutcome
track_axioms input = track_run input 0 (track_reading (track NextAxiom false [] []) between)
