-- Reading as the code does it gives what the reader gives: the place where it stops, or an output that is the book when its zeros are left out.
-- Assumes nothing.
use Prim.Native.Nat.{ℕ, suc}
use mathlib.Core.Path.{◌≡◌, refl, ◌∙◌}
use mathlib.Core.Bool.{Bool, true, false, cond, ◌&&◌}
use mathlib.Core.Option.{Option, none, some}
use mathlib.Core.List.{List, [], ◌∷◌}
use lib.ListN.{length}
use lib.Dec.{eqb, ltb}
use borrow.Author.Tests.{ltb-true}
use Rattle.semantics.proofs.Tests.{cases}
use Rattle.semantics.specs.Limits.{word_limit}
use Rattle.semantics.specs.Source.{word_byte}
use Rattle.ontology.specs.Axiom.{Axiom}
use Rattle.ontology.specs.Book.{book}
use Rattle.ontology.specs.Text.{Token, sub_class_of, annotation, comment, usual, opening, closing, owl_thing, intersection_of, name, token_bytes, gap_byte, bracket_byte, WellNamed}
use Rattle.ontology.specs.Points.{Fork, owl, object, Point, between, touching, word, fork, naming, behind_token, tail}
use Rattle.ontology.proofs.Reader.{Frame, Side, left, Awaited, State, at, Reading, reading, is_some, reading_at, in_token, begin, begin_token, step_touching, touching_at}
use Rattle.ontology.proofs.Reader.{step_fork, step_at, Outcome, accepted, stopped, end_at, onward, run, read_axioms}
use Rattle.axioms.specs.declared.Due.{Due}
use Rattle.axioms.specs.declared.Due.TheVariants.{NextAxiom}
use Rattle.axioms.specs.Track.{Track, track, compact, track_due}
use Rattle.axioms.specs.TrackReader.{TrackReading, track_reading, is_track, track_at, in_track_token, begin_tok, track_begin, track_touching, track_touching_at, track_fork}
use Rattle.axioms.specs.TrackReader.{track_step, TrackOutcome, output, halted, track_end, track_onward, track_run, track_axioms}
use Rattle.ontology.proofs.Tokens.{a_name}
use Rattle.ontology.proofs.Complete.{alike, names_alike}
use Rattle.ontology.proofs.Sound.{Valid, stepped}
use Rattle.axioms.proofs.Tracks as tracks
use Rattle.axioms.proofs.Tracks.{Matches, at_axiom, Agree, neither, both, agree}

pub data Together : Option Reading → Option TrackReading → Type 0 where
  none_of : Together none none
  both_of : {axioms : List Axiom} {s : Side} {fs : List Frame} {d : Awaited} {n : Due} {r : Bool} {st out : List ℕ} (p : Point) → Matches axioms s fs d n r st out →
      Together (some (reading (at axioms s fs d) p)) (some (track_reading (track n r st out) p))

agree_some : {o : Option State} {q : Option Track} → Agree o q → is_some o ≡ is_track q
agree_some neither = refl
agree_some (both m) = refl

together_at : {o : Option State} {q : Option Track} (p : Point) → Agree o q → Together (reading_at p o) (track_at p q)
together_at p neither = none_of
together_at p (both m) = both_of p m

module _ {axioms : List Axiom} {s : Side} {fs : List Frame} {d : Awaited} {n : Due} {r : Bool} {st out : List ℕ} (m : Matches axioms s fs d n r st out) where
  in_together : (cs : List ℕ) (t : Token) → WellNamed t → Together (in_token (at axioms s fs d) cs t) (in_track_token (track n r st out) cs t)
  in_together [] t k = together_at (behind_token t) (agree axioms s fs m t k)
  in_together (c ∷ cs) t k = both_of (word (c ∷ cs) t) m

  begin_together : (t : Token) → WellNamed t → Together (begin (at axioms s fs d) t) (begin_tok (track n r st out) t)
  begin_together t k = rw (agree_some (agree axioms s fs m t k)) (go (is_track (track_due n r st out t)))
    where
      go : (b : Bool) → Together (cond b (in_token (at axioms s fs d) (tail (token_bytes t)) t) none) (cond b (in_track_token (track n r st out) (tail (token_bytes t)) t) none)
      go true = in_together (tail (token_bytes t)) t k
      go false = none_of

  at_together : (b c : Bool) (p : Point) → b ≡ c →
      Together (cond b (some (reading (at axioms s fs d) p)) none) (cond c (some (track_reading (track n r st out) p)) none)
  at_together true c p e = rw (← e) (both_of p m)
  at_together false c p e = rw (← e) none_of

  choose_together : (b : Bool) {o o' : Option Reading} {q q' : Option TrackReading} → Together o q → Together o' q' → Together (cond b o o') (cond b q q')
  choose_together true x y = x
  choose_together false x y = y

  token_together : (b : ℕ) → Together (begin_token (at axioms s fs d) b) (track_begin (track n r st out) b)
  unfolding begin_token track_begin WellNamed
  token_together b =
      choose_together (eqb b 83) (begin_together sub_class_of tt)
      (choose_together (eqb b 65) (begin_together annotation tt)
      (choose_together (eqb b 114) (begin_together comment tt)
      (choose_together (eqb b 34) (begin_together usual tt)
      (choose_together (eqb b 40) (begin_together opening tt)
      (choose_together (eqb b 41) (begin_together closing tt)
      (choose_together (eqb b 111) (at_together _ _ _ (agree_some (agree axioms s fs m owl_thing tt)))
      (choose_together (eqb b 79) (at_together _ _ _ (agree_some (agree axioms s fs m intersection_of tt)))
      (choose_together (eqb b 58)
      (at_together _ _ _ (alike (names_alike [] (97 ∷ [])) (at axioms s fs d) ∙ agree_some (agree axioms s fs m (name (97 ∷ [])) a_name))) none_of))))))))

  touching_together : (b : ℕ) → Together (step_touching (at axioms s fs d) b) (track_touching (track n r st out) b)
  unfolding step_touching track_touching
  touching_together b = choose_together (gap_byte b) (both_of between m) (choose_together (bracket_byte b) (token_together b) none_of)

  fork_together : (f : Fork) (b : ℕ) → Together (step_fork (at axioms s fs d) f b) (track_fork (track n r st out) f b)
  fork_together owl b = choose_together (eqb b 84) (both_of _ m) (choose_together (eqb b 78) (both_of _ m) none_of)
  fork_together object b = choose_together (eqb b 73) (both_of _ m) (choose_together (eqb b 83) (both_of _ m) none_of)

touched : {o : Option State} {q : Option Track} (b : ℕ) → Agree o q → Together (touching_at o b) (track_touching_at q b)
touched b neither = none_of
touched b (both m) = touching_together m b

step_together : {axioms : List Axiom} {s : Side} {fs : List Frame} {d : Awaited} {n : Due} {r : Bool} {st out : List ℕ} → Matches axioms s fs d n r st out →
    (p : Point) (b : ℕ) → Valid (at axioms s fs d) p → Together (step_at (at axioms s fs d) p b) (track_step (track n r st out) p b)
unfolding step_at track_step WellNamed
step_together m between b v = choose_together m (gap_byte b) (both_of between m) (token_together m b)
step_together m touching b v = touching_together m b
step_together m (word [] t) b v = none_of
step_together m (word (c ∷ cs) t) b v = choose_together m (eqb b c) (in_together m cs t v.1) none_of
step_together m (fork [] f) b v = fork_together m f b
step_together m (fork (c ∷ cs) f) b v = choose_together m (eqb b c) (both_of (fork cs f) m) none_of
step_together {axioms} {s} {fs} m (naming w) b v = choose_together m (word_byte b && ltb (length w) word_limit) (both_of _ m)
    (cases (ltb 0 (length w))
    (λ q. rw q (touched b (agree axioms s fs m (name w) record { word = record { nonempty = ltb-true 0 (length w) q; bytes = v.1.bytes }; short = v.1.short })))
    (λ q. rw q none_of))

-- ---- a whole input

pub data SameOutcome : Outcome → TrackOutcome → Type 0 where
  same_stop : {p : ℕ} → SameOutcome (stopped p) (halted p)
  same_book : {axioms : List Axiom} {out : List ℕ} → compact out ≡ book axioms → SameOutcome (accepted axioms) (output out)

end_same : {axioms : List Axiom} {s : Side} {fs : List Frame} {d : Awaited} {n : Due} {r : Bool} {st out : List ℕ} → Matches axioms s fs d n r st out →
    (p : Point) (k : ℕ) → SameOutcome (end_at k (at axioms s fs d) p) (track_end k (track n r st out) p)
end_same (tracks.at_axiom h) between k = same_book h
end_same (tracks.at_open h) between k = same_stop
end_same (tracks.at_first h) between k = same_stop
end_same (tracks.at_open_annotation h) between k = same_stop
end_same (tracks.at_property h) between k = same_stop
end_same (tracks.at_value h) between k = same_stop
end_same (tracks.at_close_annotation h) between k = same_stop
end_same (tracks.at_class l e) between k = same_stop
end_same (tracks.at_parts l e) between k = same_stop
end_same (tracks.at_some l e) between k = same_stop
end_same (tracks.at_role l e) between k = same_stop
end_same (tracks.at_behind y l h q e) between k = same_stop
end_same m touching k = same_stop
end_same m (word cs t) k = same_stop
end_same m (fork cs f) k = same_stop
end_same m (naming w) k = same_stop

abbrev RunsSame : List ℕ → Type 0
RunsSame t =
    (k : ℕ) (axioms : List Axiom) (s : Side) (fs : List Frame) (d : Awaited) (n : Due) (r : Bool) (st out : List ℕ) (p : Point) → Matches axioms s fs d n r st out →
    Valid (at axioms s fs d) p → SameOutcome (run t k (reading (at axioms s fs d) p)) (track_run t k (track_reading (track n r st out) p))

onward_same : (k : ℕ) (t : List ℕ) {o : Option Reading} {q : Option TrackReading} → RunsSame t → ((x : Reading) → o ≡ some x → Valid x.state x.point) → Together o q →
    SameOutcome (onward k (run t (suc k)) o) (track_onward k (track_run t (suc k)) q)
onward_same k t ih v none_of = same_stop
onward_same k t ih v (both_of {axioms} {s} {fs} {d} {n} {r} {st} {out} p m) = ih (suc k) axioms s fs d n r st out p m (v (reading (at axioms s fs d) p) refl)

runs_same : (t : List ℕ) → RunsSame t
unfolding run track_run
runs_same [] k axioms s fs d n r st out p m v = end_same m p k
runs_same (b ∷ t) k axioms s fs d n r st out p m v =
    onward_same k t (runs_same t) (λ x e. (stepped (at axioms s fs d) p b x v e).valid) (step_together m p b v)

-- The reader and the code's way of reading stop at the same place, or the output without its zeros is the book.
pub tracks_same : (input : List ℕ) → SameOutcome (read_axioms input) (track_axioms input)
unfolding compact book
tracks_same input = runs_same input 0 [] (left false) [] _ NextAxiom false [] [] between (at_axiom refl) tt
