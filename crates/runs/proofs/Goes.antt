-- One step of reading, by what stands at the offset. Assumes nothing.
--     gap_goes               a gap
--     whole_goes, whole_stops, whole_touches   a whole token, one that can't stand there, one that is not parted from what follows
--     cut_goes, cut_stops    the first bytes of a token, and of one that can't stand there
--     missing_stops          no token
use Prim.Native.Nat.{ℕ, suc, ◌+◌, ◌-◌, ◌<◌, ◌≤◌}
use native.Mathlib.Omega.{arith}
use mathlib.Core.Path.{◌≡◌, refl, sym, ◌∙◌, ap, subst}
use mathlib.Core.Bool.{Bool, true, false, ◌||◌, true≢false}
use mathlib.Core.Option.{Option, none, some}
use mathlib.Core.List.{List, [], ◌∷◌}
use lib.ListN.{length, get_or, take, drop, length-drop}
use lib.Seq.{drop-cons, drop-drop, get_or-drop}
use Rattle.std.specs.Prelude.{Option as Maybe, Some, None, Ok, Err}
use Rattle.semantics.proofs.Tests.{cases, neither}
use Rattle.semantics.specs.Limits.{word_limit}
use Rattle.semantics.specs.Source.{Word}
use Rattle.ontology.specs.Text.{Token, sub_class_of, annotation, comment, usual, opening, closing, owl_thing, owl_nothing, intersection_of, some_values, name, gap_byte, bracket_byte, token_bytes}
use Rattle.ontology.specs.Points.{between, touching, behind_token, token_of}
use Rattle.ontology.specs.declared.TokenKind.{TokenKind}
use Rattle.ontology.specs.declared.TokenKind.TheVariants.{SubClassOf, Annotation, Comment, Usual, Opening, Closing, Thing, Nothing, Intersection, SomeValues, Name}
use Rattle.axioms.specs.Track.{Track, track_token}
use Rattle.axioms.specs.TrackReader.{track_touching, track_step, halted, track_run}
use Rattle.axioms.specs.Steps.{Kept, track_of, Grown, TakenAs, stops, goes}
use Rattle.tokens.specs.Seen.{gap_length, seen_at}
use Rattle.tokens.proofs.Runs.{gap_le}
use Rattle.tokens.proofs.Seeing.{tail_drop}
use Rattle.tokens.specs.declared.Seen.{Seen}
use Rattle.tokens.specs.declared.Seen.TheVariants.{Whole, Cut}
use Rattle.runs.specs.Steps.{is_parted, name_start, Ready, WholeThere, CutThere, run_from, GoesOn, on, stop}
use Rattle.runs.proofs.Words.{run_at}
use Rattle.runs.proofs.Levels.{levels_grown}
use Rattle.runs.proofs.Seen.{name_bytes, word_in, WholeRun, CutRun, Means, seen_means}

-- ---- what a token that was taken says

record TakenTo (p : Kept) (t : Token) (stack out : List ℕ) (o : Option Track) (q : Kept) : Type 0 where
  pub track : o ≡ some (track_of q stack out)
  pub grown : Grown p t q stack

taken_to : {p q : Kept} {t : Token} {stack out : List ℕ} {o : Option Track} {r : Bool} → TakenAs p t q stack out o r → r ≡ true → TakenTo p t stack out o q
taken_to stops e = absurd (true≢false (sym e))
taken_to (goes i g) e = record { track = ap some (sym i); grown = g }

taken_stop : {p q : Kept} {t : Token} {stack out : List ℕ} {o : Option Track} {r : Bool} → TakenAs p t q stack out o r → r ≡ false → o ≡ none
taken_stop stops e = refl
taken_stop (goes i g) e = absurd (true≢false e)

-- ---- what stands behind a token

some_byte : (t : Token) → 0 < length (token_bytes t)
unfolding token_bytes
some_byte sub_class_of = omega arith
some_byte annotation = omega arith
some_byte comment = omega arith
some_byte usual = omega arith
some_byte opening = omega arith
some_byte closing = omega arith
some_byte owl_thing = omega arith
some_byte owl_nothing = omega arith
some_byte intersection_of = omega arith
some_byte some_values = omega arith
some_byte (name w) = omega arith

first_byte : (l : List ℕ) (n : ℕ) → get_or (drop n l) 0 0 ≡ get_or l n 0
first_byte l n = get_or-drop n l 0 0 ∙ ap (λ k. get_or l k 0) (omega arith)

touching_parted : (u : List ℕ) (n : ℕ) (x : Track) → (gap_byte (get_or u 0 0) || bracket_byte (get_or u 0 0)) ≡ true → run_at u n x touching ≡ run_at u n x between
unfolding track_run track_step track_touching
touching_parted [] n x h = absurd (true≢false (sym h))
touching_parted (b ∷ u) n x h = cases (gap_byte b) (λ g. rw g) (λ g. let k : bracket_byte b ≡ true = rw g at h in rw (g, k))

touching_stops : (u : List ℕ) (n : ℕ) (x : Track) → (gap_byte (get_or u 0 0) || bracket_byte (get_or u 0 0)) ≡ false → run_at u n x touching ≡ halted n
unfolding track_run track_step track_touching
touching_stops [] n x h = refl
touching_stops (b ∷ u) n x h = let k = neither (gap_byte b) (bracket_byte b) h in rw (k.0, k.1)

parted_run : (k : TokenKind) (w : Word) (u : List ℕ) (n : ℕ) (x : Track) → is_parted k (get_or u 0 0) ≡ true → run_at u n x (behind_token (token_of k w)) ≡ run_at u n x between
parted_run SubClassOf w u n x h = refl
parted_run Annotation w u n x h = refl
parted_run Comment w u n x h = refl
parted_run Usual w u n x h = refl
parted_run Opening w u n x h = refl
parted_run Closing w u n x h = refl
parted_run Thing w u n x h = touching_parted u n x h
parted_run Nothing w u n x h = touching_parted u n x h
parted_run Intersection w u n x h = refl
parted_run SomeValues w u n x h = refl
parted_run Name w u n x h = touching_parted u n x h

touching_halts : (k : TokenKind) (w : Word) (u : List ℕ) (n : ℕ) (x : Track) → is_parted k (get_or u 0 0) ≡ false → run_at u n x (behind_token (token_of k w)) ≡ halted n
touching_halts SubClassOf w u n x h = absurd (true≢false h)
touching_halts Annotation w u n x h = absurd (true≢false h)
touching_halts Comment w u n x h = absurd (true≢false h)
touching_halts Usual w u n x h = absurd (true≢false h)
touching_halts Opening w u n x h = absurd (true≢false h)
touching_halts Closing w u n x h = absurd (true≢false h)
touching_halts Thing w u n x h = touching_stops u n x h
touching_halts Nothing w u n x h = touching_stops u n x h
touching_halts Intersection w u n x h = absurd (true≢false h)
touching_halts SomeValues w u n x h = absurd (true≢false h)
touching_halts Name w u n x h = touching_stops u n x h

gap_run : (u : List ℕ) (n : ℕ) (x : Track) → run_at u n x between ≡ run_at (drop (gap_length u) u) (n + gap_length u) x between
unfolding gap_length track_run track_step
gap_run [] n x = ap (λ k. run_at [] k x between) (omega arith)
gap_run (b ∷ u) n x = cases (gap_byte b)
    (λ q. let z : n + suc (gap_length u) ≡ suc n + gap_length u = omega arith in rw (q, z) (gap_run u (suc n) x))
    (λ q. let z : n + 0 ≡ n = omega arith in rw (q, z, q))

-- a gap that begins has a byte
gap_some : (b : ℕ) (u : List ℕ) → gap_byte b ≡ true → 0 < gap_length (b ∷ u)
unfolding gap_length
gap_some b u q = rw q (omega arith)

-- ---- the word of a token, as the code takes it

module _ (input : List ℕ) (at end : ℕ) where
  abbrev pub slice : TokenKind → Word
  slice kind = take (end - name_start kind at end) (drop (name_start kind at end) input)

  pub start_le : (kind : TokenKind) → at < end → name_start kind at end ≤ end
  start_le SubClassOf h = omega arith
  start_le Annotation h = omega arith
  start_le Comment h = omega arith
  start_le Usual h = omega arith
  start_le Opening h = omega arith
  start_le Closing h = omega arith
  start_le Thing h = omega arith
  start_le Nothing h = omega arith
  start_le Intersection h = omega arith
  start_le SomeValues h = omega arith
  start_le Name h = omega arith

  none_taken : length (take (end - end) (drop end input)) ≤ word_limit
  none_taken = let z : end - end ≡ 0 = omega arith in rw z (omega arith)

  slice_token : (kind : TokenKind) → token_of kind (slice kind) ≡ token_of kind (name_bytes kind (end - at) (drop at input))
  slice_token SubClassOf = refl
  slice_token Annotation = refl
  slice_token Comment = refl
  slice_token Usual = refl
  slice_token Opening = refl
  slice_token Closing = refl
  slice_token Thing = refl
  slice_token Nothing = refl
  slice_token Intersection = refl
  slice_token SomeValues = refl
  slice_token Name = let z : end - at - 1 ≡ end - (at + 1) = omega arith in rw (z, tail_drop input at)

  slice_short : (kind : TokenKind) → length (word_in (token_of kind (name_bytes kind (end - at) (drop at input)))) ≤ word_limit → length (slice kind) ≤ word_limit
  slice_short SubClassOf h = none_taken
  slice_short Annotation h = none_taken
  slice_short Comment h = none_taken
  slice_short Usual h = none_taken
  slice_short Opening h = none_taken
  slice_short Closing h = none_taken
  slice_short Thing h = none_taken
  slice_short Nothing h = none_taken
  slice_short Intersection h = none_taken
  slice_short SomeValues h = none_taken
  slice_short Name h = let z : end - at - 1 ≡ end - (at + 1) = omega arith in rw (z, tail_drop input at) at h

-- ---- steps

module _ (input : List ℕ) (at : ℕ) (p : Kept) (stack out : List ℕ) where
  abbrev here : Track
  here = track_of p stack out

  split : at < length input → drop at input ≡ get_or input at 0 ∷ drop (suc at) input
  split h = drop-cons input at 0 h

  pub gap_goes : Ready input at p stack out → gap_byte (get_or input at 0) ≡ true →
      GoesOn input at p p (run_from input at p stack out) stack out (Ok (at + gap_length (drop at input)))
  gap_goes r g =
      let n = gap_length (drop at input) in
      let some_gap : 0 < n = rw (split r.inside) (gap_some (get_or input at 0) (drop (suc at) input) g) in
      let inside : at + n ≤ length input = omega (arith, gap_le (drop at input), length-drop at input, r.inside) in
      on {next = at + n} (gap_run (drop at input) at here ∙ ap (λ l. run_at l (at + n) here between) (drop-drop n at input)) (omega arith) inside (omega arith) (omega arith) r.fits.marks

  means : at < length input → gap_byte (get_or input at 0) ≡ false → (s : Maybe Seen) → seen_at (drop at input) ≡ s → Means here (drop at input) at s
  means h g s e = subst (Means here (drop at input) at) e
      (subst (λ l. Means here l at (seen_at l)) (sym (split h)) (seen_means here at (get_or input at 0) (drop (suc at) input) g))

  module _ (r : Ready input at p stack out) (g : gap_byte (get_or input at 0) ≡ false) (kind : TokenKind) (m : ℕ) where
    same_size : at + m - at ≡ m
    same_size = omega arith

    -- the offset where a token ends fits its number
    pub whole_there : seen_at (drop at input) ≡ Some (Whole kind m) → WholeThere input at (at + m) kind p stack out × (at + m ≤ length input)
    whole_there e = (
      record { ready = r; no_gap = g; ahead = omega arith; seen = rw same_size e },
      omega (arith, (means r.inside g (Some (Whole kind m)) e).inside, length-drop at input, r.inside),
    )

    pub cut_there : seen_at (drop at input) ≡ Some (Cut kind m) → CutThere input at (at + m) kind p stack out × (at + m ≤ length input)
    cut_there e = (
      record { ready = r; no_gap = g; ahead = omega arith; seen = rw same_size e },
      omega (arith, (means r.inside g (Some (Cut kind m)) e).inside, length-drop at input, r.inside),
    )

  pub missing_stops : Ready input at p stack out → gap_byte (get_or input at 0) ≡ false → seen_at (drop at input) ≡ None → run_from input at p stack out ≡ halted at
  missing_stops r g e = means r.inside g None e

  module _ (end : ℕ) (kind : TokenKind) where
    module _ (c : CutThere input at end kind p stack out) {q : Kept} {stack' out' : List ℕ} {r : Bool} (taken : TakenAs p (token_of kind []) q stack' out' (track_token here (token_of kind [])) r) where
      cut_run : CutRun here (drop at input) at (token_of kind []) (end - at)
      cut_run = means c.ready.inside c.no_gap (Some (Cut kind (end - at))) c.seen

      pub cut_goes : r ≡ true → run_from input at p stack out ≡ halted end
      cut_goes e = cut_run.goes (track_of q stack' out') (taken_to taken e).track ∙ ap halted (omega (arith, c.ahead))

      pub cut_stops : r ≡ false → run_from input at p stack out ≡ halted at
      cut_stops e = cut_run.refused (taken_stop taken e)

    module _ (c : WholeThere input at end kind p stack out) where
      abbrev token : Token
      token = token_of kind (slice input at end kind)

      named_run : WholeRun here (drop at input) at (token_of kind (name_bytes kind (end - at) (drop at input))) (end - at)
      named_run = means c.ready.inside c.no_gap (Some (Whole kind (end - at))) c.seen

      whole_run : WholeRun here (drop at input) at token (end - at)
      whole_run = subst (λ t. WholeRun here (drop at input) at t (end - at)) (sym (slice_token input at end kind)) named_run

      pub whole_short : length (slice input at end kind) ≤ word_limit
      whole_short = slice_short input at end kind named_run.short

      pub whole_inside : (at < end) × (end ≤ length input)
      whole_inside =
          let w = whole_run in
          (omega (arith, w.sized, some_byte token, c.ahead), omega (arith, w.inside, length-drop at input, c.ahead, c.ready.inside))

      module _ {q : Kept} {stack' out' : List ℕ} {r : Bool} (taken : TakenAs p token q stack' out' (track_token here token) r) where
        pub whole_stops : r ≡ false → GoesOn input at p q (run_from input at p stack out) stack' out' (Err at)
        whole_stops e = stop (whole_run.refused (taken_stop taken e))

        module _ (e : r ≡ true) where
          led : run_from input at p stack out ≡ run_at (drop end input) end (track_of q stack' out') (behind_token token)
          led =
              let z : at + (end - at) ≡ end = omega (arith, c.ahead) in
              whole_run.goes (track_of q stack' out') (taken_to taken e).track ∙ rw (drop-drop (end - at) at input, z)

          pub whole_goes : is_parted kind (get_or input end 0) ≡ true → GoesOn input at p q (run_from input at p stack out) stack' out' (Ok end)
          whole_goes h =
              let g = (taken_to taken e).grown in
              let w = whole_run in
              let inside = whole_inside in
              on {next = end} (led ∙ parted_run kind (slice input at end kind) (drop end input) end (track_of q stack' out') (rw (first_byte input end) h)) inside.0 inside.1
              (omega (arith, levels_grown p q stack out stack' out' token (taken_to taken e).track, w.sized)) (omega (arith, g.size, w.sized)) g.marks

          pub whole_touches : is_parted kind (get_or input end 0) ≡ false → GoesOn input at p q (run_from input at p stack out) stack' out' (Err end)
          whole_touches h = stop {place = end} (led ∙ touching_halts kind (slice input at end kind) (drop end input) end (track_of q stack' out') (rw (first_byte input end) h))
