-- What is seen at an offset says how reading goes on there. Assumes nothing.
--     WholeRun, CutRun   what a whole token, and one that is cut, mean for the run
--     seen_means         so it is with what is seen
use Prim.Native.Nat.{ℕ, suc, ◌+◌, ◌-◌, ◌<◌, ◌≤◌}
use native.Mathlib.Omega.{arith}
use native.Mathlib.Numerals.{add-one}
use mathlib.Core.Path.{◌≡◌, refl, sym, ◌∙◌, ap}
use mathlib.Core.Bool.{true, false}
use mathlib.Core.Option.{none, some}
use mathlib.Core.List.{List, [], ◌∷◌, ◌++◌}
use lib.ListN.{length, take, drop}
use lib.Seq.{length-take-le}
use lib.Dec.{eqb, ltb}
use borrow.Author.Tests.{eq-eqb, eqb-true, eqb-false, ltb-true, ltb-false}
use Rattle.std.specs.Prelude.{Option, Some, None}
use Rattle.semantics.proofs.Tests.{cases}
use Rattle.semantics.specs.Limits.{word_limit}
use Rattle.semantics.specs.Source.{Word}
use Rattle.words.specs.Bytes.{is_word_byte, word_run}
use Rattle.words.proofs.Within.{word_fits}
use Rattle.ontology.specs.Text.{Token, sub_class_of, annotation, comment, usual, opening, closing, owl_thing, owl_nothing, intersection_of, some_values, name, token_bytes, gap_byte}
use Rattle.ontology.specs.Points.{Fork, owl, object, between, touching, fork, naming, behind_token, tail, token_of}
use Rattle.ontology.specs.declared.TokenKind.{TokenKind}
use Rattle.ontology.specs.declared.TokenKind.TheVariants.{SubClassOf, Annotation, Comment, Usual, Opening, Closing, Thing, Nothing, Intersection, SomeValues, Name}
use Rattle.axioms.specs.Track.{Track, track_token}
use Rattle.axioms.specs.TrackReader.{track_allowed, in_track_token, begin_tok, begin_tok_at, track_begin, track_step, halted, track_onward, track_run}
use Rattle.tokens.specs.Seen.{common, seen_as, seen_either, seen_size, seen_name, seen_by, seen_at}
use Rattle.tokens.specs.declared.Seen.{Seen}
use Rattle.tokens.specs.declared.Seen.TheVariants.{Whole, Cut}
use Rattle.runs.proofs.Words.{run_at, word_whole, word_cut}
use Rattle.runs.proofs.Forks.{branches, first_bytes, second_bytes, fork_first, fork_second, fork_cut}
use Rattle.runs.proofs.Names.{name_run, name_taken, no_name}
use Rattle.runs.proofs.Alike.{alike, owl_alike, object_alike, names_alike}

-- the bytes of a name of m bytes with its colon; no others have any
abbrev pub name_bytes : TokenKind → ℕ → List ℕ → Word
name_bytes SubClassOf m u = []
name_bytes Annotation m u = []
name_bytes Comment m u = []
name_bytes Usual m u = []
name_bytes Opening m u = []
name_bytes Closing m u = []
name_bytes Thing m u = []
name_bytes Nothing m u = []
name_bytes Intersection m u = []
name_bytes SomeValues m u = []
name_bytes Name m u = take (m - 1) (tail u)

-- the word of a name
abbrev pub word_in : Token → Word
word_in sub_class_of = []
word_in annotation = []
word_in comment = []
word_in usual = []
word_in opening = []
word_in closing = []
word_in owl_thing = []
word_in owl_nothing = []
word_in intersection_of = []
word_in some_values = []
word_in (name w) = w

-- the bytes u begin with a token of m bytes, n bytes in
pub record WholeRun (x : Track) (u : List ℕ) (n : ℕ) (t : Token) (m : ℕ) : Type 0 where
  pub goes : (x' : Track) → track_token x t ≡ some x' → run_at u n x between ≡ run_at (drop m u) (n + m) x' (behind_token t)
  pub refused : track_token x t ≡ none → run_at u n x between ≡ halted n
  pub sized : m ≡ length (token_bytes t)
  pub inside : m ≤ length u
  pub short : length (word_in t) ≤ word_limit

-- they begin with m bytes of a token, and it does not go on
pub record CutRun (x : Track) (u : List ℕ) (n : ℕ) (t : Token) (m : ℕ) : Type 0 where
  pub goes : (x' : Track) → track_token x t ≡ some x' → run_at u n x between ≡ halted (n + m)
  pub refused : track_token x t ≡ none → run_at u n x between ≡ halted n
  pub inside : m ≤ length u

abbrev pub MeansToken : Track → List ℕ → ℕ → Seen → Type 0
MeansToken x u n (Whole k m) = WholeRun x u n (token_of k (name_bytes k m u)) m
MeansToken x u n (Cut k m) = CutRun x u n (token_of k []) m

abbrev pub Means : Track → List ℕ → ℕ → Option Seen → Type 0
Means x u n (Some s) = MeansToken x u n s
Means x u n None = run_at u n x between ≡ halted n

common_le : (u w : List ℕ) → (common u w ≤ length u) × (common u w ≤ length w)
unfolding common
common_le [] w = (omega arith, omega arith)
common_le (b ∷ u) [] = (omega arith, omega arith)
common_le (b ∷ u) (c ∷ w) = cases (eqb b c) (λ q. let h = common_le u w in rw q (omega arith, omega arith)) (λ q. rw q (omega arith, omega arith))

-- a run of word bytes ends within the bytes, and no word byte follows
run_le : (u : List ℕ) → word_run u ≤ length u
run_le u = omega (arith, word_fits u 0 (omega arith))

run_ends : (u : List ℕ) → word_run (drop (word_run u) u) ≡ 0
unfolding word_run
run_ends [] = refl
run_ends (b ∷ u) = cases (is_word_byte b) (λ q. rw q (run_ends u)) (λ q. rw (q, q))

module _ (x : Track) (n : ℕ) where
  -- a token begins
  begin_step : (c : ℕ) (u : List ℕ) → gap_byte c ≡ false → run_at (c ∷ u) n x between ≡ track_onward n (track_run u (suc n)) (track_begin x c)
  unfolding track_run track_step
  begin_step c u g = rw g

  module _ (t : Token) (c : ℕ) (begins : track_begin x c ≡ begin_tok x t) (g : gap_byte c ≡ false) (u : List ℕ) where
    begin_refused : track_token x t ≡ none → run_at (c ∷ u) n x between ≡ halted n
    begin_refused e = begin_step c u g ∙ rw (begins, e)

    module _ {x' : Track} (e : track_token x t ≡ some x') where
      begin_goes : run_at (c ∷ u) n x between ≡ track_onward n (track_run u (suc n)) (in_track_token x (tail (token_bytes t)) t)
      begin_goes = begin_step c u g ∙ rw (begins, e)

  -- a token of one byte
  one_byte : (t : Token) (c : ℕ) → track_begin x c ≡ begin_tok x t → gap_byte c ≡ false → token_bytes t ≡ c ∷ [] → word_in t ≡ [] → (u : List ℕ) → WholeRun x (c ∷ u) n t 1
  one_byte t c begins g bytes bare u = record {
    goes = λ x' e. begin_goes t c begins g u e ∙ rw (bytes, e) (ap (λ k. run_at u k x' (behind_token t)) (omega arith));
    refused = begin_refused t c begins g u;
    sized = rw bytes;
    inside = omega arith;
    short = rw bare (omega arith);
  }

  -- any other but a name and those that begin alike
  keyword : (k : TokenKind) (t : Token) (c d : ℕ) (ds : List ℕ) → track_begin x c ≡ begin_tok x t → gap_byte c ≡ false → token_bytes t ≡ c ∷ (d ∷ ds) →
      ((m : ℕ) (u : List ℕ) → token_of k (name_bytes k m u) ≡ t) → token_of k [] ≡ t → word_in t ≡ [] → (u : List ℕ) → MeansToken x (c ∷ u) n (seen_as k (c ∷ (d ∷ ds)) (c ∷ u))
  unfolding seen_as common
  keyword k t c d ds begins g bytes whole cut bare u = rw (eq-eqb c c refl) (cases (eqb (suc (common u (d ∷ ds))) (suc (suc (length ds))))
      (λ q.
      let s = eqb-true (suc (common u (d ∷ ds))) (suc (suc (length ds))) q in
      let f : common u (d ∷ ds) ≡ suc (length ds) = omega arith in
      rw (q, f, whole (suc (suc (length ds))) (c ∷ u)) record {
        goes = λ x' e. begin_goes t c begins g u e ∙ rw bytes (word_whole x t e d ds u (suc n) f ∙ ap (λ k. run_at (drop (suc (length ds)) u) k x' (behind_token t)) (omega arith));
        refused = begin_refused t c begins g u;
        sized = rw bytes;
        inside = let l = common_le u (d ∷ ds) in omega (arith, l.0);
        short = rw bare (omega arith);
      })
      (λ q.
      let s = eqb-false (suc (common u (d ∷ ds))) (suc (suc (length ds))) q in
      let l = common_le u (d ∷ ds) in
      rw (q, cut) record {
        goes = λ x' e. begin_goes t c begins g u e ∙ rw bytes (word_cut x t d ds u (suc n) (omega (arith, l.1, s)) ∙ ap halted (omega arith));
        refused = begin_refused t c begins g u;
        inside = omega (arith, l.0);
      }))

  -- ---- one of two tokens that begin alike

  module _ (f : Fork) (c : ℕ) (pre : List ℕ) (g : gap_byte c ≡ false) (begins : track_begin x c ≡ begin_tok_at x (branches f).first (fork pre f)) (u : List ℕ) where
    fork_goes : track_allowed x (branches f).first ≡ true → run_at (c ∷ u) n x between ≡ run_at u (suc n) x (fork pre f)
    fork_goes h = begin_step c u g ∙ rw (begins, h)

    fork_refused : track_allowed x (branches f).first ≡ false → run_at (c ∷ u) n x between ≡ halted n
    fork_refused h = begin_step c u g ∙ rw (begins, h)

    module _ (k : TokenKind) (bytes : token_bytes (branches f).first ≡ c ∷ (pre ++ first_bytes f))
        (whole : (m : ℕ) (u : List ℕ) → token_of k (name_bytes k m u) ≡ (branches f).first) (cut : token_of k [] ≡ (branches f).first) (bare : word_in (branches f).first ≡ []) where
      see_first : common u (pre ++ second_bytes f) ≤ common u (pre ++ first_bytes f) → MeansToken x (c ∷ u) n (seen_as k (c ∷ (pre ++ first_bytes f)) (c ∷ u))
      unfolding seen_as common
      see_first longer =
          let w = pre ++ first_bytes f in
          let t = (branches f).first in
          let l = common_le u w in
          rw (eq-eqb c c refl) (cases (eqb (suc (common u w)) (suc (length w)))
          (λ q.
          let s = eqb-true (suc (common u w)) (suc (length w)) q in
          let e : common u w ≡ length w = omega arith in
          rw (q, e, whole (suc (length w)) (c ∷ u)) record {
            goes = λ x' h. fork_goes (rw h) ∙ fork_first x f h pre u (suc n) e ∙ ap (λ k. run_at (drop (length w) u) k x' (behind_token t)) (omega arith);
            refused = λ h. fork_refused (rw h);
            sized = rw bytes;
            inside = omega (arith, l.0);
            short = rw bare (omega arith);
          })
          (λ q.
          let s = eqb-false (suc (common u w)) (suc (length w)) q in
          rw (q, cut) record {
            goes = λ x' h. fork_goes (rw h) ∙ (fork_cut x f pre u (suc n)).at_first longer (omega (arith, l.1, s)) ∙ ap halted (omega arith);
            refused = λ h. fork_refused (rw h);
            inside = omega (arith, l.0);
          }))

    module _ (k : TokenKind) (bytes : token_bytes (branches f).second ≡ c ∷ (pre ++ second_bytes f))
        (whole : (m : ℕ) (u : List ℕ) → token_of k (name_bytes k m u) ≡ (branches f).second) (cut : token_of k [] ≡ (branches f).second) (bare : word_in (branches f).second ≡ [])
        (same : track_allowed x (branches f).first ≡ track_allowed x (branches f).second) where
      see_second : common u (pre ++ first_bytes f) < common u (pre ++ second_bytes f) → MeansToken x (c ∷ u) n (seen_as k (c ∷ (pre ++ second_bytes f)) (c ∷ u))
      unfolding seen_as common
      see_second longer =
          let w = pre ++ second_bytes f in
          let t = (branches f).second in
          let l = common_le u w in
          rw (eq-eqb c c refl) (cases (eqb (suc (common u w)) (suc (length w)))
          (λ q.
          let s = eqb-true (suc (common u w)) (suc (length w)) q in
          let e : common u w ≡ length w = omega arith in
          rw (q, e, whole (suc (length w)) (c ∷ u)) record {
            goes = λ x' h. fork_goes (same ∙ rw h) ∙ fork_second x f h pre u (suc n) e ∙ ap (λ k. run_at (drop (length w) u) k x' (behind_token t)) (omega arith);
            refused = λ h. fork_refused (same ∙ rw h);
            sized = rw bytes;
            inside = omega (arith, l.0);
            short = rw bare (omega arith);
          })
          (λ q.
          let s = eqb-false (suc (common u w)) (suc (length w)) q in
          rw (q, cut) record {
            goes = λ x' h. fork_goes (same ∙ rw h) ∙ (fork_cut x f pre u (suc n)).at_second longer (omega (arith, l.1, s)) ∙ ap halted (omega arith);
            refused = λ h. fork_refused (same ∙ rw h);
            inside = omega (arith, l.0);
          }))

  -- ---- names

  begin_name : track_begin x 58 ≡ begin_tok_at x (name (97 ∷ [])) (naming [])
  unfolding track_begin
  begin_name = refl

  module _ (u : List ℕ) where
    colon : (w : Word) {x' : Track} → track_token x (name w) ≡ some x' → run_at (58 ∷ u) n x between ≡ run_at u (suc n) x (naming [])
    colon w h =
        let a : track_allowed x (name (97 ∷ [])) ≡ true = alike (names_alike (97 ∷ []) w) x ∙ rw h in
        begin_step 58 u refl ∙ rw (begin_name, a)

    no_colon : (w : Word) → track_token x (name w) ≡ none → run_at (58 ∷ u) n x between ≡ halted n
    no_colon w h =
        let a : track_allowed x (name (97 ∷ [])) ≡ false = alike (names_alike (97 ∷ []) w) x ∙ rw h in
        begin_step 58 u refl ∙ rw (begin_name, a)

    -- a name of j bytes
    name_whole : (j : ℕ) → 0 < j → j ≤ word_run u → j ≤ word_limit → (j < word_limit → word_run (drop j u) ≡ 0) → WholeRun x (58 ∷ u) n (name (take (j + 1 - 1) u)) (j + 1)
    unfolding token_bytes
    name_whole j h l limit ends =
        let z : j + 1 - 1 ≡ j = omega arith in
        let long : length (take j u) ≡ j = length-take-le j u (omega (arith, run_le u)) in
        rw z record {
          goes = λ x' e.
              colon (take j u) e ∙ name_run x j u (suc n) [] l (omega arith) ∙
              name_taken x (drop j u) (suc n + j) (take j u) (omega arith) (λ k. ends (omega arith)) e ∙
              ap (λ k. run_at (drop k (58 ∷ u)) (suc n + j) x' touching) (sym (add-one j)) ∙ ap (λ k. run_at (drop (j + 1) (58 ∷ u)) k x' touching) (omega arith);
          refused = no_colon (take j u);
          sized = omega (arith, long);
          inside = omega (arith, run_le u);
          short = omega (arith, long);
        }

    name_means : MeansToken x (58 ∷ u) n (seen_name (58 ∷ u))
    unfolding seen_size
    name_means = cases (eqb (word_run u) 0)
        (λ q. rw q record {
          goes = λ x' h. colon [] h ∙ no_name x u (suc n) (eqb-true (word_run u) 0 q) ∙ ap halted (omega arith);
          refused = no_colon [];
          inside = omega arith;
        })
        (λ q.
        let some_byte = eqb-false (word_run u) 0 q in
        cases (ltb word_limit (word_run u))
        (λ l. let k = ltb-true word_limit (word_run u) l in rw (q, l) (name_whole word_limit (omega arith) (omega arith) (omega arith) (λ h. absurd (omega arith))))
        (λ l.
        let k = ltb-false word_limit (word_run u) l in
        rw (q, l) (name_whole (word_run u) (omega arith) (omega arith) k (λ h. run_ends u))))

  -- ---- by the first byte

  either_means : (f : Fork) (k k' : TokenKind) (c : ℕ) (pre u : List ℕ) → gap_byte c ≡ false → track_begin x c ≡ begin_tok_at x (branches f).first (fork pre f) →
      token_bytes (branches f).first ≡ c ∷ (pre ++ first_bytes f) → token_bytes (branches f).second ≡ c ∷ (pre ++ second_bytes f) →
      ((m : ℕ) (u : List ℕ) → token_of k (name_bytes k m u) ≡ (branches f).first) → ((m : ℕ) (u : List ℕ) → token_of k' (name_bytes k' m u) ≡ (branches f).second) →
      token_of k [] ≡ (branches f).first → token_of k' [] ≡ (branches f).second →
      word_in (branches f).first ≡ [] → word_in (branches f).second ≡ [] → track_allowed x (branches f).first ≡ track_allowed x (branches f).second →
      MeansToken x (c ∷ u) n (seen_either k (c ∷ (pre ++ first_bytes f)) k' (c ∷ (pre ++ second_bytes f)) (c ∷ u))
  unfolding seen_either common
  either_means f k k' c pre u g begins bytes bytes' whole whole' cut cut' bare bare' same =
      let a = common u (pre ++ first_bytes f) in
      let b = common u (pre ++ second_bytes f) in
      rw (eq-eqb c c refl) (cases (ltb (suc a) (suc b))
      (λ q. let h = ltb-true (suc a) (suc b) q in rw q (see_second f c pre g begins u k' bytes' whole' cut' bare' same (omega arith)))
      (λ q. let h = ltb-false (suc a) (suc b) q in rw q (see_first f c pre g begins u k bytes whole cut bare (omega arith))))

  pub seen_means : (b : ℕ) (u : List ℕ) → gap_byte b ≡ false → Means x (b ∷ u) n (seen_at (b ∷ u))
  unfolding seen_by track_begin token_bytes
  seen_means b u g = cases (eqb b 40) (λ q. let e = eqb-true b 40 q in rw e (one_byte opening 40 refl refl refl refl u))
      λ n1. cases (eqb b 41) (λ q. let e = eqb-true b 41 q in rw e (one_byte closing 41 refl refl refl refl u))
      λ n2. cases (eqb b 58) (λ q. let e = eqb-true b 58 q in rw e (name_means u))
      λ n3. cases (eqb b 83) (λ q. let e = eqb-true b 83 q in rw e (keyword SubClassOf sub_class_of 83 _ _ refl refl refl (λ m v. refl) refl refl u))
      λ n4. cases (eqb b 79)
      (λ q. let e = eqb-true b 79 q in rw e (either_means object Intersection SomeValues 79 _ u refl refl refl refl (λ m v. refl) (λ m v. refl) refl refl refl refl (alike object_alike x)))
      λ n5. cases (eqb b 111)
      (λ q. let e = eqb-true b 111 q in rw e (either_means owl Thing Nothing 111 _ u refl refl refl refl (λ m v. refl) (λ m v. refl) refl refl refl refl (alike owl_alike x)))
      λ n6. cases (eqb b 65) (λ q. let e = eqb-true b 65 q in rw e (keyword Annotation annotation 65 _ _ refl refl refl (λ m v. refl) refl refl u))
      λ n7. cases (eqb b 114) (λ q. let e = eqb-true b 114 q in rw e (keyword Comment comment 114 _ _ refl refl refl (λ m v. refl) refl refl u))
      λ n8. cases (eqb b 34) (λ q. let e = eqb-true b 34 q in rw e (keyword Usual usual 34 _ _ refl refl refl (λ m v. refl) refl refl u))
      λ n9. rw (n1, n2, n3, n4, n5, n6, n7, n8, n9) (begin_step b u g ∙ rw (n1, n2, n3, n4, n5, n6, n7, n8, n9))
