-- Reading goes along the bytes of one of two tokens that begin alike. Assumes nothing.
use Prim.Native.Nat.{ℕ, suc, ◌+◌, ◌<◌, ◌≤◌}
use native.Mathlib.Omega.{arith}
use mathlib.Core.Path.{◌≡◌, refl, ◌∙◌, ap}
use mathlib.Core.Bool.{false, cond}
use mathlib.Core.Option.{none, some}
use mathlib.Core.List.{List, [], ◌∷◌, ◌++◌}
use lib.ListN.{length, drop}
use lib.Dec.{eqb}
use borrow.Author.Tests.{eqb-true}
use Rattle.semantics.proofs.Tests.{cases}
use Rattle.ontology.specs.Text.{Token, owl_thing, owl_nothing, intersection_of, some_values}
use Rattle.ontology.specs.Points.{Fork, owl, object, word, fork, behind_token}
use Rattle.axioms.specs.Track.{Track, track_token}
use Rattle.axioms.specs.TrackReader.{track_reading, track_fork, track_step, halted, track_run}
use Rattle.tokens.specs.Seen.{common}
use Rattle.runs.proofs.Words.{run_at, word_whole, word_cut, zero_not_suc}

-- the two tokens, and how each goes on behind what they have in common: its first byte, its second, and the others
pub record Branches : Type 0 where
  pub first : Token
  pub second : Token
  pub byte : ℕ
  pub byte' : ℕ
  pub next : ℕ
  pub next' : ℕ
  pub rest : List ℕ
  pub rest' : List ℕ

abbrev pub branches : Fork → Branches
branches owl = record {
  first = owl_thing;
  second = owl_nothing;
  byte = 84;
  byte' = 78;
  next = 104;
  next' = 111;
  rest = 105 ∷ 110 ∷ 103 ∷ [];
  rest' = 116 ∷ 104 ∷ 105 ∷ 110 ∷ 103 ∷ [];
}
branches object = record {
  first = intersection_of;
  second = some_values;
  byte = 73;
  byte' = 83;
  next = 110;
  next' = 111;
  rest = 116 ∷ 101 ∷ 114 ∷ 115 ∷ 101 ∷ 99 ∷ 116 ∷ 105 ∷ 111 ∷ 110 ∷ 79 ∷ 102 ∷ [];
  rest' = 109 ∷ 101 ∷ 86 ∷ 97 ∷ 108 ∷ 117 ∷ 101 ∷ 115 ∷ 70 ∷ 114 ∷ 111 ∷ 109 ∷ [];
}

abbrev pub first_bytes : Fork → List ℕ
first_bytes f = let w = branches f in w.byte ∷ (w.next ∷ w.rest)

abbrev pub second_bytes : Fork → List ℕ
second_bytes f = let w = branches f in w.byte' ∷ (w.next' ∷ w.rest')

-- the byte in which they differ
fork_step : (x : Track) (f : Fork) (b : ℕ) →
    let w = branches f in
    track_fork x f b ≡
    cond (eqb b w.byte) (some (track_reading x (word (w.next ∷ w.rest) w.first)))
    (cond (eqb b w.byte') (some (track_reading x (word (w.next' ∷ w.rest') w.second))) none)
fork_step x owl b = refl
fork_step x object b = refl

differ : (f : Fork) → eqb (branches f).byte' (branches f).byte ≡ false
differ owl = refl
differ object = refl

differ_back : (f : Fork) → eqb (branches f).byte (branches f).byte' ≡ false
differ_back owl = refl
differ_back object = refl

module _ (x : Track) (f : Fork) where
  pub fork_first : {x' : Track} → track_token x (branches f).first ≡ some x' → (cs u : List ℕ) (n : ℕ) → common u (cs ++ first_bytes f) ≡ length (cs ++ first_bytes f) →
      run_at u n x (fork cs f) ≡ run_at (drop (length (cs ++ first_bytes f)) u) (n + length (cs ++ first_bytes f)) x' (behind_token (branches f).first)
  unfolding common track_run track_step
  fork_first e [] [] n h = zero_not_suc h
  fork_first e [] (b ∷ u) n h = cases (eqb b (branches f).byte)
      (λ q.
      let w = branches f in
      let k : suc (common u (w.next ∷ w.rest)) ≡ suc (suc (length w.rest)) = rw q at h in
      let z : n + suc (suc (length w.rest)) ≡ suc n + suc (length w.rest) = omega arith in
      rw (fork_step x f b, q, z) (word_whole x w.first e w.next w.rest u (suc n) (omega arith)))
      (λ q. zero_not_suc (rw q at h))
  fork_first e (c ∷ cs) [] n h = zero_not_suc h
  fork_first e (c ∷ cs) (b ∷ u) n h = cases (eqb b c)
      (λ q.
      let k : suc (common u (cs ++ first_bytes f)) ≡ suc (length (cs ++ first_bytes f)) = rw q at h in
      let z : n + suc (length (cs ++ first_bytes f)) ≡ suc n + length (cs ++ first_bytes f) = omega arith in
      rw (q, z) (fork_first e cs u (suc n) (omega arith)))
      (λ q. zero_not_suc (rw q at h))

  pub fork_second : {x' : Track} → track_token x (branches f).second ≡ some x' → (cs u : List ℕ) (n : ℕ) → common u (cs ++ second_bytes f) ≡ length (cs ++ second_bytes f) →
      run_at u n x (fork cs f) ≡ run_at (drop (length (cs ++ second_bytes f)) u) (n + length (cs ++ second_bytes f)) x' (behind_token (branches f).second)
  unfolding common track_run track_step
  fork_second e [] [] n h = zero_not_suc h
  fork_second e [] (b ∷ u) n h = cases (eqb b (branches f).byte')
      (λ q.
      let w = branches f in
      let same = eqb-true b w.byte' q in
      let k : suc (common u (w.next' ∷ w.rest')) ≡ suc (suc (length w.rest')) = rw q at h in
      let z : n + suc (suc (length w.rest')) ≡ suc n + suc (length w.rest') = omega arith in
      let d : eqb b w.byte ≡ false = rw same (differ f) in
      rw (fork_step x f b, d, q, z) (word_whole x w.second e w.next' w.rest' u (suc n) (omega arith)))
      (λ q. zero_not_suc (rw q at h))
  fork_second e (c ∷ cs) [] n h = zero_not_suc h
  fork_second e (c ∷ cs) (b ∷ u) n h = cases (eqb b c)
      (λ q.
      let k : suc (common u (cs ++ second_bytes f)) ≡ suc (length (cs ++ second_bytes f)) = rw q at h in
      let z : n + suc (length (cs ++ second_bytes f)) ≡ suc n + length (cs ++ second_bytes f) = omega arith in
      rw (q, z) (fork_second e cs u (suc n) (omega arith)))
      (λ q. zero_not_suc (rw q at h))

  -- a token that is cut: reading stops where the one of the two that goes on further does
  pub record Halts (u : List ℕ) (n : ℕ) (cs : List ℕ) : Type 0 where
    pub at_first : common u (cs ++ second_bytes f) ≤ common u (cs ++ first_bytes f) → common u (cs ++ first_bytes f) < length (cs ++ first_bytes f) →
        run_at u n x (fork cs f) ≡ halted (n + common u (cs ++ first_bytes f))
    pub at_second : common u (cs ++ first_bytes f) < common u (cs ++ second_bytes f) → common u (cs ++ second_bytes f) < length (cs ++ second_bytes f) →
        run_at u n x (fork cs f) ≡ halted (n + common u (cs ++ second_bytes f))

  halts_here : (u : List ℕ) (n : ℕ) (cs : List ℕ) → common u (cs ++ first_bytes f) ≡ 0 → common u (cs ++ second_bytes f) ≡ 0 → run_at u n x (fork cs f) ≡ halted n → Halts u n cs
  halts_here u n cs e e' h = record { at_first = λ l k. h ∙ ap halted (omega arith); at_second = λ l k. absurd (omega arith) }

  pub fork_cut : (cs u : List ℕ) (n : ℕ) → Halts u n cs
  unfolding common track_run track_step
  fork_cut [] [] n = halts_here [] n [] refl refl refl
  fork_cut [] (b ∷ u) n =
      let w = branches f in
      cases (eqb b w.byte)
      (λ q.
      let same = eqb-true b w.byte q in
      let d : eqb b w.byte' ≡ false = rw same (differ_back f) in
      record {
        at_first = λ l h.
            let k : suc (common u (w.next ∷ w.rest)) < suc (suc (length w.rest)) = rw q at h in
            rw (fork_step x f b, q) (word_cut x w.first w.next w.rest u (suc n) (omega arith) ∙ ap halted (omega arith));
        at_second = λ l h. let z : suc (common u (w.next ∷ w.rest)) < 0 = rw (q, d) at l in absurd (omega arith);
      })
      (λ q. cases (eqb b w.byte')
      (λ q'.
      record {
        at_first = λ l h. let z : suc (common u (w.next' ∷ w.rest')) ≤ 0 = rw (q, q') at l in absurd (omega arith);
        at_second = λ l h.
            let k : suc (common u (w.next' ∷ w.rest')) < suc (suc (length w.rest')) = rw q' at h in
            rw (fork_step x f b, q, q') (word_cut x w.second w.next' w.rest' u (suc n) (omega arith) ∙ ap halted (omega arith));
      })
      (λ q'. halts_here (b ∷ u) n [] (rw q) (rw q') (rw (fork_step x f b, q, q'))))
  fork_cut (c ∷ cs) [] n = halts_here [] n (c ∷ cs) refl refl refl
  fork_cut (c ∷ cs) (b ∷ u) n = cases (eqb b c)
      (λ q.
      let ih = fork_cut cs u (suc n) in
      record {
        at_first = λ l h.
            let z : suc (common u (cs ++ second_bytes f)) ≤ suc (common u (cs ++ first_bytes f)) = rw q at l in
            let k : suc (common u (cs ++ first_bytes f)) < suc (length (cs ++ first_bytes f)) = rw q at h in
            rw q (ih.at_first (omega arith) (omega arith) ∙ ap halted (omega arith));
        at_second = λ l h.
            let z : suc (common u (cs ++ first_bytes f)) < suc (common u (cs ++ second_bytes f)) = rw q at l in
            let k : suc (common u (cs ++ second_bytes f)) < suc (length (cs ++ second_bytes f)) = rw q at h in
            rw q (ih.at_second (omega arith) (omega arith) ∙ ap halted (omega arith));
      })
      (λ q. halts_here (b ∷ u) n (c ∷ cs) (rw q) (rw q) (rw q))
