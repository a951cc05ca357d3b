-- Reading goes along the bytes of a name. Assumes nothing.
--     name_run     behind some word bytes more
--     name_taken   a name that ends is taken, and what stands behind it touches it
use Prim.Native.Nat.{ℕ, zero, suc, ◌+◌, ◌<◌, ◌≤◌}
use native.Mathlib.Omega.{arith}
use mathlib.Core.Path.{◌≡◌, refl, sym, ◌∙◌}
use mathlib.Core.Bool.{Bool, true, false, ◌&&◌}
use mathlib.Core.Option.{some}
use mathlib.Core.List.{List, [], ◌∷◌, ◌++◌, append-nil, append_assoc}
use lib.ListN.{length, take, drop, length-append}
use lib.Dec.{eqb, ltb}
use borrow.Author.Tests.{lt-ltb, ltb-true}
use Rattle.semantics.proofs.Tests.{cases}
use Rattle.semantics.specs.Limits.{word_limit}
use Rattle.semantics.specs.Source.{Word, word_byte, space_byte, line_feed}
use Rattle.words.specs.Bytes.{class_of, sign_byte, is_word_byte, word_run}
use Rattle.ontology.specs.Text.{name}
use Rattle.ontology.specs.Points.{touching, naming}
use Rattle.axioms.specs.Track.{Track, track_token}
use Rattle.axioms.specs.TrackReader.{track_step, halted, track_run}
use Rattle.runs.proofs.Words.{run_at, zero_not_suc}

-- the class of a byte tells whether it is one of words
word_test : (b : ℕ) → is_word_byte b ≡ word_byte b
unfolding class_of
word_test b = cases (word_byte b) (λ q. rw q) (λ q. rw q (cases (sign_byte b) (λ s. rw s)
    (λ s. rw s (cases (eqb b space_byte) (λ e. rw e) (λ e. rw e (cases (eqb b line_feed) (λ f. rw f) (λ f. rw f)))))))

and_false : (a : Bool) → (a && false) ≡ false
and_false true = refl
and_false false = refl

module _ (x : Track) where
  pub name_run : (j : ℕ) (u : List ℕ) (n : ℕ) (w : Word) → j ≤ word_run u → length w + j ≤ word_limit → run_at u n x (naming w) ≡ run_at (drop j u) (n + j) x (naming (w ++ take j u))
  unfolding word_run track_run track_step
  name_run zero u n w h l = let z : n + 0 ≡ n = omega arith in rw (z, append-nil)
  name_run (suc j) [] n w h l = absurd (omega arith)
  name_run (suc j) (b ∷ u) n w h l = cases (is_word_byte b)
      (λ q.
      let k : suc j ≤ suc (word_run u) = rw q at h in
      let z : n + suc j ≡ suc n + j = omega arith in
      let t : ltb (length w) word_limit ≡ true = lt-ltb (length w) word_limit (omega arith) in
      let g : w ++ take (suc j) (b ∷ u) ≡ (w ++ (b ∷ [])) ++ take j u = sym (append_assoc w (b ∷ []) (take j u)) in
      let i : length (w ++ (b ∷ [])) + j ≤ word_limit = omega (arith, length-append w (b ∷ [])) in
      rw (sym (word_test b) ∙ q, t, z, g) (name_run j u (suc n) (w ++ (b ∷ [])) (omega arith) i))
      (λ q. let k : suc j ≤ 0 = rw q at h in absurd (omega arith))

  -- no word byte follows, or the name is as long as names may be
  pub name_taken : {x' : Track} (u : List ℕ) (n : ℕ) (w : Word) → 0 < length w → ((length w < word_limit) → word_run u ≡ 0) → track_token x (name w) ≡ some x' →
      run_at u n x (naming w) ≡ run_at u n x' touching
  unfolding word_run track_run track_step
  name_taken [] n w h l e = refl
  name_taken (b ∷ u) n w h l e = rw (ends, lt-ltb 0 (length w) h, e)
    where
      ends : (word_byte b && ltb (length w) word_limit) ≡ false
      ends = cases (ltb (length w) word_limit)
          (λ t. cases (is_word_byte b) (λ q. zero_not_suc (sym (rw q at (l (ltb-true (length w) word_limit t))))) (λ q. rw (sym (word_test b) ∙ q)))
          (λ t. rw t (and_false (word_byte b)))

  pub no_name : (u : List ℕ) (n : ℕ) → word_run u ≡ 0 → run_at u n x (naming []) ≡ halted n
  unfolding word_run track_run track_step
  no_name [] n h = refl
  no_name (b ∷ u) n h = cases (is_word_byte b) (λ q. zero_not_suc (sym (rw q at h))) (λ q. rw (sym (word_test b) ∙ q))
