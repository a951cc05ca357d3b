-- What the levels say of a pass: its sets fall as the definition has them, and each row's level is its left's rank.
-- Assumes nothing.
use Prim.Native.Nat.{ℕ, zero, suc, ◌+◌, ◌<◌, ◌≤◌}
use native.Mathlib.Omega.{arith}
use native.Mathlib.Decide.{dec_lt}
use mathlib.Core.Path.{◌≡◌, refl, sym, ◌∙◌, ap, subst}
use mathlib.Core.Bool.{false≢true}
use mathlib.Core.Option.{some}
use mathlib.Core.List.Memᴰ
use mathlib.Core.List.{List, [], ◌∷◌, ◌++◌, map, Memᴰ}
use lib.ListN.{length, get_or, length-map, length-append, get_or-append, get_or-eq_default}
use lib.Seq.{get_or-append-add}
use Rattle.semantics.specs.Concept.{Inclusion, Exceptional}
use Rattle.semantics.specs.Closure.{Filtered, end, Next, Pass, RankIs, level}
use Rattle.semantics.specs.Row.{numbered}
use Rattle.semantics.specs.Saturated.{between}
use Rattle.semantics.specs.Progress.{Fallen}
use Rattle.semantics.proofs.Filter.{filtered_map, filtered_length, filtered_whole}
use Rattle.semantics.proofs.Progress.{fallen_none, fallen_more, fallen_all}
use Rattle.semantics.proofs.Tests.{cases}
use Rattle.normal.specs.Rules.{is_active, active}
use Rattle.normal.proofs.Selected.{Sifts, selected_sifted, selected_member}
use Rattle.normal.proofs.Active.{active_is, active_at, not_active}
use Rattle.pass.specs.Levels.{at_level, Live, left_at, Levelled, Falling, sets_to}

no_length : {A : Type 0} (l : List A) → length l ≡ 0 → l ≡ []
no_length [] e = refl
no_length (a ∷ l) e = absurd (omega arith)

module _ {T : List (Inclusion ℕ ℕ)} {words levels : List ℕ} {k : ℕ} (v : Levelled T words levels k) where
  -- ---- sets

  -- of the rows of level j or above, those above it are the ones whose left is exceptional
  sifts_at : (j : ℕ) → j < k → (i : ℕ) → i < length words →
      Sifts (is_active j) (is_active (suc j)) (λ p. Exceptional T (at_level words levels j) (numbered p.0)) (get_or words i 0) (get_or levels i 0) (get_or levels i 0)
  sifts_at j lt i h =
      let w = get_or words i 0 in
      let l = get_or levels i 0 in
      record {
        none_new = λ f. not_active (is_active (suc j) w l) (λ a. let b = active_at j (suc j) w l a (omega (arith, (active_is (suc j) w l a).from)) in let z = sym f ∙ b in absurd (false≢true z));
        sifts = λ a. cases (is_active (suc j) w l)
            (λ b. rw b (v.risen i j (h, active_at 0 j w l a (omega arith)) (omega (arith, (active_is (suc j) w l b).from))))
            (λ b. rw b (λ x.
            let not_above : suc j ≤ l → ⊥ = λ le. false≢true (sym b ∙ active_at (suc j) j w l a le) in
            let e : j ≡ l = omega (arith, (active_is j w l a).from, not_above) in
            v.stayed i (h, active_at 0 j w l a (omega arith)) (omega arith) (subst (λ m. Exceptional T (at_level words levels m) (numbered (left_at words i))) e x)));
      }

  sifted : (j : ℕ) → j < k → Filtered (λ p. Exceptional T (at_level words levels j) (numbered p.0)) (active j words levels) (active (suc j) words levels)
  sifted j lt = selected_sifted (is_active j) (is_active (suc j)) words levels levels v.long v.long (sifts_at j lt)

  pub fewer_above : (j : ℕ) → j < k → length (active (suc j) words levels) ≤ length (active j words levels)
  fewer_above j lt = filtered_length (sifted j lt)

  next_level : (j : ℕ) → j < k → Next T (at_level words levels j) (at_level words levels (suc j))
  next_level j lt = filtered_map between (sifted j lt)

  fallen_to : (m : ℕ) → m ≤ k → Falling words levels m → (j : ℕ) → j ≤ m → Fallen T (at_level words levels 0) (sets_to words levels j) (at_level words levels j)
  unfolding sets_to
  fallen_to m mk f zero le = fallen_none
  fallen_to m mk f (suc j) le =
      fallen_more (sets_to words levels j) (fallen_to m mk f j (omega arith)) (next_level j (omega arith))
      (rw (length-map (active (suc j) words levels) between, length-map (active j words levels) between) (f.falls j (omega arith)))

  -- nothing is left at level k
  pub pass_ended : Falling words levels k → length (active k words levels) ≡ 0 → Pass T (at_level words levels 0) (sets_to words levels k) []
  pass_ended f e =
      let none_left : at_level words levels k ≡ [] = no_length (at_level words levels k) (rw (length-map (active k words levels) between) e) in
      let fallen = subst (Fallen T (at_level words levels 0) (sets_to words levels k)) none_left (fallen_to k (omega arith) f k (omega arith)) in
      fallen_all (sets_to words levels k) fallen end

  -- where as many rows are above level j, they are all that is at it
  pub repeated : (j : ℕ) → j < k → length (active j words levels) ≡ length (active (suc j) words levels) → active (suc j) words levels ≡ active j words levels
  repeated j lt e = filtered_whole (sifted j lt) (omega (arith, e))

  -- so the set repeats
  pub pass_stuck : (j : ℕ) → j < k → Falling words levels j → length (active j words levels) ≡ length (active (suc j) words levels) →
      Pass T (at_level words levels 0) (sets_to words levels j) (at_level words levels j)
  pass_stuck j lt f e =
      fallen_all (sets_to words levels j) (fallen_to j (omega arith) f j (omega arith))
      (subst (Next T (at_level words levels j)) (ap (map between) (repeated j lt e)) (next_level j lt))

-- ---- the sets in order

module _ (words levels : List ℕ) where
  pub sets_length : (k : ℕ) → length (sets_to words levels k) ≡ k
  unfolding sets_to
  sets_length zero = refl
  sets_length (suc k) = length-append (sets_to words levels k) _ ∙ omega (arith, sets_length k)

  sets_at : (k j : ℕ) → j < k → get_or (sets_to words levels k) j [] ≡ at_level words levels j
  unfolding sets_to
  sets_at zero j lt = absurd (omega arith)
  sets_at (suc k) j lt = go (dec_lt j k) (sets_at k j)
    where
      go : Dec (j < k) → (j < k → get_or (sets_to words levels k) j [] ≡ at_level words levels j) → get_or (sets_to words levels k ++ at_level words levels k ∷ []) j [] ≡ at_level words levels j
      go (yes less) rec = get_or-append (sets_to words levels k) _ [] j (omega (arith, sets_length k)) ∙ rec less
      go (no more) rec =
          let e : length (sets_to words levels k) + 0 ≡ j = omega (arith, sets_length k) in
          let f : k ≡ j = omega arith in
          subst (λ n. get_or (sets_to words levels k ++ at_level words levels k ∷ []) n [] ≡ at_level words levels j) e
          (get_or-append-add (sets_to words levels k) (at_level words levels k ∷ []) 0 [] ∙ ap (at_level words levels) f)

  -- up to the first empty one
  pub level_is : (k j : ℕ) → length (active k words levels) ≡ 0 → j ≤ k → level (sets_to words levels k) j ≡ at_level words levels j
  level_is k j e le = go (dec_lt j k)
    where
      go : Dec (j < k) → level (sets_to words levels k) j ≡ at_level words levels j
      go (yes lt) = sets_at k j lt
      go (no ge) =
          let f : k ≡ j = omega arith in
          get_or-eq_default (sets_to words levels k) [] (omega (arith, sets_length k))
          ∙ sym (subst (λ n. at_level words levels n ≡ []) f (no_length (at_level words levels k) (rw (length-map (active k words levels) between) e)))

-- ---- ranks

module _ {T : List (Inclusion ℕ ℕ)} {words levels : List ℕ} {k : ℕ} (v : Levelled T words levels k) (e : length (active k words levels) ≡ 0) where
  -- a live row is below the level at which none is left
  pub live_below : (i : ℕ) → Live words levels i → get_or levels i 0 < k
  live_below i h = go (dec_lt (get_or levels i 0) k)
    where
      go : Dec (get_or levels i 0 < k) → get_or levels i 0 < k
      go (yes lt) = lt
      go (no ge) =
          let m = selected_member (is_active k) words levels v.long i h.0 (active_at k 0 (get_or words i 0) (get_or levels i 0) h.1 (omega arith)) in
          absurd (Memᴰ.not-nil (subst (Memᴰ _) (no_length (active k words levels) e) m))

  pub rank_live : (i : ℕ) → Live words levels i → RankIs T (sets_to words levels k) (numbered (left_at words i)) (some (get_or levels i 0))
  rank_live i h =
      let lt = live_below i h in (
        omega (arith, sets_length words levels k),
        λ x. v.stayed i h lt (rw (level_is words levels k (get_or levels i 0) e (omega arith)) at x),
        λ j less. rw (level_is words levels k j e (omega arith)) (v.risen i j h less),
      )
