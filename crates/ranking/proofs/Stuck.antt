-- After a pass that got stuck at level k: the rows above it are stuck, the others keep their level as a lower bound, and "left is nothing" holds of the stuck ones.
-- Assumes nothing.
use Prim.Native.Nat.{ℕ, suc, ◌+◌, ◌<◌, ◌≤◌}
use native.Mathlib.Omega.{arith}
use native.Mathlib.Decide.{dec_lt}
use mathlib.Core.Path.{◌≡◌, refl, sym, ◌∙◌, ap, subst}
use mathlib.Core.Bool.{true, false, false≢true}
use mathlib.Core.List.{List, [], ◌∷◌, ◌++◌, map, Memᴰ}
use mathlib.Core.Logic.{◌⊎◌, inl, inr, ⊎_elim}
use lib.ListN.{length, get_or, length-map}
use Rattle.semantics.specs.Concept.{Concept, bottom, In, Inclusion, Exceptional}
use Rattle.semantics.specs.Closure.{Filtered, includes, emptied}
use Rattle.semantics.specs.Row.{numbered}
use Rattle.semantics.specs.Saturated.{strict_rows, between}
use Rattle.semantics.proofs.Consequence.{PartOf, exceptional_grows}
use Rattle.semantics.proofs.Filter.{filtered_map, filtered_shorter}
use Rattle.semantics.proofs.Rows.{grown_rows}
use Rattle.semantics.proofs.Tests.{cases}
use Rattle.normal.specs.Rules.{infinite, is_active, is_stuck, row_of, active, stuck, grown, marked_level}
use Rattle.normal.proofs.Selected.{Sifts, selected_sifted, selected_index, selected_member}
use Rattle.normal.proofs.Active.{active_is, active_at, not_active}
use Rattle.pass.specs.Levels.{at_level, Live, Levelled}
use Rattle.levels.specs.Relevelled.{Relevelled}
use Rattle.pass.specs.Passes.{Bounded}
use Rattle.pass.proofs.Active.{live_not_stuck, level_part}

-- a row gets stuck, or keeps its level
marked_cases : {X : Type 0} (k w l : ℕ) →
    (is_active (k + 1) w l ≡ true → marked_level k w l ≡ infinite → X) →
    (is_active (k + 1) w l ≡ false → marked_level k w l ≡ l → X) → X
marked_cases k w l up stay = cases (is_active (k + 1) w l) (λ a. up a (rw a)) (λ a. stay a (rw a))

stuck_not_live : (w : ℕ) → is_active 0 w infinite ≡ false
stuck_not_live w = not_active (is_active 0 w infinite) (λ a. absurd (omega (arith, (active_is 0 w infinite a).live)))

-- a live row that does not get stuck is at level k or below
kept_low : (k w l : ℕ) → is_active 0 w l ≡ true → is_active (k + 1) w l ≡ false → l ≤ k
kept_low k w l a n = go (dec_lt k l)
  where
    go : Dec (k < l) → l ≤ k
    go (yes lt) = absurd (false≢true (sym n ∙ active_at (k + 1) 0 w l a (omega arith)))
    go (no le) = omega arith

-- ---- "left is nothing" for each pair

abbrev nothing : ℕ × ℕ → Inclusion ℕ ℕ
nothing p = includes (numbered p.0) bottom

emptied_has : (ps : List (ℕ × ℕ)) (p : ℕ × ℕ) → Memᴰ p ps → Memᴰ (nothing p) (emptied (map between ps))
emptied_has ps p i = mathlib.Core.List.Memᴰ.map _ (mathlib.Core.List.Memᴰ.map between i)

emptied_of : (ps : List (ℕ × ℕ)) (ρ : Inclusion ℕ ℕ) → Memᴰ ρ (emptied (map between ps)) → (p : ℕ × ℕ) × Memᴰ p ps × (nothing p ≡ ρ)
emptied_of ps ρ i =
    let (σ, mσ, e) = mathlib.Core.List.Memᴰ.of_map _ (map between ps) i in
    let (p, mp, f) = mathlib.Core.List.Memᴰ.of_map between ps mσ in
    (p, mp, ap (λ (τ : Inclusion ℕ ℕ). includes τ.left bottom) f ∙ e)

emptied_part : (ps qs : List (ℕ × ℕ)) → ((p : ℕ × ℕ) → Memᴰ p ps → Memᴰ p qs) → PartOf (emptied (map between ps)) (emptied (map between qs))
emptied_part ps qs g ρ i = let (p, mp, e) = emptied_of ps ρ i in mathlib.Core.List.Memᴰ.cast (sym e) (emptied_has qs p (g p mp))

-- What is exceptional stays so where rules go whose left is nothing from now on.
exceptional_emptied : {T E T' E' : List (Inclusion ℕ ℕ)} {C : Concept ℕ ℕ} → PartOf T T' →
    ((ρ : Inclusion ℕ ℕ) → Memᴰ ρ E → Memᴰ ρ E' ⊎ Memᴰ (includes ρ.left bottom) T') → Exceptional T E C → Exceptional T' E' C
unfolding In
exceptional_emptied t e x w = x (record {
  world = w.world;
  model = λ y lt ρ i. w.model y lt ρ (t ρ i);
  point = w.point;
  inside = w.inside;
  member = w.member;
  obeys = λ ρ i. ⊎_elim (w.obeys ρ) (λ n h. absurd (w.model w.point w.inside _ n h)) (e ρ i);
})

module _ {T : List (Inclusion ℕ ℕ)} {words levels new : List ℕ} (k : ℕ) (v : Levelled T words levels (k + 1)) (m : Relevelled (marked_level k) words levels new) where
  long_new : length words ≤ length new
  long_new = omega (arith, m.length_kept, v.long)

  -- ---- the rows that go on

  sifts_rest : (i : ℕ) → i < length words → Sifts (is_active 0) (is_active 0) (λ p. Exceptional T (at_level words levels k) (numbered p.0) → ⊥) (get_or words i 0) (get_or levels i 0) (get_or new i 0)
  sifts_rest i h =
      let w = get_or words i 0 in
      let l = get_or levels i 0 in
      record {
        none_new = λ f. marked_cases k w l
            (λ a e. absurd (false≢true (sym f ∙ active_at 0 (k + 1) w l a (omega arith))))
            (λ n e. rw (m.rows i h, e) f);
        sifts = λ a. marked_cases k w l
            (λ b e. rw (m.rows i h, e, stuck_not_live w) (λ n. n (v.risen i k (h, a) (omega (arith, (active_is (k + 1) w l b).from)))))
            (λ n e.
            let le = kept_low k w l a n in
            rw (m.rows i h, e, a)
            (λ x. v.stayed i (h, a) (omega arith) (exceptional_grows (λ σ t. t) (level_part words levels v.long l k le) x)));
      }

  pub rest_filtered : Filtered (λ (σ : Inclusion ℕ ℕ). Exceptional T (at_level words levels k) σ.left → ⊥) (at_level words levels 0) (at_level words new 0)
  rest_filtered = filtered_map between (selected_sifted (is_active 0) (is_active 0) words levels new v.long long_new sifts_rest)

  -- a row that goes on has the level that it had
  live_kept : (i : ℕ) → Live words new i → (get_or new i 0 ≡ get_or levels i 0) × (is_active (k + 1) (get_or words i 0) (get_or levels i 0) ≡ false)
  live_kept i h =
      let w = get_or words i 0 in
      marked_cases k w (get_or levels i 0)
      (λ a e. let f = m.rows i h.0 ∙ e in absurd (omega (arith, (active_is 0 w (get_or new i 0) h.1).live)))
      (λ n e. (m.rows i h.0 ∙ e, n))

  pub marked_bounded : Bounded words levels → Bounded words new
  marked_bounded b = record {
    each = λ i lt. marked_cases k (get_or words i 0) (get_or levels i 0)
        (λ a e. omega (arith, m.rows i lt, e))
        (λ n e. omega (arith, m.rows i lt, e, b.each i lt));
  }

  -- ---- the rows that are stuck

  pub stuck_kept : (p : ℕ × ℕ) → Memᴰ p (stuck words levels) → Memᴰ p (stuck words new)
  stuck_kept p i =
      let s = selected_index is_stuck words levels i in
      let w = get_or words s.index 0 in
      let l = get_or levels s.index 0 in
      let t : is_stuck w (get_or new s.index 0) ≡ true =
      marked_cases k w l
      (λ a e. absurd (false≢true (sym (live_not_stuck (k + 1) w l a) ∙ s.taken)))
      (λ n e. rw (m.rows s.index s.within, e) s.taken) in
      mathlib.Core.List.Memᴰ.cast (sym s.is) (selected_member is_stuck words new long_new s.index s.within t)

  stuck_added : (p : ℕ × ℕ) → Memᴰ p (active (suc k) words levels) → Memᴰ p (stuck words new)
  stuck_added p i =
      let s = selected_index (is_active (suc k)) words levels i in
      let w = get_or words s.index 0 in
      let l = get_or levels s.index 0 in
      let h = active_is (suc k) w l s.taken in
      let t : is_stuck w (get_or new s.index 0) ≡ true =
      marked_cases k w l
      (λ b e. rw (m.rows s.index s.within, e, h.kind))
      (λ n e. absurd (false≢true (sym n ∙ active_at (k + 1) (suc k) w l s.taken (omega (arith, h.from))))) in
      mathlib.Core.List.Memᴰ.cast (sym s.is) (selected_member is_stuck words new long_new s.index s.within t)

  stuck_only : (p : ℕ × ℕ) → Memᴰ p (stuck words new) → Memᴰ p (stuck words levels) ⊎ Memᴰ p (active (suc k) words levels)
  stuck_only p i =
      let s = selected_index is_stuck words new i in
      let w = get_or words s.index 0 in
      let l = get_or levels s.index 0 in
      let f = m.rows s.index s.within in
      marked_cases k w l
      (λ a e. inr (mathlib.Core.List.Memᴰ.cast (sym s.is) (selected_member (is_active (suc k)) words levels v.long s.index s.within
      (active_at (suc k) (k + 1) w l a (omega (arith, (active_is (k + 1) w l a).from))))))
      (λ n e. inl (mathlib.Core.List.Memᴰ.cast (sym s.is) (selected_member is_stuck words levels v.long s.index s.within (rw (f ∙ e) at s.taken))))

  -- ---- T grows by "left is nothing" for each stuck row

  module _ (all : active (suc k) words levels ≡ active k words levels) where
    pub grown_there : {T' : List (Inclusion ℕ ℕ)} → PartOf T' (strict_rows (grown words levels)) → PartOf (T' ++ emptied (at_level words levels k)) (strict_rows (grown words new))
    grown_there {T'} f ρ i = rw (grown_rows (map row_of words) (stuck words new)) (⊎_elim old more (mathlib.Core.List.Memᴰ.append_cases T' i))
      where
        nothing_of : {ps : List (ℕ × ℕ)} → ((p : ℕ × ℕ) → Memᴰ p ps → Memᴰ p (stuck words new)) → Memᴰ ρ (emptied (map between ps)) →
            Memᴰ ρ (strict_rows (map row_of words) ++ emptied (map between (stuck words new)))
        nothing_of {ps} g j = mathlib.Core.List.Memᴰ.append_right (strict_rows (map row_of words)) (emptied_part ps (stuck words new) g ρ j)

        old : Memᴰ ρ T' → Memᴰ ρ (strict_rows (map row_of words) ++ emptied (map between (stuck words new)))
        old j = ⊎_elim (mathlib.Core.List.Memᴰ.append_left (emptied (map between (stuck words new)))) (nothing_of stuck_kept)
            (mathlib.Core.List.Memᴰ.append_cases (strict_rows (map row_of words)) (rw (grown_rows (map row_of words) (stuck words levels)) at (f ρ j)))

        more : Memᴰ ρ (emptied (at_level words levels k)) → Memᴰ ρ (strict_rows (map row_of words) ++ emptied (map between (stuck words new)))
        more = nothing_of (λ p j. stuck_added p (rw all j))

    pub grown_back : {T' : List (Inclusion ℕ ℕ)} → PartOf (strict_rows (grown words levels)) T' → PartOf (strict_rows (grown words new)) (T' ++ emptied (at_level words levels k))
    grown_back {T'} f ρ i = ⊎_elim (λ j. mathlib.Core.List.Memᴰ.append_left (emptied (at_level words levels k)) (from (mathlib.Core.List.Memᴰ.append_left (emptied (map between (stuck words levels))) j))) nothings
        (mathlib.Core.List.Memᴰ.append_cases (strict_rows (map row_of words)) (rw (grown_rows (map row_of words) (stuck words new)) at i))
      where
        from : Memᴰ ρ (strict_rows (map row_of words) ++ emptied (map between (stuck words levels))) → Memᴰ ρ T'
        from j = f ρ (rw (grown_rows (map row_of words) (stuck words levels)) j)

        nothings : Memᴰ ρ (emptied (map between (stuck words new))) → Memᴰ ρ (T' ++ emptied (at_level words levels k))
        nothings j =
            let (p, mp, e) = emptied_of (stuck words new) ρ j in
            ⊎_elim
            (λ o. mathlib.Core.List.Memᴰ.append_left (emptied (at_level words levels k)) (from (mathlib.Core.List.Memᴰ.append_right (strict_rows (map row_of words)) (mathlib.Core.List.Memᴰ.cast (sym e) (emptied_has (stuck words levels) p o)))))
            (λ n. mathlib.Core.List.Memᴰ.append_right T' (mathlib.Core.List.Memᴰ.cast (sym e) (emptied_has (active k words levels) p (rw all at n))))
            (stuck_only p mp)

    -- ---- levels only rise: what was exceptional below its level stays so

    -- a rule that went as high goes on, or its left is nothing
    rule_kept : (j : ℕ) (ρ : Inclusion ℕ ℕ) → Memᴰ ρ (at_level words levels j) → Memᴰ ρ (at_level words new j) ⊎ Memᴰ (includes ρ.left bottom) (strict_rows (grown words new))
    rule_kept j ρ i =
        let (p, mp, e) = mathlib.Core.List.Memᴰ.of_map between (active j words levels) i in
        let s = selected_index (is_active j) words levels mp in
        let w = get_or words s.index 0 in
        let l = get_or levels s.index 0 in
        let f = m.rows s.index s.within in
        marked_cases k w l
        (λ a q.
        let above = selected_member (is_active (suc k)) words levels v.long s.index s.within (active_at (suc k) (k + 1) w l a (omega (arith, (active_is (k + 1) w l a).from))) in
        let gone = emptied_has (stuck words new) p (stuck_added p (mathlib.Core.List.Memᴰ.cast (sym s.is) above)) in
        inr (rw (grown_rows (map row_of words) (stuck words new)) (mathlib.Core.List.Memᴰ.append_right (strict_rows (map row_of words))
        (subst (λ (σ : Inclusion ℕ ℕ). Memᴰ (includes σ.left bottom) (emptied (map between (stuck words new)))) e gone))))
        (λ n q.
        let member = selected_member (is_active j) words new long_new s.index s.within (rw (f ∙ q) s.taken) in
        inl (mathlib.Core.List.Memᴰ.cast (sym e) (mathlib.Core.List.Memᴰ.map between (mathlib.Core.List.Memᴰ.cast (sym s.is) member))))

    pub marked_levelled : PartOf T (strict_rows (grown words levels)) → Levelled (strict_rows (grown words new)) words new 0
    marked_levelled part = record {
      long = long_new;
      risen = λ i j h lt.
          let (same, n) = live_kept i h in
          let o : is_active 0 (get_or words i 0) (get_or levels i 0) ≡ true = subst (λ l. is_active 0 (get_or words i 0) l ≡ true) same h.1 in
          exceptional_emptied (λ ρ i. grown_more ρ (part ρ i)) (rule_kept j) (v.risen i j (h.0, o) (omega (arith, same)));
      stayed = λ i h lt. absurd (omega arith);
    }
      where
        grown_more : PartOf (strict_rows (grown words levels)) (strict_rows (grown words new))
        grown_more ρ i = rw (grown_rows (map row_of words) (stuck words new))
            (⊎_elim (mathlib.Core.List.Memᴰ.append_left (emptied (map between (stuck words new))))
            (λ j. mathlib.Core.List.Memᴰ.append_right (strict_rows (map row_of words)) (emptied_part (stuck words levels) (stuck words new) stuck_kept ρ j))
            (mathlib.Core.List.Memᴰ.append_cases (strict_rows (map row_of words)) (rw (grown_rows (map row_of words) (stuck words levels)) at i)))

    -- ---- fewer rows go on

    pub fewer_live : 0 < length (active k words levels) → length (active 0 words new) < length (active 0 words levels)
    fewer_live h = rw (length-map (active 0 words new) between, length-map (active 0 words levels) between) at (go (active k words levels) refl h)
      where
        go : (ps : List (ℕ × ℕ)) → active k words levels ≡ ps → 0 < length ps → length (at_level words new 0) < length (at_level words levels 0)
        go [] e h = absurd (omega arith)
        go (p ∷ ps) e h =
            let here : Memᴰ p (active k words levels) = subst (Memᴰ p) (sym e) (mathlib.Core.List.Memᴰ.head refl) in
            let s = selected_index (is_active (suc k)) words levels (rw (sym all) at here) in
            let w = get_or words s.index 0 in
            let l = get_or levels s.index 0 in
            let x = v.risen s.index k (s.within, active_at 0 (suc k) w l s.taken (omega arith)) (omega (arith, (active_is (suc k) w l s.taken).from)) in
            let y : Exceptional T (at_level words levels k) (numbered p.0) = subst (λ (q : ℕ × ℕ). Exceptional T (at_level words levels k) (numbered q.0)) s.is x in
            filtered_shorter rest_filtered (level_part words levels v.long 0 k (omega arith) (between p) (mathlib.Core.List.Memᴰ.map between here)) (λ n. n y)
