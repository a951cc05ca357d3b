-- Ranks only rise from pass to pass. In a model of the next pass's T the lefts of the stuck rules are empty, so an element that obeys the rest of a level obeys all of it.
-- Assumes nothing.
use Prim.Native.Nat.{ℕ, zero, suc, ◌<◌, ◌≤◌}
use native.Mathlib.Omega.{arith}
use native.Mathlib.Decide.{dec_lt}
use mathlib.Core.Path.{refl, sym, subst, subst₂}
use mathlib.Core.Option.{some}
use mathlib.Core.List.Memᴰ
use mathlib.Core.List.{List, Memᴰ}
use lib.ListN.{get_or}
use Rattle.semantics.specs.Concept.{Concept, bottom, Interpretation, In, Inclusion, Model, Witness, Exceptional}
use Rattle.semantics.specs.Closure.{Pass, Passes, last, again, emptied, includes, level, RankIs}
use Rattle.semantics.proofs.Consequence.{PartOf, model_part}
use Rattle.semantics.proofs.Filter.{filtered_member, filtered_has, filtered_all, filtered_decides}
use Rattle.semantics.proofs.Levels.{pass_first, pass_next}
use Rattle.semantics.proofs.Unique.{pass_unique}
use Rattle.laws.specs.NextPass.{NextPass}
use Rattle.laws.proofs.PassParts.{pass_part, passes_first}

module _ {A R : Type 0} {T D T' D' stuck stuck' : List (Inclusion A R)} {sets sets' : List (List (Inclusion A R))}
    (p : Pass T D sets stuck) (next : NextPass T D stuck T' D') (p' : Pass T' D' sets' stuck') where
  -- In a model of T' no element is in a stuck rule's left.
  left_empty : (I : Interpretation A R) → Model T' I → (x : ℕ) → x < I.size → (ρ : Inclusion A R) → Memᴰ ρ stuck → In I ρ.left x → ⊥
  unfolding In
  left_empty I m x lt ρ s i = m x lt (includes ρ.left bottom) added i
    where
      added : Memᴰ (includes ρ.left bottom) T'
      added = subst (λ l. Memᴰ (includes ρ.left bottom) l) (sym next.lefts_emptied) (Memᴰ.append_right T (Memᴰ.map (λ (σ : Inclusion A R). includes σ.left bottom) s))

  kept : PartOf T T'
  kept ρ m = subst (λ l. Memᴰ ρ l) (sym next.lefts_emptied) (Memᴰ.append_left (emptied stuck) m)

  -- A witness at a level of the next pass is one at that level of this, where the rules that are not stuck are there too.
  abbrev before : (i : ℕ) → ((ρ : Inclusion A R) → Memᴰ ρ (get_or sets i stuck) → (Memᴰ ρ stuck → ⊥) → Memᴰ ρ (get_or sets' i stuck')) →
      {C : Concept A R} → Witness T' (get_or sets' i stuck') C → Witness T (get_or sets i stuck) C
  before i there w = record {
    world = w.world;
    model = model_part w.world kept w.model;
    point = w.point;
    inside = w.inside;
    member = w.member;
    obeys = λ ρ m j. elim (filtered_decides next.rest (pass_part p i ρ m)) [
      | yes n ↦ w.obeys ρ (there ρ m n) j
      | no n ↦ absurd (n (λ s. left_empty w.world w.model w.point w.inside ρ s j))
    ];
  }

  -- Every rule of a level that is not stuck is in that level of the next pass.
  pub rules_rise : (i : ℕ) (ρ : Inclusion A R) → Memᴰ ρ (get_or sets i stuck) → (Memᴰ ρ stuck → ⊥) → Memᴰ ρ (get_or sets' i stuck')
  rules_rise zero ρ m n = subst (λ E. Memᴰ ρ E) (sym (pass_first p')) (filtered_all next.rest (pass_part p zero ρ m) n)
  rules_rise (suc i) ρ m n =
      filtered_all (pass_next p' i) (rules_rise i ρ (filtered_member (pass_next p i) m) n)
      (λ w. filtered_has (pass_next p i) m (before i (rules_rise i) w))

  -- What is exceptional at a level is so at that level of the next pass.
  pub exceptional_rises : (C : Concept A R) (i : ℕ) → Exceptional T (get_or sets i stuck) C → Exceptional T' (get_or sets' i stuck') C
  exceptional_rises C i x w = x (before i (rules_rise i) w)

module _ {A R : Type 0} where
  -- So is what is exceptional at a level of any pass at that level of the last one.
  pub exceptional_stays : {T D T* stuck : List (Inclusion A R)} {sets sets* : List (List (Inclusion A R))} {n : ℕ} → Passes T D n T* sets* → Pass T D sets stuck →
      (C : Concept A R) (i : ℕ) → Exceptional T (get_or sets i stuck) C → Exceptional T* (level sets* i) C
  exceptional_stays (last {T} q) p C i x = let (e, f) = pass_unique p q in subst₂ (λ l s. Exceptional T (get_or l i s) C) e f x
  exceptional_stays (again {T} q k r) p C i x =
      let (e, f) = pass_unique p q in
      let (sets', stuck', p') = passes_first r in
      exceptional_stays r p' C i (exceptional_rises q (record { lefts_emptied = refl; rest = k }) p' C i (subst₂ (λ l s. Exceptional T (get_or l i s) C) e f x))

  -- So a rank is at least the number of levels at which the concept is exceptional in an earlier pass.
  pub rank_rises : {T D T* stuck : List (Inclusion A R)} {sets sets* : List (List (Inclusion A R))} {n : ℕ} → Passes T D n T* sets* → Pass T D sets stuck →
      (C : Concept A R) (i j : ℕ) → ((k : ℕ) → k < i → Exceptional T (get_or sets k stuck) C) → RankIs T* sets* C (some j) → i ≤ j
  rank_rises r p C i j below (le, alive, rest) = go (dec_lt j i)
    where
      go : Dec (j < i) → i ≤ j
      go (yes lt) = absurd (alive (exceptional_stays r p C j (below j lt)))
      go (no ge) = omega arith
