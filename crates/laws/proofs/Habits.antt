-- Habits stay with the element: what C, where it obeys E, is within, is what C with the rights of the rules that fire at it is within by T alone.
-- One way, an element of C that obeys E has these rights. The other way, an element of C with these rights need not obey E,
-- but its product with witnesses outside the left of each other rule does, and is in no concept that the element is not in.
-- Assumes nothing.
use Prim.Native.Nat.{ℕ}
use mathlib.Core.Path.{◌≡◌, refl, sym, subst}
use mathlib.Core.List.Memᴰ
use mathlib.Core.List.{List, [], ◌∷◌, map, Memᴰ}
use mathlib.Core.Logic.{◌↔◌}
use Rattle.semantics.specs.Concept.{Concept, conj, Interpretation, In, Inclusion, Witness, Within}
use Rattle.semantics.specs.Closure.{Filtered, end, keep, leave}
use Rattle.semantics.proofs.Consequence.{obeys_none, within_grows}
use Rattle.semantics.proofs.Filter.{filtered_member, filtered_has, filtered_all, filtered_decides}
use Rattle.laws.specs.Habits.{Fires, rights}
use Rattle.laws.proofs.Product.{in_conj, witness_for, Outside, within_of_outside}

module _ {A R : Type 0} where
  -- ---- the conjunction of rights

  pub in_rights : (I : Interpretation A R) (F : List (Inclusion A R)) (x : ℕ) → ((ρ : Inclusion A R) → Memᴰ ρ F → In I ρ.right x) → In I (rights F) x
  unfolding In rights
  in_rights I [] x f = tt
  in_rights I (ρ ∷ F) x f = (f ρ (Memᴰ.head refl), in_rights I F x (λ σ m. f σ (Memᴰ.tail m)))

  right_in : (I : Interpretation A R) (ρ : Inclusion A R) {F : List (Inclusion A R)} (x : ℕ) → In I (rights F) x → Memᴰ ρ F → In I ρ.right x
  unfolding In rights
  right_in I ρ x i (Memᴰ.head e) = subst (λ (ρ : Inclusion A R). In I ρ.right x) (sym e) i.0
  right_in I ρ x i (Memᴰ.tail m) = right_in I ρ x i.1 m

  -- ---- the lefts of the rules of E that have not P

  others : {P : Inclusion A R → Type 0} {E F : List (Inclusion A R)} → Filtered P E F → List (Concept A R)
  others end = []
  others (keep h k) = others k
  others (leave {a} n k) = a.left ∷ others k

  others_not : {P : Inclusion A R → Type 0} {E F : List (Inclusion A R)} (k : Filtered P E F) {D : Concept A R} → Memᴰ D (others k) →
      (ρ : Inclusion A R) × (P ρ → ⊥) × (D ≡ ρ.left)
  unfolding others
  others_not end m = absurd (Memᴰ.not-nil m)
  others_not (keep h k) m = others_not k m
  others_not (leave {a} n k) (Memᴰ.head e) = (a, n, e)
  others_not (leave n k) (Memᴰ.tail m) = others_not k m

  others_all : {P : Inclusion A R → Type 0} {E F : List (Inclusion A R)} (k : Filtered P E F) (ρ : Inclusion A R) → Memᴰ ρ E → (P ρ → ⊥) → Memᴰ ρ.left (others k)
  unfolding others
  others_all {P} (keep h k) ρ (Memᴰ.head e) n = absurd (n (subst P (sym e) h))
  others_all (keep h k) ρ (Memᴰ.tail m) n = others_all k ρ m n
  others_all (leave n k) ρ (Memᴰ.head e) n' = Memᴰ.head (λ i. (e i).left)
  others_all (leave n k) ρ (Memᴰ.tail m) n' = Memᴰ.tail (others_all k ρ m n')
  others_all {P = P} end ρ x6 n = elim x6 [ ]

  -- ---- the law

  module _ {T E F : List (Inclusion A R)} {C : Concept A R} (fired : Filtered (Fires T E C) E F) where
    -- An element of C that obeys E has the rights.
    abbrev with_rights : Witness T E C → Witness T [] (conj C (rights F))
    with_rights w = witness_for w
        ((in_conj w.world C (rights F) w.point).1
        (w.member, in_rights w.world F w.point (λ ρ m. w.obeys ρ (filtered_member fired m) ((filtered_has fired m).holds w))))
        (obeys_none w.world w.point)

    -- An element of C with the rights that is in no other left obeys E.
    abbrev obeying : (v : Witness T [] (conj C (rights F))) → Outside (others fired) v → Witness T E C
    obeying v out =
        let (c, k) = (in_conj v.world C (rights F) v.point).0 v.member in
        witness_for v c (λ ρ m i. elim (filtered_decides fired m) [
          | yes f ↦ right_in v.world ρ v.point k (filtered_all fired m f)
          | no n ↦ absurd (out ρ.left (others_all fired ρ m n) i)
        ])

    -- C is within no other left, even with the rights.
    others_out : (X : Concept A R) → Memᴰ X (others fired) → Within T [] (conj C (rights F)) X → ⊥
    others_out X m h =
        let (ρ, n, e) = others_not fired m in
        n (record { holds = λ u. subst (λ X. In u.world X u.point) e (h.holds (with_rights u)) })

    pub habits_stay : (D : Concept A R) → (Within T E C D ↔ Within T [] (conj C (rights F)) D)
    habits_stay D = (
      λ h. within_of_outside (others fired) others_out D (λ v out. h.holds (obeying v out)),
      λ h. record { holds = λ w. h.holds (with_rights w) },
    )

  -- Where C is by T alone within the left of no rule, the rules add nothing.
  pub habits_absent : {T E : List (Inclusion A R)} {C : Concept A R} → ((ρ : Inclusion A R) → Memᴰ ρ E → Within T [] C ρ.left → ⊥) →
      (D : Concept A R) → (Within T E C D ↔ Within T [] C D)
  habits_absent {T} {E} {C} n D = (
    λ h. within_of_outside lefts not_within D (λ v out. h.holds (free v out)),
    within_grows (λ ρ m. m) (λ ρ m. absurd (Memᴰ.not-nil m)),
  )
    where
      lefts : List (Concept A R)
      lefts = map (λ (ρ : Inclusion A R). ρ.left) E

      not_within : (X : Concept A R) → Memᴰ X lefts → Within T [] C X → ⊥
      not_within X m h = let (ρ, i, e) = Memᴰ.of_map _ E m in n ρ i (subst (λ X. Within T [] C X) (sym e) h)

      free : (v : Witness T [] C) → Outside lefts v → Witness T E C
      free v out = witness_for v v.member (λ ρ m i. absurd (out ρ.left (Memᴰ.map (λ (ρ : Inclusion A R). ρ.left) m) i))
