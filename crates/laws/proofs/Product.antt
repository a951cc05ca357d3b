-- Products of finite interpretations: an element is a pair, and it is in a concept exactly where both its parts are.
--     product             the product of two interpretations
--     both                the product of two witnesses, where it is a model
--     within_of_outside   where C is within none of several concepts, its witnesses outside all of them tell what it is within (EL with bottom is convex)
-- Assumes nothing.
use Prim.Native.Nat.{ℕ, suc, ◌+◌, ◌*◌, ◌/◌, ◌%◌, ◌<◌, ◌≤◌}
use native.Mathlib.Nat.{mul-pos, mod-lt, mod-eq_of_lt, suc-mul, mul-le-mul_right, div-eq_of_lt, div-lt_iff_lt-mul, mul-add-div_right, mul-add-mod_self_right}
use native.Mathlib.Omega.{arith}
use mathlib.Core.Path.{◌≡◌, refl, sym, ◌∙◌, ap, subst, subst₂}
use mathlib.Core.Bool.{Bool, true, false, ◌&&◌, false≢true}
use mathlib.Core.List.Memᴰ
use mathlib.Core.List.{List, [], ◌∷◌, Memᴰ}
use mathlib.Core.Logic.Iff
use mathlib.Core.Logic.{◌↔◌}
use Rattle.semantics.specs.Concept.{Concept, top, bottom, name, conj, exist, Interpretation, In, Inclusion, Obeys, Model, Witness, Within}
use Rattle.semantics.proofs.Decided.{and_iff, inb, in_iff}

-- ---- pairs of numbers

module _ (m : ℕ) (pos : 0 < m) where
  pair_left : (x y : ℕ) → y < m → (x * m + y) / m ≡ x
  pair_left x y lt = mul-add-div_right pos x y ∙ ap (λ k. x + k) (div-eq_of_lt lt) ∙ omega arith

  pair_right : (x y : ℕ) → y < m → (x * m + y) % m ≡ y
  pair_right x y lt = mul-add-mod_self_right x m y ∙ mod-eq_of_lt lt

pub pair_inside : (n m x y : ℕ) → x < n → y < m → x * m + y < n * m
pair_inside n m x y ltx lty =
    let le : suc x * m ≤ n * m = mul-le-mul_right m ltx in
    omega (arith, le, suc-mul x m, lty)

-- ---- the product

-- The pair of x and y is x * (size of the second) + y. It has the names that both parts have, and the pairs of a role that both have.
abbrev pub product : {A R : Type 0} → Interpretation A R → Interpretation A R → Interpretation A R
product I J = record {
  size = I.size * J.size;
  nonempty = mul-pos I.nonempty J.nonempty;
  of_name = λ a p. I.of_name a (p / J.size) && J.of_name a (p % J.size);
  of_role = λ r p q. I.of_role r (p / J.size) (q / J.size) && J.of_role r (p % J.size) (q % J.size);
}

module _ {A R : Type 0} where
  module _ (I J : Interpretation A R) where
    -- A pair is in a concept exactly where both parts are.
    pub product_in : (C : Concept A R) (p : ℕ) → (In (product I J) C p ↔ (In I C (p / J.size) × In J C (p % J.size)))
    unfolding In
    product_in top p = (λ u. (tt, tt), λ u. tt)
    product_in bottom p = (λ e. absurd e, λ e. e.0)
    product_in (name a) p = and_iff (I.of_name a (p / J.size)) (J.of_name a (p % J.size))
    product_in (conj C D) p =
        let c = product_in C p in
        let d = product_in D p in (
          λ (i, j). (((c.0 i).0, (d.0 j).0), ((c.0 i).1, (d.0 j).1)),
          λ (i, j). (c.1 (i.0, j.0), d.1 (i.1, j.1)),
        )
    product_in (exist r C) p =
        let m = J.size in (
          λ (q, lt, led, i).
              let (ledx, ledy) = (and_iff (I.of_role r (p / m) (q / m)) (J.of_role r (p % m) (q % m))).0 led in
              let (ix, iy) = (product_in C q).0 i in
              ((q / m, (div-lt_iff_lt-mul J.nonempty).1 lt, ledx, ix), (q % m, mod-lt q J.nonempty, ledy, iy)),
          λ ((x, ltx, ledx, ix), (y, lty, ledy, iy)).
              let ex = sym (pair_left m J.nonempty x y lty) in
              let ey = sym (pair_right m J.nonempty x y lty) in (
                x * m + y,
                pair_inside I.size m x y ltx lty,
                (and_iff (I.of_role r (p / m) ((x * m + y) / m)) (J.of_role r (p % m) ((x * m + y) % m))).1
                    (subst (λ k. I.of_role r (p / m) k ≡ true) ex ledx, subst (λ k. J.of_role r (p % m) k ≡ true) ey ledy),
                (product_in C (x * m + y)).1 (subst (In I C) ex ix, subst (In J C) ey iy),
              ),
        )

    -- So a pair obeys what both parts obey, and a product of models is a model.
    product_obeys : {E : List (Inclusion A R)} (p : ℕ) → Obeys I E (p / J.size) → Obeys J E (p % J.size) → Obeys (product I J) E p
    product_obeys p o o' ρ m h = let (i, j) = (product_in ρ.left p).0 h in (product_in ρ.right p).1 (o ρ m i, o' ρ m j)

    pub product_model : {T : List (Inclusion A R)} → Model T I → Model T J → Model T (product I J)
    product_model m m' p lt = product_obeys p (m (p / J.size) ((div-lt_iff_lt-mul J.nonempty).1 lt)) (m' (p % J.size) (mod-lt p J.nonempty))

    -- the same of the pair of x and y
    pub at_pair : (C : Concept A R) (x y : ℕ) → y < J.size → (In (product I J) C (x * J.size + y) ↔ (In I C x × In J C y))
    at_pair C x y lt =
        subst₂ (λ u v. In (product I J) C (x * J.size + y) ↔ (In I C u × In J C v))
        (pair_left J.size J.nonempty x y lt) (pair_right J.size J.nonempty x y lt) (product_in C (x * J.size + y))

    pub pair_obeys : {E : List (Inclusion A R)} (x y : ℕ) → y < J.size → Obeys I E x → Obeys J E y → Obeys (product I J) E (x * J.size + y)
    pair_obeys x y lt o o' ρ m h = let (i, j) = (at_pair ρ.left x y lt).0 h in (at_pair ρ.right x y lt).1 (o ρ m i, o' ρ m j)

-- ---- witnesses

module _ {A R : Type 0} where
  pub in_conj : (I : Interpretation A R) (C D : Concept A R) (x : ℕ) → (In I (conj C D) x ↔ (In I C x × In I D x))
  unfolding In
  in_conj I C D x = Iff.rfl

  -- A finite interpretation decides its concepts, so what is not refuted is so.
  in_dec : (I : Interpretation A R) (C : Concept A R) (x : ℕ) → Dec (In I C x)
  in_dec I C x = go (inb I C x) refl
    where
      go : (b : Bool) → inb I C x ≡ b → Dec (In I C x)
      go true e = yes ((in_iff I C x).1 e)
      go false e = no (λ i. false≢true (sym e ∙ (in_iff I C x).0 i))

  pub in_stable : (I : Interpretation A R) (C : Concept A R) (x : ℕ) → ((In I C x → ⊥) → ⊥) → In I C x
  in_stable I C x n = elim (in_dec I C x) [ yes i ↦ i | no k ↦ absurd (n k) ]

  -- the same element, for another concept that it is in and other rules that it obeys
  abbrev pub witness_for : {T E E' : List (Inclusion A R)} {C C' : Concept A R} (w : Witness T E C) → In w.world C' w.point → Obeys w.world E' w.point → Witness T E' C'
  witness_for w i o = record { world = w.world; model = w.model; point = w.point; inside = w.inside; member = i; obeys = o }

  module _ {T T' E : List (Inclusion A R)} {C : Concept A R} (w : Witness T E C) (v : Witness T' E C) where
    -- the product of two witnesses, where it is a model
    abbrev pub both : {T'' : List (Inclusion A R)} → Model T'' (product w.world v.world) → Witness T'' E C
    both m = record {
      world = product w.world v.world;
      model = m;
      point = w.point * v.world.size + v.point;
      inside = pair_inside w.world.size v.world.size w.point v.point w.inside v.inside;
      member = (at_pair w.world v.world C w.point v.point v.inside).1 (w.member, v.member);
      obeys = pair_obeys w.world v.world w.point v.point v.inside w.obeys v.obeys;
    }

    pub in_both : (D : Concept A R) →
        (In (product w.world v.world) D (w.point * v.world.size + v.point) ↔ (In w.world D w.point × In v.world D v.point))
    in_both D = at_pair w.world v.world D w.point v.point v.inside

  module _ {T E : List (Inclusion A R)} {C : Concept A R} where
    -- The witness is outside each of the concepts.
    abbrev pub Outside : List (Concept A R) → Witness T E C → Type 0
    Outside Ds v = (D : Concept A R) → Memᴰ D Ds → In v.world D v.point → ⊥

    -- The one is in no concept that the other is not in.
    abbrev InNoMore : Witness T E C → Witness T E C → Type 0
    InNoMore v w = (D : Concept A R) → In v.world D v.point → In w.world D w.point

    -- the product of witnesses in models of the same T, which is in no more than either
    abbrev meet : Witness T E C → Witness T E C → Witness T E C
    meet w v = both w v (product_model w.world v.world w.model v.model)

    -- Where C is within none of several concepts, there is for each witness one that is in no more and outside all of them.
    outside_exists : (w : Witness T E C) (Ds : List (Concept A R)) → ((D : Concept A R) → Memᴰ D Ds → Within T E C D → ⊥) →
        ((v : Witness T E C) → InNoMore v w → Outside Ds v → ⊥) → ⊥
    outside_exists w [] n k = k w (λ D i. i) (λ D m. absurd (Memᴰ.not-nil m))
    outside_exists w (X ∷ Ds) n k =
        n X (Memᴰ.head refl) (record { holds = λ u. in_stable u.world X u.point (λ out. next u out (outside_exists (meet w u) Ds (λ D m. n D (Memᴰ.tail m)))) })
      where
        out_of : (u v : Witness T E C) → (In u.world X u.point → ⊥) → (In v.world X v.point → In u.world X u.point) → Outside Ds v → Outside (X ∷ Ds) v
        out_of u v out below rest D (Memᴰ.head e) i = out (below (subst (λ D. In v.world D v.point) e i))
        out_of u v out below rest D (Memᴰ.tail m) i = rest D m i

        next : (u : Witness T E C) → (In u.world X u.point → ⊥) → (((v : Witness T E C) → InNoMore v (meet w u) → Outside Ds v → ⊥) → ⊥) → ⊥
        next u out go = go (λ v below rest. k v (λ D i. ((in_both w u D).0 (below D i)).0) (out_of u v out (λ i. ((in_both w u X).0 (below X i)).1) rest))

    -- So C is within whatever its witnesses outside them are in.
    pub within_of_outside : (Ds : List (Concept A R)) → ((D : Concept A R) → Memᴰ D Ds → Within T E C D → ⊥) →
        (D : Concept A R) → ((v : Witness T E C) → Outside Ds v → In v.world D v.point) → Within T E C D
    within_of_outside Ds n D f = record { holds = λ w. in_stable w.world D w.point (λ not. outside_exists w Ds n (λ v below out. not (below D (f v out)))) }
