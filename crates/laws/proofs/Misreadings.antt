-- Plausible variants of the laws that are false, refuted by small examples over the names a, b and c.
-- Assumes nothing.
use Prim.Native.Nat.{ℕ, zero, suc, ◌<◌}
use native.Mathlib.Omega.{arith}
use mathlib.Core.Path.{◌≡◌, refl, sym, ◌∙◌, subst}
use mathlib.Core.Bool.{true, false, cond, false≢true}
use mathlib.Core.Option.{none}
use mathlib.Core.List.Memᴰ
use mathlib.Core.List.{List, [], ◌∷◌, ◌++◌, Memᴰ}
use lib.ListN.{get_or}
use lib.Dec.{ltb, eqb, eqb-suc-zero}
use Rattle.semantics.specs.Concept.{Concept, top, bottom, name, conj, exist, Interpretation, In, Inclusion, Model, Witness, Within, Exceptional}
use Rattle.semantics.specs.Closure.{Line, line, strict, defeasible, includes, strict_of, Filtered, end, keep, leave}
use Rattle.semantics.specs.Closure.{Pass, repeats, falls, last, again, emptied, RankIs, done, more, of_strict, of_defeasible, RationalClosure, inclusions_of}
use Rattle.semantics.specs.Replies.{defeasibly}
use Rattle.semantics.proofs.Consequence.{obeys_none, obeys_more}
use Rattle.laws.specs.Habits.{Fires, rights, RankedHabits}
use Rattle.laws.specs.NextPass.{NextPass}
use Rattle.laws.proofs.Habits.{in_rights}

-- ---- the examples' interpretations and names

-- one element, with the names below n
abbrev one_element : ℕ → Interpretation ℕ ℕ
one_element n = record { size = 1; nonempty = omega arith; of_name = λ k x. ltb k n; of_role = λ r x y. false }

abbrev the_element : {C : Concept ℕ ℕ} (n : ℕ) → In (one_element n) C 0 → Witness [] [] C
the_element n i = record { world = one_element n; model = λ x lt. obeys_none (one_element n) x; point = 0; inside = omega arith; member = i; obeys = obeys_none (one_element n) 0 }

-- an element 0 with all names but a, and an element 1 with a alone, to which every role leads
abbrev two_elements : Interpretation ℕ ℕ
two_elements = record { size = 2; nonempty = omega arith; of_name = λ n x. cond (eqb n 0) (eqb x 1) (eqb x 0); of_role = λ r x y. eqb y 1 }

abbrev a : Concept ℕ ℕ
a = name 0

abbrev b : Concept ℕ ℕ
b = name 1

abbrev c : Concept ℕ ℕ
c = name 2

-- ---- firing by the strict inclusions alone: a is usually b, b usually c

pub no_strict_firing : ((T E F : List (Inclusion ℕ ℕ)) (C D : Concept ℕ ℕ) → Filtered (Fires T [] C) E F → Within T E C D → Within T [] (conj C (rights F)) D) → ⊥
unfolding In rights
no_strict_firing claim = false≢true ((claim [] E F a c fired chain).holds (the_element 2 (refl, (refl, tt))))
  where
    E : List (Inclusion ℕ ℕ)
    E = includes a b ∷ includes b c ∷ []

    F : List (Inclusion ℕ ℕ)
    F = includes a b ∷ []

    fired : Filtered (Fires [] [] a) E F
    fired = keep (record { holds = λ w. w.member }) (leave (λ h. false≢true (h.holds (the_element 1 refl))) end)

    chain : Within [] E a c
    chain = record { holds = λ w. w.obeys (includes b c) (Memᴰ.tail (Memᴰ.head refl)) (w.obeys (includes a b) (Memᴰ.head refl) w.member) }

-- ---- strict inclusions as written, at an infinite rank: a is usually b and never b, and every c has some a

pub no_habits_as_written : ((lines : List (Line ℕ ℕ)) (levels passes : ℕ) (results : List ℕ) (s : RationalClosure lines levels passes results) (X : Concept ℕ ℕ) →
    (F : List (Inclusion ℕ ℕ)) × RankedHabits s (strict_of lines) X F) → ⊥
unfolding In inclusions_of
no_habits_as_written claim =
    let (F, u) = claim lines 0 2 (0 ∷ 0 ∷ 65535 ∷ []) closure c in
    ((u.decides bottom).0 (defeasibly none infinite tt)).holds (written F u.lines_only)
  where
    lines : List (Line ℕ ℕ)
    lines = line strict (conj a b) bottom ∷ line strict c (exist 0 a) ∷ line defeasible a b ∷ []

    α : Inclusion ℕ ℕ
    α = includes a b

    T : List (Inclusion ℕ ℕ)
    T = includes (conj a b) bottom ∷ includes c (exist 0 a) ∷ []

    a_exceptional : Exceptional T (α ∷ []) a
    a_exceptional w = w.model w.point w.inside (includes (conj a b) bottom) (Memᴰ.head refl) (w.member, w.obeys α (Memᴰ.head refl) w.member)

    a_empty : (I : Interpretation ℕ ℕ) → Model (T ++ emptied (α ∷ [])) I → (x : ℕ) → x < I.size → In I a x → ⊥
    a_empty I m x lt i = m x lt (includes a bottom) (Memᴰ.tail (Memᴰ.tail (Memᴰ.head refl))) i

    infinite : RankIs (T ++ emptied (α ∷ [])) [] c none
    infinite j le w =
        let (y, lt, led, i) = w.model w.point w.inside (includes c (exist 0 a)) (Memᴰ.tail (Memᴰ.head refl)) w.member in
        a_empty w.world w.model y lt i

    closure : RationalClosure lines 0 2 (0 ∷ 0 ∷ 65535 ∷ [])
    closure = record {
      T* = T ++ emptied (α ∷ []);
      sets = [];
      passed = again (repeats (keep a_exceptional end)) (leave (λ n. n (Memᴰ.head refl)) end) (last (repeats end));
      level_count = refl;
      reported = more of_strict (more of_strict (more (of_defeasible none (λ j le w. a_empty w.world w.model w.point w.inside w.member)) done));
    }

    -- no element has a and b
    apart : (x : ℕ) → eqb x 1 ≡ true → eqb x 0 ≡ true → ⊥
    apart zero e f = false≢true e
    apart (suc x) e f = false≢true (sym (eqb-suc-zero x) ∙ f)

    -- over the lines as written: the element 0 is in c, and in the right of the only defeasible line
    written : (F : List (Inclusion ℕ ℕ)) → ((ρ : Inclusion ℕ ℕ) → Memᴰ ρ F → Memᴰ ρ (α ∷ [])) → Witness T [] (conj c (rights F))
    written F only = record {
      world = two_elements;
      model = λ x lt. obeys_more two_elements x (λ (i, j). apart x i j) (obeys_more two_elements x (λ i. (1, omega arith, refl, refl)) (obeys_none two_elements x));
      point = 0;
      inside = omega arith;
      member = (refl, in_rights two_elements F 0 (λ ρ m. subst (λ (ρ : Inclusion ℕ ℕ). In two_elements ρ.right 0) (sym (Memᴰ.eq_of_singleton (only ρ m))) refl));
      obeys = obeys_none two_elements 0;
    }

-- ---- emptied lefts in general: a concept that becomes empty is newly within everything

pub no_emptied_anyway : ((T S : List (Inclusion ℕ ℕ)) (C D : Concept ℕ ℕ) → Within (T ++ emptied S) [] C D → Within T [] C D) → ⊥
unfolding In
no_emptied_anyway claim = false≢true ((claim [] (includes a b ∷ []) a b newly).holds (the_element 1 refl))
  where
    newly : Within (emptied (includes a b ∷ [])) [] a b
    newly = record { holds = λ w. absurd (w.model w.point w.inside (includes a bottom) (Memᴰ.head refl) w.member) }

-- ---- levels kept from pass to pass: a is usually nothing, and every b has some a

pub no_level_kept : ((T D T' D' stuck stuck' : List (Inclusion ℕ ℕ)) (sets sets' : List (List (Inclusion ℕ ℕ))) → Pass T D sets stuck → NextPass T D stuck T' D' → Pass T' D' sets' stuck' →
    (i : ℕ) (ρ : Inclusion ℕ ℕ) → Memᴰ ρ (get_or sets' i stuck') → Memᴰ ρ (get_or sets i stuck)) → ⊥
unfolding In
no_level_kept claim = other (claim T (α ∷ β ∷ []) (T ++ emptied (α ∷ [])) (β ∷ []) (α ∷ []) (β ∷ []) ((α ∷ β ∷ []) ∷ []) [] first next second 1 β (Memᴰ.head refl))
  where
    α : Inclusion ℕ ℕ
    α = includes a bottom

    β : Inclusion ℕ ℕ
    β = includes b top

    T : List (Inclusion ℕ ℕ)
    T = includes b (exist 0 a) ∷ []

    other : Memᴰ β (α ∷ []) → ⊥
    other m = let e : β ≡ α = Memᴰ.eq_of_singleton m in subst (λ (ρ : Inclusion ℕ ℕ). In two_elements ρ.right 0) e tt

    -- a has no element that obeys its rule, and b has one
    a_exceptional : {E : List (Inclusion ℕ ℕ)} → Memᴰ α E → Exceptional T E a
    a_exceptional m w = w.obeys α m w.member

    b_alive : Exceptional T (α ∷ β ∷ []) b → ⊥
    b_alive x = x (record {
      world = two_elements;
      model = λ x lt. obeys_more two_elements x (λ i. (1, omega arith, refl, refl)) (obeys_none two_elements x);
      point = 0;
      inside = omega arith;
      member = refl;
      obeys = obeys_more two_elements 0 false≢true (obeys_more two_elements 0 (λ i. tt) (obeys_none two_elements 0));
    })

    first : Pass T (α ∷ β ∷ []) ((α ∷ β ∷ []) ∷ []) (α ∷ [])
    first = falls (keep (a_exceptional (Memᴰ.head refl)) (leave b_alive end)) (omega arith) (repeats (keep (a_exceptional (Memᴰ.head refl)) end))

    next : NextPass T (α ∷ β ∷ []) (α ∷ []) (T ++ emptied (α ∷ [])) (β ∷ [])
    next = record { lefts_emptied = refl; rest = leave (λ n. n (Memᴰ.head refl)) (keep other end) }

    b_exceptional : Exceptional (T ++ emptied (α ∷ [])) (β ∷ []) b
    b_exceptional w =
        let (y, lt, led, i) = w.model w.point w.inside (includes b (exist 0 a)) (Memᴰ.head refl) w.member in
        w.model y lt (includes a bottom) (Memᴰ.tail (Memᴰ.head refl)) i

    second : Pass (T ++ emptied (α ∷ [])) (β ∷ []) [] (β ∷ [])
    second = repeats (keep b_exceptional end)
