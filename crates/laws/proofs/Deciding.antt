-- Where every list of lines has a closure, as over words and over numbers, it is decided what is within and which rules fire, and every concept has a rank.
-- The closure of T and a strict query decides what is within by T alone. Each rule then adds its right where it fires, and nothing where it does not.
-- Assumes nothing.
use Prim.Native.Nat.{ℕ}
use mathlib.Core.Path.{◌≡◌, refl, ap, subst, subst₂}
use mathlib.Core.Bool.{true, false}
use mathlib.Core.Option.{Option, none, some}
use mathlib.Core.List.Memᴰ
use mathlib.Core.List.{List, [], ◌∷◌, map}
use mathlib.Core.Logic.{◌↔◌}
use Rattle.semantics.specs.Concept.{Concept, top, conj, Inclusion, Obeys, Within}
use Rattle.semantics.specs.Closure.{Line, line, strict, query, strict_query, inclusions_of, strict_of, Filtered, RankIs, Results, more, of_query, of_strict_query, RationalClosure}
use Rattle.semantics.specs.OwnNames.{renamed_line}
use Rattle.semantics.specs.Source.{Word}
use Rattle.semantics.proofs.Consequence.{obeys_more, within_grows}
use Rattle.semantics.proofs.Exists.{dec_iff}
use Rattle.semantics.proofs.Existence.{closure_exists}
use Rattle.semantics.proofs.Filter.{filtered_exists}
use Rattle.semantics.proofs.Rename.{closure_renamed}
use Rattle.semantics.proofs.Unique.{passes_unique}
use Rattle.laws.specs.Existence.{ClosuresExist}
use Rattle.laws.specs.Habits.{Fires}
use Rattle.laws.proofs.Product.{in_conj, witness_for, within_of_outside}

-- ---- one more rule

module _ {A R : Type 0} {T E : List (Inclusion A R)} {C : Concept A R} (ρ : Inclusion A R) where
  -- It adds its right where it fires.
  rule_fires : Fires T E C ρ → (D : Concept A R) → (Within T (ρ ∷ E) C D ↔ Within T E (conj C ρ.right) D)
  rule_fires f D = (
    λ h. record {
      holds = λ w.
          let (c, r) = (in_conj w.world C ρ.right w.point).0 w.member in
          h.holds (witness_for w c (obeys_more w.world w.point (λ i. r) w.obeys));
    },
    λ h. record {
      holds = λ w.
          let rest : Obeys w.world E w.point = λ σ m. w.obeys σ (Memᴰ.tail m) in
          let r = w.obeys ρ (Memᴰ.head refl) (f.holds (witness_for w w.member rest)) in
          h.holds (witness_for w ((in_conj w.world C ρ.right w.point).1 (w.member, r)) rest);
    },
  )

  -- It adds nothing where it does not.
  rule_silent : (Fires T E C ρ → ⊥) → (D : Concept A R) → (Within T (ρ ∷ E) C D ↔ Within T E C D)
  rule_silent n D = (
    λ h. within_of_outside (ρ.left ∷ []) (λ X m h'. n (subst (λ X. Within T E C X) (Memᴰ.eq_of_singleton m) h')) D
        (λ v out. h.holds (witness_for v v.member (obeys_more v.world v.point (λ i. absurd (out ρ.left (Memᴰ.head refl) i)) v.obeys))),
    within_grows (λ σ m. m) (λ σ m. Memᴰ.tail m),
  )

-- Where what is within is decided with no rules, it is so with any.
rules_decide : {A R : Type 0} {T : List (Inclusion A R)} → ((C D : Concept A R) → Dec (Within T [] C D)) → (E : List (Inclusion A R)) (C D : Concept A R) → Dec (Within T E C D)
rules_decide d [] C D = d C D
rules_decide d (ρ ∷ E) C D = elim (rules_decide d E C ρ.left) [
  | yes f ↦ dec_iff (rule_fires ρ f D) (rules_decide d E (conj C ρ.right) D)
  | no n ↦ dec_iff (rule_silent ρ n D) (rules_decide d E C D)
]

-- ---- where every list of lines has a closure

-- the word of a number, and its number
abbrev word_of_number : ℕ → Word
word_of_number n = n ∷ []

abbrev number_of : Word → Option ℕ
number_of [] = none
number_of (n ∷ []) = some n
number_of (n ∷ m ∷ w) = none

-- Every list has one over words, and over numbers, which can be renamed to words.
pub word_closures : ClosuresExist Word Word
word_closures = closure_exists

pub number_closures : ClosuresExist ℕ ℕ
number_closures lines =
    let (levels, passes, results, s) = closure_exists (map (renamed_line word_of_number word_of_number) lines) in
    (levels, passes, results, (closure_renamed word_of_number word_of_number number_of number_of (λ n. refl) (λ n. refl) lines).1 s)

module _ {A R : Type 0} where
  strict_lines : List (Inclusion A R) → List (Line A R)
  strict_lines [] = []
  strict_lines (ρ ∷ T) = line strict ρ.left ρ.right ∷ strict_lines T

  strict_of_lines : (T : List (Inclusion A R)) → strict_of (strict_lines T) ≡ T
  unfolding inclusions_of strict_lines
  strict_of_lines [] = refl
  strict_of_lines (ρ ∷ T) = ap (λ l. ρ ∷ l) (strict_of_lines T)

  module _ {written T : List (Inclusion A R)} {sets : List (List (Inclusion A R))} where
    strict_reply : {C D : Concept A R} {ls : List (Line A R)} {rs : List ℕ} → Results written T sets (line strict_query C D ∷ ls) rs → Dec (Within written [] C D)
    strict_reply (more (of_strict_query true h) hs) = yes h
    strict_reply (more (of_strict_query false h) hs) = no h

    query_rank : {C D : Concept A R} {ls : List (Line A R)} {rs : List ℕ} → Results written T sets (line query C D ∷ ls) rs → (k : Option ℕ) × RankIs T sets C k
    query_rank (more (of_query k reply h u) hs) = (k, h)

  module _ (every : ClosuresExist A R) where
    -- The closure of T and one question decides what is within by T alone.
    strict_decides : (T : List (Inclusion A R)) (C D : Concept A R) → Dec (Within T [] C D)
    unfolding inclusions_of
    strict_decides T C D =
        let (levels, passes, results, s) = every (line strict_query C D ∷ strict_lines T) in
        subst (λ T. Dec (Within T [] C D)) (strict_of_lines T) (strict_reply s.reported)

    within_decides : (T E : List (Inclusion A R)) (C D : Concept A R) → Dec (Within T E C D)
    within_decides T = rules_decide (strict_decides T)

    -- So the rules that fire can be told.
    pub habits_exist : (T E : List (Inclusion A R)) (C : Concept A R) → (F : List (Inclusion A R)) × Filtered (Fires T E C) E F
    habits_exist T E C = filtered_exists E (λ ρ m. within_decides T E C ρ.left)

    -- Every concept has a rank, whether it stands in the lines or not: one question more has the same T* and sets.
    pub rank_exists : {lines : List (Line A R)} {levels passes : ℕ} {results : List ℕ} (s : RationalClosure lines levels passes results) (C : Concept A R) →
        (k : Option ℕ) × RankIs s.T* s.sets C k
    unfolding inclusions_of
    rank_exists {lines = lines} s C =
        let (levels, passes, results, s') = every (line query C top ∷ lines) in
        let (n, t, e) = passes_unique s'.passed s.passed in
        subst₂ (λ T sets. (k : Option ℕ) × RankIs T sets C k) t e (query_rank s'.reported)
