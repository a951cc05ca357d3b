-- Where lefts are made nothing, only emptiness follows newly: the product of a model of T and one in which the lefts are empty is a model of T in which they are empty.
-- Assumes nothing.
use Prim.Native.Nat.{ℕ, ◌%◌, ◌<◌}
use native.Mathlib.Nat.{mod-lt}
use mathlib.Core.Path.{◌≡◌, sym, subst}
use mathlib.Core.Bool.{Bool, true, false}
use mathlib.Core.Option.{some}
use mathlib.Core.List.Memᴰ
use mathlib.Core.List.{List, [], ◌++◌}
use mathlib.Core.Logic.{◌↔◌}
use Rattle.semantics.specs.Concept.{Concept, bottom, Interpretation, In, Inclusion, Model, Witness, Within, Exceptional}
use Rattle.semantics.specs.Closure.{emptied, level, Line, strict_of, RankIs, DefeasiblyAt, Replies, RationalClosure}
use Rattle.semantics.specs.Limits.{set_words}
use Rattle.semantics.specs.Outputs.{StrictTable}
use Rattle.semantics.specs.Row.{numbered}
use Rattle.semantics.specs.Set.{cell}
use Rattle.semantics.proofs.Consequence.{exceptional_within, model_part, model_both, within_grows}
use Rattle.laws.proofs.PassParts.{passes_emptied}
use Rattle.laws.proofs.Product.{product, product_in, product_model, in_stable, both, in_both}

module _ {A R : Type 0} where
  -- In a product lefts are empty where they are empty in the second.
  product_emptied : (I J : Interpretation A R) (S : List (Inclusion A R)) → Model (emptied S) J → Model (emptied S) (product I J)
  unfolding In
  product_emptied I J S m p lt ρ i h =
      let (σ, k, e) = Memᴰ.of_map _ S i in
      let left : In J ρ.left (p % J.size) = ((product_in I J ρ.left p).0 h).1 in
      let right = m (p % J.size) (mod-lt p J.nonempty) ρ i left in
      absurd (subst (λ (ρ : Inclusion A R). In J ρ.right (p % J.size)) (sym e) right)

  module _ (T S : List (Inclusion A R)) {E : List (Inclusion A R)} {C : Concept A R} where
    -- the product of a witness and one in a model where the lefts of S are empty
    abbrev mixed : Witness T E C → Witness (T ++ emptied S) E C → Witness (T ++ emptied S) E C
    mixed w v = both w v (model_both (product w.world v.world) T (emptied S)
        (product_model w.world v.world w.model (model_part v.world (λ ρ. Memᴰ.append_left (emptied S)) v.model))
        (product_emptied w.world v.world S (model_part v.world (λ ρ. Memᴰ.append_right T) v.model)))

    -- A concept that is not exceptional where the lefts are nothing is within what it was within.
    pub only_emptied : (D : Concept A R) → (Exceptional (T ++ emptied S) E C → ⊥) → (Within (T ++ emptied S) E C D ↔ Within T E C D)
    only_emptied D alive = (
      λ h. record {
        holds = λ w. in_stable w.world D w.point (λ not. alive (λ v. not ((in_both w v D).0 (h.holds (mixed w v))).0));
      },
      within_grows (λ ρ. Memᴰ.append_left (emptied S)) (λ ρ m. m),
    )

-- ---- T*

-- What is not exceptional over T* is within what it is within over the strict lines as written.
pub written_within : {A R : Type 0} {lines : List (Line A R)} {levels passes : ℕ} {results : List ℕ} (s : RationalClosure lines levels passes results) {E : List (Inclusion A R)}
    (C D : Concept A R) → (Exceptional s.T* E C → ⊥) → (Within s.T* E C D ↔ Within (strict_of lines) E C D)
written_within {lines = lines} s {E} C D alive =
    let (S, e) = passes_emptied s.passed in
    subst (λ T. (Exceptional T E C → ⊥) → (Within T E C D ↔ Within (strict_of lines) E C D)) (sym e) (only_emptied (strict_of lines) S D) alive

-- So at a finite rank what is usual can be told over the strict lines as written.
pub written_defeasibly : {A R : Type 0} {lines : List (Line A R)} {levels passes : ℕ} {results : List ℕ} (s : RationalClosure lines levels passes results)
    (C D : Concept A R) (i : ℕ) → RankIs s.T* s.sets C (some i) → (DefeasiblyAt s.T* s.sets (some i) C D ↔ Within (strict_of lines) (level s.sets i) C D)
written_defeasibly s C D i (le, alive, below) = written_within s C D alive

-- So can each row of the strict table whose number is not empty.
pub written_table : {lines : List (Line ℕ ℕ)} {levels passes : ℕ} {results : List ℕ} (s : RationalClosure lines levels passes results) {N : ℕ} {table : List ℕ} →
    StrictTable N s.T* table → 1 < N → (a b : ℕ) → a < N → b < N → cell set_words table a 1 ≡ false →
    Replies (cell set_words table a b) (Within (strict_of lines) [] (numbered a) (numbered b))
written_table {lines} s {N} {table} t two a b ha hb e =
    let empty : Within s.T* [] (numbered a) bottom → ⊥ = subst (λ bit. Replies bit (Within s.T* [] (numbered a) bottom)) e (t.bit a 1 ha two) in
    let same = written_within s (numbered a) (numbered b) (λ x. empty ((exceptional_within s.T* [] (numbered a)).0 x)) in
    go (cell set_words table a b) same (t.bit a b ha hb)
  where
    go : (bit : Bool) → Within s.T* [] (numbered a) (numbered b) ↔ Within (strict_of lines) [] (numbered a) (numbered b) →
        Replies bit (Within s.T* [] (numbered a) (numbered b)) → Replies bit (Within (strict_of lines) [] (numbered a) (numbered b))
    go true same h = same.0 h
    go false same n = λ h. n (same.1 h)
