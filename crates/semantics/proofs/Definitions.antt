-- Definitions are a conservative extension: lines have the rational closure of their rows over numbers, in which each conjunction and each existential has a number and rows that define it.
-- Assumes nothing.
use Prim.Native.Nat.{ℕ, ◌<◌}
use mathlib.Core.Path.{◌≡◌, refl, sym, ap, subst}
use mathlib.Core.Bool.{true}
use mathlib.Core.List.Memᴰ
use mathlib.Core.List.{List, [], ◌∷◌, ◌++◌, map, map-append, Memᴰ}
use lib.ListN.{length, take, drop, replicate, length-map}
use mathlib.Core.Logic.{◌↔◌, inl, inr}
use Rattle.semantics.specs.Concept.{Concept, top, bottom, name, conj, exist, Interpretation, In, Inclusion}
use Rattle.semantics.specs.Closure.{Line, strict_of, RationalClosure, yes_count, strict, is_strict}
use Rattle.semantics.specs.Row.{Row, conj_subsumed, in_exist, exist_in, numbered, line_of, simple}
use Rattle.semantics.specs.Saturated.{strict_rows}
use Rattle.semantics.proofs.Consequence.{model_part, model_both}
use Rattle.semantics.proofs.Lines.{ObeysLine, inclusions_append}
use Rattle.semantics.proofs.Rows.{RowsModel, rows_model, numbered_name, in_numbered}
use Rattle.semantics.proofs.Decided.{inb, in_iff}
use Rattle.semantics.proofs.Like.{Pointwise, Alike, alike_pointwise}
use Rattle.semantics.proofs.Transport.{InclusionR, inclusion_flip, LineR, Same, AllStrict, none_left, strict_more}
use Rattle.semantics.proofs.Transport.{all_strict_append, zeros_for, closure_there, closure_back, closure_reads, inclusions_there}
use Rattle.semantics.proofs.Counting.{yes_images}
use Rattle.semantics.proofs.Twins.{Twin, same_of_twins, obeys_there, twin_flip}

-- ---- rows obeyed, one more and both lists

abbrev pub ObeysRows : List Row → Interpretation ℕ ℕ → ℕ → Type 0
ObeysRows rows I x = (q : Row) → Memᴰ q rows → ObeysLine I x (line_of q)

module _ (I : Interpretation ℕ ℕ) (x : ℕ) where
  pub row_more : {p : Row} {rows : List Row} → ObeysLine I x (line_of p) → ObeysRows rows I x → ObeysRows (p ∷ rows) I x
  row_more h o q (Memᴰ.head e) = rw e h
  row_more h o q (Memᴰ.tail i) = o q i

  pub row_both : (rows : List Row) {more : List Row} → ObeysRows rows I x → ObeysRows more I x → ObeysRows (rows ++ more) I x
  row_both rows o p q i = elim (Memᴰ.append_cases rows i) [ inl j ↦ o q j | inr j ↦ p q j ]

-- ---- numberings

-- the numbers of names, and what a number stands for
pub record Naming (A R : Type 0) : Type 0 where
  pub number : A → ℕ
  pub role_number : R → ℕ
  pub means : ℕ → Concept A R
  pub role : ℕ → R

module _ {A R : Type 0} (ν : Naming A R) where
  -- Defines C k ds: C has the number k, and ds defines the numbers of its parts.
  pub data Defines : Concept A R → ℕ → List Row → Type 0 where
    of_top : Defines top 0 []
    of_bottom : Defines bottom 1 []
    by_name : {a : A} {x : ℕ} → 1 < x → ν.means x ≡ name a → ν.number a ≡ x → Defines (name a) x []
    of_conj : {x y z : ℕ} {C D : Concept A R} {ds es : List Row} → 1 < x → ν.means x ≡ conj C D →
        Defines C y ds → Defines D z es → Defines (conj C D) x (simple strict x y ∷ simple strict x z ∷ conj_subsumed y z x ∷ ds ++ es)
    of_exist : {x s y : ℕ} {r : R} {C : Concept A R} {ds : List Row} → 1 < x → ν.means x ≡ exist r C → ν.role_number r ≡ s → ν.role s ≡ r →
        Defines C y ds → Defines (exist r C) x (in_exist x s y ∷ exist_in s y x ∷ ds)

  pub defines_strict : {C : Concept A R} {k : ℕ} {ds : List Row} → Defines C k ds → AllStrict (map line_of ds)
  defines_strict of_top = none_left
  defines_strict of_bottom = none_left
  defines_strict (by_name h e f) = none_left
  defines_strict (of_conj {ds} {es} h e p q) =
      let parts : AllStrict (map line_of (ds ++ es)) = rw map-append (all_strict_append (defines_strict p) (defines_strict q)) in
      strict_more (strict_more (strict_more parts))
  defines_strict (of_exist h e f g p) = strict_more (strict_more (defines_strict p))

  -- ---- an interpretation of the numbers, seen over the names

  abbrev pub restrict : Interpretation ℕ ℕ → Interpretation A R
  restrict I' = record { size = I'.size; nonempty = I'.nonempty; of_name = λ a. I'.of_name (ν.number a); of_role = λ r. I'.of_role (ν.role_number r) }

  -- In a model of the definitions a number says what its concept says.
  pub restrict_in : (I' : Interpretation ℕ ℕ) {C : Concept A R} {k : ℕ} {ds : List Row} → Defines C k ds → RowsModel ds I' →
      (x : ℕ) → x < I'.size → (In (restrict I') C x ↔ In I' (numbered k) x)
  unfolding In
  restrict_in I' of_top m x lt = (λ u. u, λ u. u)
  restrict_in I' of_bottom m x lt = (λ u. u, λ u. u)
  restrict_in I' (by_name {x = k} h e f) m x lt =
      let i = in_numbered I' k h x in
      (λ u. i.1 (subst (λ n. I'.of_name n x ≡ true) f u), λ u. subst (λ n. I'.of_name n x ≡ true) (sym f) (i.0 u))
  restrict_in I' (of_conj {ds} {es} h e p q) m x lt =
      let ip = restrict_in I' p (λ v ltv r i. m v ltv r (Memᴰ.tail (Memᴰ.tail (Memᴰ.tail (Memᴰ.append_left es i))))) x lt in
      let iq = restrict_in I' q (λ v ltv r i. m v ltv r (Memᴰ.tail (Memᴰ.tail (Memᴰ.tail (Memᴰ.append_right ds i))))) x lt in (
        λ i. m x lt _ (Memᴰ.tail (Memᴰ.tail (Memᴰ.head refl))) (ip.0 i.0, iq.0 i.1),
        λ i. (ip.1 (m x lt _ (Memᴰ.head refl) i), iq.1 (m x lt _ (Memᴰ.tail (Memᴰ.head refl)) i)),
      )
  restrict_in I' (of_exist {s} {y} {C} h e f g p) m x lt =
      let ip : (v : ℕ) → v < I'.size → (In (restrict I') C v ↔ In I' (numbered y) v) = λ v ltv. restrict_in I' p (λ u ltu r i. m u ltu r (Memᴰ.tail (Memᴰ.tail i))) v ltv in (
        λ i. m x lt _ (Memᴰ.tail (Memᴰ.head refl)) (i.0, i.1, subst (λ n. I'.of_role n x i.0 ≡ true) f i.2, (ip i.0 i.1).0 i.3),
        λ i. let t = m x lt _ (Memᴰ.head refl) i in (t.0, t.1, subst (λ n. I'.of_role n x t.0 ≡ true) (sym f) t.2, (ip t.0 t.1).1 t.3),
      )

  -- ---- an interpretation of the names, with the numbers added

  abbrev pub extend : Interpretation A R → Interpretation ℕ ℕ
  extend I = record { size = I.size; nonempty = I.nonempty; of_name = λ n. inb I (ν.means n); of_role = λ r. I.of_role (ν.role r) }

  extend_means : (I : Interpretation A R) {k : ℕ} {C : Concept A R} → 1 < k → ν.means k ≡ C → (x : ℕ) → (In I C x ↔ In (extend I) (numbered k) x)
  unfolding In
  extend_means I {k} h e x = rw (numbered_name k h, ← e) (in_iff I (ν.means k) x)

  pub extend_in : (I : Interpretation A R) {C : Concept A R} {k : ℕ} {ds : List Row} → Defines C k ds → (x : ℕ) → (In I C x ↔ In (extend I) (numbered k) x)
  unfolding In
  extend_in I of_top x = (λ u. u, λ u. u)
  extend_in I of_bottom x = (λ u. u, λ u. u)
  extend_in I (by_name h e f) x = extend_means I h e x
  extend_in I (of_conj h e p q) x = extend_means I h e x
  extend_in I (of_exist h e f g p) x = extend_means I h e x

  -- The definitions hold there.
  pub extend_model : (I : Interpretation A R) {C : Concept A R} {k : ℕ} {ds : List Row} → Defines C k ds → RowsModel ds (extend I)
  unfolding In
  extend_model I of_top x lt q i = absurd (Memᴰ.not-nil i)
  extend_model I of_bottom x lt q i = absurd (Memᴰ.not-nil i)
  extend_model I (by_name h e f) x lt q i = absurd (Memᴰ.not-nil i)
  extend_model I (of_conj {ds} {es} h e c d) x lt q i =
      let oc : ObeysRows ds (extend I) x = λ p j. extend_model I c x lt p j in
      let od : ObeysRows es (extend I) x = λ p j. extend_model I d x lt p j in
      let ic = extend_in I c x in
      let id = extend_in I d x in
      let ix = extend_means I h e x in
      row_more (extend I) x (λ u. ic.0 (ix.1 u).0) (row_more (extend I) x (λ u. id.0 (ix.1 u).1) (row_more (extend I) x (λ u. ix.0 (ic.1 u.0, id.1 u.1))
      (row_both (extend I) x ds oc od))) q i
  extend_model I (of_exist {ds} h e f g c) x lt q i =
      let oc : ObeysRows ds (extend I) x = λ p j. extend_model I c x lt p j in
      let ix = extend_means I h e x in
      row_more (extend I) x (λ u. let t = ix.1 u in (t.0, t.1, subst (λ s. I.of_role s x t.0 ≡ true) (sym g) t.2, (extend_in I c t.0).0 t.3))
      (row_more (extend I) x (λ u. ix.0 (u.0, u.1, subst (λ s. I.of_role s x u.0 ≡ true) g u.2, (extend_in I c u.0).1 u.3))
      oc) q i

-- ---- lines

module _ {A R : Type 0} (ν : Naming A R) (defs : List Row) where
  -- C' is the number of C, and what defines it is among defs
  pub record NamedByNumber (C : Concept A R) (C' : Concept ℕ ℕ) : Type 0 where
    pub number : ℕ
    pub is : numbered number ≡ C'
    pub rows : List Row
    pub defines : Defines ν C number rows
    pub among : (q : Row) → Memᴰ q rows → Memᴰ q defs

  extend_twin : (I : Interpretation A R) → Twin NamedByNumber I (extend ν I)
  extend_twin I = record { sizes = refl; alike = λ {C} n x lt. subst (λ C'. In I C x ↔ In (extend ν I) C' x) n.is (extend_in ν I n.defines x) }

  restrict_twin : (I' : Interpretation ℕ ℕ) → RowsModel defs I' → Twin NamedByNumber (restrict ν I') I'
  restrict_twin I' m = record {
    sizes = refl;
    alike = λ {C} n x lt. subst (λ C'. In (restrict ν I') C x ↔ In I' C' x) n.is (restrict_in ν I' n.defines (λ y lty q i. m y lty q (n.among q i)) x lt);
  }

  -- Definitions are a conservative extension.
  pub same_named : {X : List (Inclusion A R)} {X' : List (Inclusion ℕ ℕ)} → Alike (InclusionR NamedByNumber) X X' →
      ((I : Interpretation A R) → RowsModel defs (extend ν I)) → Same NamedByNumber X (X' ++ strict_rows defs)
  same_named {X} {X'} w sound = same_of_twins (record { number = 1; is = refl; rows = []; defines = of_bottom; among = λ q i. absurd (Memᴰ.not-nil i) })
      (λ I m. (extend ν I, extend_twin I, model_both (extend ν I) X' (strict_rows defs) (λ x lt. obeys_there (extend_twin I) w x lt (m x lt)) ((rows_model (extend ν I) defs).1 (sound I))))
      (λ I' m.
      let t = restrict_twin I' ((rows_model I' defs).0 (model_part I' (λ ρ. Memᴰ.append_right X') m)) in
      (restrict ν I', t, λ x lt. obeys_there (twin_flip t) (inclusion_flip w) x lt (λ ρ i. m x lt ρ (Memᴰ.append_left (strict_rows defs) i))))

  module _ {lines : List (Line A R)} (rows : List Row) (w : Pointwise (LineR NamedByNumber) lines (map line_of rows)) (defined : AllStrict (map line_of defs))
      (sound : (I : Interpretation A R) → RowsModel defs (extend ν I)) where
    same_lines : Same NamedByNumber (strict_of lines) (strict_of (map line_of rows ++ map line_of defs))
    same_lines = rw inclusions_append (same_named (alike_pointwise (inclusions_there is_strict w)) sound)

    zeros : zeros_for (map line_of defs) ≡ zeros_for defs
    zeros = ap (λ n. replicate n 0) (length-map defs line_of)

    -- Lines have the closure of their rows with the definitions behind them.
    pub closure_named : {levels passes : ℕ} (results : List ℕ) →
        (RationalClosure lines levels passes results ↔ RationalClosure (map line_of (rows ++ defs)) levels passes (results ++ zeros_for defs))
    closure_named results = rw (map-append, ← zeros) (closure_there defined w same_lines, closure_back defined w same_lines results)

    -- Whatever results those have, the lines' own stand first, and the definitions' are zeros.
    pub closure_named_reads : {levels passes : ℕ} {all : List ℕ} → RationalClosure (map line_of (rows ++ defs)) levels passes all →
        RationalClosure lines levels passes (take (length lines) all) × (drop (length lines) all ≡ zeros_for defs)
    closure_named_reads s = rw (← zeros) (closure_reads defined w same_lines (rw map-append at s))

    -- And their count of yes is the lines'.
    pub yes_named : (all : List ℕ) → yes_count (map line_of (rows ++ defs)) all ≡ yes_count lines (take (length lines) all)
    yes_named all = rw map-append (yes_images defined w all)
