-- What lines define depends only on which strict and which defeasible lines there are: not on their order, on how often each stands, or on the questions.
--     Carried   the passes over other lines with the same strict and the same defeasible inclusions, and what they say
-- Assumes nothing.
use Prim.Native.Nat.{ℕ}
use mathlib.Core.Path.{◌≡◌, refl, sym, ◌∙◌, ap, subst, subst₂}
use mathlib.Core.List.Memᴰ
use mathlib.Core.List.Permᴰ
use mathlib.Core.List.{List, [], ◌∷◌, zip, zip_with, Memᴰ, Permᴰ}
use mathlib.Core.Logic.{◌↔◌}
use lib.ListN.{length}
use Rattle.semantics.specs.Concept.{Concept, Interpretation, In, Inclusion}
use Rattle.semantics.specs.Closure.{Line, line, strict_of, defeasible_of, Passes, Result, Results, done, more, RationalClosure, is_strict, is_defeasible}
use Rattle.semantics.proofs.Consequence.{model_part}
use Rattle.semantics.proofs.Lines.{inclusions_part}
use Rattle.semantics.proofs.Like.{pointwise_length, Alike, perm_member}
use Rattle.semantics.proofs.Transport.{InclusionR, LineR, kind_kept, start, Same, passes_there, result_there}
use Rattle.semantics.proofs.Twins.{Twin, same_of_twins}
use Rattle.semantics.proofs.Unique.{passes_unique, result_unique}

module _ {A R : Type 0} where
  -- ---- the same inclusions

  abbrev pub SameMembers : List (Inclusion A R) → List (Inclusion A R) → Type 0
  SameMembers X Y = (ρ : Inclusion A R) → (Memᴰ ρ X ↔ Memᴰ ρ Y)

  pub perm_same : {X Y : List (Inclusion A R)} → Permᴰ X Y → SameMembers X Y
  perm_same p ρ = (perm_member p, perm_member (Permᴰ.symm p))

  alike_same : {X Y : List (Inclusion A R)} → SameMembers X Y → Alike (InclusionR (◌≡◌ {A = Concept A R})) X Y
  alike_same m = record {
    there = λ ρ i. (ρ, (m ρ).0 i, record { lefts = refl; rights = refl });
    back = λ ρ i. (ρ, (m ρ).1 i, record { lefts = refl; rights = refl });
  }

  same_line : (l : Line A R) → LineR (◌≡◌ {A = Concept A R}) l l
  same_line (line k C D) = kind_kept refl refl

  self_twin : (I : Interpretation A R) → Twin (◌≡◌ {A = Concept A R}) I I
  self_twin I = record { sizes = refl; alike = λ e x lt. (subst (λ C. In I C x) e, subst (λ C. In I C x) (sym e)) }

  same_models : {X Y : List (Inclusion A R)} → SameMembers X Y → Same (◌≡◌ {A = Concept A R}) X Y
  same_models m = same_of_twins refl
      (λ I h. (I, self_twin I, model_part I (λ ρ. (m ρ).1) h))
      (λ I h. (I, self_twin I, model_part I (λ ρ. (m ρ).0) h))

  -- ---- the passes, carried over

  pub record Carried (lines lines' : List (Line A R)) (passes : ℕ) (T* : List (Inclusion A R)) (sets : List (List (Inclusion A R))) : Type 0 where
    pub T*' : List (Inclusion A R)
    pub sets' : List (List (Inclusion A R))
    pub passed : Passes (strict_of lines') (defeasible_of lines') passes T*' sets'
    pub lengths : length sets ≡ length sets'
    pub result : (l : Line A R) (r : ℕ) → Result (strict_of lines) T* sets l r → Result (strict_of lines') T*' sets' l r

  module _ {lines lines' : List (Line A R)} where
    pub carry : {levels passes : ℕ} {results : List ℕ} → SameMembers (strict_of lines) (strict_of lines') → SameMembers (defeasible_of lines) (defeasible_of lines') →
        (s : RationalClosure lines levels passes results) → Carried lines lines' passes s.T* s.sets
    carry t d s =
        let same = same_models t in
        let q = passes_there same start (alike_same d) s.passed in
        record { T*' = q.0; sets' = q.1; passed = q.2; lengths = pointwise_length q.4; result = λ l r h. result_there same q.3 q.4 (same_line l) h }

    pub carry_results : {passes : ℕ} {T* : List (Inclusion A R)} {sets : List (List (Inclusion A R))} {ls : List (Line A R)} {rs : List ℕ} →
        (c : Carried lines lines' passes T* sets) → Results (strict_of lines) T* sets ls rs → Results (strict_of lines') c.T*' c.sets' ls rs
    carry_results c done = done
    carry_results c (more {l} {r} h hs) = more (c.result l r h) (carry_results c hs)

    pub carried_closure : {levels passes : ℕ} {results results' : List ℕ} (s : RationalClosure lines levels passes results) (c : Carried lines lines' passes s.T* s.sets) →
        Results (strict_of lines') c.T*' c.sets' lines' results' → RationalClosure lines' levels passes results'
    carried_closure s c h = record { T* = c.T*'; sets = c.sets'; passed = c.passed; level_count = s.level_count ∙ c.lengths; reported = h }

  -- ---- a line and its result

  module _ {written T : List (Inclusion A R)} {sets : List (List (Inclusion A R))} where
    -- the result beside a line is its own
    result_at : {l : Line A R} {r : ℕ} {ls : List (Line A R)} {rs : List ℕ} → Results written T sets ls rs → Memᴰ {A = Line A R × ℕ} (l, r) (zip ls rs) → Result written T sets l r
    unfolding zip zip_with
    result_at done m = absurd (Memᴰ.not-nil m)
    result_at (more h hs) (Memᴰ.head e) = subst₂ (Result written T sets) (ap (λ (p : Line A R × ℕ). p.0) (sym e)) (ap (λ (p : Line A R × ℕ). p.1) (sym e)) h
    result_at (more h hs) (Memᴰ.tail m) = result_at hs m

    -- and each line has one
    line_result : {l : Line A R} {ls : List (Line A R)} {rs : List ℕ} → Results written T sets ls rs → Memᴰ l ls → (r : ℕ) × Result written T sets l r
    line_result (more {r} h hs) (Memᴰ.head e) = (r, subst (λ l. Result written T sets l r) (sym e) h)
    line_result (more h hs) (Memᴰ.tail m) = line_result hs m
    line_result {l = l} done x4 = elim x4 [ ]

    lines_results : {ls : List (Line A R)} {rs : List ℕ} → Results written T sets ls rs → (ms : List (Line A R)) → ((l : Line A R) → Memᴰ l ms → Memᴰ l ls) →
        (rs' : List ℕ) × Results written T sets ms rs'
    lines_results hs [] f = ([], done)
    lines_results hs (l ∷ ms) f =
        let h = line_result hs (f l (Memᴰ.head refl)) in
        let r = lines_results hs ms (λ k m. f k (Memᴰ.tail m)) in
        (h.0 ∷ r.0, more h.1 r.1)

    results_rest : {l : Line A R} {r : ℕ} {ls : List (Line A R)} {rs : List ℕ} → Results written T sets (l ∷ ls) (r ∷ rs) → Results written T sets ls rs
    results_rest (more h hs) = hs

  zip_line : {l : Line A R} {r : ℕ} (ls : List (Line A R)) (rs : List ℕ) → Memᴰ {A = Line A R × ℕ} (l, r) (zip ls rs) → Memᴰ l ls
  unfolding zip zip_with
  zip_line [] rs m = absurd (Memᴰ.not-nil m)
  zip_line (k ∷ ls) [] m = absurd (Memᴰ.not-nil m)
  zip_line (k ∷ ls) (r ∷ rs) (Memᴰ.head e) = Memᴰ.head (ap (λ (p : Line A R × ℕ). p.0) e)
  zip_line (k ∷ ls) (r ∷ rs) (Memᴰ.tail m) = Memᴰ.tail (zip_line ls rs m)

-- ---- the theorems

module _ {A R : Type 0} {lines : List (Line A R)} {levels passes : ℕ} {results : List ℕ} where
  -- Lines with the same strict and the same defeasible inclusions, in any order and however often, have the same levels and passes,
  -- and a line that stands in both has the same result.
  pub closure_rules : {lines' : List (Line A R)} {levels' passes' : ℕ} {results' : List ℕ} →
      SameMembers (strict_of lines) (strict_of lines') → SameMembers (defeasible_of lines) (defeasible_of lines') →
      RationalClosure lines levels passes results → RationalClosure lines' levels' passes' results' →
      (levels ≡ levels') × (passes ≡ passes') ×
      ((l : Line A R) (r r' : ℕ) → Memᴰ {A = Line A R × ℕ} (l, r) (zip lines results) → Memᴰ {A = Line A R × ℕ} (l, r') (zip lines' results') → r ≡ r')
  closure_rules {lines'} t d s s' =
      let c = carry t d s in
      let u = passes_unique c.passed s'.passed in
      let there : (l : Line A R) (r : ℕ) → Result (strict_of lines) s.T* s.sets l r → Result (strict_of lines') s'.T* s'.sets l r =
      λ l r h. subst₂ (λ T sets. Result (strict_of lines') T sets l r) u.1 u.2 (c.result l r h) in (
        s.level_count ∙ c.lengths ∙ ap length u.2 ∙ sym s'.level_count,
        u.0,
        λ l r r' m m'. result_unique (there l r (result_at s.reported m)) (result_at s'.reported m'),
      )

  -- Lines that all stand among others, with the same strict and the same defeasible inclusions, have a closure where those have one.
  pub closure_part : (lines' : List (Line A R)) → ((l : Line A R) → Memᴰ l lines' → Memᴰ l lines) →
      SameMembers (strict_of lines) (strict_of lines') → SameMembers (defeasible_of lines) (defeasible_of lines') →
      RationalClosure lines levels passes results → (results' : List ℕ) × RationalClosure lines' levels passes results'
  closure_part lines' f t d s =
      let c = carry t d s in
      let r = lines_results (carry_results c s.reported) lines' f in
      (r.0, carried_closure s c r.1)

  -- A line that is written once more changes nothing, and its result stands once more.
  pub closure_repeats : {l : Line A R} {r : ℕ} → Memᴰ {A = Line A R × ℕ} (l, r) (zip lines results) →
      (RationalClosure lines levels passes results ↔ RationalClosure (l ∷ lines) levels passes (r ∷ results))
  closure_repeats {l} {r} m = (
    λ s.
        let c = carry (λ ρ. (inclusions_part is_strict longer ρ, inclusions_part is_strict shorter ρ)) (λ ρ. (inclusions_part is_defeasible longer ρ, inclusions_part is_defeasible shorter ρ)) s in
        carried_closure s c (more (c.result l r (result_at s.reported m)) (carry_results c s.reported)),
    λ s.
        let c = carry (λ ρ. (inclusions_part is_strict shorter ρ, inclusions_part is_strict longer ρ)) (λ ρ. (inclusions_part is_defeasible shorter ρ, inclusions_part is_defeasible longer ρ)) s in
        carried_closure s c (results_rest (carry_results c s.reported)),
  )
    where
      longer : (k : Line A R) → Memᴰ k lines → Memᴰ k (l ∷ lines)
      longer k i = Memᴰ.tail i

      shorter : (k : Line A R) → Memᴰ k (l ∷ lines) → Memᴰ k lines
      shorter k (Memᴰ.head e) = Memᴰ.cast e (zip_line lines results m)
      shorter k (Memᴰ.tail i) = i
