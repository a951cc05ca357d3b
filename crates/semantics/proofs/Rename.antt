-- Lines whose names are renamed, each to one of its own, have the same rational closure: what is asked of a name is only that it is told from the others.
-- Assumes nothing.
use Prim.Native.Nat.{ℕ}
use native.Mathlib.Omega.{arith}
use mathlib.Core.Path.{◌≡◌, refl, sym, ◌∙◌, subst}
use mathlib.Core.Bool.{Bool, false}
use mathlib.Core.Option.{Option, none, some}
use mathlib.Core.List.{List, [], ◌∷◌, map}
use mathlib.Core.Logic.{◌↔◌}
use Rattle.semantics.specs.Concept.{Concept, top, bottom, name, conj, exist, Interpretation, In}
use Rattle.semantics.specs.Closure.{Line, line, strict_of, RationalClosure, yes_count, is_strict, is_defeasible}
use Rattle.semantics.specs.OwnNames.{renamed, renamed_line}
use Rattle.semantics.proofs.Like.{Pointwise, nil, cons, pointwise_length, alike_pointwise}
use Rattle.semantics.proofs.Transport.{LineR, kind_kept, inclusion_flip, Same, same_flip, start, lines_flip, passes_there, results_there, inclusions_there}
use Rattle.semantics.proofs.Counting.{yes_there}
use Rattle.semantics.proofs.Twins.{Twin, twin_flip, obeys_there, same_of_twins}

module _ {A R A' R' : Type 0} (f : A → A') (g : R → R') where
  abbrev Renames : Concept A R → Concept A' R' → Type 0
  Renames C C' = renamed f g C ≡ C'

  renames_line : (l : Line A R) → LineR Renames l (renamed_line f g l)
  renames_line (line k C D) = kind_kept refl refl

  renames_lines : (ls : List (Line A R)) → Pointwise (LineR Renames) ls (map (renamed_line f g) ls)
  renames_lines [] = nil
  renames_lines (l ∷ ls) = cons (renames_line l) (renames_lines ls)

  -- interpretations of one size that give the same to a name and to its image
  module _ (I : Interpretation A R) (I' : Interpretation A' R') (sizes : I.size ≡ I'.size)
      (names : (a : A) (x : ℕ) → I.of_name a x ≡ I'.of_name (f a) x) (roles : (r : R) (x y : ℕ) → I.of_role r x y ≡ I'.of_role (g r) x y) where
    renamed_in : (C : Concept A R) (x : ℕ) → (In I C x ↔ In I' (renamed f g C) x)
    unfolding In renamed
    renamed_in top x = (λ u. u, λ u. u)
    renamed_in bottom x = (λ u. u, λ u. u)
    renamed_in (name a) x = (λ h. sym (names a x) ∙ h, λ h. names a x ∙ h)
    renamed_in (conj C D) x =
        let c = renamed_in C x in
        let d = renamed_in D x in
        (λ h. (c.0 h.0, d.0 h.1), λ h. (c.1 h.0, d.1 h.1))
    renamed_in (exist r C) x = (
      λ h. (h.0, omega (arith, sizes, h.1), sym (roles r x h.0) ∙ h.2, (renamed_in C h.0).0 h.3),
      λ h. (h.0, omega (arith, sizes, h.1), roles r x h.0 ∙ h.2, (renamed_in C h.0).1 h.3),
    )

    renamed_twin : Twin Renames I I'
    renamed_twin = record { sizes = sizes; alike = λ {C} e x lt. subst (λ C'. In I C x ↔ In I' C' x) e (renamed_in C x) }

-- what a name is given, and nothing where it is the image of none
abbrev given : {X : Type 0} → Option X → (X → Bool) → Bool
given none h = false
given (some x) h = h x

-- Where each name and each role can be told from its image, the lines and their images have the same closure.
module _ {A R A' R' : Type 0} (f : A → A') (g : R → R') (name_of : A' → Option A) (role_of : R' → Option R)
    (names : (a : A) → name_of (f a) ≡ some a) (roles : (r : R) → role_of (g r) ≡ some r) where
  abbrev extended : Interpretation A R → Interpretation A' R'
  extended I = record {
    size = I.size;
    nonempty = I.nonempty;
    of_name = λ a x. given (name_of a) (λ b. I.of_name b x);
    of_role = λ r x y. given (role_of r) (λ s. I.of_role s x y);
  }

  abbrev restricted : Interpretation A' R' → Interpretation A R
  restricted I = record { size = I.size; nonempty = I.nonempty; of_name = λ a. I.of_name (f a); of_role = λ r. I.of_role (g r) }

  extended_twin : (I : Interpretation A R) → Twin (Renames f g) I (extended I)
  extended_twin I = renamed_twin f g I (extended I) refl (λ a x. rw (names a) refl) (λ r x y. rw (roles r) refl)

  restricted_twin : (I : Interpretation A' R') → Twin (Renames f g) (restricted I) I
  restricted_twin I = renamed_twin f g (restricted I) I refl (λ a x. refl) (λ r x y. refl)

  module _ (lines : List (Line A R)) where
    same_renamed : Same (Renames f g) (strict_of lines) (strict_of (map (renamed_line f g) lines))
    unfolding renamed
    same_renamed =
        let w = alike_pointwise (inclusions_there is_strict (renames_lines f g lines)) in
        same_of_twins refl
        (λ I m. (extended I, extended_twin I, λ x lt. obeys_there (extended_twin I) w x lt (m x lt)))
        (λ I m. (restricted I, restricted_twin I, λ x lt. obeys_there (twin_flip (restricted_twin I)) (inclusion_flip w) x lt (m x lt)))

    pub closure_renamed : {levels passes : ℕ} {results : List ℕ} →
        (RationalClosure lines levels passes results ↔ RationalClosure (map (renamed_line f g) lines) levels passes results)
    closure_renamed = (
      λ s.
          let w = renames_lines f g lines in
          let p = passes_there same_renamed start (alike_pointwise (inclusions_there is_defeasible w)) s.passed in
          record {
            T* = p.0;
            sets = p.1;
            passed = p.2;
            level_count = s.level_count ∙ pointwise_length p.4;
            reported = results_there same_renamed p.3 p.4 w s.reported;
          },
      λ s.
          let w = lines_flip (renames_lines f g lines) in
          let p = passes_there (same_flip same_renamed) start (alike_pointwise (inclusions_there is_defeasible w)) s.passed in
          record {
            T* = p.0;
            sets = p.1;
            passed = p.2;
            level_count = s.level_count ∙ pointwise_length p.4;
            reported = results_there (same_flip same_renamed) p.3 p.4 w s.reported;
          },
    )

-- And the same count of yes.
pub yes_renamed : {A R A' R' : Type 0} (f : A → A') (g : R → R') (lines : List (Line A R)) (results : List ℕ) → yes_count lines results ≡ yes_count (map (renamed_line f g) lines) results
yes_renamed f g lines = yes_there (renames_lines f g lines)
