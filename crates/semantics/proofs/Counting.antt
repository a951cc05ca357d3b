-- Laws of the count of yes, apart from what a closure is: which lines it counts, and what it does not depend on.
--     strict_uncounted, defeasible_uncounted, repeat_counted   only questions are counted, each as often as it stands
--     yes_order                                                the order of the lines plays no part
--     yes_there, yes_images                                    nor do the names, or strict lines behind the others
-- Assumes nothing.
use Prim.Native.Nat.{ℕ, ◌+◌}
use native.Mathlib.Omega.{arith}
use mathlib.Core.Path.{◌≡◌, refl, sym, ◌∙◌, ap, ap₂}
use mathlib.Core.List.{List, [], ◌∷◌, ◌++◌, zip, zip_with, Permᴰ}
use lib.ListN.{length, take}
use Rattle.semantics.specs.Concept.{Concept}
use Rattle.semantics.specs.Closure.{Line, line, strict, defeasible, yes_of, yes_count}
use Rattle.semantics.proofs.Like.{Pointwise, nil, cons, pointwise_length}
use Rattle.semantics.proofs.Transport.{LineR, kind_kept, AllStrict, none_left, strict_more}

module _ {A R : Type 0} (C D : Concept A R) (r : ℕ) where
  pub strict_uncounted : yes_of (line strict C D) r ≡ 0
  strict_uncounted = refl

  pub defeasible_uncounted : yes_of (line defeasible C D) r ≡ 0
  defeasible_uncounted = refl

module _ {A R : Type 0} where
  -- A line that is written once more counts once more.
  pub repeat_counted : (l : Line A R) (r : ℕ) (ls : List (Line A R)) (rs : List ℕ) → yes_count (l ∷ ls) (r ∷ rs) ≡ yes_of l r + yes_count ls rs
  unfolding yes_count
  repeat_counted l r ls rs = refl

  -- ---- order

  abbrev share_of : Line A R × ℕ → ℕ
  share_of p = yes_of p.0 p.1

  pairs_count : List (Line A R × ℕ) → ℕ
  pairs_count [] = 0
  pairs_count (p ∷ ps) = share_of p + pairs_count ps

  count_pairs : (ls : List (Line A R)) (rs : List ℕ) → yes_count ls rs ≡ pairs_count (zip ls rs)
  unfolding yes_count zip zip_with pairs_count
  count_pairs [] rs = refl
  count_pairs (l ∷ ls) [] = refl
  count_pairs (l ∷ ls) (r ∷ rs) = ap (λ n. yes_of l r + n) (count_pairs ls rs)

  pairs_order : {ps qs : List (Line A R × ℕ)} → Permᴰ ps qs → pairs_count ps ≡ pairs_count qs
  unfolding pairs_count
  pairs_order Permᴰ.nil = refl
  pairs_order (Permᴰ.cons e p) = ap₂ ◌+◌ (ap share_of e) (pairs_order p)
  pairs_order (Permᴰ.swap e e') = omega (arith, ap share_of e, ap share_of e')
  pairs_order (Permᴰ.trans p q) = pairs_order p ∙ pairs_order q

  -- Lines with their results in another order have the same count.
  pub yes_order : (ls ms : List (Line A R)) (rs ss : List ℕ) → Permᴰ (zip ls rs) (zip ms ss) → yes_count ls rs ≡ yes_count ms ss
  yes_order ls ms rs ss p = count_pairs ls rs ∙ pairs_order p ∙ sym (count_pairs ms ss)

  -- ---- strict lines behind the others

  yes_strict : {defs : List (Line A R)} → AllStrict defs → (rs : List ℕ) → yes_count defs rs ≡ 0
  unfolding yes_count
  yes_strict none_left rs = refl
  yes_strict (strict_more s) [] = refl
  yes_strict (strict_more s) (r ∷ rs) = omega (arith, yes_strict s rs)

  yes_defs : (ls : List (Line A R)) {defs : List (Line A R)} (rs : List ℕ) → AllStrict defs → yes_count (ls ++ defs) rs ≡ yes_count ls (take (length ls) rs)
  unfolding yes_count
  yes_defs [] rs s = yes_strict s rs
  yes_defs (l ∷ ls) [] s = refl
  yes_defs (l ∷ ls) (r ∷ rs) s = ap (λ n. yes_of l r + n) (yes_defs ls rs s)

-- ---- other names

module _ {A R A' R' : Type 0} {Rel : Concept A R → Concept A' R' → Type 0} where
  yes_of_lem : {l : Line A R} {l' : Line A' R'} → LineR Rel l l' → (r : ℕ) → yes_of l r ≡ yes_of l' r
  yes_of_lem (kind_kept c d) r = refl

  -- Lines that differ in their names alone have the same count.
  pub yes_there : {ls : List (Line A R)} {ls' : List (Line A' R')} → Pointwise (LineR Rel) ls ls' → (rs : List ℕ) → yes_count ls rs ≡ yes_count ls' rs
  unfolding yes_count
  yes_there nil rs = refl
  yes_there (cons l ls) [] = refl
  yes_there (cons l ls) (r ∷ rs) = ap₂ ◌+◌ (yes_of_lem l r) (yes_there ls rs)

  -- And strict lines behind the images add nothing.
  pub yes_images : {lines : List (Line A R)} {images defs : List (Line A' R')} → AllStrict defs → Pointwise (LineR Rel) lines images → (all : List ℕ) →
      yes_count (images ++ defs) all ≡ yes_count lines (take (length lines) all)
  yes_images {lines} {images} defined w all =
      yes_defs images all defined ∙ ap (λ n. yes_count images (take n all)) (sym (pointwise_length w)) ∙ sym (yes_there w (take (length lines) all))
