-- What passes are made of: each level is a part of the first, passes have a first one, and T* adds to T only emptied lefts.
-- Assumes nothing.
use Prim.Native.Nat.{ℕ, zero, suc}
use mathlib.Core.Path.{◌≡◌, sym, ◌∙◌, ap, subst}
use mathlib.Core.List.{List, [], ◌∷◌, ◌++◌, map-append, append_assoc, append-nil, Memᴰ}
use lib.ListN.{get_or}
use Rattle.semantics.specs.Concept.{bottom, Inclusion}
use Rattle.semantics.specs.Closure.{Pass, Passes, last, again, includes, emptied, level}
use Rattle.semantics.proofs.Consequence.{PartOf}
use Rattle.semantics.proofs.Filter.{filtered_member}
use Rattle.semantics.proofs.Levels.{pass_first, pass_next}

module _ {A R : Type 0} where
  -- Each level of a pass is a part of D.
  pub pass_part : {T D stuck : List (Inclusion A R)} {sets : List (List (Inclusion A R))} → Pass T D sets stuck → (i : ℕ) → PartOf (get_or sets i stuck) D
  pass_part p zero ρ m = subst (λ E. Memᴰ ρ E) (pass_first p) m
  pass_part p (suc i) ρ m = pass_part p i ρ (filtered_member (pass_next p i) m)

  -- So is each level of the last pass.
  pub passes_part : {T D T* : List (Inclusion A R)} {sets : List (List (Inclusion A R))} {n : ℕ} → Passes T D n T* sets → (i : ℕ) → PartOf (level sets i) D
  passes_part (last p) i ρ m = pass_part p i ρ m
  passes_part (again p k r) i ρ m = filtered_member k (passes_part r i ρ m)

  pub passes_first : {T D T* : List (Inclusion A R)} {sets* : List (List (Inclusion A R))} {n : ℕ} → Passes T D n T* sets* →
      (sets : List (List (Inclusion A R))) × (stuck : List (Inclusion A R)) × Pass T D sets stuck
  passes_first (last {sets} p) = (sets, [], p)
  passes_first (again {stuck} {ρ} {sets} p k r) = (sets, ρ ∷ stuck, p)

  -- T* adds to T only that some lefts are nothing.
  pub passes_emptied : {T D T* : List (Inclusion A R)} {sets : List (List (Inclusion A R))} {n : ℕ} → Passes T D n T* sets →
      (S : List (Inclusion A R)) × (T* ≡ T ++ emptied S)
  passes_emptied (last {T} p) = ([], sym (append-nil T))
  passes_emptied (again {T} {stuck} {ρ} p k r) =
      let (S, e) = passes_emptied r in
      let now = ρ ∷ stuck in
      (now ++ S, e ∙ append_assoc T (emptied now) (emptied S) ∙ ap (λ l. T ++ l) (sym (map-append (λ (σ : Inclusion A R). includes σ.left bottom) now S)))
