-- The output without its zeros, byte by byte. Assumes nothing.
use Prim.Native.Nat.{ℕ, ◌+◌, ◌<◌, ◌≤◌}
use native.Mathlib.Omega.{arith}
use native.Mathlib.Numerals.{add-one}
use mathlib.Core.Path.{◌≡◌, refl, sym, ◌∙◌, ap}
use mathlib.Core.Bool.{Bool, true, false, not, cond}
use mathlib.Core.List.{List, [], ◌∷◌, ◌++◌, append-nil}
use lib.ListN.{length, get_or, take, drop, length-append, take-append-drop}
use lib.Seq.{take-suc}
use lib.Dec.{eqb}
use borrow.Author.Tests.{eq-eqb, ne_eqb}
use Rattle.std.specs.List.{count_by}
use Rattle.std.proofs.lemmas.List.Sums.{sum_by-cons}
use Rattle.axioms.specs.Track.{compact}
use Rattle.axioms.proofs.Tracks.{compact_append}

module _ (out : List ℕ) (i : ℕ) (h : i < length out) where
  next : compact (take (i + 1) out) ≡ compact (take i out) ++ compact (get_or out i 0 ∷ [])
  next = ap (λ n. compact (take n out)) (add-one i) ∙ ap compact (take-suc out i 0 h) ∙ compact_append (take i out) (get_or out i 0 ∷ [])

  pub compact_zero : get_or out i 0 ≡ 0 → compact (take (i + 1) out) ≡ compact (take i out)
  unfolding compact
  compact_zero e = next ∙ rw (eq-eqb (get_or out i 0) 0 e) (append-nil _)

  pub compact_byte : (get_or out i 0 ≡ 0 → ⊥) → compact (take (i + 1) out) ≡ compact (take i out) ++ (get_or out i 0 ∷ [])
  unfolding compact
  compact_byte e = next ∙ rw (ne_eqb (get_or out i 0) 0 e)

  pub count_byte : (get_or out i 0 ≡ 0 → ⊥) → length (compact (take (i + 1) out)) ≡ length (compact (take i out)) + 1
  count_byte e = ap length (compact_byte e) ∙ length-append (compact (take i out)) (get_or out i 0 ∷ [])

pub compact_count : (l : List ℕ) → length (compact l) ≡ count_by (λ b. not (eqb b 0)) l
unfolding compact
compact_count [] = refl
compact_count (b ∷ l) = counted (eqb b 0) (compact_count l) ∙ sym (sum_by-cons (λ x. cond (not (eqb x 0)) 1 0) b l)
  where
    counted : (z : Bool) {c : ℕ} → length (compact l) ≡ c → length (cond z (compact l) (b ∷ compact l)) ≡ cond (not z) 1 0 + c
    counted true e = omega arith
    counted false e = omega arith

pub compact_grows : (l : List ℕ) (i : ℕ) → length (compact (take i l)) ≤ length (compact l)
compact_grows l i =
    let e = ap (λ x. length (compact x)) (sym (take-append-drop i l)) ∙ ap length (compact_append (take i l) (drop i l)) ∙ length-append (compact (take i l)) (compact (drop i l)) in
    omega (arith, e)
