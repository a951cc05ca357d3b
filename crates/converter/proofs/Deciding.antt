-- Every input is converted or refused, by one refusal at one place. Assumes nothing.
use Prim.Native.Nat.{ℕ}
use native.Mathlib.Omega.{arith}
use mathlib.Core.Path.{◌≡◌, refl, sym, ◌∙◌, ap}
use mathlib.Core.List.{List}
use mathlib.Core.Logic.{◌⊎◌, inl, inr}
use lib.ListN.{length}
use lib.Dec.{ltb}
use borrow.Author.Tests.{ltb-true, ltb-false}
use Rattle.semantics.proofs.Tests.{cases}
use Rattle.semantics.specs.Limits.{text_limit}
use Rattle.refusal.specs.declared.Refusal.{Refusal}
use Rattle.refusal.specs.declared.Refusal.TheVariants.{NoRun, BookRoom}
use Rattle.ontology.specs.Axiom.{Axiom}
use Rattle.ontology.specs.Book.{book}
use Rattle.ontology.specs.Text.{RunOf}
use Rattle.ontology.proofs.Deciding.{axioms_unique, no_run_unique, run_either, run_exclusive}
use Rattle.converter.specs.Contract.{Convertible, ConvertRefused, too_long, no_run, no_room}

-- one book for an input
pub same_size : {input : List ℕ} {l m : List Axiom} → RunOf input l → RunOf input m → length (book l) ≡ length (book m)
same_size a b = ap (λ l. length (book l)) (axioms_unique a b)

module _ {input : List ℕ} {room : ℕ} where
  pub convert_exclusive : Convertible input room → {p : ℕ} {why : Refusal} → ConvertRefused input room p why → ⊥
  convert_exclusive c (too_long h e) = omega (arith, c.within)
  convert_exclusive c {p} (no_run h n) = run_exclusive input p c.axioms c.reads n
  convert_exclusive c (no_room axioms h a l e) = omega (arith, c.fits, same_size c.reads a)

  pub convert_one : {p q : ℕ} {why how : Refusal} → ConvertRefused input room p why → ConvertRefused input room q how → (why ≡ how) × (p ≡ q)
  convert_one (too_long h e) (too_long k f) = (refl, e ∙ sym f)
  convert_one (too_long h e) (no_run k n) = absurd (omega arith)
  convert_one (too_long h e) (no_room axioms k a l f) = absurd (omega arith)
  convert_one (no_run h n) (too_long k f) = absurd (omega arith)
  convert_one {p} {q} (no_run h n) (no_run k m) = (refl, no_run_unique input p q n m)
  convert_one {p} (no_run h n) (no_room axioms k a l f) = absurd (run_exclusive input p axioms a n)
  convert_one (no_room axioms h a l e) (too_long k f) = absurd (omega arith)
  convert_one {q = q} (no_room axioms h a l e) (no_run k n) = absurd (run_exclusive input q axioms a n)
  convert_one (no_room axioms h a l e) (no_room axioms' k b m f) = (refl, e ∙ sym f)

pub convert_either : (input : List ℕ) (room : ℕ) → Convertible input room ⊎ ((p : ℕ) × (why : Refusal) × ConvertRefused input room p why)
convert_either input room = cases (ltb text_limit (length input))
    (λ q. inr (text_limit, NoRun, too_long (ltb-true text_limit (length input) q) refl))
    (λ q.
    let short = ltb-false text_limit (length input) q in
    elim (run_either input) [
      | inr n ↦ inr (n.0, NoRun, no_run short n.1)
      | inl (axioms, a) ↦ cases (ltb room (length (book axioms)))
          (λ l. inr (0, BookRoom, no_room axioms short a (ltb-true room (length (book axioms)) l) refl))
          (λ l. inl record { axioms = axioms; within = short; reads = a; fits = ltb-false room (length (book axioms)) l })
    ])
