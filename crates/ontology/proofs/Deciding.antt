-- What an input is: a text of one list of axioms, or no run, at one place. Assumes nothing.
use Prim.Native.Nat.{ℕ, ◌+◌, ◌<◌, ◌≤◌}
use native.Mathlib.Omega.{arith}
use mathlib.Core.Path.{◌≡◌, refl, sym, ◌∙◌, ap}
use mathlib.Core.List.{List, ◌++◌, append_assoc}
use mathlib.Core.Logic.{◌↔◌, ◌⊎◌, inl, inr}
use lib.ListN.{length, take, drop, take-append-drop}
use lib.Dec.{ltb}
use lib.Seq.{take-take}
use borrow.Author.Tests.{ltb-true, ltb-false}
use Rattle.semantics.proofs.Tests.{cases}
use Rattle.ontology.specs.Axiom.{Axiom}
use Rattle.ontology.specs.Text.{RunOf}
use Rattle.ontology.specs.Refused.{Begins, NoRunAt}
use Rattle.ontology.proofs.Reader.{Outcome, accepted, stopped, start, read_axioms}
use Rattle.ontology.proofs.Complete.{axioms_accepted}
use Rattle.ontology.proofs.Places.{run_sound, rest_reads, stopped_place}

pub accepted_reads : (input : List ℕ) (axioms : List Axiom) → read_axioms input ≡ accepted axioms → RunOf input axioms
accepted_reads input axioms e = rest_reads (run_sound input 0 start axioms tt e)

-- ---- one place

-- what begins a run's text begins it up to every place before
begins_earlier : (input : List ℕ) (p q : ℕ) → p ≤ q → Begins (take q input) → Begins (take p input)
begins_earlier input p q h b = record {
  axioms = b.axioms;
  rest = drop p (take q input) ++ b.rest;
  reads = rw (← append_assoc, split) b.reads;
}
  where
    split : take p input ++ drop p (take q input) ≡ take q input
    split = ap (◌++ drop p (take q input)) (sym (take-take p q input h)) ∙ take-append-drop p (take q input)

pub no_run_unique : (input : List ℕ) (p q : ℕ) → NoRunAt input p → NoRunAt input q → p ≡ q
no_run_unique input p q a b = cases (ltb p q) (λ h. absurd (before p q a b (ltb-true p q h)))
    (λ h. cases (ltb q p) (λ k. absurd (before q p b a (ltb-true q p k))) (λ k. omega (arith, ltb-false p q h, ltb-false q p k)))
  where
    before : (p q : ℕ) → NoRunAt input p → NoRunAt input q → p < q → ⊥
    before p q a b h = a.byte (omega (arith, b.inside)) (begins_earlier input (p + 1) q (omega arith) b.before)

-- a text of axioms has no such place
pub run_exclusive : (input : List ℕ) (p : ℕ) (axioms : List Axiom) → RunOf input axioms → NoRunAt input p → ⊥
run_exclusive input p axioms a n = cases (ltb p (length input))
    (λ h. n.byte (ltb-true p (length input) h) record { axioms = axioms; rest = drop (p + 1) input; reads = rw (take-append-drop (p + 1) input) a })
    (λ h. n.cut (omega (arith, ltb-false p (length input) h, n.inside)) axioms a)

pub stops_decides : (input : List ℕ) (p : ℕ) → (read_axioms input ≡ stopped p) ↔ NoRunAt input p
stops_decides input p = (stopped_place input p, back (read_axioms input) refl)
  where
    back : (o : Outcome) → read_axioms input ≡ o → NoRunAt input p → read_axioms input ≡ stopped p
    back (accepted axioms) e n = absurd (run_exclusive input p axioms (accepted_reads input axioms e) n)
    back (stopped q) e n = e ∙ ap stopped (no_run_unique input q p (stopped_place input q e) n)

pub axioms_unique : {input : List ℕ} {l m : List Axiom} → RunOf input l → RunOf input m → l ≡ m
axioms_unique a b = let e : accepted _ ≡ accepted _ = sym (axioms_accepted a) ∙ axioms_accepted b in cc

pub run_either : (input : List ℕ) → ((axioms : List Axiom) × RunOf input axioms) ⊎ ((p : ℕ) × NoRunAt input p)
run_either input = go (read_axioms input) refl
  where
    go : (o : Outcome) → read_axioms input ≡ o → ((axioms : List Axiom) × RunOf input axioms) ⊎ ((p : ℕ) × NoRunAt input p)
    go (accepted axioms) e = inl (axioms, accepted_reads input axioms e)
    go (stopped p) e = inr (p, stopped_place input p e)
