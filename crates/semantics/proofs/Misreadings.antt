-- Plausible misreadings of the scope, refuted by the marked examples: no lines of the text have such a closure.
-- Assumes nothing.
use Prim.Native.Nat.{ℕ, ◌<◌}
use native.Mathlib.Omega.{arith}
use mathlib.Core.Path.{◌≡◌, ap}
use mathlib.Core.List.{List}
use lib.ListN.{length, get_or}
use Rattle.semantics.specs.Closure.{Line, RationalClosure}
use Rattle.semantics.specs.Source.{Word, Reads}
use Rattle.semantics.specs.Examples.{bytes, ExampleHolds, marked, p}
use Rattle.semantics.proofs.Index.{mem_of}
use Rattle.semantics.proofs.Reading.{report_unique}
use Rattle.semantics.proofs.Examples.{examples_hold}

p_holds : (i : ℕ) → i < length marked → ExampleHolds (p i)
p_holds i h = examples_hold (p i) (mem_of _ marked i h)

module _ {lines : List (Line Word Word)} {levels passes : ℕ} {results : List ℕ} (i : ℕ) (h : i < length marked) where
  -- the closure of an example's lines is the one given
  only : Reads (bytes (p i).text) lines → RationalClosure lines levels passes results →
      (levels ≡ (p i).levels) × (passes ≡ (p i).passes) × (results ≡ (p i).results)
  only read closure = let e = p_holds i h in report_unique read e.read closure e.closure

module _ {lines : List (Line Word Word)} {levels passes : ℕ} {results : List ℕ} where
  -- One pass.
  pub no_single_pass : Reads (bytes (p 7).text) lines → RationalClosure lines levels passes results → passes ≡ 1 → ⊥
  no_single_pass read closure e = omega (arith, (only 7 (omega arith) read closure).1)

  -- The rank 0 that one pass would give x of P8.
  pub no_rank_of_one_pass : Reads (bytes (p 7).text) lines → RationalClosure lines levels passes results → get_or results 4 0 ≡ 32768 → ⊥
  no_rank_of_one_pass read closure e = let q : ◌≡◌ {A = ℕ} (get_or results 4 0) 65535 = ap (λ rs. get_or rs 4 0) (only 7 (omega arith) read closure).2 in omega arith

  -- Defeasible inclusions applied to a role's target, which would say yes to P9's query.
  pub no_defeasible_filler : Reads (bytes (p 8).text) lines → RationalClosure lines levels passes results → get_or results 3 0 ≡ 32768 → ⊥
  no_defeasible_filler read closure e = let q : ◌≡◌ {A = ℕ} (get_or results 3 0) 0 = ap (λ rs. get_or rs 3 0) (only 8 (omega arith) read closure).2 in omega arith

  -- A clone that keeps `art` although its layer gave way: a yes bit at P1's eighth line.
  pub no_kept_layer : Reads (bytes (p 0).text) lines → RationalClosure lines levels passes results → get_or results 7 0 ≡ 32769 → ⊥
  no_kept_layer read closure e = let q : ◌≡◌ {A = ℕ} (get_or results 7 0) 1 = ap (λ rs. get_or rs 7 0) (only 0 (omega arith) read closure).2 in omega arith

  -- An infinite rank read as no: P5's query without the yes bit.
  pub no_infinite_no : Reads (bytes (p 4).text) lines → RationalClosure lines levels passes results → get_or results 1 0 ≡ 32767 → ⊥
  no_infinite_no read closure e = let q : ◌≡◌ {A = ℕ} (get_or results 1 0) 65535 = ap (λ rs. get_or rs 1 0) (only 4 (omega arith) read closure).2 in omega arith
