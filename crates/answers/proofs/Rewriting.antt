-- Loops that write the results one after the other.
--     rewritten_none, rewritten_more, rewritten_all   before the first, after one more, after the last
-- Assumes nothing.
use Prim.Native.Nat.{ℕ, ◌+◌, ◌<◌, ◌≤◌}
use native.Mathlib.Omega.{arith}
use mathlib.Core.Path.{◌≡◌, refl, ◌∙◌, ap}
use mathlib.Core.List.{List}
use lib.ListN.{length, get_or, set, length-set}
use lib.Seq.{get_or-set_same, get_or-set_other}
use borrow.Author.Count.{below_more}
use Rattle.answers.specs.Steps.{Rewritten}

pub rewritten_none : (f : ℕ → ℕ → ℕ) (old : List ℕ) → Rewritten f 0 old old
rewritten_none f old = record { length_kept = refl; done = λ j h. absurd (omega arith); left = λ j h. refl }

pub rewritten_more : {f : ℕ → ℕ → ℕ} {old new : List ℕ} {i v : ℕ} → i < length new → v ≡ f i (get_or new i 0) → Rewritten f i old new → Rewritten f (i + 1) old (set new i v)
rewritten_more {f} {old} {new} {i} {v} lt e r = record {
  length_kept = length-set new i v ∙ r.length_kept;
  done = below_more (λ (j : ℕ). get_or (set new i v) j 0 ≡ f j (get_or old j 0)) i
      (λ j h. get_or-set_other new i j v 0 (λ q. omega arith) ∙ r.done j h)
      (get_or-set_same new i v 0 lt ∙ e ∙ ap (f i) (r.left i (omega arith)));
  left = λ j h. get_or-set_other new i j v 0 (λ q. omega arith) ∙ r.left j (omega arith);
}

pub rewritten_all : {f : ℕ → ℕ → ℕ} {old new : List ℕ} {n i : ℕ} → i ≤ n → n ≤ i → Rewritten f i old new → Rewritten f n old new
rewritten_all {n} {i} le ge r = let e : i ≡ n = omega arith in rw e at r
