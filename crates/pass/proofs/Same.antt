-- Lists with the same inclusions say the same: of what is exceptional, of replies, of a table and of levels.
-- Assumes nothing.
use Prim.Native.Nat.{ℕ}
use mathlib.Core.Bool.{Bool, true, false}
use mathlib.Core.List.{List, []}
use Rattle.semantics.specs.Concept.{Concept, Inclusion, Within, Exceptional}
use Rattle.semantics.specs.Closure.{Replies}
use Rattle.semantics.specs.Row.{numbered}
use Rattle.semantics.specs.Outputs.{StrictTable}
use Rattle.semantics.specs.Set.{cell}
use Rattle.semantics.specs.Limits.{set_words}
use Rattle.semantics.proofs.Consequence.{within_grows, exceptional_grows}
use Rattle.pass.specs.Levels.{Levelled}
use Rattle.pass.specs.Passes.{SameRules}

pub same_exceptional : {T T' E : List (Inclusion ℕ ℕ)} {C : Concept ℕ ℕ} → SameRules T T' → Exceptional T E C → Exceptional T' E C
same_exceptional s = exceptional_grows s.there (λ ρ m. m)

pub same_flip : {T T' : List (Inclusion ℕ ℕ)} → SameRules T T' → SameRules T' T
same_flip s = record { there = s.back; back = s.there }

pub same_replies : {T T' : List (Inclusion ℕ ℕ)} (E : List (Inclusion ℕ ℕ)) (C D : Concept ℕ ℕ) → SameRules T T' → (b : Bool) → Replies b (Within T E C D) → Replies b (Within T' E C D)
same_replies E C D s true w = within_grows s.there (λ ρ m. m) w
same_replies E C D s false n = λ w. n (within_grows s.back (λ ρ m. m) w)

pub same_table : {N : ℕ} {T T' : List (Inclusion ℕ ℕ)} {table : List ℕ} → SameRules T T' → StrictTable N T table → StrictTable N T' table
same_table {table} s t = record { bit = λ a b ha hb. same_replies [] (numbered a) (numbered b) s (cell set_words table a b) (t.bit a b ha hb); zeros = t.zeros }

pub same_levelled : {T T' : List (Inclusion ℕ ℕ)} {words levels : List ℕ} {k : ℕ} → SameRules T T' → Levelled T words levels k → Levelled T' words levels k
same_levelled s v = record {
  long = v.long;
  risen = λ i j h lt. same_exceptional s (v.risen i j h lt);
  stayed = λ i h lt x. v.stayed i h lt (same_exceptional (same_flip s) x);
}
