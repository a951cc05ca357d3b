-- That a reading is not refused, step by step.
--     PassesOn Q r   the reading r read a number, and Q holds of its state, the number and the offset behind it
-- A law for each way in which a reading goes on. Assumes nothing.
use Prim.Native.Nat.{ℕ, ◌+◌, ◌<◌}
use mathlib.Core.Path.{◌≡◌, refl}
use mathlib.Core.Bool.{Bool, true, false, cond}
use mathlib.Core.List.{List, ◌++◌}
use lib.ListN.{length, drop}
use native.Mathlib.Omega.{arith}
use Rattle.semantics.specs.Limits.{number_limit}
use Rattle.names.specs.Names.{read_to, onward, and_then, take_number, sign_taken}
use Rattle.forms.specs.Opened.{after_space}
use Rattle.names.specs.State.{State, Ending, next_concept}
use Rattle.std.specs.Prelude.{Ok}
use Rattle.semantics.specs.Source.{Gap}
use Rattle.semantics.proofs.Gaps.{Unspaced}
use Rattle.grammar.proofs.BytesAhead.{ahead_behind}
use Rattle.grammar.proofs.GapReading.{gap_ahead}
use Rattle.grammar.proofs.ReaderCases.{take_number_cases}
use Rattle.grammar.proofs.SoundSteps.{Gives}

pub record PassesOn (Q : State → ℕ → ℕ → Type 0) (r : Ending) : Type 0 where
  pub number : ℕ
  pub next : ℕ
  pub read : r.step ≡ Ok (number, next)
  pub holds : Q r.names number next

pub takes_number : (s : State) (at : ℕ) → next_concept s < number_limit → take_number s at ≡ read_to (sign_taken s at) (next_concept s) (at + 1)
takes_number s at room = take_number_cases (λ r. r ≡ read_to (sign_taken s at) (next_concept s) (at + 1)) s at (λ less. refl) (λ full. absurd (omega arith))

module _ {Q : State → ℕ → ℕ → Type 0} where
  pub passes_read : (s : State) (x next : ℕ) → Q s x next → PassesOn Q (read_to s x next)
  passes_read s x next q = record { number = x; next = next; read = refl; holds = q }

  pub passes_if : (b : Bool) {r : Ending} (u : Ending) → b ≡ true → PassesOn Q r → PassesOn Q (cond b r u)
  passes_if b u e p = rw e p

  pub passes_else : (b : Bool) (r : Ending) {u : Ending} → b ≡ false → PassesOn Q u → PassesOn Q (cond b r u)
  passes_else b r e p = rw e p

  pub passes_then : {P : State → ℕ → ℕ → Type 0} (r : Ending) (more : State → ℕ → ℕ → Ending) → PassesOn P r →
      ((s : State) (x next : ℕ) → P s x next → PassesOn Q (more s x next)) → PassesOn Q (and_then r more)
  unfolding onward
  passes_then r more p q = rw p.read (q r.names p.number p.next p.holds)

  -- a gap is skipped, and what stands behind it is ahead
  pub passes_gap : (text : List ℕ) (s : State) (at : ℕ) (g rest : List ℕ) (more : ℕ → Ending) → Gap g → Unspaced rest → drop at text ≡ g ++ rest →
      (drop (at + length g) text ≡ rest → PassesOn Q (more (at + length g))) → PassesOn Q (after_space text s at more)
  unfolding after_space onward
  passes_gap text s at g rest more h f e q = rw (gap_ahead text at g rest h f e) (q (ahead_behind text at g rest e))

  -- what a reading gives holds where it passes
  pub passes_gives : {P : State → ℕ → ℕ → Type 0} {r : Ending} → Gives Q r → PassesOn P r → PassesOn (λ s x next. P s x next × Q s x next) r
  passes_gives {P} {r} g p = record { number = p.number; next = p.next; read = p.read; holds = (p.holds, g.holds p.number p.next p.read) }
