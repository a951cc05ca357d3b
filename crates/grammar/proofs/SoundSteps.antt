-- What holds where a reading is not refused, step by step.
--     Gives Q r   if the reading r read a number, Q holds of its state, the number and the offset behind it
-- A law for each way in which a reading goes on. Assumes nothing.
use Prim.Native.Nat.{ℕ}
use mathlib.Core.Path.{◌≡◌, refl, subst}
use mathlib.Core.Bool.{Bool, true, false, cond}
use mathlib.Core.List.{List}
use Rattle.refusal.specs.declared.Refusal.{Refusal}
use Rattle.refusal.specs.declared.Refusal.TheVariants.{SyntaxError}
use Rattle.names.specs.Names.{refuse, read_to, onward, and_then}
use Rattle.forms.specs.Opened.{after_space}
use Rattle.names.specs.State.{State, Ending, Step}
use Rattle.std.specs.Prelude.{Ok, Err}
use Rattle.grammar.proofs.GapReading.{GapHere, gap_cases}

pub record Gives (Q : State → ℕ → ℕ → Type 0) (r : Ending) : Type 0 where
  pub holds : (x next : ℕ) → r.step ≡ Ok (x, next) → Q r.names x next

module _ {Q : State → ℕ → ℕ → Type 0} where
  pub gives_refused : (s : State) (why : Refusal) (place : ℕ) → Gives Q (refuse s why place)
  gives_refused s why place = record { holds = λ x next e. absurd cc }

  pub gives_read : (s : State) (x next : ℕ) → Q s x next → Gives Q (read_to s x next)
  gives_read s x next q = record { holds = λ y end e. let p : ◌≡◌ {A = ℕ × ℕ} (x, next) (y, end) = cc in subst (λ k. Q s k.0 k.1) p q }

  pub gives_cond : (b : Bool) {r u : Ending} → (b ≡ true → Gives Q r) → (b ≡ false → Gives Q u) → Gives Q (cond b r u)
  gives_cond true f g = f refl
  gives_cond false f g = g refl

  pub gives_then : {P : State → ℕ → ℕ → Type 0} (r : Ending) (more : State → ℕ → ℕ → Ending) → Gives P r →
      ((s : State) (x next : ℕ) → P s x next → Gives Q (more s x next)) → Gives Q (and_then r more)
  unfolding onward
  gives_then {P} r more p q = go r.step refl
    where
      go : (step : Step) → r.step ≡ step → Gives Q (onward step r more)
      go (Ok (x, next)) e = q r.names x next (p.holds x next e)
      go (Err f) e = record { holds = λ x next h. absurd cc }

  pub gives_gap : (text : List ℕ) (s : State) (at : ℕ) (more : ℕ → Ending) → ((next : ℕ) → GapHere text at next → Gives Q (more next)) →
      Gives Q (after_space text s at more)
  gives_gap text s at more q = gap_cases (Gives Q) text s at more q (gives_refused s SyntaxError at)
