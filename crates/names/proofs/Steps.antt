-- One step after another, as the code goes: a step that the code took, and how its definition goes on from there. Assumes nothing.
--     then_read     it read, so what comes next is the reading
--     then_refused  it refused, so it is the reading
use Prim.Native.Nat.{ℕ}
use mathlib.Core.Path.{◌≡◌}
use Rattle.std.specs.Prelude.{Ok, Err}
use Rattle.refusal.specs.declared.Refused.{Refused}
use Rattle.names.specs.Names.{ended, onward, and_then}
use Rattle.names.specs.State.{State, Step, Ending}

module _ (more : State → ℕ → ℕ → Ending) (names : State) (step : Step) {whole : Ending} (is : ended names step ≡ whole) where
  pub then_read : {number next : ℕ} {end : Ending} → step ≡ Ok (number, next) → end ≡ more names number next → end ≡ and_then whole more
  unfolding onward
  then_read e f = rw (f, ← is, e)

  pub then_refused : {e : Refused} → step ≡ Err e → ended names step ≡ and_then whole more
  unfolding onward
  then_refused r = rw (← is, r)
