-- What is due where a space is, as the code goes: what stands there, and how the definition goes on from it. Assumes nothing.
use Prim.Native.Nat.{ℕ}
use mathlib.Core.Path.{◌≡◌}
use mathlib.Core.List.{List}
use Rattle.std.specs.Prelude.{Ok, Err}
use Rattle.refusal.specs.declared.Refused.{Refused}
use Rattle.names.specs.Names.{ended, past_space, onward}
use Rattle.names.specs.State.{State, Step, Ending}
use Rattle.forms.specs.Opened.{after_space}

module _ (text : List ℕ) (names : State) (at : ℕ) (more : ℕ → Ending) {s : Step} {end : Ending} (step : s ≡ past_space text at) where
  pub space_read : {none start : ℕ} → s ≡ Ok (none, start) → end ≡ more start → end ≡ after_space text names at more
  unfolding after_space onward
  space_read e f = rw (f, ← step, e)

  pub space_refused : {e : Refused} → s ≡ Err e → end ≡ ended names s → end ≡ after_space text names at more
  unfolding after_space onward
  space_refused e f = rw (f, ← step, e)
