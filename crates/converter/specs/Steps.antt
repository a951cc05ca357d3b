-- What only inner functions cite; nobody has to believe it.
--     BookOut   an output, without its zeros, is written to the lent text, or finds no room there
use Rattle.std.specs.Prelude.{ℕ, ◌<◌, ◌≤◌, ◌≡◌, List, length, Result, Ok, Err}
use Rattle.refusal.specs.declared.Refusal.TheVariants.{BookRoom}
use Rattle.refusal.specs.declared.Refused.{Refused}
use Rattle.copying.specs.Written.{Appended}

pub data BookOut (found text₀ text : List ℕ) : Result ℕ Refused → Type 0 where
  no_room : length text₀ < length found → text ≡ text₀ → BookOut found text₀ text (Err (record { why = BookRoom; place = 0 }))
  written : {size : ℕ} → length found ≤ length text₀ → Appended found 0 text₀ text size → BookOut found text₀ text (Ok size)
