-- What a check answers, as the scope's number and place.
use Rattle.std.specs.Prelude.{ℕ, Result, Ok, Err}
use Rattle.std.proofs.Math.Option.{Option, none, some}
use Rattle.refusal.specs.Refusal.{refusal_number}
use Rattle.refusal.specs.declared.Refused.{Refused}

abbrev pub refused_by : {T : Type 0} → Result T Refused → Option (ℕ × ℕ)
refused_by (Ok done) = none
refused_by (Err refused) = some (refusal_number refused.why, refused.place)
