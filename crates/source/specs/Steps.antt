-- What only inner functions cite; nobody has to believe it.
--     kind_step   what is found of a line, its kind as the number that a row has
use Rattle.std.specs.Prelude.{ℕ, Result, Ok, Err}
use Rattle.refusal.specs.declared.Refused.{Refused}
use Rattle.rows.specs.declared.RowKind.{RowKind}
use Rattle.rows.specs.RowKind.{row_kind_number}
use Rattle.names.specs.State.{Step}

abbrev pub kind_step : Result (RowKind × ℕ) Refused → Step
kind_step (Ok (kind, next)) = Ok (row_kind_number kind, next)
kind_step (Err refused) = Err refused
