-- The number of each kind of row, as it is packed, and which kind a row is of.
use Rattle.std.specs.Prelude.{ℕ, ◌<◌, ◌≡◌, ◌⊎◌, Result, MatchResult}
use Rattle.semantics.specs.Row.{strict_kind, conj_subsumed_kind, in_exist_kind, exist_in_kind, defeasible_kind, query_kind, strict_query_kind}
use Rattle.rows.specs.declared.RowKind.{RowKind}
use Rattle.rows.specs.declared.NoKind.{NoKind}
use Rattle.rows.specs.declared.RowKind.TheVariants.{Strict, ConjSubsumed, InExist, ExistIn, Defeasible, Query, StrictQuery}

abbrev pub row_kind_number : RowKind → ℕ
row_kind_number Strict = strict_kind
row_kind_number ConjSubsumed = conj_subsumed_kind
row_kind_number InExist = in_exist_kind
row_kind_number ExistIn = exist_in_kind
row_kind_number Defeasible = defeasible_kind
row_kind_number Query = query_kind
row_kind_number StrictQuery = strict_query_kind

-- the kind with this number, or the number, which is no kind's
abbrev pub KindOf : ℕ → Result RowKind NoKind → Type 0
KindOf number r = MatchResult r (λ kind. row_kind_number kind ≡ number) (λ other. (other.0 ≡ number) × ((number < 1) ⊎ (7 < number)))
