-- The start: the columns before the first pass. Assumes nothing.
use Prim.Native.Nat.{ℕ}
use mathlib.Core.Path.{sym, subst}
use mathlib.Core.List.{List, map}
use Rattle.semantics.specs.Saturated.{strict_rows}
use Rattle.normal.specs.Rules.{Deck, row_of, grown}
use Rattle.columns.specs.Columns.{Columns}
use Rattle.ranking.proofs.Passes.{grown_start}
use Rattle.workspace.specs.Steps.{Blank}

-- nothing is stuck yet, so the first columns are those of the written rows
module _ {N : ℕ} {words columns₀ strict₀ levels heads links answers columns : List ℕ} (deck : Deck N words) (blank : Blank N words columns₀ strict₀ levels heads links answers)
    (c : Columns N (strict_rows (map row_of words)) columns) where
  pub first_columns : Columns N (strict_rows (grown words levels)) columns
  first_columns = subst (λ T. Columns N T columns) (sym (grown_start levels deck blank.levels_room (λ i lt. blank.no_levels i))) c
