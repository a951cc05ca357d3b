-- What is found of a query's left: its rank and root, or nothing where the rank is infinite. No reader has to believe it.
--     found_rank   the code of the rank
--     found_root   the words of the root, none where the rank is infinite
use Rattle.std.specs.Prelude.{ℕ, List, [], Option, Some, None}
use Rattle.normal.specs.Rules.{infinite}
use Rattle.results.specs.declared.ranked_root.RankedRoot.{RankedRoot}

abbrev pub found_rank : Option RankedRoot → ℕ
found_rank None = infinite
found_rank (Some found) = found.rank

abbrev pub found_root : Option RankedRoot → List ℕ
found_root None = []
found_root (Some found) = found.root.words
