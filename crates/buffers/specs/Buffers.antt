-- The buffers that are lent for settling, as they are at one time: the subsumption table (the scope's work), the results and the rank order (its roll).
use Rattle.std.specs.Prelude.{ℕ, List}

pub record Buffers : Type 0 where
  pub table : List ℕ
  pub results : List ℕ
  pub order : List ℕ

abbrev pub buffers : List ℕ → List ℕ → List ℕ → Buffers
buffers table results order = record { table = table; results = results; order = order }
