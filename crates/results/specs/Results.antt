-- The result of one row, by its kind. No reader has to believe it.
--     strict_result    of a strict query, from the table; Readable: that has the bit of its left and right
--     ranked_result    of a defeasible row, from its level
--     replied_result   of a query, from the rank and the root of its left
--     yes_of_row       what a row adds to the count of yes
use Rattle.std.specs.Prelude.{ℕ, ◌+◌, ◌/◌, ◌<◌, Bool, true, cond, ◌&&◌, ◌||◌, List, eqb}
use Rattle.semantics.specs.Closure.{yes_bit}
use Rattle.semantics.specs.Limits.{number_limit, set_words}
use Rattle.semantics.specs.Row.{defeasible_kind, query_kind, strict_query_kind, kind_of, a_of, c_of}
use Rattle.semantics.specs.Set.{has, cell}
use Rattle.tables.specs.Table.{HasRow}
use Rattle.normal.specs.Rules.{infinite}

pub record Readable (table : List ℕ) (w : ℕ) : Type 0 where
  pub row : HasRow set_words table (a_of w)
  pub right : c_of w < number_limit

abbrev pub strict_result : List ℕ → ℕ → ℕ
strict_result table w = cond (eqb (kind_of w) strict_query_kind) (yes_bit (cell set_words table (a_of w) (c_of w))) 0

abbrev pub ranked_result : ℕ → ℕ → ℕ → ℕ
ranked_result w l r = cond (eqb (kind_of w) defeasible_kind) (yes_bit true + l) r

-- the row is a query with the left a
abbrev pub is_query_of : ℕ → ℕ → Bool
is_query_of a w = eqb (kind_of w) query_kind && eqb (a_of w) a

-- a query with the right c, whose left has this rank and this root
abbrev pub query_result : ℕ → List ℕ → ℕ → ℕ
query_result rank root c = yes_bit (eqb rank infinite || has root c) + rank

abbrev pub replied_result : ℕ → ℕ → List ℕ → ℕ → ℕ → ℕ
replied_result a rank root w r = cond (is_query_of a w) (query_result rank root (c_of w)) r

abbrev pub yes_of_row : ℕ → ℕ → ℕ
yes_of_row w r = cond (eqb (kind_of w) query_kind || eqb (kind_of w) strict_query_kind) (r / yes_bit true) 0
