-- What the functions on one row, or on two, are given and do. Only functions inside this crate cite these definitions.
--     RowIn        w is one of the rows
--     InColumns    w is of some kind, and the columns that it names are there
--     isEmptied    w is of kind 3, and its right is nothing
--     Plain        what a row of kind 1 or 2 does
--     MarksPair    what a pair does
use Rattle.std.specs.Prelude.{ℕ, ◌<◌, ◌≡◌, Bool, ◌&&◌, List, eqb, length, get_or}
use Rattle.semantics.specs.Limits.{set_words, number_limit}
use Rattle.semantics.specs.Row.{strict_kind, conj_subsumed_kind, in_exist_kind, kind_of, a_of, b_of, c_of}
use Rattle.semantics.specs.Set.{cell}
use Rattle.tables.specs.Table.{HasRow}
use Rattle.columns.specs.Steps.{Marks, in_apart, in_shared, in_apart_where}
use Rattle.saturation.specs.Worklist.{Pair}

pub record RowIn (words : List ℕ) (w : ℕ) : Type 0 where
  pub index : ℕ
  pub within : index < length words
  pub is : get_or words index 0 ≡ w

pub record InColumns (columns : List ℕ) (w : ℕ) : Type 0 where
  pub kind : 0 < kind_of w
  pub nothing : HasRow set_words columns 1
  pub left : HasRow set_words columns (a_of w)
  pub second : HasRow set_words columns (b_of w)
  pub right : HasRow set_words columns (c_of w)
  pub small : c_of w < number_limit

abbrev pub is_emptied : ℕ → List ℕ → Bool
is_emptied w columns = eqb (kind_of w) in_exist_kind && cell set_words columns 1 (c_of w)

-- Other rows do nothing.
pub record Plain (w : ℕ) (old new dirty dirty' : List ℕ) : Type 0 where
  pub strict : kind_of w ≡ strict_kind → Marks (c_of w) (in_apart (a_of w)) old new dirty dirty'
  pub conj : kind_of w ≡ conj_subsumed_kind → Marks (c_of w) (in_shared (a_of w) (b_of w)) old new dirty dirty'
  pub other : (kind_of w ≡ strict_kind → ⊥) → (kind_of w ≡ conj_subsumed_kind → ⊥) → (new ≡ old) × (dirty' ≡ dirty)
  pub length_kept : length new ≡ length old

-- of w and v, in either order
pub record MarksPair (w v : ℕ) (old new dirty dirty' : List ℕ) : Type 0 where
  pub forwards : Pair w v → Marks (c_of v) (in_apart_where (a_of v) (c_of w) (a_of w)) old new dirty dirty'
  pub backwards : Pair v w → Marks (c_of w) (in_apart_where (a_of w) (c_of v) (a_of v)) old new dirty dirty'
