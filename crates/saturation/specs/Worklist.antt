-- Saturation by a worklist: the columns that have changed and whose readers have not been looked at since are dirty. Only functions inside this crate cite these definitions.
-- A number that is nothing, one in column 1, takes nothing more while the worklist lasts: column 1 is spread over the others at the end.
--     Inference    what rows let a column take, and which two columns that reads
--     TakesPart    the inferences that a row has a part in
--     Drawn        it is drawn already, or a column that it reads is dirty
--     WorkStep     what is added is sound, what was drawn stays so, and the work that is left is no more
--     Draws        such a step that draws some inferences
use Rattle.std.specs.Prelude.{ℕ, ◌+◌, ◌*◌, ◌<◌, ◌≤◌, ◌≡◌, Bool, true, ◌&&◌, List, map, length, get_or}
use Rattle.semantics.specs.Limits.{set_words, number_limit}
use Rattle.semantics.specs.Row.{strict_kind, conj_subsumed_kind, in_exist_kind, exist_in_kind, kind_of, role_of, a_of, b_of, c_of}
use Rattle.semantics.specs.Set.{has, cell}
use Rattle.normal.specs.Rules.{row_of}
use Rattle.sets.specs.Members.{Included}
use Rattle.picking.specs.Size.{missing, size}
use Rattle.columns.specs.Columns.{Seeded}
use Rattle.columns.specs.Steps.{Covers, in_apart, in_shared, in_apart_where}

-- ---- what the rows ask

-- Column `target` is to have every number that `due` finds.
pub record Inference : Type 0 where
  pub target : ℕ
  pub first : ℕ
  pub second : ℕ
  pub due : List ℕ → ℕ → Bool

-- of a row of kind 1
abbrev pub strict_inference : ℕ → Inference
strict_inference w = record { target = c_of w; first = a_of w; second = a_of w; due = in_apart (a_of w) }

-- of a row of kind 2
abbrev pub conj_inference : ℕ → Inference
conj_inference w = record { target = c_of w; first = a_of w; second = b_of w; due = in_shared (a_of w) (b_of w) }

-- of a row of kind 3: where its right is nothing, so is its left
abbrev pub bottom_inference : ℕ → Inference
bottom_inference w = record { target = 1; first = a_of w; second = 1; due = in_apart_where 1 (c_of w) (a_of w) }

-- of w, of kind 3, and v, of kind 4 with the same role: where w's right is within v's left and not nothing, w's left is within v's right
abbrev pub pair_inference : ℕ → ℕ → Inference
pair_inference w v = record { target = c_of v; first = a_of w; second = a_of v; due = λ columns x. in_apart (a_of v) columns (c_of w) && in_apart (a_of w) columns x }

-- w and v are of kinds 3 and 4, with one role.
pub record Pair (w v : ℕ) : Type 0 where
  pub by_in_exist : kind_of w ≡ in_exist_kind
  pub by_exist_in : kind_of v ≡ exist_in_kind
  pub role : role_of v ≡ role_of w

-- the inference of w and v, where they are such a pair, in one order or the other
pub data OfPair (w v : ℕ) : Inference → Type 0 where
  forwards : Pair w v → OfPair w v (pair_inference w v)
  backwards : Pair v w → OfPair w v (pair_inference v w)

-- of w with some row
pub record Paired (words : List ℕ) (w : ℕ) (d : Inference) : Type 0 where
  pub index : ℕ
  pub within : index < length words
  pub of : OfPair w (get_or words index 0) d

-- w has a part in the inference.
pub data TakesPart (words : List ℕ) (w : ℕ) : Inference → Type 0 where
  strictly : kind_of w ≡ strict_kind → TakesPart words w (strict_inference w)
  jointly : kind_of w ≡ conj_subsumed_kind → TakesPart words w (conj_inference w)
  emptily : kind_of w ≡ in_exist_kind → TakesPart words w (bottom_inference w)
  in_pair : {d : Inference} → Paired words w d → TakesPart words w d

-- The inference reads column b.
pub data ReadsColumn (d : Inference) (b : ℕ) : Type 0 where
  by_first : d.first ≡ b → ReadsColumn d b
  by_second : d.second ≡ b → ReadsColumn d b

-- some row's inference that reads column b
pub record ReadingOf (words : List ℕ) (b : ℕ) (d : Inference) : Type 0 where
  pub index : ℕ
  pub within : index < length words
  pub part : TakesPart words (get_or words index 0) d
  pub reads : ReadsColumn d b

-- ---- what is drawn

abbrev pub SameColumn : ℕ → List ℕ → List ℕ → Type 0
SameColumn a old new = (x : ℕ) → x < 64 * set_words → cell set_words new a x ≡ cell set_words old a x

-- No more is due where the columns grow and those that the inference reads are the same.
pub record Stable (d : Inference) : Type 0 where
  pub stays : {old new : List ℕ} → Included old new → SameColumn d.first old new → SameColumn d.second old new →
      (x : ℕ) → x < 64 * set_words → d.due new x ≡ true → d.due old x ≡ true

pub data Progress (d : Inference) (columns dirty : List ℕ) : Type 0 where
  met : Covers d.target d.due columns → Progress d columns dirty
  unread : (b : ℕ) → ReadsColumn d b → has dirty b ≡ true → Progress d columns dirty

pub record Drawn (d : Inference) (columns dirty : List ℕ) : Type 0 where
  pub stable : Stable d
  pub standing : Progress d columns dirty

-- Every inference of the rows is met.
pub record Closed (words columns : List ℕ) : Type 0 where
  pub each : (i : ℕ) → i < length words → (d : Inference) → TakesPart words (get_or words i 0) d → Covers d.target d.due columns

-- ---- steps

-- the work that is left: numbers that columns lack, and dirty columns
abbrev pub work_left : List ℕ → List ℕ → ℕ
work_left columns dirty = missing columns (64 * length columns) + size dirty number_limit

pub record WorkStep (N : ℕ) (words old new dirty dirty' : List ℕ) : Type 0 where
  pub seeded : Seeded N (map row_of words) old → Seeded N (map row_of words) new
  pub length_kept : length new ≡ length old
  pub kept : (d : Inference) → Drawn d old dirty → Drawn d new dirty'
  pub no_more : work_left new dirty' ≤ work_left old dirty

-- Such a step draws each inference that P holds of.
pub record Draws (N : ℕ) (words : List ℕ) (P : Inference → Type 0) (old new dirty dirty' : List ℕ) : Type 0 where
  pub step : WorkStep N words old new dirty dirty'
  pub drawn : (d : Inference) → P d → Drawn d new dirty'
