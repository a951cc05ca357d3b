-- Tables and roots that saturation ends with. No operation's contract rests on them: they are what loops keep, and the theorems of proofs/Canonical.antt turn them into what every model has.
use Rattle.std.specs.Prelude.{ℕ, ◌<◌, ◌≡◌, Bool, true}
use mathlib.Core.List.{List, [], Memᴰ, map}
use Rattle.semantics.specs.Concept.{Inclusion, Within}
use Rattle.semantics.specs.Closure.{strict, includes, strict_of}
use Rattle.semantics.specs.Row.{Row, simple, conj_subsumed, in_exist, exist_in, numbered, line_of}

-- T: the strict inclusions of the rows
abbrev pub strict_rows : List Row → List (Inclusion ℕ ℕ)
strict_rows rows = strict_of (map line_of rows)

-- an inclusion between two numbers
abbrev pub between : ℕ × ℕ → Inclusion ℕ ℕ
between p = includes (numbered p.0) (numbered p.1)

-- what a stuck row adds to T: "left is nothing"
abbrev pub empty_row : ℕ × ℕ → Row
empty_row p = simple strict p.0 1

-- s, where it obeys E, is within b
pub record Holds (rows : List Row) (E : List (ℕ × ℕ)) (s b : ℕ) : Type 0 where
  pub within : Within (strict_rows rows) (map between E) (numbered s) (numbered b)

-- ---- tables: S a b says that a is within b

abbrev pub Table : Type 0
Table = ℕ → ℕ → Bool

-- every bit holds in every model
pub record SoundTable (N : ℕ) (rows : List Row) (S : Table) : Type 0 where
  pub bit : (a b : ℕ) → a < N → b < N → S a b ≡ true → Holds rows [] a b

-- a set of numbers that has all that the rows and the table add to it
pub record ClosedSet (rows : List Row) (S : Table) (P : ℕ → Bool) : Type 0 where
  pub top_in : P 0 ≡ true
  pub strict_in : {a c : ℕ} → Memᴰ (simple strict a c) rows → P a ≡ true → P c ≡ true
  pub conj_in : {a b c : ℕ} → Memᴰ (conj_subsumed a b c) rows → P a ≡ true → P b ≡ true → P c ≡ true
  pub by_exist_in : {a r c a' c' : ℕ} → Memᴰ (in_exist a r c) rows → Memᴰ (exist_in r a' c') rows → P a ≡ true → S c a' ≡ true → P c' ≡ true
  pub bottom_in : {a r c : ℕ} → Memᴰ (in_exist a r c) rows → P a ≡ true → S c 1 ≡ true → P 1 ≡ true

-- the table is saturated below N
pub record ClosedTable (N : ℕ) (rows : List Row) (S : Table) : Type 0 where
  pub own : (x : ℕ) → x < N → S x x ≡ true
  pub rest : (x b : ℕ) → x < N → b < N → S x 1 ≡ true → S x b ≡ true
  pub row : (x : ℕ) → x < N → ClosedSet rows S (S x)

-- ---- roots: P b says that s, where it obeys E, is within b

pub record SoundRoot (N : ℕ) (rows : List Row) (E : List (ℕ × ℕ)) (s : ℕ) (P : ℕ → Bool) : Type 0 where
  pub bit : (b : ℕ) → b < N → P b ≡ true → Holds rows E s b

-- whole rows of the table are taken, so the role rows need not be looked at again
pub record ClosedRoot (N : ℕ) (rows : List Row) (S : Table) (E : List (ℕ × ℕ)) (P : ℕ → Bool) : Type 0 where
  pub top_in : P 0 ≡ true
  pub table_in : (a b : ℕ) → a < N → b < N → P a ≡ true → S a b ≡ true → P b ≡ true
  pub conj_in : {a b c : ℕ} → Memᴰ (conj_subsumed a b c) rows → P a ≡ true → P b ≡ true → P c ≡ true
  pub defeasible_in : (p : ℕ × ℕ) → Memᴰ p E → P p.0 ≡ true → P p.1 ≡ true
