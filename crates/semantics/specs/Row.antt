-- The rows of a knowledge base in normal form (the scope's deck): how a row is packed, and the line that it means.
use Rattle.std.specs.Prelude.{ℕ, zero, suc, ◌+◌, ◌*◌, ◌/◌, ◌%◌, ◌^◌, ◌<◌, ◌≡◌}
use mathlib.Core.List.{List, map, Memᴰ}
use Rattle.semantics.specs.Concept.{Concept, top, bottom, name, conj, exist}
use Rattle.semantics.specs.Closure.{Kind, strict, defeasible, query, strict_query, Line, line}

pub data Row : Type 0 where
  simple : Kind → (a c : ℕ) → Row  -- kinds 1, 5, 6 and 7: a line of this kind over a and c
  conj_subsumed : (a b c : ℕ) → Row  -- kind 2: a and b within c
  in_exist : (a r c : ℕ) → Row  -- kind 3: a within some r c
  exist_in : (r a c : ℕ) → Row  -- kind 4: some r a within c

-- ---- how a row is packed

-- how many roles a field can tell apart, and how many numbers
abbrev pub role_size : ℕ
role_size = 4096

abbrev pub number_size : ℕ
number_size = 65536

-- kind 4 bits, role 12, then a, b and c 16 each, from the most significant
abbrev pub packed : (kind r a b c : ℕ) → ℕ
packed kind r a b c = (((kind * role_size + r) * number_size + a) * number_size + b) * number_size + c

-- the kinds, packed, from the first to the last
abbrev pub strict_kind : ℕ
strict_kind = 1

abbrev pub conj_subsumed_kind : ℕ
conj_subsumed_kind = 2

abbrev pub in_exist_kind : ℕ
in_exist_kind = 3

abbrev pub exist_in_kind : ℕ
exist_in_kind = 4

abbrev pub defeasible_kind : ℕ
defeasible_kind = 5

abbrev pub query_kind : ℕ
query_kind = 6

abbrev pub strict_query_kind : ℕ
strict_query_kind = 7

-- the kind of a simple row, packed
abbrev pub kind_number : Kind → ℕ
kind_number strict = strict_kind
kind_number defeasible = defeasible_kind
kind_number query = query_kind
kind_number strict_query = strict_query_kind

-- what the fields of a row hold: the scope's kind, r, a, b and c
pub record Fields : Type 0 where
  pub kind : ℕ
  pub role : ℕ
  pub left : ℕ
  pub second : ℕ
  pub right : ℕ

abbrev pub fields_with : (kind r a b c : ℕ) → Fields
fields_with kind r a b c = record { kind = kind; role = r; left = a; second = b; right = c }

-- a field that the kind does not use is 0
abbrev pub fields_of : Row → Fields
fields_of (simple k a c) = fields_with (kind_number k) 0 a 0 c
fields_of (conj_subsumed a b c) = fields_with conj_subsumed_kind 0 a b c
fields_of (in_exist a r c) = fields_with in_exist_kind r a 0 c
fields_of (exist_in r a c) = fields_with exist_in_kind r a 0 c

abbrev pub pack_fields : Fields → ℕ
pack_fields f = packed f.kind f.role f.left f.second f.right

abbrev pub pack : Row → ℕ
pack q = pack_fields (fields_of q)

-- ---- the fields of a packed row

abbrev pub kind_of : ℕ → ℕ
kind_of w = w / 2 ^ 60

abbrev pub role_of : ℕ → ℕ
role_of w = w / 2 ^ 48 % role_size

abbrev pub a_of : ℕ → ℕ
a_of w = w / 2 ^ 32 % number_size

abbrev pub b_of : ℕ → ℕ
b_of w = w / 2 ^ 16 % number_size

abbrev pub c_of : ℕ → ℕ
c_of w = w % number_size

-- ---- what a row means

-- number 0 is everything, 1 nothing, and any other a name
abbrev pub numbered : ℕ → Concept ℕ ℕ
numbered zero = top
numbered (suc zero) = bottom
numbered (suc (suc k)) = name (suc (suc k))

abbrev pub line_of : Row → Line ℕ ℕ
line_of (simple k a c) = line k (numbered a) (numbered c)
line_of (conj_subsumed a b c) = line strict (conj (numbered a) (numbered b)) (numbered c)
line_of (in_exist a r c) = line strict (numbered a) (exist r (numbered c))
line_of (exist_in r a c) = line strict (exist r (numbered a)) (numbered c)

-- every number of the row is below N, its role below R
abbrev pub RowBelow : ℕ → ℕ → Row → Type 0
RowBelow N R (simple k a c) = (a < N) × (c < N)
RowBelow N R (conj_subsumed a b c) = (a < N) × (b < N) × (c < N)
RowBelow N R (in_exist a r c) = (a < N) × (r < R) × (c < N)
RowBelow N R (exist_in r a c) = (r < R) × (a < N) × (c < N)

-- Every number of the rows is below N, every role below R.
pub record Below (N R : ℕ) (rows : List Row) : Type 0 where
  pub each : (q : Row) → Memᴰ q rows → RowBelow N R q

-- The rows that the words of a normal form pack. `pack` alone is not injective: the bounds make the rows unique, where they fit their fields (`unpacked_unique`).
pub record Unpacked (N R : ℕ) (words : List ℕ) (rows : List Row) : Type 0 where
  pub packs : words ≡ map pack rows
  pub below : Below N R rows
