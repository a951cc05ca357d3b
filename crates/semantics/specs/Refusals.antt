-- What `classify` (the scope's settling) refuses, 11 to 18: a number and a place each, in the scope's order.
use Rattle.std.specs.Prelude.{ℕ, suc, ◌*◌, ◌≤◌, Bool, ◌&&◌, ◌||◌, not, cond, List, [], ◌∷◌, length, leb, ltb, eqb}
use Rattle.std.proofs.Math.Option.{Option, none, some}
use Rattle.semantics.specs.Limits.{number_limit, number_least, role_limit, row_limit, set_words}
use Rattle.semantics.specs.Row.{Row, strict_kind, conj_subsumed_kind, in_exist_kind, exist_in_kind, strict_query_kind, kind_of, role_of, a_of, b_of, c_of, Unpacked}

-- kinds 3 and 4 have a role, kind 2 a second left
abbrev pub has_role : ℕ → Bool
has_role kind = eqb kind in_exist_kind || eqb kind exist_in_kind

abbrev pub has_b : ℕ → Bool
has_b kind = eqb kind conj_subsumed_kind

-- ---- refusals

-- 15 a kind that is none of 1 to 7, 16 an unused field that is not 0, 17 a number not under N, 18 a role not under R
unfoldable pub fields_refusal : (N R kind r a b c : ℕ) → Option ℕ
fields_refusal N R kind r a b c =
    cond (not (leb strict_kind kind && leb kind strict_query_kind)) (some 15)
    (cond (not ((has_role kind || eqb r 0) && (has_b kind || eqb b 0))) (some 16)
    (cond (not (ltb a N && (ltb b N && ltb c N))) (some 17)
    (cond (has_role kind && not (ltb r R)) (some 18) none)))

-- the refusal of one row
abbrev pub row_refusal : ℕ → ℕ → ℕ → Option ℕ
row_refusal N R w = fields_refusal N R (kind_of w) (role_of w) (a_of w) (b_of w) (c_of w)

-- this refusal at the place i; where there is none, what comes later
abbrev pub refused_at : ℕ → Option ℕ → Option (ℕ × ℕ) → Option (ℕ × ℕ)
refused_at i (some n) later = some (n, i)
refused_at i none later = later

-- the first row that is refused, counted from i
unfoldable pub rows_refusal : ℕ → ℕ → ℕ → List ℕ → Option (ℕ × ℕ)
rows_refusal N R i [] = none
rows_refusal N R i (w ∷ ws) = refused_at i (row_refusal N R w) (rows_refusal N R (suc i) ws)

-- 11 N under its least or over its limit, 12 R over its, 13 more rows than its, 14 a lent buffer too short, then the rows.
-- `table`, `results` and `order` are the lengths of the lent buffers (the scope's work, results and roll).
unfoldable pub refusal : (N R table results order : ℕ) → List ℕ → Option (ℕ × ℕ)
refusal N R table results order rows =
    cond (ltb N number_least || ltb number_limit N) (some (11, 0))
    (cond (ltb role_limit R) (some (12, 0))
    (cond (ltb row_limit (length rows)) (some (13, 0))
    (cond (ltb table (set_words * N) || (ltb results (length rows) || ltb order (length rows))) (some (14, 0))
    (rows_refusal N R 0 rows))))

-- What is accepted, without the tests: everything is within its limit, and the words pack rows. By `accepted_decides` it is exactly what `refusal` lets pass.
pub record DeckWithinLimits (N R table results order : ℕ) (words : List ℕ) : Type 0 where
  pub numbers : (number_least ≤ N) × (N ≤ number_limit)
  pub roles : R ≤ role_limit
  pub few_rows : length words ≤ row_limit
  pub table_lent : set_words * N ≤ table
  pub results_lent : length words ≤ results
  pub order_lent : length words ≤ order
  pub rows : List Row
  pub unpacked : Unpacked N R words rows
