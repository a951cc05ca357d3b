-- The kind with a given number, and the row with given fields. Inner functions that read packed rows cite them, and the reader of source texts the kind
-- (crates/source/specs/Lines.antt); nobody has to believe them.
--     kind_numbered   the kind with a number
--     row_with        the row
use Rattle.std.specs.Prelude.{ℕ, cond, eqb}
use Rattle.semantics.specs.Closure.{Kind, strict, defeasible, query, strict_query}
use Rattle.semantics.specs.Row.{Row, simple, conj_subsumed, in_exist, exist_in, conj_subsumed_kind, in_exist_kind, exist_in_kind, defeasible_kind, query_kind, strict_query_kind}

-- a number that is no kind's is read as that of `strict`
unfoldable pub kind_numbered : ℕ → Kind
kind_numbered n =
    cond (eqb n defeasible_kind) defeasible (cond (eqb n query_kind) query (cond (eqb n strict_query_kind) strict_query strict))

unfoldable pub row_with : (kind r a b c : ℕ) → Row
row_with kind r a b c =
    cond (eqb kind conj_subsumed_kind) (conj_subsumed a b c) (cond (eqb kind in_exist_kind) (in_exist a r c) (cond (eqb kind exist_in_kind) (exist_in r a c) (simple (kind_numbered kind) a c)))
