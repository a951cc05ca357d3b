-- The key of a settled text as it is written. Only inner functions cite it; nobody has to believe it.
--     reply_to     what a key says to a line, by its row's kind and its result
--     key_bytes    the key of lines, by their rows and results
--     key_of       the key of the first lines
use Rattle.std.specs.Prelude.{ℕ, true, ◌||◌, cond, List, [], ◌∷◌, ◌++◌, get_or, take, drop, eqb, leb}
use Rattle.semantics.specs.Closure.{yes_bit}
use Rattle.semantics.specs.Row.{query_kind, strict_query_kind, kind_of}
use Rattle.sheets.specs.Sheets.{answer_byte}

abbrev pub reply_to : (kind result : ℕ) → List ℕ
reply_to kind result = cond (eqb kind query_kind || eqb kind strict_query_kind) (answer_byte (leb (yes_bit true) result) ∷ []) []

unfoldable pub key_bytes : (words results : List ℕ) → List ℕ
key_bytes [] results = []
key_bytes (w ∷ words) results = reply_to (kind_of w) (get_or results 0 0) ++ key_bytes words (drop 1 results)

abbrev pub key_of : (lines : ℕ) (words results : List ℕ) → List ℕ
key_of lines words results = key_bytes (take lines words) results
