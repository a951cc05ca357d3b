-- How lines and a whole text are read.
--     read_line       a line
--     read_lines      all lines, each with its own row
--     definitions_to  the definition rows of the numbers given out
--     read_text       a text, with every refusal of its author
--     TextRead        what `read_text` promises
use Rattle.std.specs.Prelude.{ℕ, zero, suc, ◌+◌, ◌-◌, ◌≡◌, cond, List, [], ◌∷◌, ◌++◌, map, length, get_or, take, drop, leb, ltb, eqb, Option, Some, None, Ok, Err}
use Rattle.semantics.specs.Closure.{strict, defeasible, query, strict_query}
use Rattle.semantics.specs.Source.{letter_byte}
use Rattle.semantics.specs.Limits.{text_limit, depth_limit, number_least, row_limit}
use Rattle.semantics.specs.Row.{Row, simple, conj_subsumed, in_exist, exist_in, kind_number, pack}
use Rattle.semantics.specs.Decoding.{kind_numbered}
use Rattle.refusal.specs.declared.Refusal.TheVariants.{SyntaxError, TextTooLong, TooManyRows}
use Rattle.words.specs.Bytes.{byte_at, is_line_end}
use Rattle.chains.specs.declared.Sort.TheVariants.{Concepts}
use Rattle.names.specs.Names.{no_numbers, ended, refuse, read_to, and_then}
use Rattle.forms.specs.Opened.{after_space, number_form}
use Rattle.concepts.specs.Reader.{read_sides, read_concept}
use Rattle.forms.specs.declared.Form.{Form}
use Rattle.forms.specs.declared.Form.TheVariants.{Top, Bottom, Name, Conjunction, Existential}
use Rattle.names.specs.State.{State, Ending, next_concept, Step}

-- ---- a line

-- the kind of a line's own row, by its letter; 0 for no letter
unfoldable pub line_kind : ℕ → ℕ
line_kind b =
    cond (eqb b (letter_byte strict)) (kind_number strict)
    (cond (eqb b (letter_byte defeasible)) (kind_number defeasible) (cond (eqb b (letter_byte query)) (kind_number query) (cond (eqb b (letter_byte strict_query)) (kind_number strict_query) 0)))

-- the letter of a line: the kind of the line's own row, and where the letter ends
unfoldable pub read_letter : List ℕ → ℕ → Step
read_letter text at = cond (eqb (line_kind (byte_at text at)) 0) (Err record { why = SyntaxError; place = at }) (Ok (line_kind (byte_at text at), at + 1))

-- the line at `at`: the kind of its row, and where the next line starts; its sides are the left and the right of number 0
unfoldable pub read_line : List ℕ → State → ℕ → Ending
read_line text names at =
    and_then (ended names (read_letter text at)) λ names kind next.
    after_space text names next λ start.
    and_then (read_sides (read_concept depth_limit text) text names start 0) λ names number end.
    cond (is_line_end (byte_at text end)) (read_to names kind (end + 1)) (refuse names SyntaxError end)

-- ---- all lines

-- the row of the line that was read last
abbrev pub line_row : State → ℕ → Row
line_row names kind = simple (kind_numbered kind) (get_or names.lefts 0 0) (get_or names.rights 0 0)

-- The rows of the lines that were read, and how the reading ended: with the count of lines, or with a refusal.
pub record RowsRead : Type 0 where
  pub rows : List Row
  pub reading : Ending

abbrev pub one_more : Row → RowsRead → RowsRead
one_more row rest = record { rows = row ∷ rest.rows; reading = rest.reading }

unfoldable pub onward_lines : Step → Ending → (State → ℕ → ℕ → RowsRead) → RowsRead
onward_lines (Ok (kind, next)) r more = one_more (line_row r.names kind) (more r.names kind next)
onward_lines (Err refused) r more = record { rows = []; reading = r }

-- the lines from `at` on, after `lines` lines; each has at least a byte, so as many steps as bytes are enough
unfoldable pub read_lines : ℕ → List ℕ → State → ℕ → ℕ → RowsRead
read_lines zero text names at lines = record { rows = []; reading = read_to names lines at }
read_lines (suc steps) text names at lines =
    cond (leb (length text) at) (record { rows = []; reading = read_to names lines at })
    (onward_lines (read_line text names at).step (read_line text names at) λ names kind next. read_lines steps text names next (lines + 1))

-- ---- definition rows

-- the rows of an & or a / over its number, its left and its right; nothing else has any
abbrev pub form_rows : Option Form → ℕ → ℕ → ℕ → List Row
form_rows (Some Conjunction) x l r = simple strict x l ∷ simple strict x r ∷ conj_subsumed l r x ∷ []
form_rows (Some Existential) x l r = in_exist x l r ∷ exist_in l r x ∷ []
form_rows (Some Top) x l r = []
form_rows (Some Bottom) x l r = []
form_rows (Some Name) x l r = []
form_rows None x l r = []

-- what number x stands for
abbrev pub form_of_number : List ℕ → State → ℕ → Option Form
form_of_number text names x = number_form text (get_or (names.lists Concepts).starts x 0) (get_or (names.lists Concepts).lengths x 0)

-- the definition rows of number x
unfoldable pub definitions_of : List ℕ → State → ℕ → List Row
definitions_of text names x = form_rows (form_of_number text names x) x (get_or names.lefts x 0) (get_or names.rights x 0)

-- the definition rows of the first k numbers after 0 and 1
unfoldable pub definitions_to : List ℕ → State → ℕ → List Row
definitions_to text names zero = []
definitions_to text names (suc k) = definitions_to text names k ++ definitions_of text names (k + number_least)

abbrev pub definitions : List ℕ → State → List Row
definitions text names = definitions_to text names (next_concept names - number_least)

-- ---- a text

unfoldable pub within_rows : List ℕ → Ending → Ending
within_rows text r =
    and_then r λ names lines end.
    cond (ltb row_limit (lines + length (definitions text names))) (refuse names TooManyRows end) (read_to names lines end)

unfoldable pub read_text : List ℕ → RowsRead
read_text text =
    cond (ltb text_limit (length text)) (record { rows = []; reading = refuse no_numbers TextTooLong 0 })
    (let read = read_lines (length text) text no_numbers 0 0 in record { rows = read.rows; reading = within_rows text read.reading })

-- the words, as far as there is room, and behind them what was there
abbrev pub overlaid : List ℕ → List ℕ → List ℕ
overlaid words before = take (length before) (words ++ drop (length words) before)

-- `read_text`: the reading, and the rows of the lines that were read.
pub record TextRead (text before after : List ℕ) (r : Ending) : Type 0 where
  pub reading : r ≡ (read_text text).reading
  pub rows : after ≡ overlaid (map pack (read_text text).rows) before
