-- Compiling on lines: the numbers that words and occurrences take, reading left to right, and the rows of the normal form.
use Rattle.std.specs.Prelude.{ℕ, suc, ◌+◌, Bool, true, false, ◌&&◌, cond, List, [], ◌∷◌, ◌++◌, length, eqb}
use Rattle.std.proofs.Math.Option.{Option, none, some, map}
use Rattle.semantics.specs.Limits.{number_least}
use Rattle.semantics.specs.Concept.{Concept, top, bottom, name, conj, exist}
use Rattle.semantics.specs.Closure.{strict, Line, line, left_of, right_of}
use Rattle.semantics.specs.Row.{Row, simple, conj_subsumed, in_exist, exist_in}
use Rattle.semantics.specs.Source.{Word}

unfoldable pub same_word : Word → Word → Bool
same_word [] [] = true
same_word [] (b ∷ v) = false
same_word (a ∷ u) [] = false
same_word (a ∷ u) (b ∷ v) = eqb a b && same_word u v

-- What has been read so far.
pub record Names : Type 0 where
  pub next : ℕ  -- the number that is taken next; 0 and 1 are everything and nothing
  pub words : List (Word × ℕ)  -- the concept names and their numbers
  pub roles : List Word  -- the role names; a role's number is its place

abbrev pub no_names : Names
no_names = record { next = number_least; words = []; roles = [] }

-- a concept's number, the rows that define its parts, in the order of their first bytes, and what has then been read
pub record Numbered : Type 0 where
  pub number : ℕ
  pub rows : List Row
  pub after : Names

unfoldable pub lookup : Word → List (Word × ℕ) → Option ℕ
lookup w [] = none
lookup w (e ∷ es) = cond (same_word w e.0) (some e.1) (lookup w es)

abbrev pub number_word : Word → Names → Option ℕ → Numbered
number_word w n (some x) = record { number = x; rows = []; after = n }
number_word w n none =
    record {
      number = n.next;
      rows = [];
      after = record { next = n.next + 1; words = (w, n.next) ∷ n.words; roles = n.roles };
    }

unfoldable pub place_of : Word → List Word → Option ℕ
place_of w [] = none
place_of w (v ∷ vs) = cond (same_word w v) (some 0) (map suc (place_of w vs))

-- a role's number, and what has then been read
abbrev pub number_role : Word → Names → Option ℕ → ℕ × Names
number_role w n (some r) = (r, n)
number_role w n none = (length n.roles, record { next = n.next; words = n.words; roles = n.roles ++ w ∷ [] })

-- the next number is taken, by an occurrence of & or /
abbrev pub number_taken : Names → Names
number_taken n = record { next = n.next + 1; words = n.words; roles = n.roles }

unfoldable pub number_concept : Concept Word Word → Names → Numbered
number_concept top n = record { number = 0; rows = []; after = n }
number_concept bottom n = record { number = 1; rows = []; after = n }
number_concept (name w) n = number_word w n (lookup w n.words)
number_concept (conj C D) n =
    let c = number_concept C (number_taken n) in
    let d = number_concept D c.after in
    record {
      number = n.next;
      rows =
          simple strict n.next c.number ∷ simple strict n.next d.number ∷ conj_subsumed c.number d.number n.next ∷ c.rows ++ d.rows;
      after = d.after;
    }
number_concept (exist w C) n =
    let r = number_role w (number_taken n) (place_of w n.roles) in
    let c = number_concept C r.1 in
    record {
      number = n.next;
      rows = in_exist n.next r.0 c.number ∷ exist_in r.0 c.number n.next ∷ c.rows;
      after = c.after;
    }

-- a line's own row, over its sides' numbers
abbrev pub own_row : Line Word Word → ℕ → ℕ → Row
own_row (line k C D) a c = simple k a c

pub record NumberedLines : Type 0 where
  pub line_rows : List Row
  pub definitions : List Row
  pub after : Names

unfoldable pub number_lines : List (Line Word Word) → Names → NumberedLines
number_lines [] n = record { line_rows = []; definitions = []; after = n }
number_lines (l ∷ ls) n =
    let c = number_concept (left_of l) n in
    let d = number_concept (right_of l) c.after in
    let rest = number_lines ls d.after in
    record {
      line_rows = own_row l c.number d.number ∷ rest.line_rows;
      definitions = c.rows ++ (d.rows ++ rest.definitions);
      after = rest.after;
    }

-- the rows of the normal form: each line's own, then the definitions in the order of their first bytes
abbrev pub normal_rows : List (Line Word Word) → List Row
normal_rows ls = let m = number_lines ls no_names in m.line_rows ++ m.definitions
