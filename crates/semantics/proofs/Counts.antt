-- The rows of the normal form have numbers and roles below the counts that compiling returns, and their own count is the lines', three for each conjunction and two for each existential.
-- Assumes nothing.
use Prim.Native.Nat.{ℕ, suc, ◌+◌, ◌<◌, ◌≤◌}
use native.Mathlib.Omega.{arith}
use mathlib.Core.Path.{◌≡◌, refl, sym, ap, subst}
use mathlib.Core.Option.{Option, none, some}
use mathlib.Core.List.Memᴰ
use mathlib.Core.List.{List, [], ◌∷◌, ◌++◌, Memᴰ}
use mathlib.Core.Logic.{inl, inr}
use lib.ListN.{length, length-append}
use Rattle.semantics.specs.Concept.{Concept, top, bottom, name, conj, exist}
use Rattle.semantics.specs.Closure.{strict, Line, line, left_of, right_of}
use Rattle.semantics.specs.Row.{Row, simple, conj_subsumed, in_exist, exist_in, RowBelow, Below}
use Rattle.semantics.specs.Source.{Word}
use Rattle.semantics.specs.Numbering.{same_word, Names, no_names, Numbered, lookup, number_word, place_of, number_role, number_taken, number_concept, own_row, NumberedLines, number_lines, normal_rows}
use Rattle.semantics.proofs.Tests.{cases}
use Rattle.semantics.proofs.Lookup.{place_below}

-- ---- rows below counts

row_grows : {N M R S : ℕ} (q : Row) → N ≤ M → R ≤ S → RowBelow N R q → RowBelow M S q
row_grows (simple k a c) n r f = omega (arith, f.0, f.1)
row_grows (conj_subsumed a b c) n r f = omega (arith, f.0, f.1, f.2)
row_grows (in_exist a s c) n r f = omega (arith, f.0, f.1, f.2)
row_grows (exist_in s a c) n r f = omega (arith, f.0, f.1, f.2)

module _ {N R : ℕ} where
  below_none : Below N R []
  below_none = record { each = λ q i. absurd (Memᴰ.not-nil i) }

  below_more : {p : Row} {rows : List Row} → RowBelow N R p → Below N R rows → Below N R (p ∷ rows)
  below_more {p} {rows} f fs = record { each = go }
    where
      go : (q : Row) → Memᴰ q (p ∷ rows) → RowBelow N R q
      go q (Memᴰ.head e) = subst (RowBelow N R) (sym e) f
      go q (Memᴰ.tail i) = fs.each q i

  below_both : {rows more : List Row} → Below N R rows → Below N R more → Below N R (rows ++ more)
  below_both {rows} f g = record { each = λ q i. elim (Memᴰ.append_cases rows i) [ inl j ↦ f.each q j | inr j ↦ g.each q j ] }

  below_grows : {M S : ℕ} {rows : List Row} → N ≤ M → R ≤ S → Below N R rows → Below M S rows
  below_grows n r f = record { each = λ q i. row_grows q n r (f.each q i) }

-- ---- what is read so far

abbrev role_count : Names → ℕ
role_count n = length n.roles

record Fine (n : Names) : Type 0 where
  two : 1 < n.next
  words : (w : Word) (x : ℕ) → lookup w n.words ≡ some x → x < n.next

record Onward (n m : Names) : Type 0 where
  fine : Fine m
  next : n.next ≤ m.next
  roles : role_count n ≤ role_count m

onward_trans : {n m k : Names} → Onward n m → Onward m k → Onward n k
onward_trans {n} {m} {k} a b = record { fine = b.fine; next = omega (arith, a.next, b.next); roles = omega (arith, a.roles, b.roles) }

onward_taken : {n : Names} → Fine n → Onward n (number_taken n)
onward_taken f = record { fine = record { two = omega (arith, f.two); words = λ w x e. omega (arith, f.words w x e) }; next = omega arith; roles = omega arith }

-- a concept's number and rows, where it has been read
record ConceptCounted (n : Names) (m : Numbered) : Type 0 where
  onward : Onward n m.after
  number : m.number < m.after.next
  rows : Below m.after.next (role_count m.after) m.rows

read_word : (w : Word) (n : Names) (o : Option ℕ) → lookup w n.words ≡ o → Fine n → ConceptCounted n (number_word w n o)
unfolding lookup
read_word w n (some x) e f = record { onward = record { fine = f; next = omega arith; roles = omega arith }; number = f.words w x e; rows = below_none }
read_word w n none e f = record { onward = record { fine = record { two = omega (arith, f.two); words = new }; next = omega arith; roles = omega arith }; number = omega arith; rows = below_none }
  where
    new : (v : Word) (x : ℕ) → lookup v ((w, n.next) ∷ n.words) ≡ some x → x < n.next + 1
    new v x h = cases (same_word v w)
        (λ s. let q : n.next ≡ x = cc in omega arith)
        (λ s. omega (arith, f.words v x (rw s at h)))

read_role : (w : Word) (n : Names) (o : Option ℕ) → place_of w n.roles ≡ o → Fine n → Onward n (number_role w n o).1 × ((number_role w n o).0 < role_count (number_role w n o).1)
read_role w n (some r) e f = (record { fine = f; next = omega arith; roles = omega arith }, place_below w n.roles r e)
read_role w n none e f =
    let l = length-append n.roles (w ∷ []) in
    (record { fine = record { two = f.two; words = f.words }; next = omega arith; roles = omega (arith, l) }, omega (arith, l))

read_conj : {n : Names} (c d : Numbered) → Fine n → ConceptCounted (number_taken n) c → ConceptCounted c.after d →
    ConceptCounted n (record {
      number = n.next;
      rows = simple strict n.next c.number ∷ simple strict n.next d.number ∷ conj_subsumed c.number d.number n.next ∷ c.rows ++ d.rows;
      after = d.after;
    })
read_conj {n} c d f rc rd =
    let x : n.next < d.after.next = omega (arith, rc.onward.next, rd.onward.next) in
    let y : c.number < d.after.next = omega (arith, rc.number, rd.onward.next) in
    record {
      onward = onward_trans (onward_taken f) (onward_trans rc.onward rd.onward);
      number = x;
      rows = below_more (x, y) (below_more (x, rd.number) (below_more (y, rd.number, x)
          (below_both (below_grows rd.onward.next rd.onward.roles rc.rows) rd.rows)));
    }

read_exist : {n : Names} (r : ℕ × Names) (c : Numbered) → Fine n → Onward (number_taken n) r.1 → r.0 < role_count r.1 → ConceptCounted r.1 c →
    ConceptCounted n (record { number = n.next; rows = in_exist n.next r.0 c.number ∷ exist_in r.0 c.number n.next ∷ c.rows; after = c.after })
read_exist {n} r c f on lt rc =
    let x : n.next < c.after.next = omega (arith, on.next, rc.onward.next) in
    let s : r.0 < role_count c.after = omega (arith, rc.onward.roles) in
    record {
      onward = onward_trans (onward_taken f) (onward_trans on rc.onward);
      number = x;
      rows = below_more (x, s, rc.number) (below_more (s, rc.number, x) rc.rows);
    }

read_concept_lem : (C : Concept Word Word) (n : Names) → Fine n → ConceptCounted n (number_concept C n)
unfolding number_concept
read_concept_lem top n f = record { onward = record { fine = f; next = omega arith; roles = omega arith }; number = omega (arith, f.two); rows = below_none }
read_concept_lem bottom n f = record { onward = record { fine = f; next = omega arith; roles = omega arith }; number = f.two; rows = below_none }
read_concept_lem (name w) n f = read_word w n (lookup w n.words) refl f
read_concept_lem (conj C D) n f =
    let c = number_concept C (number_taken n) in
    let rc = read_concept_lem C (number_taken n) (onward_taken f).fine in
    read_conj c (number_concept D c.after) f rc (read_concept_lem D c.after rc.onward.fine)
read_concept_lem (exist w C) n f =
    let r = number_role w (number_taken n) (place_of w n.roles) in
    let on = read_role w (number_taken n) (place_of w n.roles) refl (onward_taken f).fine in
    read_exist r (number_concept C r.1) f on.0 on.1 (read_concept_lem C r.1 on.0.fine)

-- ---- lines

record ReadLines (n : Names) (m : NumberedLines) : Type 0 where
  onward : Onward n m.after
  line_rows : Below m.after.next (role_count m.after) m.line_rows
  definitions : Below m.after.next (role_count m.after) m.definitions

row_below : (N R : ℕ) {a c : ℕ} (l : Line Word Word) → a < N → c < N → RowBelow N R (own_row l a c)
row_below N R (line k C D) a c = (a, c)

read_lines_lem : (ls : List (Line Word Word)) (n : Names) → Fine n → ReadLines n (number_lines ls n)
unfolding number_lines
read_lines_lem [] n f = record { onward = record { fine = f; next = omega arith; roles = omega arith }; line_rows = below_none; definitions = below_none }
read_lines_lem (l ∷ ls) n f =
    let c = read_concept_lem (left_of l) n f in
    let c' = number_concept (left_of l) n in
    let d = read_concept_lem (right_of l) c'.after c.onward.fine in
    let d' = number_concept (right_of l) c'.after in
    let r = read_lines_lem ls d'.after d.onward.fine in
    let r' = number_lines ls d'.after in
    let a : c'.number < r'.after.next = omega (arith, c.number, d.onward.next, r.onward.next) in
    let b : d'.number < r'.after.next = omega (arith, d.number, r.onward.next) in
    record {
      onward = onward_trans c.onward (onward_trans d.onward r.onward);
      line_rows = below_more (row_below r'.after.next (role_count r'.after) l a b) r.line_rows;
      definitions = below_both (below_grows (omega (arith, d.onward.next, r.onward.next)) (omega (arith, d.onward.roles, r.onward.roles)) c.rows)
          (below_both (below_grows r.onward.next r.onward.roles d.rows) r.definitions);
    }

fine_none : Fine no_names
unfolding lookup
fine_none = record { two = omega arith; words = λ w x e. let z : ◌≡◌ {A = ℕ} 0 1 = cc in absurd (omega arith) }

-- Every number is below the count of numbers, and every role below the count of roles.
pub normal_below : (lines : List (Line Word Word)) → Below (number_lines lines no_names).after.next (length (number_lines lines no_names).after.roles) (normal_rows lines)
normal_below lines =
    let r = read_lines_lem lines no_names fine_none in
    below_both r.line_rows r.definitions

pub numbers_two : (lines : List (Line Word Word)) → 1 < (number_lines lines no_names).after.next
numbers_two lines = (read_lines_lem lines no_names fine_none).onward.fine.two

-- ---- the count of rows

-- the definition rows of a concept
unfoldable pub weight : Concept Word Word → ℕ
weight top = 0
weight bottom = 0
weight (name w) = 0
weight (conj C D) = 3 + (weight C + weight D)
weight (exist r C) = 2 + weight C

unfoldable pub weights : List (Line Word Word) → ℕ
weights [] = 0
weights (l ∷ ls) = weight (left_of l) + (weight (right_of l) + weights ls)

word_rows : (w : Word) (n : Names) (o : Option ℕ) → length (number_word w n o).rows ≡ 0
word_rows w n none = refl
word_rows w n (some x) = refl

concept_rows : (C : Concept Word Word) (n : Names) → length (number_concept C n).rows ≡ weight C
unfolding number_concept weight
concept_rows top n = refl
concept_rows bottom n = refl
concept_rows (name w) n = word_rows w n (lookup w n.words)
concept_rows (conj C D) n =
    let c = number_concept C (number_taken n) in
    let d = number_concept D c.after in
    omega (arith, length-append c.rows d.rows, concept_rows C (number_taken n), concept_rows D c.after)
concept_rows (exist w C) n = omega (arith, concept_rows C (number_role w (number_taken n) (place_of w n.roles)).1)

lines_rows : (ls : List (Line Word Word)) (n : Names) → (length (number_lines ls n).line_rows ≡ length ls) × (length (number_lines ls n).definitions ≡ weights ls)
unfolding number_lines weights
lines_rows [] n = (refl, refl)
lines_rows (l ∷ ls) n =
    let c = number_concept (left_of l) n in
    let d = number_concept (right_of l) c.after in
    let r = lines_rows ls d.after in
    let rest = number_lines ls d.after in
    let defined = length-append c.rows (d.rows ++ rest.definitions) in
    let right-defined = length-append d.rows rest.definitions in
    (ap suc r.0, omega (arith, defined, right-defined, concept_rows (left_of l) n, concept_rows (right_of l) c.after, r.1))

pub normal_length : (lines : List (Line Word Word)) → length (normal_rows lines) ≡ length lines + weights lines
normal_length lines =
    let m = number_lines lines no_names in
    let r = lines_rows lines no_names in
    omega (arith, length-append m.line_rows m.definitions, r.0, r.1)
