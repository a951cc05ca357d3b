-- The marked books are acceptable: each is parsed to lines, and tests of every limit, computed over the list, hold of these.
-- Assumes nothing.
use Prim.Native.Nat.{◌≤◌}
use mathlib.Core.Path.{◌≡◌, refl, sym, subst}
use mathlib.Core.Bool.{Bool, true, ◌&&◌}
use mathlib.Core.List.Memᴰ
use mathlib.Core.List.{List, [], ◌∷◌, map, Memᴰ}
use lib.ListN.{length}
use lib.Dec.{leb}
use borrow.Author.Tests.{leb-true}
use Rattle.semantics.specs.Concept.{Concept, top, bottom, name, conj, exist}
use Rattle.semantics.specs.Closure.{Line, left_of, right_of}
use Rattle.semantics.specs.Examples.{bytes, Example, marked}
use Rattle.semantics.specs.Limits.{text_limit, word_limit, depth_limit, number_limit, role_limit, row_limit}
use Rattle.semantics.specs.Numbering.{same_word, lookup, place_of, number_concept, number_lines, normal_rows}
use Rattle.semantics.specs.Source.{Word}
use Rattle.semantics.proofs.Examples.{marked_parsed}
use Rattle.semantics.proofs.Letters.{kind_with}
use Rattle.semantics.proofs.Parse.{parse_word, parse_concept, parse_lines, parse}
use Rattle.semantics.proofs.Tests.{both}
use Rattle.grammar.specs.Accepted.{TextAcceptable}
use Rattle.grammar.specs.Limits.{depth, ShortWords, names_after}

-- ---- the limits, as tests

short_in : Concept Word Word → Bool
short_in top = true
short_in bottom = true
short_in (name w) = leb (length w) word_limit
short_in (conj C D) = short_in C && short_in D
short_in (exist r C) = leb (length r) word_limit && short_in C

short_in_lem : (C : Concept Word Word) → short_in C ≡ true → ShortWords word_limit C
unfolding short_in
short_in_lem top h = tt
short_in_lem bottom h = tt
short_in_lem (name w) h = leb-true (length w) word_limit h
short_in_lem (conj C D) h = let t = both (short_in C) (short_in D) h in (short_in_lem C t.0, short_in_lem D t.1)
short_in_lem (exist r C) h = let t = both (leb (length r) word_limit) (short_in C) h in (leb-true (length r) word_limit t.0, short_in_lem C t.1)

side_fits : Concept Word Word → Bool
side_fits C = short_in C && leb (depth C) depth_limit

lines_fit : List (Line Word Word) → Bool
lines_fit [] = true
lines_fit (l ∷ ls) = (side_fits (left_of l) && side_fits (right_of l)) && lines_fit ls

line_fits : (ls : List (Line Word Word)) → lines_fit ls ≡ true → (l : Line Word Word) → Memᴰ l ls → (side_fits (left_of l) ≡ true) × (side_fits (right_of l) ≡ true)
unfolding lines_fit
line_fits [] h l m = absurd (Memᴰ.not-nil m)
line_fits (k ∷ ls) h l (Memᴰ.head e) =
    let t = (both (side_fits (left_of k) && side_fits (right_of k)) (lines_fit ls) h).0 in
    subst (λ l. (side_fits (left_of l) ≡ true) × (side_fits (right_of l) ≡ true)) (sym e) (both (side_fits (left_of k)) (side_fits (right_of k)) t)
line_fits (k ∷ ls) h l (Memᴰ.tail m) = line_fits ls (both (side_fits (left_of k) && side_fits (right_of k)) (lines_fit ls) h).1 l m

side_short : (C : Concept Word Word) → side_fits C ≡ true → ShortWords word_limit C
unfolding side_fits
side_short C h = short_in_lem C (both (short_in C) (leb (depth C) depth_limit) h).0

side_shallow : (C : Concept Word Word) → side_fits C ≡ true → depth C ≤ depth_limit
unfolding side_fits
side_shallow C h = leb-true (depth C) depth_limit (both (short_in C) (leb (depth C) depth_limit) h).1

-- ---- a book, by all of them

counts_fit : List (Line Word Word) → Bool
counts_fit lines = leb (names_after lines).next number_limit && (leb (length (names_after lines).roles) role_limit && leb (length (normal_rows lines)) row_limit)

fits : Example → Bool
fits e = let lines = parse (bytes e.text) in (lines_fit lines && counts_fit lines) && leb (length (bytes e.text)) text_limit

all_fit : map fits marked ≡ map (λ e. true) marked
unfolding fits counts_fit lines_fit side_fits short_in depth parse_word parse_concept parse_lines kind_with same_word lookup place_of number_concept number_lines
all_fit = refl

fits_acceptable : (e : Example) → Memᴰ e marked → fits e ≡ true → TextAcceptable (bytes e.text)
unfolding fits counts_fit
fits_acceptable e m h =
    let lines = parse (bytes e.text) in
    let (h', short) = both (lines_fit lines && counts_fit lines) (leb (length (bytes e.text)) text_limit) h in
    let (each, counts) = both (lines_fit lines) (counts_fit lines) h' in
    let (numbers, more) = both (leb (names_after lines).next number_limit) (leb (length (names_after lines).roles) role_limit && leb (length (normal_rows lines)) row_limit) counts in
    let (roles, rows) = both (leb (length (names_after lines).roles) role_limit) (leb (length (normal_rows lines)) row_limit) more in
    record {
      lines = lines;
      reads = marked_parsed e m;
      within = record {
        within = record {
          short = λ l i. let t = line_fits lines each l i in (side_short (left_of l) t.0, side_short (right_of l) t.1);
          shallow = λ l i. let t = line_fits lines each l i in (side_shallow (left_of l) t.0, side_shallow (right_of l) t.1);
          numbers = leb-true (names_after lines).next number_limit numbers;
          roles = leb-true (length (names_after lines).roles) role_limit roles;
        };
        rows = leb-true (length (normal_rows lines)) row_limit rows;
        bytes = leb-true (length (bytes e.text)) text_limit short;
      };
    }

each_fits : (es : List Example) → map fits es ≡ map (λ e. true) es → (e : Example) → Memᴰ e es → fits e ≡ true
each_fits (d ∷ es) h e (Memᴰ.head q) = let own : fits d ≡ true = cc in subst (λ e. fits e ≡ true) (sym q) own
each_fits (d ∷ es) h e (Memᴰ.tail m) = let rest : map fits es ≡ map (λ e. true) es = cc in each_fits es rest e m
each_fits [] h e x'' = elim x'' [ ]

-- Each of P1 to P9 is the text of lines, within every limit.
pub marked_acceptable : (e : Example) → Memᴰ e marked → TextAcceptable (bytes e.text)
marked_acceptable e m = fits_acceptable e m (each_fits marked all_fit e m)
