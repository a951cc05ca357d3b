-- Classifying gets the rows that compiling wrote: they are not refused, and what is found on them holds of the text's own lines.
-- Assumes nothing.
use Prim.Native.Nat.{ℕ, suc, ◌*◌, ◌<◌, ◌≤◌}
use native.Mathlib.Omega.{arith}
use mathlib.Core.Path.{◌≡◌, refl, ◌∙◌, ap, subst}
use mathlib.Core.Option.{none, Option, some}
use mathlib.Core.Bool.{◌&&◌, not, cond}
use mathlib.Core.List.{List, [], ◌∷◌, map}
use lib.ListN.{length, take, drop, length-map}
use lib.Dec.{ltb}
use borrow.Author.Tests.{lt-ltb}
use Rattle.semantics.specs.Closure.{Line, RationalClosure, yes_count}
use Rattle.semantics.specs.Row.{Row, simple, conj_subsumed, in_exist, exist_in, line_of, RowBelow, Below, Unpacked}
use Rattle.semantics.specs.Row.{role_size, number_size, Fields, fields_of, pack_fields, pack, kind_of, role_of, a_of, b_of, c_of}
use Rattle.semantics.specs.Refusals.{fields_refusal, row_refusal, rows_refusal, DeckWithinLimits}
use Rattle.semantics.specs.Limits.{number_limit, role_limit, row_limit, set_words}
use Rattle.semantics.specs.Source.{Word}
use Rattle.semantics.specs.Numbering.{no_names, number_lines, normal_rows}
use Rattle.semantics.proofs.RowKinds.{each_number}
use Rattle.semantics.proofs.Transport.{zeros_for}
use Rattle.semantics.proofs.NormalForm.{definition_rows, normal_form_reads, normal_form_yes}
use Rattle.semantics.proofs.Counts.{normal_below, numbers_two}
use Rattle.semantics.proofs.Packing.{FieldsSmall, row_small, below_first, below_others, unpacked_unique}

-- ---- the fields of a packed word

record FieldsAre (w : ℕ) (f : Fields) : Type 0 where
  kinds : kind_of w ≡ f.kind
  roles : role_of w ≡ f.role
  lefts : a_of w ≡ f.left
  seconds : b_of w ≡ f.second
  rights : c_of w ≡ f.right

packed_fields : (f : Fields) → FieldsSmall f → FieldsAre (pack_fields f) f
packed_fields f h = record {
  kinds = omega (arith, h);
  roles = omega (arith, h);
  lefts = omega (arith, h);
  seconds = omega (arith, h);
  rights = omega (arith, h);
}

-- the kind of a packed row
pub packed_kind : {N R : ℕ} → N ≤ number_size → R ≤ role_size → (q : Row) → RowBelow N R q → kind_of (pack q) ≡ (fields_of q).kind
packed_kind n m q h = (packed_fields (fields_of q) (row_small n m q h)).kinds

-- ---- rows within their bounds are not refused

abbrev refusal_of : ℕ → ℕ → Fields → Option ℕ
refusal_of N R f = fields_refusal N R f.kind f.role f.left f.second f.right

fields_refusal_lem : (N R : ℕ) {w : ℕ} {f : Fields} → FieldsAre w f → row_refusal N R w ≡ refusal_of N R f
fields_refusal_lem N R e = rw (e.kinds, e.roles, e.lefts, e.seconds, e.rights)

fields_accepted : (N R : ℕ) → 0 < N → (q : Row) → RowBelow N R q → refusal_of N R (fields_of q) ≡ none
unfolding fields_refusal
fields_accepted N R z (simple k a c) h = each_number (λ n. fields_refusal N R n 0 a 0 c ≡ none) fits fits fits fits k
  where
    fits : cond {A = Option ℕ} (not (ltb a N && (ltb 0 N && ltb c N))) (some 17) none ≡ none
    fits = rw (lt-ltb a N h.0, lt-ltb 0 N z, lt-ltb c N h.1)
fields_accepted N R z (conj_subsumed a b c) h = rw (lt-ltb a N h.0, lt-ltb b N h.1, lt-ltb c N h.2)
fields_accepted N R z (in_exist a r c) h = rw (lt-ltb a N h.0, lt-ltb 0 N z, lt-ltb c N h.2, lt-ltb r R h.1)
fields_accepted N R z (exist_in r a c) h = rw (lt-ltb a N h.1, lt-ltb 0 N z, lt-ltb c N h.2, lt-ltb r R h.0)

pub row_accepted : {N R : ℕ} → 0 < N → N ≤ number_size → R ≤ role_size → (q : Row) → RowBelow N R q → row_refusal N R (pack q) ≡ none
row_accepted {N} {R} z n m q h = fields_refusal_lem N R (packed_fields (fields_of q) (row_small n m q h)) ∙ fields_accepted N R z q h

rows_accepted : {N R : ℕ} → 0 < N → N ≤ number_size → R ≤ role_size → (i : ℕ) (rows : List Row) → Below N R rows → rows_refusal N R i (map pack rows) ≡ none
unfolding rows_refusal
rows_accepted z n m i [] h = refl
rows_accepted z n m i (q ∷ rows) h = rw (row_accepted z n m q (below_first h)) (rows_accepted z n m (suc i) rows (below_others h))

pub unpacked_accepted : {N R : ℕ} {words : List ℕ} {rows : List Row} → 0 < N → N ≤ number_size → R ≤ role_size → Unpacked N R words rows → (i : ℕ) → rows_refusal N R i words ≡ none
unpacked_accepted {rows} z n m u i = rw u.packs (rows_accepted z n m i rows u.below)

-- ---- the rows of a text

-- The rows of the normal form are the ones that their words pack.
pub normal_unpacked : (lines : List (Line Word Word)) →
    Unpacked (number_lines lines no_names).after.next (length (number_lines lines no_names).after.roles) (map pack (normal_rows lines)) (normal_rows lines)
normal_unpacked lines = record { packs = refl; below = normal_below lines }

-- They are not refused, where their counts are within the limits and the lent buffers long enough.
pub normal_accepted : (lines : List (Line Word Word)) (table results order : ℕ) →
    (number_lines lines no_names).after.next ≤ number_limit → length (number_lines lines no_names).after.roles ≤ role_limit → length (normal_rows lines) ≤ row_limit →
    set_words * (number_lines lines no_names).after.next ≤ table → length (normal_rows lines) ≤ results → length (normal_rows lines) ≤ order →
    DeckWithinLimits (number_lines lines no_names).after.next (length (number_lines lines no_names).after.roles) table results order (map pack (normal_rows lines))
normal_accepted lines table results order n r w t s o = record {
  numbers = (numbers_two lines, n);
  roles = r;
  few_rows = rw (length-map (normal_rows lines) pack) w;
  table_lent = t;
  results_lent = rw (length-map (normal_rows lines) pack) s;
  order_lent = rw (length-map (normal_rows lines) pack) o;
  rows = normal_rows lines;
  unpacked = normal_unpacked lines;
}

-- Whatever rows those words are read as, their rational closure is that of the text's lines, with zeros for the definitions.
pub compiled_reads : (lines : List (Line Word Word)) {rows : List Row} {levels passes : ℕ} {all : List ℕ} →
    (number_lines lines no_names).after.next ≤ number_size → length (number_lines lines no_names).after.roles ≤ role_size →
    Unpacked (number_lines lines no_names).after.next (length (number_lines lines no_names).after.roles) (map pack (normal_rows lines)) rows →
    RationalClosure (map line_of rows) levels passes all →
    RationalClosure lines levels passes (take (length lines) all) × (drop (length lines) all ≡ zeros_for (definition_rows lines))
compiled_reads lines {rows} {levels} {passes} {all} n m u c =
    let same : rows ≡ normal_rows lines = unpacked_unique n m u (normal_unpacked lines) in
    normal_form_reads lines (subst (λ rows. RationalClosure (map line_of rows) levels passes all) same c)

-- And their count of yes is that of the text's lines.
pub compiled_yes : (lines : List (Line Word Word)) {rows : List Row} (all : List ℕ) →
    (number_lines lines no_names).after.next ≤ number_size → length (number_lines lines no_names).after.roles ≤ role_size →
    Unpacked (number_lines lines no_names).after.next (length (number_lines lines no_names).after.roles) (map pack (normal_rows lines)) rows →
    yes_count (map line_of rows) all ≡ yes_count lines (take (length lines) all)
compiled_yes lines all n m u = ap (λ rows. yes_count (map line_of rows) all) (unpacked_unique n m u (normal_unpacked lines)) ∙ normal_form_yes lines all
