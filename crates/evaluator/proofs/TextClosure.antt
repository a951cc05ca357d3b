-- Compiling and then settling (demand 3): settling accepts exactly the rows that compiling wrote, and what it reports is the text's own lines'.
-- The rows are those of the normal form, which settling doesn't refuse (`normal_accepted`) and which has the closure of the lines (`compiled_reads`).
-- `own_words_closure` says the same of lines over the text's own words alone.
-- Assumes nothing.
use Prim.Native.Nat.{ℕ, zero, suc, ◌-◌, ◌*◌, ◌≤◌}
use native.Mathlib.Omega.{arith}
use mathlib.Core.Path.{◌≡◌, refl, sym, ◌∙◌, ap, subst}
use mathlib.Core.Option.{Option, none, some}
use mathlib.Core.List.{List, [], ◌∷◌, map}
use lib.ListN.{length, take, drop, replicate, length-append}
use lib.Seq.{take-take}
use Rattle.std.specs.Prelude.{Result}
use Rattle.semantics.specs.Closure.{Line, RationalClosure, yes_count}
use Rattle.semantics.specs.Limits.{set_words}
use Rattle.semantics.specs.Numbering.{no_names, number_lines, normal_rows}
use Rattle.semantics.specs.OwnNames.{line_names, line_roles, OwnName, plain_lines}
use Rattle.semantics.specs.Row.{Row, line_of, pack, Unpacked}
use Rattle.semantics.proofs.Accepting.{accepted_decides}
use Rattle.semantics.proofs.Compiling.{normal_unpacked, normal_accepted, compiled_reads, compiled_yes}
use Rattle.semantics.proofs.OwnNames.{closure_own}
use Rattle.semantics.proofs.Packing.{unpacked_unique}
use Rattle.buffers.specs.Buffers.{Buffers}
use Rattle.workspace.specs.declared.Counts.{Counts}
use Rattle.closure.specs.Contract.{deck_refusal, Classified, refused, classified}
use Rattle.refusal.specs.declared.Refused.{Refused}
use Rattle.compiler.specs.Contract.{NormalForm}
use Rattle.compiler.specs.declared.Sizes.{Sizes}
use Rattle.compiler.proofs.Longer.{words_length}
use Rattle.grammar.specs.Limits.{names_after}
use Rattle.grammar.proofs.AcceptsDecides.{lines_length}
use Rattle.evaluator.specs.Contract.{TextClosure, GivesClosure}

drop_take : (m k : ℕ) (l : List ℕ) → drop m (take k l) ≡ take (k - m) (drop m l)
drop_take zero k l = let e : k ≡ k - 0 = omega arith in ap (λ n. take n l) e
drop_take (suc m) zero l = let e : 0 ≡ 0 - suc m = omega arith in ap (λ n. take n (drop (suc m) l)) e
drop_take (suc m) (suc k) [] = none_taken (suc k - suc m)
  where
    none_taken : (n : ℕ) → ◌≡◌ {A = List ℕ} [] (take n [])
    none_taken zero = refl
    none_taken (suc n) = refl
drop_take (suc m) (suc k) (x ∷ l) = let e : k - m ≡ suc k - suc m = omega arith in drop_take m k l ∙ ap (λ n. take n (drop m l)) e

module _ {text deck₀ deck : List ℕ} {s : Sizes} (nf : NormalForm text deck₀ deck s) where
  pub lines_first : s.lines ≤ s.rows
  lines_first =
      let m = number_lines nf.lines no_names in
      omega (arith, nf.line_count, nf.row_count, length-append m.line_rows m.definitions, lines_length nf.lines no_names)

  -- settling does not refuse the rows
  not_refused : (lent : Buffers) → set_words * s.numbers ≤ length lent.table → s.rows ≤ length lent.results → s.rows ≤ length lent.order →
      deck_refusal s.numbers s.roles (take s.rows deck) lent ≡ none
  not_refused lent t r o =
      let table = length lent.table in
      let results = length lent.results in
      let order = length lent.order in
      rw (nf.rows, nf.number_count, nf.role_count)
      ((accepted_decides (names_after nf.lines).next (length (names_after nf.lines).roles) table results order (map pack (normal_rows nf.lines))).1
      (normal_accepted nf.lines table results order nf.within.within.numbers nf.within.within.roles nf.within.rows
      (omega (arith, nf.number_count)) (omega (arith, nf.row_count)) (omega (arith, nf.row_count))))

  -- the words that were written pack the rows of the normal form
  normal_words : {rows : List Row} → Unpacked s.numbers s.roles (take s.rows deck) rows →
      Unpacked (names_after nf.lines).next (length (names_after nf.lines).roles) (map pack (normal_rows nf.lines)) rows
  normal_words u = rw (nf.rows, nf.number_count, nf.role_count) at u

  -- and no others
  pub rows_normal : {rows : List Row} → Unpacked s.numbers s.roles (take s.rows deck) rows → rows ≡ normal_rows nf.lines
  rows_normal u = unpacked_unique (omega (arith, nf.within.within.numbers)) (omega (arith, nf.within.within.roles)) (normal_words u) (normal_unpacked nf.lines)

  -- what holds of the rows holds of the text's lines
  rows_closure : {rows : List Row} {c : Counts} (results : List ℕ) → s.rows ≤ length results →
      Unpacked s.numbers s.roles (take s.rows deck) rows →
      RationalClosure (map line_of rows) c.levels c.passes (take (length (take s.rows deck)) results) →
      c.yes ≡ yes_count (map line_of rows) (take (length (take s.rows deck)) results) →
      TextClosure text results s.lines s.rows c
  rows_closure {rows} {c} results room u r y =
      let (d, z) = compiled_reads nf.lines (omega (arith, nf.within.within.numbers)) (omega (arith, nf.within.within.roles)) (normal_words u) r in
      let k = length (take s.rows deck) in
      let few : length nf.lines ≤ k = omega (arith, (words_length nf), lines_first, nf.line_count) in
      let own = take-take (length nf.lines) k results few in
      let m = number_lines nf.lines no_names in
      let zeros : length m.definitions ≡ s.rows - s.lines =
      omega (arith, nf.line_count, nf.row_count, length-append m.line_rows m.definitions, lines_length nf.lines no_names) in
      record {
        lines = nf.lines;
        reads = nf.reads;
        count = nf.line_count;
        closure = rw nf.line_count (subst (RationalClosure nf.lines c.levels c.passes) own d);
        yes_counted =
            y ∙ compiled_yes nf.lines (take k results) (omega (arith, nf.within.within.numbers)) (omega (arith, nf.within.within.roles)) (normal_words u) ∙
            ap (yes_count nf.lines) (rw nf.line_count own);
        definitions =
            ap (λ n. take (n - s.lines) (drop s.lines results)) (sym (words_length nf)) ∙ sym (drop_take s.lines k results) ∙
            ap (λ n. drop n (take k results)) nf.line_count ∙ z ∙ ap (λ n. replicate n 0) zeros;
        behind = lines_first;
        inside = room;
      }

  -- Demand 3: whatever the lent buffers held, where they are as long as asked.
  pub normal_closure : {before after : Buffers} {a : Result Counts Refused} →
      set_words * s.numbers ≤ length before.table → s.rows ≤ length before.results → s.rows ≤ length before.order →
      Classified (take s.rows deck) s.numbers s.roles before after a → GivesClosure text after.results s a
  normal_closure {before} t r o (refused h k) =
      let z : ◌≡◌ {A = Option (ℕ × ℕ)} none (some _) = sym (not_refused before t r o) ∙ h in
      absurd cc
  normal_closure {after} t r o (classified {c} h u report) =
      record { counts = c; answer = refl; reported = rows_closure after.results (omega (arith, report.results_length)) u report.closure report.yes_counted }

-- ---- the text's own words

-- The lines as lines over their own words and roles, which have the same closure.
pub own_words_closure : {text results : List ℕ} {line_count row_count : ℕ} {c : Counts} (b : TextClosure text results line_count row_count c) →
    (own : List (Line (OwnName (line_names b.lines)) (OwnName (line_roles b.lines)))) × (plain_lines own ≡ b.lines) ×
    RationalClosure own c.levels c.passes (take line_count results) × (c.yes ≡ yes_count own (take line_count results))
own_words_closure {results} {line_count} {c} b =
    let (own, plain, same, counts) = closure_own b.lines in
    (own, plain, (same c.levels c.passes (take line_count results)).1 b.closure, b.yes_counted ∙ sym (counts (take line_count results)))
