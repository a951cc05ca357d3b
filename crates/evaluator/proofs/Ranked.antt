-- The defeasible rows of a text's normal form stand at the places of its defeasible lines: definition rows are strict. So the order of the rows is that of the lines.
-- Assumes nothing.
use Prim.Native.Nat.{ℕ, suc, ◌≤◌}
use native.Mathlib.Omega.{arith}
use mathlib.Core.Path.{◌≡◌, refl, ◌∙◌, ap, subst}
use mathlib.Core.Option.{Option, none, some}
use mathlib.Core.List.{List, [], ◌∷◌, ◌++◌, map, map-append}
use lib.ListN.{length, take}
use Rattle.std.specs.Prelude.{Ok}
use Rattle.semantics.specs.Concept.{Concept, top, bottom, name, conj, exist}
use Rattle.semantics.specs.Closure.{is_defeasible, Line, line, kind_of_line, left_of, right_of, keep_if, inclusions_of, defeasible_of}
use Rattle.semantics.specs.Limits.{row_limit}
use Rattle.semantics.specs.Numbering.{Names, no_names, number_taken, lookup, number_word, place_of, number_role, number_concept, number_lines, normal_rows}
use Rattle.semantics.specs.Outputs.{defeasible_from, defeasible_rows, RankOrder}
use Rattle.semantics.specs.Row.{Row, line_of, Unpacked}
use Rattle.semantics.specs.Source.{Word}
use Rattle.semantics.proofs.RankOrder.{first_by_rank}
use Rattle.semantics.proofs.Reading.{reads_unique}
use Rattle.semantics.proofs.Tests.{cases}
use Rattle.semantics.proofs.Transport.{AllStrict, none_left, strict_more, all_strict_append}
use Rattle.buffers.specs.Buffers.{Buffers}
use Rattle.workspace.specs.declared.Counts.{Counts}
use Rattle.closure.specs.Contract.{Classified, classified}
use Rattle.compiler.specs.Contract.{NormalForm}
use Rattle.compiler.specs.declared.Sizes.{Sizes}
use Rattle.evaluator.specs.Contract.{TextClosure, TextOrder}
use Rattle.evaluator.proofs.TextClosure.{lines_first, rows_normal}

concept_strict : (C : Concept Word Word) (n : Names) → AllStrict (map line_of (number_concept C n).rows)
unfolding number_concept
concept_strict top n = none_left
concept_strict bottom n = none_left
concept_strict (name w) n = go (lookup w n.words)
  where
    go : (o : Option ℕ) → AllStrict (map line_of (number_word w n o).rows)
    go none = none_left
    go (some x) = none_left
concept_strict (conj C D) n =
    let c = number_concept C (number_taken n) in
    let d = number_concept D c.after in
    let parts : AllStrict (map line_of (c.rows ++ d.rows)) = rw map-append (all_strict_append (concept_strict C (number_taken n)) (concept_strict D c.after)) in
    strict_more (strict_more (strict_more parts))
concept_strict (exist w C) n = strict_more (strict_more (concept_strict C (number_role w (number_taken n) (place_of w n.roles)).1))

definitions_strict : (ls : List (Line Word Word)) (n : Names) → AllStrict (map line_of (number_lines ls n).definitions)
unfolding number_lines
definitions_strict [] n = none_left
definitions_strict (l ∷ ls) n =
    let c = number_concept (left_of l) n in
    let d = number_concept (right_of l) c.after in
    rw (map-append line_of c.rows (d.rows ++ (number_lines ls d.after).definitions), map-append line_of d.rows (number_lines ls d.after).definitions)
    (all_strict_append (concept_strict (left_of l) n) (all_strict_append (concept_strict (right_of l) c.after) (definitions_strict ls d.after)))

strict_places : {A R : Type 0} (i : ℕ) {ls : List (Line A R)} → AllStrict ls → defeasible_from i ls ≡ []
unfolding defeasible_from
strict_places i none_left = refl
strict_places i (strict_more s) = strict_places (suc i) s

places_before : {A R : Type 0} (i : ℕ) (ls : List (Line A R)) {ms : List (Line A R)} → AllStrict ms → defeasible_from i (ls ++ ms) ≡ defeasible_from i ls
unfolding defeasible_from
places_before i [] s = strict_places i s
places_before i (l ∷ ls) s = ap (keep_if (is_defeasible (kind_of_line l)) i) (places_before (suc i) ls s)

lines_places : (i : ℕ) (ls : List (Line Word Word)) (n : Names) → defeasible_from i (map line_of (number_lines ls n).line_rows) ≡ defeasible_from i ls
unfolding number_lines defeasible_from
lines_places i [] n = refl
lines_places i (line k C D ∷ ls) n = ap (keep_if (is_defeasible k) i) (lines_places (suc i) ls (number_concept D (number_concept C n).after).after)

normal_places : (lines : List (Line Word Word)) → defeasible_rows (normal_rows lines) ≡ defeasible_from 0 lines
normal_places lines =
    let m = number_lines lines no_names in
    ap (defeasible_from 0) (map-append line_of m.line_rows m.definitions) ∙
    places_before 0 (map line_of m.line_rows) (definitions_strict lines no_names) ∙ lines_places 0 lines no_names

places_count : {A R : Type 0} (i : ℕ) (lines : List (Line A R)) → length (defeasible_from i lines) ≡ length (defeasible_of lines)
unfolding defeasible_from inclusions_of
places_count i [] = refl
places_count i (l ∷ ls) = let rest = places_count (suc i) ls in cases (is_defeasible (kind_of_line l)) (λ e. rw e (ap suc rest)) (λ e. rw e rest)

module _ {text deck₀ deck : List ℕ} {s : Sizes} (nf : NormalForm text deck₀ deck s) where
  row_places : {rows : List Row} → Unpacked s.numbers s.roles (take s.rows deck) rows → defeasible_rows rows ≡ defeasible_from 0 nf.lines
  row_places u = ap defeasible_rows (rows_normal nf u) ∙ normal_places nf.lines

  pub ranked_count : {rows : List Row} → Unpacked s.numbers s.roles (take s.rows deck) rows → length (defeasible_rows rows) ≡ length (defeasible_of nf.lines)
  ranked_count u = ap length (row_places u) ∙ places_count 0 nf.lines

  -- What settling leaves in the order is the order of the text's lines.
  lines_order : {rows : List Row} {results : List ℕ} (order : List ℕ) → Unpacked s.numbers s.roles (take s.rows deck) rows →
      RankOrder (map line_of rows) results (take (length (defeasible_rows rows)) order) → RankOrder nf.lines results (take (length (defeasible_of nf.lines)) order)
  lines_order order u o = rw (← ranked_count u) (record { once = rw (← row_places u) o.once; sorted = o.sorted })

  -- And so it goes by their ranks in the closure that is reported, since a text has one list of lines.
  pub text_order : {before after : Buffers} {c c' : Counts} {line_count row_count : ℕ} → Classified (take s.rows deck) s.numbers s.roles before after (Ok c) →
      (b : TextClosure text after.results line_count row_count c') → TextOrder b after.order
  text_order {after} {line_count} (classified h u p) b =
      let same : nf.lines ≡ b.lines = reads_unique nf.reads b.reads in
      let o = subst (λ lines. RankOrder lines after.results (take (length (defeasible_of lines)) after.order)) same (lines_order after.order u p.rank_order) in
      let few : length b.lines ≤ row_limit = omega (arith, ap length same, nf.line_count, lines_first nf, nf.row_count, nf.within.rows) in
      first_by_rank line_count after.results b.closure (omega (arith, b.count)) few o
