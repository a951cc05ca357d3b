-- What is lent beyond what settling asks plays no part, and is kept: a promise about buffers holds of longer ones, with the same rest behind each.
-- Assumes nothing.
use Prim.Native.Nat.{ℕ, ◌+◌, ◌*◌, ◌/◌, ◌<◌, ◌≤◌}
use native.Mathlib.Omega.{arith}
use mathlib.Core.Path.{◌≡◌, sym, ◌∙◌, ap, subst}
use mathlib.Core.List.{List, [], ◌++◌, map}
use lib.ListN.{length, length-append, length-map, length-take, get_or-append}
use lib.Seq.{take-append-le}
use Rattle.std.specs.Prelude.{Ok}
use Rattle.semantics.specs.Closure.{strict_of, Results, Replies, yes_count}
use Rattle.semantics.specs.Concept.{Inclusion, Within}
use Rattle.semantics.specs.Limits.{set_words}
use Rattle.semantics.specs.Outputs.{StrictTable, defeasible_rows, RankOrder}
use Rattle.semantics.specs.Row.{Row, numbered, line_of, pack}
use Rattle.semantics.specs.Set.{has, cell}
use Rattle.semantics.proofs.Accepting.{accepted_decides}
use Rattle.semantics.proofs.Like.{perm_length}
use Rattle.semantics.proofs.RankOrder.{order_first}
use Rattle.copying.proofs.Writing.{rest_kept, same_long}
use Rattle.buffers.specs.Buffers.{Buffers, buffers}
use Rattle.workspace.specs.declared.Counts.{Counts}
use Rattle.closure.specs.Contract.{DeckAcceptable, ClosureReport, Classified, classified}

-- the buffers, each with a rest behind it
abbrev pub longer : Buffers → Buffers → Buffers
longer b rest = buffers (b.table ++ rest.table) (b.results ++ rest.results) (b.order ++ rest.order)

cell_longer : (N : ℕ) (table rest : List ℕ) → set_words * N ≤ length table → (a b : ℕ) → a < N → b < 64 * set_words → cell set_words (table ++ rest) a b ≡ cell set_words table a b
unfolding has
cell_longer N table rest le a b la lb = rw (get_or-append table rest 0 ((64 * (set_words * a) + b) / 64) (omega arith))

table_longer : {N : ℕ} {T : List (Inclusion ℕ ℕ)} {table : List ℕ} (rest : List ℕ) → N ≤ 64 * set_words → set_words * N ≤ length table → StrictTable N T table → StrictTable N T (table ++ rest)
table_longer {N} {T} {table} rest small le s = record {
  bit = λ a b la lb. subst (λ x. Replies x (Within T [] (numbered a) (numbered b))) (sym (cell_longer N table rest le a b la (omega arith))) (s.bit a b la lb);
  zeros = λ a b la ge lb. cell_longer N table rest le a b la lb ∙ s.zeros a b la ge lb;
}

report_longer : {rows : List Row} {N : ℕ} {before after : Buffers} {c : Counts} (rest : Buffers) → N ≤ 64 * set_words →
    set_words * N ≤ length before.table → length rows ≤ length before.results →
    ClosureReport rows N (length rows) before after c → ClosureReport rows N (length rows) (longer before rest) (longer after rest) c
report_longer {rows} {N} {before} {after} {c} rest small t r p =
    let m = length (defeasible_rows rows) in
    let results_room : length rows ≤ length after.results = omega (arith, p.results_length) in
    let table_room : set_words * N ≤ length after.table = omega (arith, p.table_length) in
    let order_room : m ≤ length after.order = omega (arith, perm_length p.rank_order.once, length-take m after.order) in
    let first = sym (take-append-le (length rows) after.results rest.results results_room) in
    record {
      closure = record {
        T* = p.closure.T*;
        sets = p.closure.sets;
        passed = p.closure.passed;
        level_count = p.closure.level_count;
        reported = subst (Results (strict_of (map line_of rows)) p.closure.T* p.closure.sets (map line_of rows)) first p.closure.reported;
      };
      yes_counted = p.yes_counted ∙ ap (yes_count (map line_of rows)) first;
      strict_table = table_longer rest.table small table_room p.strict_table;
      rank_order =
          subst (RankOrder (map line_of rows) (after.results ++ rest.results)) (sym (take-append-le m after.order rest.order order_room))
          (order_first (length rows) after.results (after.results ++ rest.results) (omega (arith, length-map rows line_of)) first p.rank_order);
      table_kept = rest_kept (set_words * N) after.table before.table rest.table table_room t p.table_kept;
      results_kept = rest_kept (length rows) after.results before.results rest.results results_room r p.results_kept;
      order_kept = rest_kept m after.order before.order rest.order order_room (omega (arith, p.order_length)) p.order_kept;
      table_length = same_long after.table before.table rest.table p.table_length;
      results_length = same_long after.results before.results rest.results p.results_length;
      order_length = same_long after.order before.order rest.order p.order_length;
    }

pub classified_longer : {words : List ℕ} {N R : ℕ} {before after : Buffers} {c : Counts} (rest : Buffers) →
    Classified words N R before after (Ok c) → Classified words N R (longer before rest) (longer after rest) (Ok c)
classified_longer {words} {N} {R} {before} {after} {c} rest (classified {rows} h u p) =
    let a : DeckAcceptable N R words before = (accepted_decides _ _ _ _ _ _).0 h in
    let n = ap length u.packs ∙ length-map rows pack in
    let there : DeckAcceptable N R words (longer before rest) = record {
      numbers = a.numbers;
      roles = a.roles;
      few_rows = a.few_rows;
      table_lent = omega (arith, a.table_lent, length-append before.table rest.table);
      results_lent = omega (arith, a.results_lent, length-append before.results rest.results);
      order_lent = omega (arith, a.order_lent, length-append before.order rest.order);
      rows = a.rows;
      unpacked = a.unpacked;
    } in
    let report = report_longer rest (omega (arith, a.numbers.1)) a.table_lent (omega (arith, n, a.results_lent)) (subst (λ k. ClosureReport rows N k before after c) n p) in
    classified ((accepted_decides _ _ _ _ _ _).1 there) u (subst (λ k. ClosureReport rows N k (longer before rest) (longer after rest) c) (sym n) report)
