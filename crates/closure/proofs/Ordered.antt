-- The order that `classify` leaves goes by the ranks of the rows in the closure that it reports.
-- Assumes nothing.
use Prim.Native.Nat.{ℕ}
use native.Mathlib.Omega.{arith}
use mathlib.Core.Path.{◌∙◌, ap}
use mathlib.Core.List.{List, map}
use lib.ListN.{length, take, length-map}
use Rattle.std.specs.Prelude.{Ok}
use Rattle.semantics.specs.Closure.{RationalClosure}
use Rattle.semantics.specs.Outputs.{defeasible_rows, ByRank}
use Rattle.semantics.specs.Row.{Row, line_of, pack, Unpacked}
use Rattle.semantics.proofs.Accepting.{accepted_decides}
use Rattle.semantics.proofs.RankOrder.{first_by_rank}
use Rattle.buffers.specs.Buffers.{Buffers}
use Rattle.workspace.specs.declared.Counts.{Counts}
use Rattle.closure.specs.Contract.{DeckAcceptable, Classified, classified}

pub classified_order : {words : List ℕ} {N R : ℕ} {before after : Buffers} {c : Counts} → Classified words N R before after (Ok c) →
    (rows : List Row) × Unpacked N R words rows × (s : RationalClosure (map line_of rows) c.levels c.passes (take (length words) after.results)) ×
    ByRank s.T* s.sets (map line_of rows) (take (length (defeasible_rows rows)) after.order)
classified_order {words} {N} {R} {before} {after} (classified {rows} h u p) =
    let a : DeckAcceptable N R words before = (accepted_decides _ _ _ _ _ _).0 h in
    let n = length-map rows line_of in
    let m = ap length u.packs ∙ length-map rows pack in
    (rows, u, p.closure, first_by_rank (length words) after.results p.closure (omega (arith, n, m)) (omega (arith, n, m, a.few_rows)) p.rank_order)
