-- `mark` meets its contract: refusals in their order, then what a sitting on copies and the marking by its key come to.
-- Assumes nothing.
use Prim.Native.Nat.{ℕ}
use native.Mathlib.Omega.{arith}
use mathlib.Core.Path.{refl}
use lib.ListN.{replicate}
use Rattle.std.proofs.lemmas.Result.{err_from_is_err_and}
use Rattle.semantics.specs.Limits.{row_limit, table_limit}
use Rattle.buffers.specs.Buffers.{buffers}
use Rattle.compiler.specs.Refused.{long, short}
use Rattle.marking.specs.Contract.{of_sitting, refused}
use Rattle.marking.proofs.ClassMarking.{short_refused, long_enough, Exact, exact_long, exact_copies, mark_refused, done_ready, mark_done, untouched}
use Rattle.marking.proofs.mark.Goals as goal

pub returns-then-text-gt-TEXT-clause-marked : goal.returns-then-text-gt-TEXT-clause-marked
returns-then-text-gt-TEXT-clause-marked c =
    rw c.at.ensures (refused (of_sitting (long c.if-text-gt-TEXT.true refl)) untouched)

pub returns-then-is_short-clause-marked : goal.returns-then-is_short-clause-marked
returns-then-is_short-clause-marked c =
    rw c.at-then-is_short.ensures
    (refused (of_sitting (short (omega (arith, c.if-text-gt-TEXT.false)) (short_refused _ _ c.is_short.ensures c.if-is_short.true) refl))
    untouched)

-- the copies begin as zeros
zeros : Exact (replicate {A = ℕ} row_limit 0) (buffers (replicate table_limit 0) (replicate row_limit 0) (replicate row_limit 0))
zeros = record { deck_exact = refl; table_exact = refl; results_exact = refl; order_exact = refl }

pub returns-in_err-sitting-clause-marked : goal.returns-in_err-sitting-clause-marked
returns-in_err-sitting-clause-marked c =
    let p = err_from_is_err_and c.from_residual.result c.from_residual.ensures.1 in
    rw (p.1, p.2) (refused
    (mark_refused (exact_long (exact_copies c.copy_buffers.ensures.copied zeros)) (long_enough _ _ c.is_short.ensures c.if-is_short.false) c.in_err-sitting.ensures.evaluated)
    untouched)

pub mark_settled-requires : goal.mark_settled-requires
mark_settled-requires c =
    done_ready (exact_copies c.copy_buffers.ensures.copied zeros) c.in_ok-sitting.ensures.evaluated (long_enough _ _ c.is_short.ensures c.if-is_short.false)

pub returns-clause-marked : goal.returns-clause-marked
returns-clause-marked c =
    mark_done c.copy_buffers.ensures.copied zeros (long_enough _ _ c.is_short.ensures c.if-is_short.false) c.in_ok-sitting.ensures.evaluated c.mark_settled.ensures.marked
