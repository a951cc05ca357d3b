-- `classify` meets its contract: `check` tells a refusal, and an accepted deck is settled.
-- Assumes nothing.
use mathlib.Core.Path.{refl, sym}
use Rattle.std.proofs.lemmas.Result.{err_from_is_err_and}
use Rattle.semantics.proofs.Accepting.{accepted_decides}
use Rattle.normal.proofs.Decoding.{accepted_deck, accepted_rows}
use Rattle.closure.specs.Contract.{refused, classified}
use Rattle.closure.proofs.classify.Goals as goal

pub returns-in_err-check-clause-classified : goal.returns-in_err-check-clause-classified
returns-in_err-check-clause-classified c =
    let p = err_from_is_err_and c.from_residual.result c.from_residual.ensures.1 in
    rw (p.1, p.2) (refused (sym c.in_err-check.ensures) refl)

pub classify_rows-requires : goal.classify_rows-requires
classify_rows-requires c =
    let a = (accepted_decides _ _ _ _ _ _).0 (sym c.in_ok-check.ensures) in
    record {
      deck = accepted_deck _ _ _ _ _ _ (sym c.in_ok-check.ensures);
      table_room = a.table_lent;
      results_room = a.results_lent;
      order_room = a.order_lent;
    }

pub returns-clause-classified : goal.returns-clause-classified
returns-clause-classified c =
    let free = sym c.in_ok-check.ensures in
    classified free (accepted_rows _ _ _ _ _ _ free) c.classify_rows.ensures.reported
