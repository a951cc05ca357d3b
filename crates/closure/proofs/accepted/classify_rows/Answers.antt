-- `classify_rows` meets its contract: fresh arrays are blank, and what is worked out is handed over.
-- Assumes nothing.
use native.Mathlib.Omega.{arith}
use Rattle.semantics.specs.Limits.{row_limit, table_limit}
use Rattle.sets.proofs.Members.{get_d_zeros}
use Rattle.index.specs.Index.{key_count}
use Rattle.closure.proofs.Reporting.{worked_ranks, report}
use Rattle.closure.proofs.accepted.classify_rows.Goals as goal

pub work_out-counts-requires : goal.work_out-counts-requires
work_out-counts-requires c =
    let pre = c.requires in (
      pre.deck,
      record {
        columns_room = omega (arith, pre.deck.numbers);
        strict_room = omega (arith, pre.deck.numbers);
        levels_room = omega (arith, pre.deck.few);
        heads_room = omega arith;
        links_room = omega (arith, pre.deck.few);
        answers_room = omega (arith, pre.deck.few);
        no_columns = get_d_zeros table_limit;
        no_levels = get_d_zeros row_limit;
        no_heads = get_d_zeros key_count;
      },
    )

pub write_out-requires : goal.write_out-requires
write_out-requires c =
    let pre = c.requires in
    let worked = c.work_out-counts.ensures in (
      pre,
      record {
        strict_room = omega (arith, pre.deck.numbers, worked.strict_length);
        levels_room = omega (arith, pre.deck.few, worked.levels_length);
        answers_room = omega (arith, pre.deck.few, worked.answers_length);
        ranks = worked_ranks worked;
        small = omega (arith, worked.small);
      },
    )

pub returns-clause-reported : goal.returns-clause-reported
returns-clause-reported c =
    report c.work_out-counts.ensures c.requires.deck c.write_out.ensures.written
