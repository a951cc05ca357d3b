-- `work_out` meets its contract: the start, the passes, and the answers that are left.
-- Assumes nothing.
use native.Mathlib.Omega.{arith}
use Rattle.columns.proofs.ExactColumns.{columns_table}
use Rattle.pass.proofs.Same.{same_table}
use Rattle.workspace.proofs.Starting.{first_columns}
use Rattle.workspace.proofs.work_out.Goals as goal

pub build-requires : goal.build-requires
build-requires c =
    let (deck, blank) = c.requires in
    (record { numbers = c.args.n; deck = deck }, omega (arith, blank.heads_room), omega (arith, blank.links_room), blank.no_heads)

pub run_passes-ranking-requires : goal.run_passes-ranking-requires
run_passes-ranking-requires c =
    let (deck, blank) = c.requires in
    let begun = c.begin.ensures in
    let exact = first_columns deck blank begun.exact in
    record {
      ready = record {
        deck = deck;
        levels_room = blank.levels_room;
        room = omega (arith, blank.strict_room, begun.strict_length);
        exact = columns_table exact begun.turned;
        indexed = c.build.ensures;
      };
      zeros = λ i lt. blank.no_levels i;
      columns_room = omega (arith, blank.columns_room, begun.columns_length);
      exact = exact;
      turned = begun.turned;
    }

pub answer_rest-requires : goal.answer_rest-requires
answer_rest-requires c =
    let (deck, blank) = c.requires in
    let begun = c.begin.ensures in
    let ran = c.run_passes-ranking.ensures in
    (record { exact = same_table ran.ranked.rules ran.ranked.strict_table; ranked = ran.ranked; bounded = ran.bounded }, omega (arith, blank.answers_room, begun.answers_length), begun.answered)
