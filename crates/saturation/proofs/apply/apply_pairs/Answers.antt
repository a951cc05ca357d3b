use native.Mathlib.Omega.{arith}
use mathlib.Core.Path.{refl, ◌∙◌}
use Rattle.saturation.proofs.Applying.{readable}
use Rattle.saturation.proofs.RowsApplied.{applied_none, applied_more, visited_row, pair_key_small, pair_applied, pairs_all}
use Rattle.saturation.proofs.apply.apply_pairs.Goals as goal

pub readers-i-items-requires : goal.readers-i-items-requires
readers-i-items-requires c =
    let (room, row, kinds) = c.requires in
    rw c.pair_key.ensures (pair_key_small c.args.index.deck row kinds)

pub loop-i-init : goal.loop-i-init
loop-i-init c =
    let (room, row, kinds) = c.requires in
    let (same, key, first) = c.readers-i-items.ensures in
    rw (c.into_iter-i-iterator.ensures.into_iter_gives, first, c.pair_key.ensures)
    (same, refl, applied_none c.args.index.indexed (pair_key_small c.args.index.deck row kinds))

pub mark_either-requires : goal.mark_either-requires
mark_either-requires c =
    let (room, row, kinds) = c.requires in
    let (same, reference, so_far) = c.loop-i.invariant in
    let (some, is, inside, kept_index, key, next) = c.in-Some.ensures.steps in
    let kept = so_far.step.length_kept in
    let deck = c.args.index.deck in
    (readable deck row room kept, readable deck (visited_row so_far.visit some (rw is)) room kept)

pub loop-i-preserved : goal.loop-i-preserved
loop-i-preserved c =
    let (room, row, kinds) = c.requires in
    let (same, reference, so_far) = c.loop-i.invariant in
    let (some, is, inside, kept, key, next) = c.in-Some.ensures.steps in
    let applied = pair_applied c.args.index.deck row so_far.visit some (rw is) kinds c.mark_either.ensures.marks in
    (kept ∙ same, c.mark_either.ensures.same_reference ∙ reference, rw (next, same) (applied_more c.args.index.indexed so_far some applied))

pub returns-clause-draws : goal.returns-clause-draws
returns-clause-draws c = pairs_all (omega (arith, c.in-None.ensures.steps.0)) c.loop-i.invariant.2
