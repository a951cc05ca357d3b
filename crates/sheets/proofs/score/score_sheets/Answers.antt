use Prim.Native.Nat.{◌+◌}
use mathlib.Core.Path.{sym}
use lib.ListN.{length}
use Rattle.std.proofs.lemmas.List.{take_rest}
use Rattle.sheets.proofs.Class.{scanning_none, sheet_step, scoring_asks, scanning_more}
use Rattle.sheets.proofs.score.score_sheets.Goals as goal

pub loop-i-init : goal.loop-i-init
loop-i-init c = scanning_none _ _ _

pub slice_bounds-score_sheet-end : goal.slice_bounds-score_sheet-end
slice_bounds-score_sheet-end c = sym (scoring_asks c.requires c.loop-i.invariant c.loop-i-test.true).2

pub score_sheet-found-requires : goal.score_sheet-found-requires
score_sheet-found-requires c = scoring_asks c.requires c.loop-i.invariant c.loop-i-test.true

pub slice_bounds-rest-count : goal.slice_bounds-rest-count
slice_bounds-rest-count c = (sheet_step c.requires c.loop-i.invariant c.loop-i-test.true).inside

pub slice_bounds-rest-start : goal.slice_bounds-rest-start
slice_bounds-rest-start c = (sheet_step c.requires c.loop-i.invariant c.loop-i-test.true).inside

pub loop-i-preserved : goal.loop-i-preserved
loop-i-preserved c =
    rw (take_rest c.loop-i.rest.now (length c.args.key.now + 1)) (scanning_more c.requires c.loop-i.invariant c.loop-i-test.true c.score_sheet-found.ensures)
