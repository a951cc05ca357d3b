use mathlib.Core.Path.{◌∙◌}
use Rattle.sheets.proofs.Scores.{right_pairs, score_written}
use Rattle.sheets.proofs.score.score_sheet.Goals as goal

pub returns : goal.returns
returns c =
    let p = c.requires in
    let found = c.count_right-right.ensures in
    let counted = found.counted ∙ right_pairs c.args.key.now c.args.sheet.now in
    record { counted = counted; few = found.few; written = score_written _ _ p.2 counted c.percent.ensures.0 p.3 }
