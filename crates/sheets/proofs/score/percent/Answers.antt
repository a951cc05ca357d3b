-- `percent` meets its contract: its numbers are small. Assumes nothing.
use mathlib.Core.Path.{refl}
use Rattle.sheets.specs.Sheets.{percent}
use Rattle.sheets.proofs.Scores.{percent_most}
use Rattle.sheets.proofs.score.percent.Goals as goal

pub returns : goal.returns
unfolding percent
returns c = (refl, percent_most c.args.right c.args.questions c.requires.0 c.requires.2)
