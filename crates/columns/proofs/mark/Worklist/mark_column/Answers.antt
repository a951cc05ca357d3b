-- `mark_column` meets its contract: the set that is taken is the column, less column 1.
-- Assumes nothing.
use Rattle.columns.specs.Steps.{in_apart}
use Rattle.columns.proofs.Marking.{marks_as}
use Rattle.columns.proofs.mark.Worklist.mark_column.Goals as goal

pub returns-clause-marks : goal.returns-clause-marks
returns-clause-marks c = marks_as (in_apart _) c.apart-set.ensures c.mark_set.ensures.marks
