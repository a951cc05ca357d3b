-- `copy_first` meets its contract. Invariant: the first i elements are copied.
-- Assumes nothing.
use Rattle.copying.specs.Written.{Copied}
use Rattle.copying.proofs.copy_first.Given as goal

abbrev pub invariant-loop-i : goal.invariant-loop-i
invariant-loop-i g l = Copied l.i l.source l.initial.target l.target
