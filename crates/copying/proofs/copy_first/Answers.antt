-- `copy_first` meets its contract: an element more is copied with each turn. Assumes nothing.
use borrow.Author.Rules.{rules}
use Rattle.copying.proofs.Writing.{copied_none, copied_more, copied_all}
use Rattle.copying.proofs.copy_first.Goals as goal

pub loop-i-init : goal.loop-i-init
loop-i-init g c = copied_none _ _

pub loop-i-preserved : goal.loop-i-preserved
loop-i-preserved g c = copied_more _ (search rules) (search rules) (search rules) c.loop-i.invariant

pub returns : goal.returns
returns g c = copied_all c.loop-i-test.false c.loop-i.auto.i-end c.loop-i.invariant
