-- `follow_roles` meets its contract. Invariant: what the rows so far have done to the set.
-- Assumes nothing.
use Rattle.emptying.specs.Steps.{Followed}
use Rattle.emptying.proofs.emptied.follow_roles.Given as goal

abbrev pub invariant-loop-w : goal.invariant-loop-w
invariant-loop-w l = Followed l.n l.rows l.columns l.w-index l.initial.set.words l.set.words
