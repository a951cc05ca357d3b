-- `take_token` meets its contract: where the token may not stand, what is kept is put back. Assumes nothing.
use Rattle.axioms.proofs.Takes.{not_taken}
use Rattle.axioms.proofs.AxiomReading.take_token.Goals as goal

pub returns-clause-taken : goal.returns-clause-taken
returns-clause-taken c = not_taken c.if-take_due.ensures.taken
