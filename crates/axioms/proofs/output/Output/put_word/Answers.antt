use Rattle.copying.proofs.Writing.{appended_append}
use Rattle.axioms.proofs.output.Output.put_word.Goals as goal

pub returns-clause-written : goal.returns-clause-written
returns-clause-written c = appended_append c.put.ensures.written c.put_name.ensures.written
