-- `run` may count the definition rows: an accepted text has at most as many numbers as there can be. Assumes nothing.
use Rattle.std.proofs.Common.{◌≤◌, sym, ◌∙◌, ap, subst}
use Rattle.semantics.specs.Limits.{number_limit}
use Rattle.chains.specs.declared.Sort.TheVariants.{Concepts}
use Rattle.names.specs.State.{Ending}
use Rattle.grammar.proofs.AcceptsDecides.{accepts_decides, accepted_valid}
use Rattle.reading_run.proofs.run.Goals as goal

pub print_read-requires : goal.print_read-requires
print_read-requires g c =
    let reading = c.read_text-read.ensures.reading in
    let accepted = ap (λ (r : Ending). r.step) (sym reading) ∙ c.in-Ok.is in
    let lines = (accepts_decides _).0 record { count = _; end = _; read = accepted } in
    subst (λ (r : Ending). (r.names.lists Concepts).used ≤ number_limit) (sym reading) (accepted_valid lines.reads accepted).concepts.most
