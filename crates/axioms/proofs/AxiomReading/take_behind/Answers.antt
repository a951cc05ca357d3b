use borrow.Author.Rules.{rules}
use mathlib.Core.Path.{◌≡◌}
use Rattle.ontology.specs.declared.TokenKind.TheVariants.{Closing}
use Rattle.axioms.specs.Steps.{kept_of}
use Rattle.axioms.proofs.Takes.{behind_close, behind_next}
use Rattle.axioms.proofs.AxiomReading.take_behind.Goals as goal

pub returns-then-eq-clause-taken : goal.returns-then-eq-clause-taken
returns-then-eq-clause-taken c =
    let a = c.args.self.now in
    let k : c.args.token.kind ≡ Closing = search rules in
    rw k (behind_close (kept_of a) a.stack.now a.out.now.bytes.now c.args.token.name.now c.requires.due c.close_class.ensures.taken)

pub returns-clause-taken : goal.returns-clause-taken
returns-clause-taken c =
    let a = c.args.self.now in
    let n : c.args.token.kind ≡ Closing → ⊥ = search rules in
    behind_next (kept_of a) a.stack.now a.out.now.bytes.now c.args.token.name.now c.requires.due c.args.token.kind n c.next_class.ensures.taken
