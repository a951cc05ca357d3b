use borrow.Author.Rules.{rules}
use mathlib.Core.Path.{◌≡◌, refl}
use Rattle.ontology.specs.declared.TokenKind.TheVariants.{Annotation}
use Rattle.axioms.specs.Steps.{kept_of}
use Rattle.axioms.proofs.Takes.{first_usual, first_strict, first_fits}
use Rattle.axioms.proofs.AxiomReading.take_first.Goals as goal

pub returns-then-eq-clause-taken : goal.returns-then-eq-clause-taken
returns-then-eq-clause-taken c =
    let a = c.args.self.now in
    let k : c.args.token.kind ≡ Annotation = search rules in
    rw k (first_usual (kept_of a) a.stack.now c.args.token.name.now c.requires.ready c.requires.due c.put.ensures.written)

pub returns-clause-taken : goal.returns-clause-taken
returns-clause-taken c =
    let a = c.args.self.now in
    let n : c.args.token.kind ≡ Annotation → ⊥ = search rules in
    let w = c.put-2.ensures.written in
    first_strict (kept_of a) a.stack.now c.args.token.name.now c.requires.ready c.requires.due c.args.token.kind n w
    (c.begin_class.ensures.taken (kept_of a) refl (first_fits (kept_of a) a.stack.now c.args.token.name.now c.requires.ready c.requires.due w))
