use borrow.Author.Rules.{rules}
use mathlib.Core.Path.{◌≡◌, ap}
use Rattle.copying.proofs.Writing.{appended_append}
use Rattle.ontology.specs.declared.TokenKind.TheVariants.{Name}
use Rattle.axioms.specs.Steps.{kept_of}
use Rattle.axioms.proofs.Takes.{the_role, not_role}
use Rattle.axioms.proofs.AxiomReading.take_role.Goals as goal

pub returns-then-ne-clause-taken : goal.returns-then-ne-clause-taken
returns-then-ne-clause-taken c =
    let a = c.args.self.now in
    let n : c.args.token.kind ≡ Name → ⊥ = search rules in
    not_role (kept_of a) a.stack.now a.out.now.bytes.now c.args.token.name.now c.args.token.kind c.requires.due n

pub returns-clause-taken : goal.returns-clause-taken
returns-clause-taken c =
    let a = c.args.self.now in
    let e = c.enter.ensures in
    let k : c.args.token.kind ≡ Name = search rules in
    rw (k, e.one_more, e.marked, ap (λ o. o.now.bytes.now) e.out_kept)
    (the_role (kept_of a) a.stack.now a.out.now.bytes.now c.args.token.name.now c.requires.due c.requires.ready (appended_append c.put_sign.ensures.written c.put_name.ensures.written))
