use borrow.Author.Rules.{rules}
use mathlib.Core.Path.{◌≡◌, ap}
use Rattle.ontology.specs.declared.TokenKind.TheVariants.{Opening}
use Rattle.axioms.specs.Steps.{kept_of}
use Rattle.axioms.proofs.Takes.{opened, not_opened}
use Rattle.axioms.proofs.AxiomReading.open_parts.Goals as goal

pub returns-then-ne-clause-taken : goal.returns-then-ne-clause-taken
returns-then-ne-clause-taken c =
    let a = c.args.self.now in
    let n : c.args.token.kind ≡ Opening → ⊥ = search rules in
    not_opened (kept_of a) a.stack.now a.out.now.bytes.now c.args.token.name.now c.args.token.kind c.requires.due n

pub returns-clause-taken : goal.returns-clause-taken
returns-clause-taken c =
    let a = c.args.self.now in
    let e = c.enter.ensures in
    let k : c.args.token.kind ≡ Opening = search rules in
    rw (k, e.one_more, e.marked, ap (λ o. o.now.bytes.now) e.out_kept) (opened (kept_of a) a.stack.now a.out.now.bytes.now c.args.token.name.now c.requires.due c.requires.ready c.put_sign.ensures.written)
