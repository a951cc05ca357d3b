use native.Mathlib.Omega.{arith}
use mathlib.Core.Path.{refl}
use Rattle.axioms.specs.Steps.{kept_of, token_read}
use Rattle.axioms.proofs.Takes.{class_fits, not_next, next_right, not_next_filler, next_part, part_fits}
use Rattle.axioms.proofs.AxiomReading.next_class.Goals as goal

pub returns-then-self-clause-taken : goal.returns-then-self-clause-taken
returns-then-self-clause-taken c = let a = c.args.self.now in not_next (kept_of a) a.stack.now a.out.now.bytes.now _ c.if-self-eq0.true c.if-self.true

pub returns-then-self-eq0-clause-taken : goal.returns-then-self-eq0-clause-taken
returns-then-self-eq0-clause-taken c =
    let a = c.args.self.now in
    rw (next_right (kept_of a) a.stack.now a.out.now.bytes.now (token_read c.args.token) c.if-self-eq0.true c.if-self.false)
    (c.begin_class.ensures.taken (kept_of a) refl (class_fits c.requires))

pub returns-then-self-last-eq-FILLER-clause-taken : goal.returns-then-self-last-eq-FILLER-clause-taken
returns-then-self-last-eq-FILLER-clause-taken c =
    let a = c.args.self.now in
    not_next_filler (kept_of a) a.stack.now a.out.now.bytes.now _ (omega (arith, c.if-self-eq0.false)) c.if-self-last-eq-FILLER.true

pub returns-clause-taken : goal.returns-clause-taken
returns-clause-taken c =
    let a = c.args.self.now in
    let w = c.put_sign.ensures.written in
    rw (next_part (kept_of a) a.stack.now a.out.now.bytes.now (token_read c.args.token) c.requires (omega (arith, c.if-self-eq0.false)) w c.if-self-last-eq-FILLER.false)
    (c.begin_class-2.ensures.taken (kept_of a) refl (part_fits (kept_of a) a.stack.now a.out.now.bytes.now (token_read c.args.token) c.requires (omega (arith, c.if-self-eq0.false)) w))
