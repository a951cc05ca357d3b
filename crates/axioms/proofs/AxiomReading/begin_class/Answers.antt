-- `begin_class` meets its contract: the match says which token it is, and a track has a clause for each. Assumes nothing.
use native.Mathlib.Omega.{arith}
use mathlib.Core.Path.{refl}
use Rattle.ontology.specs.Text.{owl_thing, owl_nothing, intersection_of, some_values, name, token_bytes}
use Rattle.axioms.specs.declared.Due.TheVariants.{OpenParts, OpenSome, BehindClass}
use Rattle.axioms.specs.Steps.{stops}
use Rattle.axioms.proofs.TokenKinds.{no_class}
use Rattle.axioms.proofs.Takes.{begun}
use Rattle.axioms.proofs.AxiomReading.begin_class.Goals as goal
use Rattle.axioms.proofs.AxiomReading.begin_class.Goals.{in-Thing, in-Nothing, in-Name, in-Intersection, in-SomeValues}

pub returns-in_default-clause-taken : goal.returns-in_default-clause-taken
returns-in_default-clause-taken c p e f =
    let d = c.in_default in
    rw (no_class c.args.self.now.right _ _ c.args.token.kind c.args.token.name.now d.not-Thing d.not-Nothing d.not-Intersection d.not-SomeValues d.not-Name) stops

pub returns-clause-taken : goal.returns-clause-taken
unfolding token_bytes
returns-clause-taken c p e f =
    let a = c.args.self.now in
    elim c.match-token.branch [
      | in-Thing w ↦
          let o = w.put_sign.ensures.written in
          rw (w.self2-is, w.self-is, w.in-Thing.is, ← e) (begun p a.stack.now owl_thing BehindClass a.right f o.written (omega (arith, o.ends)) (omega (arith, o.ends)))
      | in-Nothing w ↦
          let o = w.put_sign-in-Nothing.ensures.written in
          rw (w.self2-is, w.self-is, w.in-Nothing.is, ← e) (begun p a.stack.now owl_nothing BehindClass a.right f o.written (omega (arith, o.ends)) (omega (arith, o.ends)))
      | in-Name w ↦
          let o = w.put_word.ensures.written in
          rw (w.self2-is, w.self-is, w.in-Name.is, ← e) (begun p a.stack.now (name c.args.token.name.now) BehindClass a.right f o.written (omega (arith, o.ends)) (omega (arith, o.ends)))
      | in-Intersection w ↦ rw (w.self2-is, w.self-is, w.in-Intersection.is, ← e) (begun p a.stack.now intersection_of OpenParts a.right f refl (omega arith) (omega arith))
      | in-SomeValues w ↦ rw (w.self2-is, w.self-is, w.in-SomeValues.is, ← e) (begun p a.stack.now some_values OpenSome a.right f refl (omega arith) (omega arith))
    ]
