use Prim.Native.Nat.{◌+◌, ◌-◌}
use native.Mathlib.Omega.{arith}
use mathlib.Core.Path.{◌≡◌, refl}
use mathlib.Core.List.{map-append}
use lib.ListN.{get_or}
use Rattle.semantics.specs.Limits.{number_least}
use Rattle.semantics.specs.Row.{pack}
use Rattle.names.specs.Lent.{lefts_in, rights_in, state_of}
use Rattle.source.specs.Lines.{form_rows, definitions_of, definitions_to}
use Rattle.source.proofs.Definitions.{rows_by, definitions_next}
use Rattle.copying.proofs.Writing.{appended_none, appended_append}
use Rattle.definitions.proofs.Room.{writable_right, writable_first}
use Rattle.definitions.proofs.write_definitions.Goals.{After-number_form-form}
use Rattle.definitions.proofs.write_definitions.Goals as goal

pub loop-x-init : goal.loop-x-init
unfolding definitions_to
loop-x-init c = (omega arith, omega arith, appended_none _ _)

-- a turn writes the rows of its number
rows : (c : After-number_form-form) →
    let x = c.loop-x.x in
    let a = c.args in
    definitions_of a.text.now (state_of a.names a.links.now) x ≡ form_rows c.number_form-form.result x (get_or (lefts_in a.links.now) x 0) (get_or (rights_in a.links.now) x 0)
rows c = rows_by _ c.args.names c.args.links.now _ (omega (arith, c.loop-x-test.true, c.requires.0)) c.number_form-form.ensures refl

-- they have room behind those before
pub write_definition-next-requires : goal.write_definition-next-requires
write_definition-next-requires c =
    let l = c.loop-x in
    let text = c.args.text.now in
    let names = state_of c.args.names c.args.links.now in
    let first = writable_first text names (l.x + 1 - number_least) (c.args.names.concepts.used - number_least) (omega (arith, c.loop-x-test.true)) c.requires.1 in
    let whole = rw (definitions_next text names l.x l.invariant.0) at first in
    let rest = writable_right (definitions_to text names (l.x - number_least)) (definitions_of text names l.x) whole l.invariant.2 in (
      omega (arith, c.loop-x-test.true, c.requires.0),
      rw (rows (goal.at.write_definition-next-requires c).After-number_form-form) at rest,
    )

pub loop-x-preserved : goal.loop-x-preserved
loop-x-preserved c =
    let l = c.loop-x in (
      omega arith,
      omega (arith, c.loop-x-test.true),
      rw (definitions_next _ _ l.x l.invariant.0, map-append pack, rows (goal.at.loop-x-preserved c).After-number_form-form)
          (appended_append l.invariant.2 c.write_definition-next.ensures),
    )

pub returns : goal.returns
returns c =
    let l = c.loop-x in
    let e : c.args.names.concepts.used - number_least ≡ l.x - number_least = omega (arith, l.invariant.1) in
    rw e l.invariant.2
