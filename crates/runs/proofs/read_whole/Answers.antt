-- `read_whole` meets its contract: whether the token can stand there, and what follows it, says where the run goes on. Assumes nothing.
use Prim.Native.Nat.{◌≤◌}
use native.Mathlib.Omega.{arith}
use mathlib.Core.Path.{sym, ◌∙◌}
use lib.ListN.{length}
use Rattle.axioms.specs.Steps.{kept_of}
use Rattle.runs.proofs.Goes.{start_le, whole_inside, whole_short, whole_stops, whole_goes, whole_touches}
use Rattle.runs.proofs.read_whole.Goals.{After-name_start}
use Rattle.runs.proofs.read_whole.Goals as goal

-- the name's bytes are inside the input
bounds : (c : After-name_start) → (c.name_start.result ≤ c.args.end) × (c.args.end ≤ length c.args.text.now.bytes.now)
bounds c =
    let r = c.args.reading.now in
    let i = whole_inside c.args.text.now.bytes.now c.args.at (kept_of r) r.stack.now r.out.now.bytes.now c.args.end c.args.kind c.requires in
    (rw c.name_start.ensures (start_le c.args.text.now.bytes.now c.args.at c.args.end c.args.kind i.0), i.1)

pub name_start-requires : goal.name_start-requires
name_start-requires c = let r = c.args.reading.now in (whole_inside c.args.text.now.bytes.now c.args.at (kept_of r) r.stack.now r.out.now.bytes.now c.args.end c.args.kind c.requires).0

pub slice_bounds-name-count : goal.slice_bounds-name-count
slice_bounds-name-count c = (bounds (goal.at.slice_bounds-name-count c).After-name_start).0

pub slice_bounds-name-start : goal.slice_bounds-name-start
slice_bounds-name-start c = let b = bounds (goal.at.slice_bounds-name-start c).After-name_start in omega (arith, b.0, b.1)

pub slice_bounds-name-end : goal.slice_bounds-name-end
slice_bounds-name-end c = let b = bounds (goal.at.slice_bounds-name-end c).After-name_start in omega (arith, b.0, b.1)

pub invariant_of-take_token : goal.invariant_of-take_token
invariant_of-take_token c =
    let r = c.args.reading.now in
    record { short = rw c.name_start.ensures (whole_short c.args.text.now.bytes.now c.args.at (kept_of r) r.stack.now r.out.now.bytes.now c.args.end c.args.kind c.requires) }

pub returns-then-not-take_token-clause-goes : goal.returns-then-not-take_token-clause-goes
returns-then-not-take_token-clause-goes c =
    let r = c.args.reading.now in
    whole_stops c.args.text.now.bytes.now c.args.at (kept_of r) r.stack.now r.out.now.bytes.now c.args.end c.args.kind c.requires
    (rw c.name_start.ensures at c.take_token.ensures.taken) c.if-not-take_token.true

pub returns-then-not-is_parted-clause-goes : goal.returns-then-not-is_parted-clause-goes
returns-then-not-is_parted-clause-goes c =
    let r = c.args.reading.now in
    whole_touches c.args.text.now.bytes.now c.args.at (kept_of r) r.stack.now r.out.now.bytes.now c.args.end c.args.kind c.requires
    (rw c.name_start.ensures at c.take_token.ensures.taken) c.if-not-take_token.false (rw (← c.byte_at.ensures) (sym c.is_parted.ensures ∙ c.if-not-is_parted.true))

pub returns-clause-goes : goal.returns-clause-goes
returns-clause-goes c =
    let r = c.args.reading.now in
    whole_goes c.args.text.now.bytes.now c.args.at (kept_of r) r.stack.now r.out.now.bytes.now c.args.end c.args.kind c.requires
    (rw c.name_start.ensures at c.take_token.ensures.taken) c.if-not-take_token.false (rw (← c.byte_at.ensures) (sym c.is_parted.ensures ∙ c.if-not-is_parted.false))
