use Rattle.axioms.specs.Steps.{kept_of}
use Rattle.runs.proofs.Goes.{cut_goes, cut_stops}
use Rattle.runs.proofs.read_cut.Goals as goal

pub returns-then-take_token-clause-stops : goal.returns-then-take_token-clause-stops
returns-then-take_token-clause-stops c =
    let r = c.args.reading.now in
    cut_goes c.args.text.now.bytes.now c.args.at (kept_of r) r.stack.now r.out.now.bytes.now c.args.end c.args.kind c.requires c.take_token.ensures.taken c.if-take_token.true

pub returns-else-take_token-clause-stops : goal.returns-else-take_token-clause-stops
returns-else-take_token-clause-stops c =
    let r = c.args.reading.now in
    cut_stops c.args.text.now.bytes.now c.args.at (kept_of r) r.stack.now r.out.now.bytes.now c.args.end c.args.kind c.requires c.take_token.ensures.taken c.if-take_token.false
