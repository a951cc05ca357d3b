-- `clear_rows` meets its contract: the words of the rows are zeros.
-- Assumes nothing.
use mathlib.Core.Path.{◌≡◌}
use lib.ListN.{replicate}
use lib.Seq.{length-take-le}
use Prim.Native.Nat.{◌*◌}
use Rattle.semantics.specs.Limits.{set_words}
use Rattle.columns.proofs.Clearing.{rows_cleared}
use Rattle.columns.proofs.transpose.clear_rows.Goals as goal

pub returns : goal.returns
returns c =
    let long = length-take-le (set_words * c.args.n) c.args.table.now c.requires in
    let zeros : c.fill.new.self ≡ replicate (set_words * c.args.n) 0 = rw long at (c.fill.ensures.after (λ y e. e)) in
    rw zeros (rows_cleared c.args.n c.args.table.now c.requires)
