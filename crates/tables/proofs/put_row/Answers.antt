-- `put_row` meets its contract: the row's words are the set's. Assumes nothing.
use borrow.Author.Rules.{rules}
use mathlib.Core.Path.{◌≡◌}
use Prim.Native.Nat.{◌+◌, ◌-◌, ◌*◌}
use native.Mathlib.Omega.{arith}
use Rattle.semantics.specs.Limits.{set_words}
use Rattle.tables.proofs.Rows.{put_becomes}
use Rattle.tables.proofs.put_row.Goals as goal

pub returns : goal.returns
returns c =
    let k = set_words * c.args.a in
    let width : k + 4 - k ≡ 4 = omega arith in
    rw width (put_becomes set_words c.args.a _ _ _ c.copy_from_slice.ensures.after (search rules) c.requires)
