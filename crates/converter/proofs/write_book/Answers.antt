-- `write_book` meets its contract: the count says whether there is room. Assumes nothing.
use native.Mathlib.Omega.{arith}
use mathlib.Core.Path.{refl}
use Rattle.converter.specs.Steps.{no_room, written}
use Rattle.converter.proofs.write_book.Goals as goal

pub returns-then-text-count_bytes : goal.returns-then-text-count_bytes
returns-then-text-count_bytes c =
    rw c.at.ensures (no_room (omega (arith, c.if-text-count_bytes.true, c.count_bytes.ensures)) refl)

pub returns : goal.returns
returns c = written (omega (arith, c.if-text-count_bytes.false, c.count_bytes.ensures)) c.write_bytes.ensures
