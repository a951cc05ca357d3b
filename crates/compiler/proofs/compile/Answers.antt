-- `compile` meets its contract: a refusal at each step of its definition, or what is handed over of an accepted text.
-- Assumes nothing.
use mathlib.Core.Path.{refl}
use native.Mathlib.Omega.{arith}
use Rattle.compiler.specs.Contract.{refused, accepted}
use Rattle.compiler.proofs.Compiling.{refusal_long, refusal_short, refusal_read, refusal_none, read_before, handed_over}
use Rattle.compiler.proofs.compile.Goals as goal

-- the text is too long
pub returns-then-text-gt-TEXT : goal.returns-then-text-gt-TEXT
returns-then-text-gt-TEXT c = rw c.at.ensures (refused (refusal_long _ _ c.if-text-gt-TEXT.true) refl)

-- the lent deck is too short
pub returns-then-deck-lt-ROWS : goal.returns-then-deck-lt-ROWS
returns-then-deck-lt-ROWS c = rw c.at-then-deck-lt-ROWS.ensures (refused (refusal_short _ _ c.if-text-gt-TEXT.false (omega (arith, c.if-deck-lt-ROWS.true))) refl)

-- the reader refuses
pub returns-in_default : goal.returns-in_default
returns-in_default c =
    refused (refusal_read c.read_text-read.ensures _ c.if-text-gt-TEXT.false c.if-deck-lt-ROWS.false c.unwrap_err.ensures) refl

pub write_rows-requires : goal.write_rows-requires
write_rows-requires c =
    read_before c.read_text-read.ensures c.in-Ok.is refl c.if-deck-lt-ROWS.false

pub returns : goal.returns
returns c =
    let told = c.in-Ok.is in
    accepted (refusal_none c.read_text-read.ensures _ c.if-text-gt-TEXT.false c.if-deck-lt-ROWS.false told) (handed_over c.read_text-read.ensures told refl c.write_rows.ensures)
