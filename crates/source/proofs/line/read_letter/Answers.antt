-- `read_letter` meets its contract: the arm says which letter stands there. Assumes nothing.
use borrow.Author.Tests.{ne_eqb}
use native.Mathlib.Omega.{arith}
use Rattle.source.specs.Lines.{line_kind, read_letter}
use Rattle.source.proofs.line.read_letter.Goals.{in-83, in-85, in-81, in-75}
use Rattle.source.proofs.line.read_letter.Goals as goal

pub returns-in_default : goal.returns-in_default
unfolding read_letter line_kind
returns-in_default c =
    let b = c.byte_at.result in
    rw (c.at.ensures, ← c.byte_at.ensures, ne_eqb b 83 (λ e. omega arith), ne_eqb b 85 (λ e. omega arith), ne_eqb b 81 (λ e. omega arith), ne_eqb b 75 (λ e. omega arith))

pub returns : goal.returns
unfolding read_letter line_kind
returns c = elim c.match-byte_at.branch [
  | in-83 w ↦ rw (w.kind-is, ← c.byte_at.ensures, w.in-83.is)
  | in-85 w ↦ rw (w.kind-is, ← c.byte_at.ensures, w.in-85.is)
  | in-81 w ↦ rw (w.kind-is, ← c.byte_at.ensures, w.in-81.is)
  | in-75 w ↦ rw (w.kind-is, ← c.byte_at.ensures, w.in-75.is)
]
