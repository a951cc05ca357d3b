use native.Mathlib.Omega.{arith}
use mathlib.Core.Path.{◌≡◌, refl, sym, ap, ap₂, subst, ◌∙◌}
use lib.ListN.{set}
use Rattle.semantics.specs.Row.{packed}
use Rattle.names.specs.Names.{no_numbers}
use Rattle.names.specs.Lent.{state_of}
use Rattle.names.proofs.Parts.{state_none}
use Rattle.rows.specs.RowKind.{row_kind_number}
use Rattle.source.specs.Steps.{kind_step}
use Rattle.source.proofs.Lines.{Lines, lines_none, lines_all, lines_refused, lines_line, lines_more}
use Rattle.source.proofs.text.read_lines.Goals as goal

pub loop-at-init : goal.loop-at-init
loop-at-init c =
    let a = c.args in
    let none : state_of c.new-names.result a.links.now ≡ no_numbers = rw (c.new-names.ensures, c.requires.1) state_none in
    (subst (λ s. Lines a.text.now a.rows.now a.rows.now s 0 0) (sym none) (lines_none _ _), refl)

pub returns-in_default : goal.returns-in_default
returns-in_default c =
    let all = lines_refused c.loop-at.invariant.0 c.read_line-reading.ensures c.loop-at-test.true (ap kind_step c.in_default.is) in
    (rw (c.with_step.ensures, ← ap kind_step c.unwrap_err.ensures) all.reading, all.written)

pub loop-at-smaller : goal.loop-at-smaller
loop-at-smaller c = let h = lines_line c.loop-at.invariant.0 c.read_line-reading.ensures c.loop-at-test.true (ap kind_step c.in-Ok.is) in omega arith

pub loop-at-preserved : goal.loop-at-preserved
loop-at-preserved c =
    let l = c.loop-at in
    let sides = ap₂ (λ a b. packed (row_kind_number c.in-Ok.kind) 0 a 0 b) c.left_at-left.ensures c.right_at-right.ensures in (
      lines_more l.invariant.0 c.read_line-reading.ensures c.loop-at-test.true (ap kind_step c.in-Ok.is)
          (c.put_entry.ensures ∙ ap (λ w. set l.rows l.lines w) (c.pack.ensures ∙ sides)),
      omega (arith, c.read_line-reading.auto.links, l.invariant.1),
    )

pub returns : goal.returns
returns c =
    let all = lines_all c.loop-at.invariant.0 c.loop-at-test.false in
    (rw c.with_step-2.ensures all.reading, all.written)
