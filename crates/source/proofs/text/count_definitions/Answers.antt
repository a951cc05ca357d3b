use Prim.Native.Nat.{ℕ, ◌≤◌}
use native.Mathlib.Omega.{arith}
use mathlib.Core.Path.{◌≡◌, refl, sym, ap, ◌∙◌}
use mathlib.Core.List.{List, []}
use lib.ListN.{length}
use Rattle.chains.specs.declared.WordStarts.{WordStarts}
use Rattle.names.specs.Lent.{state_of}
use Rattle.source.specs.Lines.{definitions_of, definitions_to}
use Rattle.source.proofs.Definitions.{with_roles, rows_by, definitions_few, definitions_more}
use Rattle.source.proofs.text.count_definitions.Goals.{After-count_rows-count}
use Rattle.source.proofs.text.count_definitions.Goals as goal

pub loop-x-init : goal.loop-x-init
unfolding definitions_to
loop-x-init c = (omega arith, omega arith, λ roles links. refl, omega arith)

-- a turn counts the rows of its number
rows : (c : After-count_rows-count) (roles : WordStarts) (links : List ℕ) →
    let a = c.args in
    c.count_rows-count.result ≡ length (definitions_of a.text.now (with_roles a.names.concepts roles links) c.loop-x.x)
rows c roles links =
    let a = c.args in
    c.count_rows-count.ensures c.loop-x.x _ _
    ∙ ap length (sym (rows_by a.text.now record { concepts = a.names.concepts; roles = roles } links c.loop-x.x
    (omega (arith, c.loop-x-test.true, c.requires)) c.number_form.ensures refl))

-- at most three
few : (c : After-count_rows-count) → c.count_rows-count.result ≤ 3
few c =
    let a = c.args in
    rw (rows c a.names.concepts []) (definitions_few a.text.now (with_roles a.names.concepts a.names.concepts []) c.loop-x.x)

pub loop-x-preserved : goal.loop-x-preserved
loop-x-preserved c =
    let a = c.args in
    let l = c.loop-x in
    let h = few (goal.at.loop-x-preserved c).After-count_rows-count in (
      omega arith,
      omega (arith, c.loop-x-test.true),
      λ roles links. omega (arith, definitions_more a.text.now (with_roles a.names.concepts roles links) l.x l.invariant.0, rows (goal.at.loop-x-preserved c).After-count_rows-count roles links, l.invariant.2 roles links),
      omega arith,
    )

pub returns : goal.returns
returns c =
    let l = c.loop-x in
    let a = c.args in
    (λ links. l.invariant.2 a.names.roles links ∙ ap (λ k. length (definitions_to a.text.now (state_of a.names links) k)) (omega (arith, l.invariant.1)), omega (arith, c.requires))

pub overflow_add-count : goal.overflow_add-count
overflow_add-count c = let h = few (goal.at.overflow_add-count c).After-count_rows-count in omega (arith, c.requires)
