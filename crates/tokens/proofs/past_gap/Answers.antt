use borrow.Author.Rules.{rules}
use native.Mathlib.Omega.{arith}
use mathlib.Core.Path.{◌∙◌, sym, ap}
use Prim.Native.Nat.{◌+◌, ◌≤◌}
use lib.ListN.{length, drop, length-drop}
use Rattle.ontology.specs.Text.{gap_byte}
use Rattle.std.specs.List.{prefix_len}
use Rattle.std.proofs.lemmas.List.{take_rest}
use Rattle.tokens.proofs.Runs.{gap_run, gap_le}
use Rattle.tokens.proofs.past_gap.Goals as goal

pub overflow_add-result : goal.overflow_add-result
overflow_add-result c =
    let rest = drop c.args.at c.args.input.now in
    let e = c.gap_length.ensures ∙ ap (prefix_len gap_byte) (take_rest c.args.input.now c.args.at) ∙ sym (gap_run rest) in
    let le : c.args.at + c.gap_length.result ≤ length c.args.input.now = omega (arith, e, gap_le rest, length-drop c.args.at c.args.input.now, c.requires) in
    search rules

pub returns : goal.returns
returns c =
    let e = c.gap_length.ensures ∙ ap (prefix_len gap_byte) (take_rest c.args.input.now c.args.at) ∙ sym (gap_run (drop c.args.at c.args.input.now)) in
    omega (arith, e)
