-- `token_at` meets its contract: the arm says with which byte the token begins. Assumes nothing.
use native.Mathlib.Omega.{arith}
use mathlib.Core.Path.{◌∙◌, ap}
use Rattle.std.specs.Prelude.{Some}
use Rattle.std.proofs.lemmas.List.{take_rest}
use Rattle.ontology.specs.Text.{token_bytes}
use Rattle.tokens.specs.Seen.{seen_by}
use Rattle.tokens.proofs.Seeing.{seen_by_lem, seen_missing}
use Rattle.tokens.proofs.token_at.Goals as goal

pub returns-in_default : goal.returns-in_default
returns-in_default c =
    seen_missing c.args.text.now.bytes.now c.args.at c.byte_at.ensures (λ q. omega arith) (λ q. omega arith) (λ q. omega arith)
    (λ q. omega arith) (λ q. omega arith) (λ q. omega arith) (λ q. omega arith) (λ q. omega arith) (λ q. omega arith)

pub returns-in-40 : goal.returns-in-40
unfolding seen_by token_bytes
returns-in-40 c = seen_by_lem c.args.text.now.bytes.now c.args.at c.byte_at.ensures c.in-40.is

pub returns-in-41 : goal.returns-in-41
unfolding seen_by token_bytes
returns-in-41 c = seen_by_lem c.args.text.now.bytes.now c.args.at c.byte_at.ensures c.in-41.is

pub returns-in-58 : goal.returns-in-58
unfolding seen_by token_bytes
returns-in-58 c = ap Some c.see_name-seen.ensures ∙ seen_by_lem c.args.text.now.bytes.now c.args.at c.byte_at.ensures c.in-58.is

pub returns-in-83 : goal.returns-in-83
unfolding seen_by token_bytes
returns-in-83 c = ap Some c.see_as-seen.ensures ∙ rw (take_rest c.args.text.now.bytes.now c.args.at) (seen_by_lem c.args.text.now.bytes.now c.args.at c.byte_at.ensures c.in-83.is)

pub returns-in-79 : goal.returns-in-79
unfolding seen_by token_bytes
returns-in-79 c = ap Some c.see_either-seen.ensures ∙ rw (take_rest c.args.text.now.bytes.now c.args.at) (seen_by_lem c.args.text.now.bytes.now c.args.at c.byte_at.ensures c.in-79.is)

pub returns-in-111 : goal.returns-in-111
unfolding seen_by token_bytes
returns-in-111 c = ap Some c.see_either-seen-in-111.ensures ∙ rw (take_rest c.args.text.now.bytes.now c.args.at) (seen_by_lem c.args.text.now.bytes.now c.args.at c.byte_at.ensures c.in-111.is)

pub returns-in-65 : goal.returns-in-65
unfolding seen_by token_bytes
returns-in-65 c = ap Some c.see_as-seen-in-65.ensures ∙ rw (take_rest c.args.text.now.bytes.now c.args.at) (seen_by_lem c.args.text.now.bytes.now c.args.at c.byte_at.ensures c.in-65.is)

pub returns-in-114 : goal.returns-in-114
unfolding seen_by token_bytes
returns-in-114 c = ap Some c.see_as-seen-in-114.ensures ∙ rw (take_rest c.args.text.now.bytes.now c.args.at) (seen_by_lem c.args.text.now.bytes.now c.args.at c.byte_at.ensures c.in-114.is)

pub returns-in-34 : goal.returns-in-34
unfolding seen_by token_bytes
returns-in-34 c = ap Some c.see_as-seen-in-34.ensures ∙ rw (take_rest c.args.text.now.bytes.now c.args.at) (seen_by_lem c.args.text.now.bytes.now c.args.at c.byte_at.ensures c.in-34.is)
