use native.Mathlib.Omega.{arith}
use Rattle.tokens.proofs.Seeing.{seen_colon, seen_name_lem}
use Rattle.tokens.proofs.see_name.Goals as goal

pub returns-in-0 : goal.returns-in-0
returns-in-0 c = seen_colon c.args.text.now.bytes.now c.args.at c.word_length.ensures c.in-0.is

pub returns-in_default : goal.returns-in_default
returns-in_default c = seen_name_lem c.args.text.now.bytes.now c.args.at c.word_length.ensures c.min.result (λ q. omega arith) c.min.ensures
