use Rattle.tokens.proofs.Seeing.{seen_whole, seen_cut}
use Rattle.tokens.proofs.see_as.Goals as goal

pub returns-then-size-word : goal.returns-then-size-word
returns-then-size-word c = seen_whole c.args.bytes.now c.spelling-word.ensures c.matched-size.ensures c.args.kind c.if-size-word.true

pub returns : goal.returns
returns c = seen_cut c.args.bytes.now c.spelling-word.ensures c.matched-size.ensures c.args.kind c.if-size-word.false
