-- `LentList::find_word` meets its contract: the chain of the word's hash is among the links of its sort. Assumes nothing.
use Rattle.chains.proofs.Search.{find_listed}
use Rattle.chains.proofs.lookup.LentList.find_word.Goals as goal

pub returns : goal.returns
returns c =
    let s = c.args.self.now in
    let w = c.args.word.now in
    find_listed s.sort w.text.now s.starts.now s.lengths.now s.links.now w.at w.size
    c.heads_at.ensures c.word_hash.ensures.0 c.entry_at-head.ensures c.find_below.ensures
