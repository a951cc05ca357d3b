-- `read_word` meets its contract: what is known of the word says how the step ends. Assumes nothing.
use Prim.Native.Nat.{◌<◌}
use mathlib.Core.Path.{◌≡◌, ap, ◌∙◌}
use Rattle.std.specs.Prelude.{Ok}
use Rattle.chains.specs.declared.Sought.TheVariants.{New}
use borrow.Author.Rules.{rules}
use Rattle.chains.specs.Sorts.{limit_of, full_of}
use Rattle.chains.specs.WordList.{seek}
use Rattle.chains.specs.Chains.{used_in, list_in}
use Rattle.names.specs.Names.{ended}
use Rattle.names.specs.Lent.{state_with}
use Rattle.names.proofs.Parts.{word_old, word_new}
use Rattle.names.proofs.read_word.Goals.{After-seek-found}
use Rattle.names.proofs.read_word.Goals as goal

-- the list of the sort was searched, as it is lent
found : (c : After-seek-found) →
    let lent = c.args.lent.now in
    c.seek-found.result ≡ seek (limit_of c.args.sort) (full_of c.args.sort) c.args.book.now.text.bytes.now (list_in c.args.sort lent.starts.now lent.lengths.now c.args.links.now) c.args.at
found c =
    let l = c.list.ensures in
    rw (l.0, l.1, l.2, l.3) at c.seek-found.ensures.0

-- a word that is not new changes nothing
pub returns-in_default-clause-reads : goal.returns-in_default-clause-reads
returns-in_default-clause-reads c rest =
    let searched = found (goal.at.returns-in_default-clause-reads c).After-seek-found in
    ap (ended (state_with rest c.args.sort _ _ _)) c.sought_step-step.ensures
    ∙ word_old _ _ _ _ _ _ c.seek-found.result searched rest (λ n size end e. search rules)

pub returns-in_default-2-clause-reads : goal.returns-in_default-2-clause-reads
returns-in_default-2-clause-reads c rest =
    let searched = found (goal.at.returns-in_default-2-clause-reads c).After-seek-found in
    ap (ended (state_with rest c.args.sort _ _ _)) c.sought_step-step.ensures
    ∙ word_old _ _ _ _ _ _ c.seek-found.result searched rest (λ n size end e. cc (c.in_default.is, e))

-- a new word's number is below the limit
pub returns-clause-reads : goal.returns-clause-reads
returns-clause-reads c rest =
    let searched = found (goal.at.returns-clause-reads c).After-seek-found in
    let new : c.seek-found.result ≡ Ok (New c.in-Ok-New.field-0-0 c.in-Ok-New.size c.in-Ok-New.field-0-2) = search rules in
    let room : used_in c.args.sort c.args.links.now < limit_of c.args.sort = search rules in
    ap (ended (state_with rest c.args.sort _ _ _)) c.sought_step-step.ensures
    ∙ word_new _ _ _ _ _ _ c.seek-found.result searched rest new room c.requires.1 c.chain_word.ensures c.give_number.ensures.given
