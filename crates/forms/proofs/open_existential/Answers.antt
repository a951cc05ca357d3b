-- `open_existential` meets its contract, step by step as its definition goes. Assumes nothing.
use Prim.Native.Nat.{◌+◌}
use native.Mathlib.Omega.{arith}
use mathlib.Core.Path.{◌≡◌, refl, sym, ap, ◌∙◌}
use mathlib.Core.List.{[]}
use Rattle.chains.specs.Sorts.{with_sort}
use Rattle.chains.specs.declared.Sort.{Sort}
use Rattle.chains.specs.declared.Sort.TheVariants.{Concepts, Roles}
use Rattle.names.specs.Names.{read_to, take_number, read_word}
use Rattle.names.specs.Lent.{SortArrays, arrays, words_in, state_in, state_lent, ending_in}
use Rattle.names.specs.State.{Ending}
use Rattle.names.proofs.Ends.{take_next}
use Rattle.names.proofs.Parts.{over_concepts}
use Rattle.names.proofs.Steps.{then_read, then_refused}
use Rattle.forms.specs.Opened.{open_existential}
use Rattle.forms.proofs.Spaces.{space_read, space_refused}
use Rattle.forms.proofs.open_existential.Goals.{After-take_number-step, After-read_word-step}
use Rattle.forms.proofs.open_existential.Goals as goal

-- the number was taken, or refused
taken : (c : After-take_number-step) (rest : Sort → SortArrays) →
    let n = c.args.names.now in
    let last = c.take_number-step.new in
    ending_in rest last.lent.starts.now last.lent.lengths.now n.roles.now.starts.now n.roles.now.lengths.now last.links c.take_number-step.result ≡ take_number (state_lent rest n) c.args.at
taken c rest =
    let n = c.args.names.now in
    let last = c.take_number-step.new in
    over_concepts n.concepts.now.starts.now n.concepts.now.lengths.now n.links.now last.lent.starts.now last.lent.lengths.now last.links c.take_number-step.result (λ s. take_number s c.args.at)
    c.take_number-step.ensures.taken n.roles.now.starts.now n.roles.now.lengths.now rest

-- the role was read, or refused
named : (c : After-read_word-step) (rest : Sort → SortArrays) →
    let n = c.args.names.now in
    let last = c.take_number-step.new in
    let new = c.read_word-step.new in
    ending_in rest last.lent.starts.now last.lent.lengths.now new.lent.starts.now new.lent.lengths.now new.links c.read_word-step.result ≡
    read_word Roles c.args.book.now.text.bytes.now (state_in rest last.lent.starts.now last.lent.lengths.now n.roles.now.starts.now n.roles.now.lengths.now last.links) c.in-Ok.next
named c rest =
    let last = c.take_number-step.new.lent in
    c.read_word-step.ensures.reads (with_sort rest Concepts (arrays last.starts.now last.lengths.now))

pub returns-in_default-clause-opened : goal.returns-in_default-clause-opened
unfolding open_existential
returns-in_default-clause-opened c rest =
    then_refused _ _ _ (taken (goal.at.returns-in_default-clause-opened c).After-take_number-step rest) c.in_default.is

-- the role's word starts behind the sign
pub read_word-step-requires : goal.read_word-step-requires
read_word-step-requires c =
    let n = c.args.names.now in
    let none : Sort → SortArrays = λ sort. arrays [] [] in
    let behind : c.in-Ok.next ≡ c.args.at + 1 =
    take_next (state_lent none n) c.args.at (sym (ap (λ (r : Ending). r.step) (taken (goal.at.read_word-step-requires c).After-take_number-step none)) ∙ c.in-Ok.is) in
    (omega (arith, behind, c.requires), omega (arith, n.linked, c.take_number-step.auto.links))

pub returns-in_default-step-clause-opened : goal.returns-in_default-step-clause-opened
unfolding open_existential
returns-in_default-step-clause-opened c rest =
    let at = goal.at.returns-in_default-step-clause-opened c in
    then_read _ _ _ (taken at.After-take_number-step rest) c.in-Ok.is (then_refused _ _ _ (named at.After-read_word-step rest) c.in_default-step.is)

pub returns-in_default-step-2-clause-opened : goal.returns-in_default-step-2-clause-opened
unfolding open_existential
returns-in_default-step-2-clause-opened c rest =
    let at = goal.at.returns-in_default-step-2-clause-opened c in
    then_read _ _ _ (taken at.After-take_number-step rest) c.in-Ok.is
    (then_read _ _ _ (named at.After-read_word-step rest) c.in-Ok-step.is
    (space_refused c.args.book.now.text.bytes.now _ _ _ c.past_space-step.ensures c.in_default-step-2.is refl))

pub returns-clause-opened : goal.returns-clause-opened
unfolding open_existential
returns-clause-opened c rest =
    let at = goal.at.returns-clause-opened c in
    let last = c.take_number-step.new.lent in
    let roles = c.read_word-step.new.lent in
    then_read _ _ _ (taken at.After-take_number-step rest) c.in-Ok.is
    (then_read _ _ _ (named at.After-read_word-step rest) c.in-Ok-step.is
    (space_read c.args.book.now.text.bytes.now _ _ _ c.past_space-step.ensures c.in-Ok-step-2.is
    (ap (λ s. read_to s c.in-Ok.number c.in-Ok-step-2.start)
    (c.put_left.ensures (words_in rest last.starts.now last.lengths.now roles.starts.now roles.lengths.now)))))
