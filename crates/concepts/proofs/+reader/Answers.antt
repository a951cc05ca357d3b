-- `read_concept`, `read_conjunction`, `read_existential` and `read_sides`, which call each other, meet their contracts, step by step as their
-- definitions go. Assumes nothing.
use Prim.Native.Nat.{ℕ, ◌-◌, ◌<◌}
use native.Mathlib.Omega.{arith}
use mathlib.Core.Path.{◌≡◌, refl, sym, ap, ◌∙◌}
use mathlib.Core.List.{List}
use lib.ListN.{length}
use Rattle.std.specs.Prelude.{Option, Some}
use Rattle.names.specs.Names.{read_to, read_word}
use Rattle.names.specs.Lent.{SortArrays, words_in, state_lent, ending_in}
use Rattle.names.specs.State.{State}
use Rattle.names.proofs.Parts.{over_concepts}
use Rattle.names.proofs.Steps.{then_read, then_refused}
use Rattle.chains.specs.declared.Sort.{Sort}
use Rattle.chains.specs.declared.Sort.TheVariants.{Concepts}
use Rattle.concepts.specs.Reader.{read_sides, read_filler, read_form, read_concept}
use Rattle.forms.specs.Forms.{form_at}
use Rattle.forms.specs.Opened.{open_conjunction}
use Rattle.forms.specs.declared.Form.{Form}
use Rattle.forms.proofs.Spaces.{space_read, space_refused}
use Rattle.forms.proofs.Inside.{inside_form}
use Rattle.concepts.proofs.Depth.{missing, deepest, deeper}
use Rattle.concepts.proofs.+reader.Goals.{read_conjunction-After-open_conjunction-step}
use Rattle.concepts.proofs.+reader.Goals as goal

-- what stands there, as the code has it
form_there : {found there : Option Form} {f g : Form} → found ≡ there → found ≡ Some f → f ≡ g → there ≡ Some g
form_there e is same = sym e ∙ is ∙ ap Some same

-- so it stands within the text
started : (text : List ℕ) (at : ℕ) {found : Option Form} {f g : Form} → found ≡ form_at text at → found ≡ Some f → f ≡ g → at < length text
started text at e is same = inside_form text at (form_there e is same) refl

-- and where some depth is left, the form says how the concept is read
read_by : (text : List ℕ) (names : State) (at : ℕ) {a : ℕ} {found : Option Form} {f g : Form} → (a ≡ 0 → ⊥) → found ≡ form_at text at → found ≡ Some f → f ≡ g →
    read_form (Some g) (read_concept (a - 1) text) text names at ≡ read_concept a text names at
read_by text names at some e is same = sym (deeper text names at some (form_there e is same))

-- ---- a concept

pub read_concept-returns-in_default-clause-reads : goal.read_concept-returns-in_default-clause-reads
read_concept-returns-in_default-clause-reads t c rest =
    let a = c.args in
    rw c.at.ensures (sym (missing a.book.now.text.bytes.now (state_lent rest a.names.now) a.at a.allowance (sym c.form_at.ensures ∙ c.in_default.is)))

pub read_concept-returns-then-allowance-eq0-clause-reads : goal.read_concept-returns-then-allowance-eq0-clause-reads
read_concept-returns-then-allowance-eq0-clause-reads t c rest =
    let a = c.args in
    rw c.at-then-allowance-eq0.ensures
    (sym (deepest a.book.now.text.bytes.now (state_lent rest a.names.now) a.at c.if-allowance-eq0.true (sym c.form_at.ensures ∙ c.in-Some.is)))

-- what a concept starts with stands within the text
pub read_concept-overflow_add-result : goal.read_concept-overflow_add-result
read_concept-overflow_add-result t c = omega (arith, started c.args.book.now.text.bytes.now c.args.at c.form_at.ensures c.in-Some.is c.in-Top.is)

pub read_concept-overflow_add-result-in-Bottom : goal.read_concept-overflow_add-result-in-Bottom
read_concept-overflow_add-result-in-Bottom t c =
    omega (arith, started c.args.book.now.text.bytes.now c.args.at c.form_at.ensures c.in-Some.is c.in-Bottom.is)

pub read_concept-read_word-requires : goal.read_concept-read_word-requires
read_concept-read_word-requires t c =
    (omega (arith, started c.args.book.now.text.bytes.now c.args.at c.form_at.ensures c.in-Some.is c.in-Name.is), c.args.names.now.linked)

-- what is behind a sign is read with one less of it
pub read_concept-read_conjunction-requires : goal.read_concept-read_conjunction-requires
read_concept-read_conjunction-requires t c = (
  omega (arith, c.decreases, c.if-allowance-eq0.false),
  started _ _ c.form_at.ensures c.in-Some.is c.in-Conjunction.is,
)

pub read_concept-read_existential-requires : goal.read_concept-read_existential-requires
read_concept-read_existential-requires t c = (
  omega (arith, c.decreases, c.if-allowance-eq0.false),
  started _ _ c.form_at.ensures c.in-Some.is c.in-Existential.is,
)

pub read_concept-returns-in-Top-clause-reads : goal.read_concept-returns-in-Top-clause-reads
unfolding read_form
read_concept-returns-in-Top-clause-reads t c rest =
    read_by _ _ _ c.if-allowance-eq0.false c.form_at.ensures c.in-Some.is c.in-Top.is

pub read_concept-returns-in-Bottom-clause-reads : goal.read_concept-returns-in-Bottom-clause-reads
unfolding read_form
read_concept-returns-in-Bottom-clause-reads t c rest =
    read_by _ _ _ c.if-allowance-eq0.false c.form_at.ensures c.in-Some.is c.in-Bottom.is

pub read_concept-returns-in-Name-clause-reads : goal.read_concept-returns-in-Name-clause-reads
unfolding read_form
read_concept-returns-in-Name-clause-reads t c rest =
    let a = c.args in
    let old = a.names.now in
    let new = c.read_word.new in
    over_concepts old.concepts.now.starts.now old.concepts.now.lengths.now old.links.now new.lent.starts.now new.lent.lengths.now new.links c.read_word.result
    (λ s. read_word Concepts a.book.now.text.bytes.now s a.at) c.read_word.ensures.reads old.roles.now.starts.now old.roles.now.lengths.now rest
    ∙ read_by _ _ _ c.if-allowance-eq0.false c.form_at.ensures c.in-Some.is c.in-Name.is

pub read_concept-returns-in-Conjunction-clause-reads : goal.read_concept-returns-in-Conjunction-clause-reads
unfolding read_form
read_concept-returns-in-Conjunction-clause-reads t c rest =
    c.read_conjunction.ensures.reads rest
    ∙ read_by _ _ _ c.if-allowance-eq0.false c.form_at.ensures c.in-Some.is c.in-Conjunction.is

pub read_concept-returns-in-Existential-clause-reads : goal.read_concept-returns-in-Existential-clause-reads
unfolding read_form
read_concept-returns-in-Existential-clause-reads t c rest =
    c.read_existential.ensures.reads rest
    ∙ read_by _ _ _ c.if-allowance-eq0.false c.form_at.ensures c.in-Some.is c.in-Existential.is

-- ---- a conjunction

-- the `&` was read, or refused
opened : (t : ℕ) (c : read_conjunction-After-open_conjunction-step t) (rest : Sort → SortArrays) →
    let old = c.args.names.now in
    let new = c.open_conjunction-step.new in
    ending_in rest new.lent.starts.now new.lent.lengths.now old.roles.now.starts.now old.roles.now.lengths.now new.links c.open_conjunction-step.result ≡
    open_conjunction c.args.book.now.text.bytes.now (state_lent rest old) c.args.at
opened t c rest =
    let old = c.args.names.now in
    let new = c.open_conjunction-step.new in
    over_concepts old.concepts.now.starts.now old.concepts.now.lengths.now old.links.now new.lent.starts.now new.lent.lengths.now new.links c.open_conjunction-step.result
    (λ s. open_conjunction c.args.book.now.text.bytes.now s c.args.at) c.open_conjunction-step.ensures.opened old.roles.now.starts.now old.roles.now.lengths.now rest

pub read_conjunction-returns-in_default-clause-reads : goal.read_conjunction-returns-in_default-clause-reads
read_conjunction-returns-in_default-clause-reads t c rest =
    then_refused _ _ _ (opened t (goal.at.read_conjunction-returns-in_default-clause-reads t c).After-open_conjunction-step rest) c.in_default.is

pub read_conjunction-returns-clause-reads : goal.read_conjunction-returns-clause-reads
read_conjunction-returns-clause-reads t c rest =
    then_read _ _ _ (opened t (goal.at.read_conjunction-returns-clause-reads t c).After-open_conjunction-step rest) c.in-Ok.is (c.read_sides.ensures.reads rest)

-- ---- an existential

pub read_existential-returns-in_default-clause-reads : goal.read_existential-returns-in_default-clause-reads
read_existential-returns-in_default-clause-reads t c rest = then_refused _ _ _ (c.open_existential-step.ensures.opened rest) c.in_default.is

pub read_existential-returns-in_default-step-clause-reads : goal.read_existential-returns-in_default-step-clause-reads
unfolding read_filler
read_existential-returns-in_default-step-clause-reads t c rest =
    then_read _ _ _ (c.open_existential-step.ensures.opened rest) c.in-Ok.is (then_refused _ _ _ (c.read_concept-step.ensures.reads rest) c.in_default-step.is)

pub read_existential-returns-clause-reads : goal.read_existential-returns-clause-reads
unfolding read_filler
read_existential-returns-clause-reads t c rest =
    let last = c.read_concept-step.new.names in
    then_read _ _ _ (c.open_existential-step.ensures.opened rest) c.in-Ok.is
    (then_read _ _ _ (c.read_concept-step.ensures.reads rest) c.in-Ok-step.is
    (ap (λ s. read_to s c.in-Ok.number c.in-Ok-step.end)
    (c.put_right.ensures (words_in rest last.concepts.now.starts.now last.concepts.now.lengths.now last.roles.now.starts.now last.roles.now.lengths.now))))

-- ---- two sides

pub read_sides-returns-in_default-clause-reads : goal.read_sides-returns-in_default-clause-reads
unfolding read_sides
read_sides-returns-in_default-clause-reads t c rest = then_refused _ _ _ (c.read_concept-step.ensures.reads rest) c.in_default.is

pub read_sides-returns-in_default-step-clause-reads : goal.read_sides-returns-in_default-step-clause-reads
unfolding read_sides
read_sides-returns-in_default-step-clause-reads t c rest =
    then_read _ _ _ (c.read_concept-step.ensures.reads rest) c.in-Ok.is
    (space_refused c.args.book.now.text.bytes.now _ _ _ c.past_space-step.ensures c.in_default-step.is refl)

-- the second side is read where the first one is the left
pub read_sides-returns-in_default-step-2-clause-reads : goal.read_sides-returns-in_default-step-2-clause-reads
unfolding read_sides
read_sides-returns-in_default-step-2-clause-reads t c rest =
    let a = c.args in
    let first = c.read_concept-step.new.names in
    then_read _ _ _ (c.read_concept-step.ensures.reads rest) c.in-Ok.is
    (space_read a.book.now.text.bytes.now _ _ _ c.past_space-step.ensures c.in-Ok-step.is
    (then_refused _ _ _
    (c.read_concept-step-2.ensures.reads rest
    ∙ ap (λ s. read_concept a.allowance a.book.now.text.bytes.now s c.in-Ok-step.start)
    (c.put_left.ensures (words_in rest first.concepts.now.starts.now first.concepts.now.lengths.now first.roles.now.starts.now first.roles.now.lengths.now)))
    c.in_default-step-2.is))

pub read_sides-returns-clause-reads : goal.read_sides-returns-clause-reads
unfolding read_sides
read_sides-returns-clause-reads t c rest =
    let a = c.args in
    let first = c.read_concept-step.new.names in
    let last = c.read_concept-step-2.new.names in
    then_read _ _ _ (c.read_concept-step.ensures.reads rest) c.in-Ok.is
    (space_read a.book.now.text.bytes.now _ _ _ c.past_space-step.ensures c.in-Ok-step.is
    (then_read _ _ _
    (c.read_concept-step-2.ensures.reads rest
    ∙ ap (λ s. read_concept a.allowance a.book.now.text.bytes.now s c.in-Ok-step.start)
    (c.put_left.ensures (words_in rest first.concepts.now.starts.now first.concepts.now.lengths.now first.roles.now.starts.now first.roles.now.lengths.now)))
    c.in-Ok-step-2.is
    (ap (λ s. read_to s a.number c.in-Ok-step-2.end)
    (c.put_right.ensures (words_in rest last.concepts.now.starts.now last.concepts.now.lengths.now last.roles.now.starts.now last.roles.now.lengths.now)))))
