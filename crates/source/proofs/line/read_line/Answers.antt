-- `read_line` meets its contract: what goes by value is lent, and comes back from the line. Assumes nothing.
use borrow.Author.Rules.{rules}
use mathlib.Core.Path.{◌≡◌, ap, ◌∙◌}
use mathlib.Core.List.{List, []}
use Prim.Native.Nat.{ℕ}
use Rattle.chains.specs.declared.Sort.{Sort}
use Rattle.names.specs.State.{Step}
use Rattle.names.specs.Lent.{SortArrays, arrays, ending_in}
use Rattle.names.proofs.Parts.{state_lent, state_back}
use Rattle.source.specs.Lines.{read_line}
use Rattle.source.specs.Steps.{kind_step}
use Rattle.source.proofs.line.read_line.Goals as goal

-- a line is lent that of every sort, so that there is no rest
rest : Sort → SortArrays
rest sort = arrays [] []

-- what is left behind each reference is what the line wrote there
same_ending : {a a' b b' c c' d d' e e' : List ℕ} (step : Step) → a ≡ a' → b ≡ b' → c ≡ c' → d ≡ d' → e ≡ e' → ending_in rest a b c d e step ≡ ending_in rest a' b' c' d' e' step
same_ending step p q r s t = λ i. ending_in rest (p i) (q i) (r i) (s i) (t i) step

pub returns : goal.returns
returns c =
    let last = c.read_fields-step.new.names in
    let a = c.args in
    let names = a.names in
    state_back rest _ _ _ _ _ _ _ (kind_step c.read_fields-step.result) c.used_in-names.ensures c.used_in-names-2.ensures
    ∙ same_ending {a' = last.concepts.now.starts.now} {b' = last.concepts.now.lengths.now} {c' = last.roles.now.starts.now} {d' = last.roles.now.lengths.now} {e' = last.links.now} _
    (search rules) (search rules) (search rules) (search rules) (search rules)
    ∙ c.read_fields-step.ensures.reads rest
    ∙ ap (λ s. read_line a.book.now.text.bytes.now s a.at)
    (state_lent rest names.concepts.starts names.concepts.lengths names.roles.starts names.roles.lengths a.links.now names.concepts.used names.roles.used
    c.requires.1 c.put_used.ensures c.put_used-2.ensures)
