-- `find_name` meets its contract: an accepted text's state has the span of each word, and every other part is empty.
-- Assumes nothing.
use native.Mathlib.Omega.{arith}
use mathlib.Core.Path.{◌≡◌, refl, subst₂, ◌∙◌}
use mathlib.Core.List.{List, []}
use Prim.Native.Nat.{ℕ, ◌+◌, ◌-◌, ◌<◌}
use lib.ListN.{get_or}
use Rattle.semantics.specs.Limits.{number_limit}
use Rattle.chains.specs.declared.Sort.TheVariants.{Concepts}
use Rattle.names.specs.Lent.{state_of}
use Rattle.chains.proofs.Parts.{first_get}
use Rattle.finder.specs.Contract.{NameSpan, NameFound}
use Rattle.finder.proofs.Spans.{span_named, span_none, span_refused, span_inside, beyond}
use Rattle.finder.proofs.find_name.Goals.{Else-number-ge-NUMBERS}
use Rattle.finder.proofs.find_name.Goals as goal

-- the empty part, where nothing is named
nothing : {text : List ℕ} {at : ℕ × ℕ} {number : ℕ} → NameSpan text number 0 0 → NameFound text [] at (at.0, 0 + at.1) number
nothing span = record { start = 0; size = 0; span = span; contents = refl; block = refl; offset = omega arith }

-- the text is refused
pub returns-in_default : goal.returns-in_default
returns-in_default c = nothing (span_refused _ _ c.read_text-read.ensures.reading c.in_default.is)

-- there is no such number
pub returns-then-number-ge-NUMBERS : goal.returns-then-number-ge-NUMBERS
returns-then-number-ge-NUMBERS c =
    let reading = c.read_text-read.ensures.reading in
    let accepted = c.in-Ok.is in
    nothing (span_none _ reading accepted _ (beyond _ reading accepted _ c.if-number-ge-NUMBERS.true))

-- it is one of the 256, so its start and its length are those of the state
below : (c : Else-number-ge-NUMBERS) → c.args.number < number_limit
below c = omega (arith, c.if-number-ge-NUMBERS.false)

started : (c : Else-number-ge-NUMBERS) →
    let names = c.read_text-read.result.names in
    let n = c.args.number in
    let list = (state_of names c.read_text-read.new.links).lists Concepts in
    (get_or list.starts n 0 ≡ get_or names.concepts.starts n 0) × (get_or list.lengths n 0 ≡ get_or names.concepts.lengths n 0)
started c =
    let names = c.read_text-read.result.names in
    (first_get number_limit names.concepts.starts _ (below c), first_get number_limit names.concepts.lengths _ (below c))

-- the number is not a word's
pub returns-then-size-eq0 : goal.returns-then-size-eq0
returns-then-size-eq0 c =
    nothing (span_none _ c.read_text-read.ensures.reading c.in-Ok.is _ ((started (goal.at.returns-then-size-eq0 c).Else-number-ge-NUMBERS).1 ∙ c.if-size-eq0.true))

-- the word lies in the text
pub slice_bounds-result-end-2 : goal.slice_bounds-result-end-2
slice_bounds-result-end-2 c =
    let same = started (goal.at.slice_bounds-result-end-2 c).Else-number-ge-NUMBERS in
    omega (arith, same.0, same.1, span_inside _ c.read_text-read.ensures.reading c.in-Ok.is c.args.number)

pub returns : goal.returns
returns c =
    let names = c.read_text-read.result.names in
    let n = c.args.number in
    let same = started (goal.at.returns c).Else-number-ge-NUMBERS in
    let long : get_or names.concepts.starts n 0 + get_or names.concepts.lengths n 0 - get_or names.concepts.starts n 0 ≡ get_or names.concepts.lengths n 0 = omega arith in
    let span = span_named _ c.read_text-read.ensures.reading c.in-Ok.is n (omega (arith, c.if-size-eq0.false, same.1)) in
    record {
      start = get_or names.concepts.starts n 0;
      size = get_or names.concepts.lengths n 0;
      span = subst₂ (NameSpan _ n) same.0 same.1 span;
      contents = rw long;
      block = refl;
      offset = omega arith;
    }
