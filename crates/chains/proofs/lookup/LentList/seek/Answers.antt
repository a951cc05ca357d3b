-- `LentList::seek` meets its contract: the word ends within the text, and the search says whether it stood before. Assumes nothing.
use Prim.Native.Nat.{◌+◌, ◌<◌}
use native.Mathlib.Omega.{arith}
use mathlib.Core.Path.{ap, ◌∙◌}
use Rattle.std.specs.Prelude.{Ok, Err}
use Rattle.words.proofs.Within.{word_fits}
use Rattle.chains.specs.Sorts.{limit_of}
use Rattle.chains.specs.Chains.{used_in}
use Rattle.chains.specs.declared.Sought.TheVariants.{New}
use Rattle.chains.proofs.Search.{seek_none, seek_long, seek_found, sought_known, sought_full, sought_new}
use Rattle.chains.proofs.lookup.LentList.seek.Goals as goal

pub returns-then-size-eq0 : goal.returns-then-size-eq0
returns-then-size-eq0 c = (seek_none _ _ _ _ _ c.word_length-size.ensures c.if-size-eq0.true, tt)

pub returns-then-size-gt-WORD_BYTES : goal.returns-then-size-gt-WORD_BYTES
returns-then-size-gt-WORD_BYTES c = (seek_long _ _ _ _ _ c.word_length-size.ensures c.if-size-eq0.false (omega arith), tt)

pub returns-in-Some : goal.returns-in-Some
returns-in-Some c = (
  seek_found _ _ _ _ _ c.word_length-size.ensures c.if-size-eq0.false c.if-size-gt-WORD_BYTES.false c.find_word.ensures (sought_known _ _ _ _ _ c.in-Some.is),
  tt,
)

pub returns-then-limit_of-number : goal.returns-then-limit_of-number
returns-then-limit_of-number c = (
  seek_found _ _ _ _ _ c.word_length-size.ensures c.if-size-eq0.false c.if-size-gt-WORD_BYTES.false c.find_word.ensures
      (ap (λ why. Err why) c.full_of.ensures ∙ sought_full _ _ _ _ _ c.in_default.is (omega (arith, c.if-limit_of-number.true, c.used_in-number.ensures, c.limit_of.ensures))),
  tt,
)

pub returns : goal.returns
returns c =
    let s = c.args.self.now in
    let size = c.word_length-size.result in
    let room : used_in s.sort s.links.now < limit_of s.sort = omega (arith, c.if-limit_of-number.false, c.used_in-number.ensures, c.limit_of.ensures) in (
      seek_found _ _ _ _ _ c.word_length-size.ensures c.if-size-eq0.false c.if-size-gt-WORD_BYTES.false c.find_word.ensures
          (ap (λ n. Ok (New n size (c.args.at + size))) c.used_in-number.ensures ∙ sought_new _ _ _ _ _ c.in_default.is room),
      (room, omega (arith, c.word_length-size.ensures, word_fits c.args.book.now.text.bytes.now c.args.at c.requires)),
    )

-- the word lies in the text
pub invariant_of-word : goal.invariant_of-word
invariant_of-word c = record { inside = omega (arith, c.word_length-size.ensures, word_fits c.args.book.now.text.bytes.now c.args.at c.requires) }
