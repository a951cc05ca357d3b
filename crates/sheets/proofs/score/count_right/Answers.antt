use native.Mathlib.Omega.{arith}
use native.Mathlib.Nat.{add-zero}
use Prim.Native.Nat.{ℕ, ◌+◌, ◌<◌}
use mathlib.Core.Path.{◌≡◌, sym, ◌∙◌, ap}
use mathlib.Core.List.{List}
use lib.Dec.{eqb}
use borrow.Author.Tests.{eq-eqb, ne_eqb}
use lib.ListN.{length, length-append, take, get_or}
use Rattle.std.proofs.Common.{count_by, ◌==◌}
use Rattle.std.proofs.lemmas.List.{take_all}
use Rattle.std.specs.List.{zip}
use Rattle.std.proofs.lemmas.List.Sums.{count_by_more_yes, count_by_more_no}
use Rattle.std.proofs.lemmas.Slice.Zip.{zip_turn, zip_end, get_or-zip, length-zip}
use Rattle.sheets.proofs.score.count_right.Goals as goal
use Rattle.sheets.proofs.score.count_right.Goals.{then-reply-said, else-reply-said}

-- whether the pair at a place agrees
at_pair : (key sheet : List ℕ) (i a b : ℕ) → i < length key → i < length sheet → a ≡ get_or key i 0 → b ≡ get_or sheet i 0 →
    eqb (get_or (zip key sheet) i (0, 0)).0 (get_or (zip key sheet) i (0, 0)).1 ≡ eqb a b
at_pair key sheet i a b k s ea eb = rw (get_or-zip key sheet i (0, 0) k s, ea, eb)

within : (key sheet : List ℕ) (i : ℕ) → i < length key → i < length sheet → i < length (zip key sheet)
within key sheet i k s = omega (arith, length-zip key sheet)

all_taken : (key sheet : List ℕ) (n : ℕ) → n ≡ length (zip key sheet) → take n (zip key sheet) ≡ zip key sheet
all_taken key sheet n e = take_all n (zip key sheet) (omega (arith, e))

pub loop-reply-preserved : goal.loop-reply-preserved
loop-reply-preserved c =
    let made = c.into_iter-reply-iterator.ensures.into_iter_gives in
    let items = c.zip-reply-items.ensures in
    let turn = zip_turn c.args.key.now c.args.sheet.now _ _ _ c.next.new.self _ (rw (made, items.first) c.iter.ensures.rest) (rw made items.second.0) c.loop-reply.yielded_by _ c.in-Some.is c.next.ensures.steps in
    let pair = at_pair c.args.key.now c.args.sheet.now _ _ _ turn.0 turn.1 (turn.2 0) (turn.3 0) in
    let inside = within c.args.key.now c.args.sheet.now _ turn.0 turn.1 in
    elim c.if-reply-said.branch [
      | then-reply-said w ↦ rw (w.right-is, length-append)
          (ap (λ n. n + 1) c.loop-reply.invariant.0 ∙ sym (count_by_more_yes _ _ _ (0, 0) inside (pair ∙ eq-eqb _ _ w.if-reply-said.true)), omega (arith, c.loop-reply.invariant.1))
      | else-reply-said w ↦ rw (w.right-is, add-zero, length-append)
          (c.loop-reply.invariant.0 ∙ sym (count_by_more_no _ _ _ (0, 0) inside (pair ∙ ne_eqb _ _ w.if-reply-said.false)), omega (arith, c.loop-reply.invariant.1))
    ]

pub returns-clause-counted : goal.returns-clause-counted
returns-clause-counted c =
    let made = c.into_iter-reply-iterator.ensures.into_iter_gives in
    let items = c.zip-reply-items.ensures in
    let end = zip_end c.args.key.now c.args.sheet.now _ _ _ c.next.new.self _ (rw (made, items.first) c.iter.ensures.rest) (rw made items.second.0) c.loop-reply.yielded_by c.in-None.is c.next.ensures.steps in
    c.loop-reply.invariant.0 ∙ ap (λ l. count_by (λ (p : ℕ × ℕ). p.0 == p.1) l) (all_taken c.args.key.now c.args.sheet.now _ (end ∙ sym (length-zip c.args.key.now c.args.sheet.now)))
