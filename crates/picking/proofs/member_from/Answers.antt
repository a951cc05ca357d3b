use borrow.Author.Rules.{rules}
use native.Mathlib.Omega.{arith}
use mathlib.Core.Path.{sym, ◌∙◌}
use lib.Bits.{and_le_l}
use mir.Syntax.{w64}
use mir.Val.{Fits}
use lib.ListN.{get_or}
use Rattle.semantics.specs.Limits.{set_words}
use Rattle.semantics.specs.Set.{bit, Are64}
use Rattle.semantics.proofs.Tests.{both}
use Rattle.sets.proofs.Bits.{bit_and_lem}
use Rattle.picking.proofs.Search.{searching_none, searching_more, searching_end, searching_found}
use Rattle.picking.proofs.member_from.Goals.{Start}
use Rattle.picking.proofs.member_from.Goals as goal

-- every word of a set is one of 64 bits
fits_at : (c : Start) → Are64 c.args.set.words
fits_at c k = let f : Fits w64 (get_or c.args.set.words k 0) = search rules in f.fits

pub loop-k-init : goal.loop-k-init
loop-k-init c = searching_none

pub returns-then-w-ne0 : goal.returns-then-w-ne0
returns-then-w-ne0 c =
    let v = get_or c.args.set.words c.loop-k.k 0 in
    let mask = c.loop-k.mask in
    let fits = fits_at (goal.at.returns-then-w-ne0 c).Start c.loop-k.k in
    searching_found {W = set_words} (omega (arith, c.loop-k-test.true)) (omega (arith, and_le_l v mask, fits))
    (λ j h. (both (bit v j) (bit mask j) (sym (bit_and_lem v mask j) ∙ h)).0) (omega (arith, c.if-w-ne0.true))

pub loop-k-preserved : goal.loop-k-preserved
loop-k-preserved c = searching_more c.loop-k.invariant c.if-w-ne0.false

pub returns : goal.returns
returns c = searching_end c.loop-k.invariant (search rules) (omega (arith, c.loop-k-test.false))
