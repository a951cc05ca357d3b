-- How a gap at an offset goes on. Assumes nothing.
use Prim.Native.Nat.{ℕ, zero, suc, ◌+◌}
use native.Mathlib.Numerals.{add-one}
use mathlib.Core.Path.{◌≡◌, refl, sym, ◌∙◌}
use mathlib.Core.Bool.{true, false, true≢false}
use mathlib.Core.List.{List, [], ◌∷◌}
use lib.ListN.{get_or, drop}
use Rattle.ontology.specs.Text.{gap_byte}
use Rattle.tokens.specs.Seen.{gap_length}

pub gap_more : (u : List ℕ) (at : ℕ) → gap_byte (get_or u at 0) ≡ true → gap_length (drop at u) ≡ suc (gap_length (drop (at + 1) u))
unfolding gap_length
gap_more [] at h = absurd (true≢false (sym h))
gap_more (b ∷ u) zero h = rw h
gap_more (b ∷ u) (suc at) h = gap_more u at h ∙ rw (add-one, add-one)

pub gap_none : (u : List ℕ) (at : ℕ) → gap_byte (get_or u at 0) ≡ false → gap_length (drop at u) ≡ 0
unfolding gap_length
gap_none [] zero h = refl
gap_none [] (suc at) h = refl
gap_none (b ∷ u) zero h = rw h
gap_none (b ∷ u) (suc at) h = gap_none u at h
