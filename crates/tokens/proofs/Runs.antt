-- Gap bytes in a row, and first bytes that two lists have in common, as the code counts them. Assumes nothing.
use Prim.Native.Nat.{ℕ, ◌≤◌}
use native.Mathlib.Omega.{arith}
use mathlib.Core.Path.{◌≡◌, refl}
use mathlib.Core.List.{List, [], ◌∷◌}
use lib.ListN.{length}
use lib.Dec.{eqb}
use Rattle.std.specs.List.{zip, prefix_len}
use Rattle.semantics.proofs.Tests.{cases}
use Rattle.ontology.specs.Text.{gap_byte}
use Rattle.tokens.specs.Seen.{gap_length, common}

pub gap_run : (bytes : List ℕ) → gap_length bytes ≡ prefix_len gap_byte bytes
unfolding gap_length
gap_run [] = refl
gap_run (b ∷ bytes) = cases (gap_byte b) (λ t. rw t (omega (arith, gap_run bytes))) (λ f. rw f refl)

pub gap_le : (bytes : List ℕ) → gap_length bytes ≤ length bytes
unfolding gap_length
gap_le [] = omega arith
gap_le (b ∷ bytes) = cases (gap_byte b) (λ t. let h = gap_le bytes in rw t (omega arith)) (λ f. rw f (omega arith))

pub common_run : (u w : List ℕ) → common u w ≡ prefix_len (λ p. eqb p.0 p.1) (zip u w)
unfolding common
common_run [] w = refl
common_run (b ∷ u) [] = refl
common_run (b ∷ u) (c ∷ w) = cases (eqb b c) (λ t. rw t (omega (arith, common_run u w))) (λ f. rw f refl)
