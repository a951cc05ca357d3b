-- The laws of `Gap`, what stands between two fields. What is above this file uses these, and `gap_only` only where the reader meets a gap.
--     Unspaced    no gap goes on here
--     gap_end     where two gaps start, they are the same, if none goes on behind them
--     gap_stops   no word goes on in a gap
--     plain_gap   the plainest gap, and (`gap_only`) today the only one
-- Assumes nothing.
use Prim.Native.Nat.{ℕ}
use mathlib.Core.Path.{◌≡◌, refl, sym, ◌∙◌}
use mathlib.Core.Bool.{false}
use mathlib.Core.List.{List, [], ◌∷◌, ◌++◌}
use lib.Dec.{eqb}
use Rattle.semantics.specs.Source.{space_byte, Gap}
use Rattle.semantics.proofs.Spelling.{Stops}

abbrev pub Unspaced : List ℕ → Type 0
Unspaced [] = Unit {0}
Unspaced (b ∷ s) = eqb b space_byte ≡ false

-- the plainest gap
abbrev pub plain_gap : List ℕ
plain_gap = space_byte ∷ []

pub gap_plain : Gap plain_gap
gap_plain = record { one = refl }

-- there is no other
pub gap_only : {g : List ℕ} → Gap g → g ≡ plain_gap
gap_only h = h.one

-- its first byte
pub record GapStarts (g : List ℕ) : Type 0 where
  pub more : List ℕ
  pub first : g ≡ space_byte ∷ more

pub gap_starts : {g : List ℕ} → Gap g → GapStarts g
gap_starts h = record { more = []; first = h.one }

pub gap_stops : {g : List ℕ} → Gap g → (s : List ℕ) → Stops (g ++ s)
gap_stops h s = rw h.one refl

pub gap_end : {g h s t : List ℕ} → Gap g → Gap h → Unspaced s → Unspaced t → g ++ s ≡ h ++ t → (g ≡ h) × (s ≡ t)
gap_end {s} {t} a b hs ht e =
    let f : space_byte ∷ s ≡ space_byte ∷ t = rw (a.one, b.one) at e in
    let q : s ≡ t = cc in
    (a.one ∙ sym b.one, q)
