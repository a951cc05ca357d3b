-- What each rule lets a column take is sound.
-- Assumes nothing.
use Prim.Native.Nat.{ℕ, ◌*◌, ◌<◌}
use native.Mathlib.Decide.{dec_lt}
use native.Mathlib.Omega.{arith}
use mathlib.Core.Path.{◌≡◌, sym, ◌∙◌}
use mathlib.Core.Bool.{true, not, false≢true}
use mathlib.Core.List.{List, [], Memᴰ}
use Rattle.semantics.specs.Limits.{set_words}
use Rattle.semantics.specs.Closure.{strict}
use Rattle.semantics.specs.Row.{Row, simple, conj_subsumed, in_exist, exist_in}
use Rattle.semantics.specs.Saturated.{Holds}
use Rattle.semantics.specs.Set.{cell}
use Rattle.semantics.proofs.Steps.{holds_strict, holds_conj, holds_exist, holds_bottom}
use Rattle.semantics.proofs.Tests.{both}
use Rattle.columns.specs.Columns.{Seeded}
use Rattle.columns.specs.Steps.{in_apart, in_shared, in_apart_where}
use Rattle.saturation.proofs.Stepping.{Sound}

-- What a bit of a seeded column says.
seeded_bit : {N : ℕ} {rows : List Row} {columns : List ℕ} → Seeded N rows columns → (a x : ℕ) → a < N → x < 64 * set_words → cell set_words columns a x ≡ true →
    (x < N) × Holds rows [] x a
seeded_bit {N} s a x ha l h = elim (dec_lt x N) [ yes lt ↦ (lt, s.sound x a lt ha h) | no n ↦ absurd (false≢true (sym (s.zeros x a (omega arith) l ha) ∙ h)) ]

pub apart_in : (a : ℕ) (columns : List ℕ) (x : ℕ) → in_apart a columns x ≡ true → cell set_words columns a x ≡ true
apart_in a columns x h = (both (cell set_words columns a x) (not (cell set_words columns 1 x)) h).0

module _ {N : ℕ} {rows : List Row} {columns : List ℕ} where
  pub strict_sound : {a c : ℕ} → a < N → Memᴰ (simple strict a c) rows → Sound N rows c (in_apart a) columns
  strict_sound {a} {c} ha m = record { each = λ s x l h. let (lt, p) = seeded_bit s a x ha l (apart_in a columns x h) in (lt, holds_strict m p) }

  pub conj_sound : {a b c : ℕ} → a < N → b < N → Memᴰ (conj_subsumed a b c) rows → Sound N rows c (in_shared a b) columns
  conj_sound {a} {b} {c} ha hb m = record {
    each = λ s x l h.
        let (f, g) = both (in_apart a columns x) (cell set_words columns b x) h in
        let (lt, p) = seeded_bit s a x ha l (apart_in a columns x f) in
        (lt, holds_conj m p (seeded_bit s b x hb l g).1);
  }

  -- where its right is known to be nothing
  pub bottom_sound : {a r y : ℕ} → 1 < N → a < N → y < N → Memᴰ (in_exist a r y) rows → cell set_words columns 1 y ≡ true → Sound N rows 1 (in_apart a) columns
  bottom_sound {a} {r} {y} two ha hy m f = record {
    each = λ s x l h. let (lt, p) = seeded_bit s a x ha l (apart_in a columns x h) in (lt, holds_bottom m p (s.sound y 1 hy two f));
  }

  pub exist_sound : {a r y d c : ℕ} → a < N → y < N → d < N → Memᴰ (in_exist a r y) rows → Memᴰ (exist_in r d c) rows → Sound N rows c (in_apart_where d y a) columns
  exist_sound {a} {r} {y} {d} {c} ha hy hd m m' = record {
    each = λ s x l h.
        let (f, g) = both (cell set_words columns d y) (in_apart a columns x) h in
        let (lt, p) = seeded_bit s a x ha l (apart_in a columns x g) in
        (lt, holds_exist m m' p (s.sound y d hy hd f));
  }
