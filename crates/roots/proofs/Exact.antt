-- An exact table of the strict rows is sound and closed for them.
--     exact_sound, exact_complete   what a bit says, and what has a bit
--     exact_closed                  the table is saturated
-- Assumes nothing.
use Prim.Native.Nat.{ℕ, ◌<◌}
use native.Mathlib.Omega.{arith}
use mathlib.Core.Path.{◌≡◌}
use mathlib.Core.Bool.{true}
use mathlib.Core.List.{List, []}
use Rattle.semantics.specs.Limits.{set_words}
use Rattle.semantics.specs.Outputs.{StrictTable}
use Rattle.semantics.specs.Row.{Row, Below}
use Rattle.semantics.specs.Saturated.{strict_rows, Holds, SoundTable, ClosedTable}
use Rattle.semantics.specs.Set.{cell}
use Rattle.semantics.proofs.Steps.{holds_self, holds_top, holds_rest, holds_strict, holds_conj, holds_exist, holds_bottom}
use Rattle.semantics.proofs.Tests.{cases}

module _ {N : ℕ} {rows : List Row} {table : List ℕ} (exact : StrictTable N (strict_rows rows) table) where
  pub exact_sound : SoundTable N rows (cell set_words table)
  exact_sound = record { bit = λ a b ha hb e. record { within = rw e at (exact.bit a b ha hb) } }

  pub exact_complete : {a b : ℕ} → a < N → b < N → Holds rows [] a b → cell set_words table a b ≡ true
  exact_complete {a} {b} ha hb h = cases (cell set_words table a b) (λ e. e) (λ e. absurd ((rw e at (exact.bit a b ha hb)) h.within))

  pub exact_closed : {R : ℕ} → 1 < N → Below N R rows → ClosedTable N rows (cell set_words table)
  exact_closed two below =
      let sound = exact_sound.bit in
      record {
        own = λ x h. exact_complete h h holds_self;
        rest = λ x b h hb e. exact_complete h hb (holds_rest b (sound x 1 h two e));
        row = λ x h. record {
          top_in = exact_complete h (omega arith) holds_top;
          strict_in = λ {a} {c} m e. let (ha, hc) = below.each _ m in exact_complete h hc (holds_strict m (sound x a h ha e));
          conj_in = λ {a} {b} {c} m e f. let (ha, hb, hc) = below.each _ m in exact_complete h hc (holds_conj m (sound x a h ha e) (sound x b h hb f));
          by_exist_in = λ {a} {r} {c} {a'} {c'} m m' e f.
              let (ha, hr, hc) = below.each _ m in
              let (hr', ha', hc') = below.each _ m' in
              exact_complete h hc' (holds_exist m m' (sound x a h ha e) (sound c a' hc ha' f));
          bottom_in = λ {a} {r} {c} m e f. let (ha, hr, hc) = below.each _ m in exact_complete h two (holds_bottom m (sound x a h ha e) (sound c 1 hc two f));
        };
      }
