-- What exact columns give: the strict table, and the start of a pass that has more rows.
-- Assumes nothing.
use Prim.Native.Nat.{ℕ, ◌<◌}
use native.Mathlib.Omega.{arith}
use mathlib.Core.Path.{◌≡◌, refl}
use mathlib.Core.Bool.{Bool, true, false, false≢true}
use mathlib.Core.List.{List, [], Memᴰ}
use Rattle.semantics.specs.Concept.{Concept, Inclusion, Within}
use Rattle.semantics.specs.Closure.{Replies}
use Rattle.semantics.specs.Outputs.{StrictTable}
use Rattle.semantics.specs.Row.{Row}
use Rattle.semantics.specs.Saturated.{strict_rows, Holds}
use Rattle.semantics.proofs.Rows.{rows_model}
use Rattle.semantics.proofs.Steps.{holds_self, holds_top}
use Rattle.columns.specs.Columns.{Columns, Seeded, Transposed}

-- ---- the strict table

pub columns_table : {N : ℕ} {T : List (Inclusion ℕ ℕ)} {columns table : List ℕ} → Columns N T columns → Transposed N columns table → StrictTable N T table
columns_table columns turned = record { bit = λ a b ha hb. rw (turned.turned a b ha hb) (columns.bit a b ha hb); zeros = turned.zeros }

-- ---- the next pass

replied : {P : Type 0} (b : Bool) → Replies b P → b ≡ true → P
replied true h e = h
replied false h e = absurd (false≢true e)

replied_true : {P : Type 0} (b : Bool) → Replies b P → P → b ≡ true
replied_true true h p = refl
replied_true false h p = absurd (h p)

-- more rows have more consequences
within_part : {rows rows' : List Row} {C D : Concept ℕ ℕ} → ((q : Row) → Memᴰ q rows → Memᴰ q rows') → Within (strict_rows rows) [] C D → Within (strict_rows rows') [] C D
within_part {rows} {rows'} part h = record {
  holds = λ w. h.holds (record {
    world = w.world;
    model = (rows_model w.world rows).1 (λ x lt q m. (rows_model w.world rows').0 w.model x lt q (part q m));
    point = w.point;
    inside = w.inside;
    member = w.member;
    obeys = w.obeys;
  });
}

pub columns_seeded : {N : ℕ} {rows rows' : List Row} {columns : List ℕ} → Columns N (strict_rows rows) columns → ((q : Row) → Memᴰ q rows → Memᴰ q rows') → 1 < N →
    Seeded N rows' columns
columns_seeded {rows = rows} exact part two = record {
  sound = λ a b ha hb h. record { within = within_part part (replied _ (exact.bit a b ha hb) h) };
  own = λ a ha. replied_true _ (exact.bit a a ha ha) (let self : Holds rows [] a a = holds_self in self.within);
  top = λ a ha. replied_true _ (exact.bit a 0 ha (omega arith)) (let all : Holds rows [] a 0 = holds_top in all.within);
  zeros = exact.zeros;
}
