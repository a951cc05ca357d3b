-- The passes while they run, with the buffers that they run on. Invariant: so many passes have led from the deck to these levels, and the columns
-- and the table are exact for them. Measure: the rows that are not stuck.
-- Assumes nothing.
use Prim.Native.Nat.{ℕ, ◌+◌, ◌*◌, ◌<◌, ◌≤◌}
use native.Mathlib.Omega.{arith}
use mathlib.Core.Path.{◌≡◌, refl, sym, ◌∙◌, ap, subst}
use mathlib.Core.Bool.{true, false}
use mathlib.Core.Logic.{⊎_elim}
use mathlib.Core.List.Memᴰ
use mathlib.Core.List.{List, map, Memᴰ}
use lib.ListN.{length}
use Rattle.semantics.specs.Limits.{set_words}
use Rattle.semantics.specs.Row.{Row}
use Rattle.semantics.specs.Saturated.{strict_rows, empty_row}
use Rattle.normal.specs.Rules.{is_active, row_of, active, stuck, grown, marked_level}
use Rattle.normal.proofs.Selected.{selected_length}
use Rattle.roots.specs.Root.{Ready}
use Rattle.columns.specs.Columns.{Columns, Transposed}
use Rattle.columns.proofs.ExactColumns.{columns_table}
use Rattle.emptying.specs.Emptiable.{Emptiable}
use Rattle.levels.specs.Relevelled.{Relevelled}
use Rattle.pass.specs.Passes.{Bounded, Fresh, sticks, PassEnded, PassRan}
use Rattle.ranking.specs.AllPasses.{Rankable, PassesRan}
use Rattle.pass.proofs.Sets.{repeated}
use Rattle.ranking.proofs.Stuck.{stuck_kept, marked_bounded, fewer_live}
use Rattle.ranking.proofs.Passes.{Going, going_none, going_more, ranked}

pub record SoFar (N : ℕ) (words start levels columns₀ columns table₀ table heads links : List ℕ) (n : ℕ) : Type 0 where
  pub going : Going words levels n
  pub ready : Ready N words levels table heads links
  pub columns_room : set_words * N ≤ length columns
  pub exact : Columns N (strict_rows (grown words levels)) columns
  pub turned : Transposed N columns table
  pub few : n + length (active 0 words levels) ≤ length words
  pub bounded : Bounded words levels
  pub levels_length : length levels ≡ length start
  pub columns_length : length columns ≡ length columns₀
  pub table_length : length table ≡ length table₀

module _ {N : ℕ} {words start columns₀ table₀ heads links : List ℕ} where
  pub passes_none : Rankable N words start columns₀ table₀ heads links → SoFar N words start start columns₀ columns₀ table₀ table₀ heads links 0
  passes_none s = record {
    going = going_none start s.ready.deck s.ready.levels_room s.zeros;
    ready = s.ready;
    columns_room = s.columns_room;
    exact = s.exact;
    turned = s.turned;
    few = omega (arith, selected_length (is_active 0) words start);
    bounded = record { each = λ i lt. omega (arith, s.zeros i lt) };
    levels_length = refl;
    columns_length = refl;
    table_length = refl;
  }

  module _ {levels columns table : List ℕ} {n : ℕ} (r : SoFar N words start levels columns₀ columns table₀ table heads links n) where
    pub passes_fresh : Fresh words levels
    passes_fresh = record { levelled = r.going.levelled; bounded = r.bounded }

    pub passes_all : {levels' : List ℕ} {k : ℕ} → PassRan words levels levels' k false → PassesRan N words start levels' columns₀ columns table₀ table k (n + 1)
    passes_all {levels'} p = record {
      ranked = ranked levels' r.going p.ended r.ready.exact;
      small = p.small;
      bounded = p.bounded;
      levels_length = p.length_kept ∙ r.levels_length;
      columns_length = r.columns_length;
      table_length = r.table_length;
    }

    -- ---- after a pass that got stuck

    module _ {levels' new : List ℕ} {k : ℕ} (p : PassRan words levels levels' k true) (m : Relevelled (marked_level k) words levels' new) where
      -- the rows stay, and more of them say "left is nothing"
      rows_kept : PassEnded words levels levels' k true → (q : Row) → Memᴰ q (grown words levels) → Memᴰ q (grown words new)
      rows_kept (sticks v f all some_left live same) q i =
          ⊎_elim (Memᴰ.append_left (map empty_row (stuck words new)))
          (λ j.
          let (x, mx, e) = Memᴰ.of_map empty_row (stuck words levels) j in
          Memᴰ.append_right (map row_of words) (Memᴰ.cast (sym e) (Memᴰ.map empty_row (stuck_kept k v m x (subst (Memᴰ x) (sym same) mx)))))
          (Memᴰ.append_cases (map row_of words) i)

      long_new : length words ≤ length new
      long_new = omega (arith, m.length_kept, p.length_kept, r.ready.levels_room)

      pub passes_emptiable : Emptiable N words new columns table
      passes_emptiable = record {
        deck = r.ready.deck;
        levels_room = long_new;
        columns_room = r.columns_room;
        table_room = r.ready.room;
        before = grown words levels;
        written = λ q i. Memᴰ.append_left (map empty_row (stuck words levels)) i;
        part = rows_kept p.ended;
        exact = r.exact;
        turned = r.turned;
      }

      fewer : PassEnded words levels levels' k true → length (active 0 words new) < length (active 0 words levels)
      fewer (sticks v f all some_left live same) =
          omega (arith, fewer_live k v m (repeated v k (omega arith) all) some_left, ap length live)

      marked_after : PassEnded words levels levels' k true → Bounded words new
      marked_after (sticks v f all some_left live same) = marked_bounded k v m p.bounded

      pub passes_less : length (active 0 words new) < length (active 0 words levels)
      passes_less = fewer p.ended

      pub passes_more : {columns' table' : List ℕ} → Columns N (strict_rows (grown words new)) columns' → Transposed N columns' table' → length columns' ≡ length columns →
          length table' ≡ length table → SoFar N words start new columns₀ columns' table₀ table' heads links (n + 1)
      passes_more c t cl tl = record {
        going = going_more levels' r.going p.ended m;
        ready = record {
          deck = r.ready.deck;
          levels_room = long_new;
          room = omega (arith, r.ready.room, tl);
          exact = columns_table c t;
          indexed = r.ready.indexed;
        };
        columns_room = omega (arith, r.columns_room, cl);
        exact = c;
        turned = t;
        few = omega (arith, r.few, passes_less);
        bounded = marked_after p.ended;
        levels_length = m.length_kept ∙ p.length_kept ∙ r.levels_length;
        columns_length = cl ∙ r.columns_length;
        table_length = tl ∙ r.table_length;
      }
