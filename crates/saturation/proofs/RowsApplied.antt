-- A visit of the rows with one key: each draws its inferences.
--     AppliedFrom    the rows from s on have been applied
-- Assumes nothing.
use Prim.Native.Nat.{ℕ, ◌-◌, ◌*◌, ◌/◌, ◌<◌, ◌≤◌}
use native.Mathlib.Omega.{arith}
use mathlib.Core.Path.{◌≡◌, refl, sym, ◌∙◌}
use mathlib.Core.Bool.{true}
use mathlib.Core.Logic.{◌⊎◌, ⊎_elim}
use mathlib.Core.List.{List}
use lib.ListN.{length, get_or}
use Rattle.semantics.specs.Limits.{role_limit}
use Rattle.semantics.specs.Row.{in_exist_kind, exist_in_kind, kind_of, role_of}
use Rattle.semantics.specs.Refusals.{has_role}
use Rattle.normal.specs.Rules.{Deck}
use Rattle.index.specs.Index.{key_count, slot_key, slot_place, next_slot, pair_key, Indexed, Visit}
use Rattle.index.proofs.Keys.{pair_in_exist, pair_exist_in, in_exist_slot, exist_in_slot, in_exist_reads, exist_in_reads}
use Rattle.index.proofs.Visit.{Met, ToCome, visit_none, visit_more, met_none, met_more, met_all}
use Rattle.saturation.specs.Applying.{RowIn, MarksPair}
use Rattle.saturation.specs.Worklist.{Inference, Pair, OfPair, forwards, backwards, Paired, TakesPart, ReadingOf, Drawn, WorkStep, Draws}
use Rattle.saturation.proofs.Applying.{row_fine, forwards_applied, backwards_applied}
use Rattle.saturation.proofs.Inferences.{part_reader}
use Rattle.saturation.proofs.Stepping.{step_none, step_then}

-- P i d: the row at i is to settle d.
pub record AppliedFrom (N : ℕ) (words : List ℕ) (x : ℕ) (P : ℕ → Inference → Type 0) (old new dirty dirty' : List ℕ) (s : ℕ) : Type 0 where
  pub visit : Visit (slot_key words) x (2 * length words) s
  pub step : WorkStep N words old new dirty dirty'
  pub visited : Met (slot_key words) x (2 * length words) (λ t. (d : Inference) → P (t / 2) d → Drawn d new dirty') s

module _ {N : ℕ} {words heads links : List ℕ} (indexed : Indexed words heads links) {x : ℕ} {P : ℕ → Inference → Type 0} where
  pub applied_none : {columns dirty : List ℕ} → x < key_count → AppliedFrom N words x P columns columns dirty dirty (get_or heads x 0)
  applied_none h = record { visit = visit_none indexed h; step = step_none; visited = met_none indexed _ h }

  module _ {old mid dirty dirty' : List ℕ} {s : ℕ} (v : AppliedFrom N words x P old mid dirty dirty' s) (h : 0 < s) where
    pub applied_more : {new dirty'' : List ℕ} → Draws N words (P (slot_place s)) mid new dirty' dirty'' → AppliedFrom N words x P old new dirty dirty'' (next_slot links s)
    applied_more t = record {
      visit = visit_more indexed v.visit h;
      step = step_then v.step t.step;
      visited = met_more indexed _ v.visit h (λ k p d q. t.step.kept d (p d q)) t.drawn v.visited;
    }

-- The row visited is one of the rows.
pub visited_row : {words : List ℕ} {x s w : ℕ} → Visit (slot_key words) x (2 * length words) s → 0 < s → w ≡ get_or words (slot_place s) 0 → RowIn words w
visited_row {s = s} v h is = record { index = slot_place s; within = omega (arith, v.within); is = sym is }

pub applied_all : {N : ℕ} {words : List ℕ} {x : ℕ} {P : ℕ → Inference → Type 0} {old new dirty dirty' : List ℕ} {s : ℕ} → AppliedFrom N words x P old new dirty dirty' s → s ≤ 0 →
    {i : ℕ} → ToCome (slot_key words) x (2 * length words) i → (d : Inference) → P i d → Drawn d new dirty'
applied_all {P = P} v h come d p = met_all h v.visited come.slot come.below come.keyed d (rw come.of_row p)

-- ---- the pairs of one row

module _ {N : ℕ} {words : List ℕ} (deck : Deck N words) {w : ℕ} (row : RowIn words w) where
  role_small : has_role (kind_of w) ≡ true → role_of w < role_limit
  role_small e = omega (arith, (row_fine deck row).roles e)

  pub pair_key_small : (kind_of w ≡ in_exist_kind) ⊎ (kind_of w ≡ exist_in_kind) → pair_key w < key_count
  pair_key_small = ⊎_elim
      (λ three. rw (pair_in_exist w three) (omega (arith, role_small (rw three))))
      (λ four. rw (pair_exist_in w (λ e. omega arith)) (omega (arith, role_small (rw four))))

  module _ {s : ℕ} (visit : Visit (slot_key words) (pair_key w) (2 * length words) s) (l : 0 < s) where
    abbrev other : ℕ
    other = get_or words (slot_place s) 0

    below : s - 1 < 2 * length words
    below = omega (arith, visit.within)

    -- The row visited is of the other kind, with the role of w,
    first_pair : kind_of w ≡ in_exist_kind → Pair w other
    first_pair three =
        let (four, role) = exist_in_slot deck (s - 1) below _ (role_small (rw three)) (visit.keyed l ∙ pair_in_exist w three) in
        record { by_in_exist = three; by_exist_in = four; role = role }

    second_pair : kind_of w ≡ exist_in_kind → Pair other w
    second_pair four =
        let (three, role) = in_exist_slot deck (s - 1) below _ (role_small (rw four)) (visit.keyed l ∙ pair_exist_in w (λ e. omega arith)) in
        record { by_in_exist = three; by_exist_in = four; role = sym role }

    -- so the pair is applied.
    pub pair_applied : {v : ℕ} {old new dirty dirty' : List ℕ} → v ≡ other → (kind_of w ≡ in_exist_kind) ⊎ (kind_of w ≡ exist_in_kind) →
        MarksPair w v old new dirty dirty' → Draws N words (OfPair w other) old new dirty dirty'
    pair_applied is kinds marks =
        let m = rw is at marks in
        let visited : RowIn words other = visited_row visit l refl in
        ⊎_elim
        (λ three. forwards_applied deck row visited (first_pair three) (m.forwards (first_pair three)))
        (λ four. backwards_applied deck visited row (second_pair four) (m.backwards (second_pair four)))
        kinds

pair_come : (words : List ℕ) {w : ℕ} (j : ℕ) {d : Inference} → j < length words → OfPair w (get_or words j 0) d → ToCome (slot_key words) (pair_key w) (2 * length words) j
pair_come words {w} j l (forwards p) = rw (pair_in_exist w p.by_in_exist, ← p.role) (exist_in_reads words j l p.by_exist_in)
pair_come words {w} j l (backwards p) = rw (pair_exist_in w (λ e. omega (arith, p.by_exist_in)), p.role) (in_exist_reads words j l p.by_in_exist)

pub pairs_all : {N : ℕ} {words old new dirty dirty' : List ℕ} {w s : ℕ} → s ≤ 0 → AppliedFrom N words (pair_key w) (λ k. OfPair w (get_or words k 0)) old new dirty dirty' s →
    Draws N words (Paired words w) old new dirty dirty'
pairs_all {words = words} h v = record { step = v.step; drawn = λ d p. applied_all v h (pair_come words p.index p.within p.of) d p.of }

-- ---- the rows that read column b, which is not 1

pub readers_all : {N : ℕ} {words old new dirty dirty' : List ℕ} {b s : ℕ} → (b ≡ 1 → ⊥) → s ≤ 0 → AppliedFrom N words b (λ k. TakesPart words (get_or words k 0)) old new dirty dirty' s →
    Draws N words (ReadingOf words b) old new dirty dirty'
readers_all n h v = record {
  step = v.step;
  drawn = λ d p. let reader = part_reader p.within n p.part p.reads in applied_all v h reader.slot d reader.part;
}
