-- The visit of the rows that read b, slot after slot.
--     Visiting                       the rows of the slots of b from s on are satisfied; its laws are -none, -more and -all
-- Assumes nothing.
use Prim.Native.Nat.{ℕ, ◌*◌, ◌/◌, ◌<◌, ◌≤◌}
use native.Mathlib.Omega.{arith}
use mathlib.Core.Path.{◌≡◌}
use mathlib.Core.List.{List}
use mathlib.Core.Bool.{◌&&◌}
use lib.Dec.{eqb}
use lib.ListN.{length, get_or}
use borrow.Author.Tests.{eqb-true}
use Rattle.semantics.specs.Limits.{number_limit}
use Rattle.semantics.specs.Row.{conj_subsumed_kind, kind_of, a_of, b_of}
use Rattle.semantics.proofs.Tests.{either, both}
use Rattle.index.specs.Index.{slot_key, slot_place, next_slot, Visit}
use Rattle.index.proofs.Keys.{left_reads, second_reads}
use Rattle.index.proofs.Visit.{Met, ToCome, visit_none, visit_more, met_none, met_more, met_all}
use Rattle.roots.specs.Root.{Ready}
use Rattle.roots.specs.Steps.{Satisfied, FollowStep, FollowedRows}
use Rattle.roots.proofs.Stepping.{step_none, step_then, satisfied_kept, Turn}

abbrev SatisfiedSlot : ℕ → List ℕ → List ℕ → List ℕ → List ℕ → ℕ → Type 0
SatisfiedSlot k rows levels set dirty t = Satisfied k (get_or rows (t / 2) 0) (get_or levels (t / 2) 0) set dirty

pub record Visiting (N k : ℕ) (rows levels table : List ℕ) (b : ℕ) (start others set dirty : List ℕ) (s : ℕ) : Type 0 where
  pub step : FollowStep N k rows levels table start others set dirty
  pub at : Visit (slot_key rows) b (2 * length rows) s
  pub met : Met (slot_key rows) b (2 * length rows) (SatisfiedSlot k rows levels set dirty) s

module _ {N : ℕ} {rows levels table heads links : List ℕ} (ready : Ready N rows levels table heads links) {k b : ℕ} where
  pub visiting_none : {start others : List ℕ} → b < number_limit → Visiting N k rows levels table b start others start others (get_or heads b 0)
  visiting_none h = record { step = step_none; at = visit_none ready.indexed (omega arith); met = met_none ready.indexed _ (omega arith) }

  pub visiting_more : {start others set dirty set' dirty' : List ℕ} {s r i : ℕ} → 0 < s → i ≡ slot_place s → r ≡ next_slot links s
      → Turn N k rows levels table i set dirty set' dirty'
      → Visiting N k rows levels table b start others set dirty s
      → Visiting N k rows levels table b start others set' dirty' r
  visiting_more {set' = set'} {dirty' = dirty'} h place next turn v = rw next (record {
    step = step_then v.step turn.step;
    at = visit_more ready.indexed v.at h;
    met = met_more ready.indexed _ v.at h (λ t. satisfied_kept turn.step) (rw place at turn.satisfied) v.met;
  })

  pub visiting_all : {start others set dirty : List ℕ} {s : ℕ} → s ≤ 0 → Visiting N k rows levels table b start others set dirty s → FollowedRows k rows levels b set dirty
  visiting_all {set = set} {dirty} h v = record {
    each = λ j l reads.
        let w : ℕ = get_or rows j 0 in
        either (eqb b (a_of w)) (eqb (kind_of w) conj_subsumed_kind && eqb b (b_of w)) reads
        (λ e. come j (rw (eqb-true b (a_of w) e) (left_reads rows j l)))
        (λ e. let (kind, second) = both (eqb (kind_of w) conj_subsumed_kind) (eqb b (b_of w)) e in
        come j (rw (eqb-true b (b_of w) second) (second_reads rows j l (eqb-true (kind_of w) conj_subsumed_kind kind))));
  }
    where
      come : (j : ℕ) → ToCome (slot_key rows) b (2 * length rows) j → Satisfied k (get_or rows j 0) (get_or levels j 0) set dirty
      come j c = rw c.of_row at (met_all h v.met c.slot c.below c.keyed)
