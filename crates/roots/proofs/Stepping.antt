-- Steps of a root: what a row adds to the set, and what stays as it was.
--     step_none, step_then     no step, and one after the other
--     satisfied_kept           a row that is satisfied stays so
--     followed_kept            a number that is followed stays so
--     Turn                     what a row does: turn_left where its right is not due or not missing, turn_took where it is
-- Assumes nothing.
use Prim.Native.Nat.{ℕ, ◌<◌}
use mathlib.Core.Path.{◌≡◌, refl, sym, ◌∙◌}
use mathlib.Core.Bool.{Bool, true, false, not, ◌&&◌, ◌||◌, false≢true}
use mathlib.Core.List.{List}
use lib.Dec.{eqb}
use lib.ListN.{length, get_or}
use borrow.Author.Tests.{not-true, not-false}
use Rattle.semantics.specs.Limits.{set_words}
use Rattle.semantics.specs.Row.{conj_subsumed_kind, kind_of, a_of, b_of, c_of}
use Rattle.semantics.specs.Set.{has}
use Rattle.semantics.proofs.Steps.{holds_self}
use Rattle.semantics.proofs.Tests.{cases, either, both, neither}
use Rattle.tables.specs.Table.{row_words}
use Rattle.normal.specs.Rules.{is_active}
use Rattle.normal.proofs.Decoding.{deck_row}
use Rattle.roots.specs.Root.{Ready}
use Rattle.roots.specs.Steps.{asks, some_left, Satisfied, FollowStep}
use Rattle.roots.proofs.Growth.{or_right, union_growing, ready_growing, row_complete, asked_holds}
use Rattle.roots.proofs.Unfollowed.{followed}

-- ---- steps

module _ {N k : ℕ} {rows levels table : List ℕ} where
  pub step_none : {set dirty : List ℕ} → FollowStep N k rows levels table set dirty set dirty
  step_none {set} {dirty} = record { growing = λ s g. g; included = record { kept = λ c e. e }; new_dirty = λ c. nothing_new (has dirty c) (has set c) }
    where
      nothing_new : (d s : Bool) → d ≡ (d || (s && not s))
      nothing_new true s = refl
      nothing_new false true = refl
      nothing_new false false = refl

  pub step_then : {set dirty mid waiting set' dirty' : List ℕ} → FollowStep N k rows levels table set dirty mid waiting → FollowStep N k rows levels table mid waiting set' dirty'
      → FollowStep N k rows levels table set dirty set' dirty'
  step_then {set} {dirty} {mid} {waiting} {set'} p q = record {
    growing = λ s g. q.growing s (p.growing s g);
    included = record { kept = λ c e. q.included.kept c (p.included.kept c e) };
    new_dirty = λ c. q.new_dirty c ∙ rw (p.new_dirty c) (both_new (has dirty c) (has set c) (has mid c) (has set' c) (p.included.kept c) (q.included.kept c));
  }
    where
      both_new : (d s m t : Bool) → (s ≡ true → m ≡ true) → (m ≡ true → t ≡ true) → ((d || (m && not s)) || (t && not m)) ≡ (d || (t && not s))
      both_new true s m t f g = refl
      both_new false s false t f g = cases s (λ e. absurd (false≢true (f e))) (λ e. rw e)
      both_new false s true true f g = cases s (λ e. rw e) (λ e. rw e)
      both_new false s true false f g = absurd (false≢true (g refl))

  module _ {set dirty set' dirty' : List ℕ} (step : FollowStep N k rows levels table set dirty set' dirty') where
    -- A number that is not dirty was not, and is not new.
    clean_before : (c : ℕ) → has dirty' c ≡ false → (has dirty c ≡ false) × (has set' c ≡ true → has set c ≡ true)
    clean_before c e =
        let (clean, old) = neither (has dirty c) _ (sym (step.new_dirty c) ∙ e) in
        (clean, λ h. not-false (has set c) (rw h at old))

    asks_before : (w l : ℕ) → some_left (has dirty') w ≡ false → asks k w l set' ≡ true → asks k w l set ≡ true
    unfolding asks
    asks_before w l quiet asked =
        let (first, other) = neither (has dirty' (a_of w)) _ quiet in
        let (left, rest) = both (has set' (a_of w)) _ asked in
        rw ((clean_before (a_of w) first).1 left) (
        either (is_active k w l) _ rest
        (λ t. rw t)
        (λ t. let (kind, second) = both (eqb (kind_of w) conj_subsumed_kind) (has set' (b_of w)) t in
        rw (kind, (clean_before (b_of w) (rw kind at other)).1 second) (or_right (is_active k w l) true refl)))

    quiet_before : (w : ℕ) → some_left (has dirty') w ≡ false → some_left (has dirty) w ≡ false
    quiet_before w quiet =
        let (first, other) = neither (has dirty' (a_of w)) _ quiet in
        rw (clean_before (a_of w) first).0 (cases (eqb (kind_of w) conj_subsumed_kind) (λ t. rw t (clean_before (b_of w) (rw t at other)).0) (λ t. rw t))

    pub satisfied_kept : {w l : ℕ} → Satisfied k w l set dirty → Satisfied k w l set' dirty'
    satisfied_kept {w} {l} satisfied = record {
      right_in = λ quiet asked. step.included.kept (c_of w) (satisfied.right_in (quiet_before w quiet) (asks_before w l quiet asked));
    }

    pub followed_kept : (c : ℕ) → followed set dirty c ≡ true → followed set' dirty' c ≡ true
    followed_kept c e =
        let (member, clean) = both (has set c) _ e in
        rw (step.new_dirty c, not-true (has dirty c) clean, member, step.included.kept c member)

-- ---- one row

-- The step is one that a root may take, and leaves row i satisfied.
pub record Turn (N k : ℕ) (rows levels table : List ℕ) (i : ℕ) (set dirty set' dirty' : List ℕ) : Type 0 where
  pub step : FollowStep N k rows levels table set dirty set' dirty'
  pub satisfied : Satisfied k (get_or rows i 0) (get_or levels i 0) set' dirty'

-- By the test of `lacks_right`.
module _ {N : ℕ} {rows levels table heads links : List ℕ} (ready : Ready N rows levels table heads links) {k i w : ℕ} (row : w ≡ get_or rows i 0) {set dirty : List ℕ} {lacking : Bool}
    (asked : lacking ≡ (asks k w (get_or levels i 0) set && not (has set (c_of w)))) where
  pub turn_left : lacking ≡ false → Turn N k rows levels table i set dirty set dirty
  turn_left t =
      let c : ℕ = c_of (get_or rows i 0) in
      let is = rw row at asked in
      record { step = step_none; satisfied = record { right_in = λ quiet e. not-false (has set c) (rw e at (sym is ∙ t)) } }

  pub turn_took : i < length rows → lacking ≡ true → {c : ℕ} {taken set' dirty' : List ℕ} (new : List ℕ) → c ≡ c_of w → taken ≡ row_words set_words table c
      → ((x : ℕ) → has new x ≡ (has taken x && not (has set x))) → ((x : ℕ) → has dirty' x ≡ (has dirty x || has new x)) → ((x : ℕ) → has set' x ≡ (has set x || has taken x))
      → Turn N k rows levels table i set dirty set' dirty'
  turn_took h t {taken = taken} new right e added waits joined =
      let c : ℕ = c_of (get_or rows i 0) in
      let is = rw row at asked in
      let words = rw (right, row) at e in
      let due = (both (asks k (get_or rows i 0) (get_or levels i 0) set) (not (has set c)) (sym is ∙ t)).0 in
      let below = (deck_row ready.deck i h).rights in
      record {
        step = record {
          growing = λ s g. union_growing g (rw words (ready_growing ready below (asked_holds ready k i h g due))) joined;
          included = record { kept = λ x m. rw (joined x, m) };
          new_dirty = λ x. rw (waits x, added x, joined x) (taken_new (has dirty x) (has set x) (has taken x));
        };
        satisfied = record { right_in = λ quiet asked. joined c ∙ or_right (has set c) _ (rw words (row_complete ready below below holds_self)) };
      }
    where
      taken_new : (d s r : Bool) → (d || (r && not s)) ≡ (d || ((s || r) && not s))
      taken_new true s r = refl
      taken_new false true true = refl
      taken_new false true false = refl
      taken_new false false r = refl
