-- A root on its way: one number after the other is followed.
--     Rooted                    a growing set that has s and 0, with its dirty numbers: every row is satisfied
--     rooted_none, rooted_more  at the start, and after a number was followed
--     rooted_less               fewer numbers are left to follow
--     rooted_known, rooted_all  at the end: the set meets what is known to be exceptional, or nothing is dirty and it does not
--     rooted_unset              the first of these where no set is told
-- Assumes nothing.
use Prim.Native.Nat.{ℕ, ◌-◌, ◌%◌, ◌^◌, ◌<◌}
use native.Mathlib.Decide.{dec_lt}
use native.Mathlib.Omega.{arith}
use mathlib.Core.Path.{◌≡◌, refl, sym, ap, ◌∙◌, subst}
use mathlib.Core.Bool.{Bool, true, false, not, ◌&&◌, and-false, false≢true, true≢false}
use mathlib.Core.Logic.{◌↔◌}
use mathlib.Core.List.{List, [], map, Memᴰ}
use lib.Dec.{eqb}
use Rattle.std.proofs.Math.Nat.{zero-div}
use lib.ListN.{length, get_or}
use borrow.Author.Tests.{eq-eqb, eqb-true, not-true}
use Rattle.semantics.specs.Closure.{Replies}
use Rattle.semantics.specs.Concept.{Witness}
use Rattle.semantics.specs.Limits.{number_limit, set_words}
use Rattle.semantics.specs.Row.{conj_subsumed, conj_subsumed_kind, Fields, fields_of, numbered, kind_of, a_of, b_of, c_of}
use Rattle.semantics.specs.Saturated.{strict_rows, between, Holds, ClosedRoot}
use Rattle.semantics.specs.Set.{bit, has, cell}
use Rattle.semantics.proofs.Canonical.{root_exceptional, root_decides}
use Rattle.semantics.proofs.Steps.{holds_self, holds_top, holds_conj}
use Rattle.semantics.proofs.Tests.{cases, either, both, neither}
use Rattle.sets.specs.Members.{Included}
use Rattle.sets.proofs.Members.{and_true}
use Rattle.tables.specs.Table.{row_words}
use Rattle.normal.specs.Rules.{row_of, is_active, active, grown, HasLefts}
use Rattle.normal.proofs.Decoding.{deck_row, row_fields, row_index}
use Rattle.normal.proofs.Grown.{grown_written, grown_below}
use Rattle.normal.proofs.Selected.{selected_index}
use Rattle.roots.specs.Root.{Ready, KnownExceptional, Root}
use Rattle.roots.specs.Steps.{asks, some_left, Satisfied, Growing, FollowStep, FollowedRows}
use Rattle.roots.proofs.Exact.{exact_closed}
use Rattle.roots.proofs.Growth.{conj_grown, ready_growing, row_complete}
use Rattle.roots.proofs.Stepping.{satisfied_kept, followed_kept}
use Rattle.roots.proofs.Unfollowed.{followed, unfollowed, unfollowed_lt}

pub record Rooted (N k : ℕ) (rows levels table : List ℕ) (s : ℕ) (set dirty : List ℕ) : Type 0 where
  pub growing : Growing N (grown rows levels) (active k rows levels) table s set
  pub start : has set s ≡ true
  pub top : has set 0 ≡ true
  pub dirty_in : Included dirty set
  pub satisfied : (j : ℕ) → j < length rows → Satisfied k (get_or rows j 0) (get_or levels j 0) set dirty

-- ---- the start: row s of the exact table, of which only the lefts of the rules are followed

module _ {N : ℕ} {rows levels table heads links : List ℕ} (ready : Ready N rows levels table heads links) where
  -- A row of kind 2 is closed there, and an active one has its left among the lefts.
  own_satisfied : {k s : ℕ} {lefts dirty : List ℕ} → s < N → HasLefts k rows levels lefts → ((c : ℕ) → has dirty c ≡ (has (row_words set_words table s) c && has lefts c))
      → (j : ℕ) → j < length rows → Satisfied k (get_or rows j 0) (get_or levels j 0) (row_words set_words table s) dirty
  unfolding asks
  own_satisfied {k} {s} {lefts} {dirty} h each is j l = record {
    right_in = λ quiet asked.
        let w : ℕ = get_or rows j 0 in
        let own = row_words set_words table s in
        let word = deck_row ready.deck j l in
        let (left, rest) = both (has own (a_of w)) _ asked in
        either (is_active k w (get_or levels j 0)) _ rest
        (λ t. absurd (false≢true (sym (neither (has dirty (a_of w)) _ quiet).0 ∙ is (a_of w) ∙ rw (left, each.each j l t))))
        (λ t. let (kind, second) = both (eqb (kind_of w) conj_subsumed_kind) (has own (b_of w)) t in
        let sound : (b : ℕ) → b < N → has own b ≡ true → Holds (grown rows levels) [] s b = (ready_growing ready h holds_self).sound.bit in
        row_complete ready h word.rights
        (holds_conj (conj_grown rows levels j l (eqb-true (kind_of w) conj_subsumed_kind kind)) (sound (a_of w) word.lefts left) (sound (b_of w) word.seconds second)));
  }

  pub rooted_none : {k s : ℕ} {lefts set dirty : List ℕ} → s < N → HasLefts k rows levels lefts → set ≡ row_words set_words table s
      → ((c : ℕ) → has dirty c ≡ (has set c && has lefts c)) → Rooted N k rows levels table s set dirty
  rooted_none {s = s} {lefts} {set} {dirty} h each e is =
      rw e (record {
        growing = ready_growing ready h holds_self;
        start = row_complete ready h h holds_self;
        top = row_complete ready h (omega (arith, ready.deck.two)) holds_top;
        dirty_in = record { kept = λ c d. (both (has (row_words set_words table s) c) (has lefts c) (sym (rw e at (is c)) ∙ d)).0 };
        satisfied = own_satisfied h each (rw e at is);
      })

-- ---- b is followed

-- A row that does not read b is as satisfied without b among the dirty numbers.
satisfied_without : {k w l : ℕ} {set dirty : List ℕ} (others : List ℕ) (b : ℕ) → some_left (eqb b) w ≡ false → ((c : ℕ) → has others c ≡ (has dirty c && not (eqb b c)))
    → Satisfied k w l set dirty → Satisfied k w l set others
satisfied_without {w = w} {dirty = dirty} others b apart is satisfied = record { right_in = λ quiet. satisfied.right_in (before quiet) }
  where
    same : (c : ℕ) → eqb b c ≡ false → has others c ≡ has dirty c
    same c e = is c ∙ rw e (and_true (has dirty c))

    before : some_left (has others) w ≡ false → some_left (has dirty) w ≡ false
    before quiet =
        let (left, second) = neither (eqb b (a_of w)) _ apart in
        cases (eqb (kind_of w) conj_subsumed_kind)
        (λ t. rw (t, ← same (a_of w) left, ← same (b_of w) (rw t at second)) (rw t at quiet))
        (λ t. rw (t, ← same (a_of w) left) (rw t at quiet))

module _ {N k : ℕ} {rows levels table : List ℕ} {s b : ℕ} {set dirty others set' dirty' : List ℕ}
    (r : Rooted N k rows levels table s set dirty) (member : has dirty b ≡ true) (removed : (c : ℕ) → has others c ≡ (has dirty c && not (eqb b c)))
    (step : FollowStep N k rows levels table set others set' dirty') where
  pub rooted_more : FollowedRows k rows levels b set' dirty' → Rooted N k rows levels table s set' dirty'
  rooted_more rest = record {
    growing = step.growing s r.growing;
    start = step.included.kept s r.start;
    top = step.included.kept 0 r.top;
    dirty_in = record {
      kept = λ c e. either (has others c) _ (sym (step.new_dirty c) ∙ e)
          (λ t. step.included.kept c (r.dirty_in.kept c (both (has dirty c) _ (sym (removed c) ∙ t)).0))
          (λ t. (both (has set' c) _ t).0);
    };
    satisfied = λ j l. cases (some_left (eqb b) (get_or rows j 0))
        (rest.each j l)
        (λ apart. satisfied_kept step (satisfied_without others b apart removed (r.satisfied j l)));
  }

  pub rooted_less : b < number_limit → unfollowed set' dirty' number_limit < unfollowed set dirty number_limit
  rooted_less small =
      unfollowed_lt set dirty set' dirty' (λ c e. followed_kept step c (still c e)) b
      (rw (member, r.dirty_in.kept b member))
      (followed_kept step b (rw (r.dirty_in.kept b member, removed b, member, eq-eqb b b refl))) number_limit small
    where
      still : (c : ℕ) → followed set dirty c ≡ true → followed set others c ≡ true
      still c e =
          let (in-set, clean) = both (has set c) _ e in
          rw (in-set, removed c, not-true (has dirty c) clean)

-- ---- the end

replies : {P : Type 0} (b : Bool) → P ↔ (b ≡ true) → Replies b P
replies true i = i.1 refl
replies false i = λ p. false≢true (i.0 p)

module _ {N k : ℕ} {rows levels table : List ℕ} {s : ℕ} {set dirty : List ℕ} (r : Rooted N k rows levels table s set dirty) where
  -- Where nothing is dirty, the set has whatever a row asks for.
  module _ {heads links : List ℕ} (ready : Ready N rows levels table heads links) (clean : (c : ℕ) → has dirty c ≡ false) where
    right_in : (j : ℕ) → j < length rows → asks k (get_or rows j 0) (get_or levels j 0) set ≡ true → has set (c_of (get_or rows j 0)) ≡ true
    right_in j l = (r.satisfied j l).right_in (rw (clean (a_of (get_or rows j 0)), clean (b_of (get_or rows j 0))) (and-false (eqb (kind_of (get_or rows j 0)) conj_subsumed_kind)))

    conj_closed : {a b c : ℕ} → Memᴰ (conj_subsumed a b c) (map row_of rows) → has set a ≡ true → has set b ≡ true → has set c ≡ true
    unfolding asks
    conj_closed {a} {b} {c} m ha hb =
        let at = row_index {words = rows} m in
        let w : ℕ = get_or rows at.index 0 in
        let e = sym (row_fields (deck_row ready.deck at.index at.within)) ∙ ap fields_of at.is in
        let kind : kind_of w ≡ conj_subsumed_kind = ap (λ (f : Fields). f.kind) e in
        let left : a_of w ≡ a = ap (λ (f : Fields). f.left) e in
        let second : b_of w ≡ b = ap (λ (f : Fields). f.second) e in
        let right : c_of w ≡ c = ap (λ (f : Fields). f.right) e in
        rw right at (right_in at.index at.within (rw (left, kind, second, ha, hb)))

    active_closed : (p : ℕ × ℕ) → Memᴰ p (active k rows levels) → has set p.0 ≡ true → has set p.1 ≡ true
    unfolding asks
    active_closed p m =
        let at = selected_index (is_active k) rows levels m in
        subst (λ (p : ℕ × ℕ). has set p.0 ≡ true → has set p.1 ≡ true) at.is (λ h. right_in at.index at.within (rw (h, at.taken)))

    root_closed : ClosedRoot N (grown rows levels) (cell set_words table) (active k rows levels) (has set)
    root_closed = record {
      top_in = r.top;
      table_in = r.growing.table_in;
      conj_in = λ m. conj_closed (grown_written rows levels (λ e. omega arith) m);
      defeasible_in = active_closed;
    }

  none_has : (d : ℕ) → has [] d ≡ false
  unfolding has bit
  none_has d = rw (zero-div (2 ^ (63 - d % 64)))

  -- What the set has of the numbers that are known to be exceptional.
  module _ {known : List ℕ} (exceptions : KnownExceptional N (strict_rows (grown rows levels)) (map between (active k rows levels)) known)
      (met : List ℕ) (is : (c : ℕ) → has met c ≡ (has set c && has known c)) where
    pub rooted_all : {heads links : List ℕ} → Ready N rows levels table heads links → ((c : ℕ) → has dirty c ≡ false) → ((c : ℕ) → has met c ≡ false) →
        Root N (strict_rows (grown rows levels)) (map between (active k rows levels)) s set false
    rooted_all ready clean none =
        let two = ready.deck.two in
        let below = grown_below ready.deck levels in
        let table-closed = exact_closed ready.exact two below in
        let closed = root_closed ready clean in
        let alive : has set 1 ≡ false = sym (and_true (has set 1)) ∙ rw exceptions.bottom_in at (sym (is 1) ∙ none 1) in
        record {
          replies = λ x. true≢false (sym ((root_exceptional two below table-closed closed r.start r.growing.sound).0 x) ∙ alive);
          decides = λ e d h. replies (has set d) (root_decides two below table-closed closed r.start r.growing.sound alive d h);
          zeros = r.growing.zeros;
        }

    -- An s that obeys E would be in each of these, and obey E there.
    no_witness : Witness (strict_rows (grown rows levels)) (map between (active k rows levels)) (numbered s) → (c : ℕ) → has set c ≡ true → has known c ≡ true → ⊥
    no_witness w c e f = elim (dec_lt c N) [
      | yes l ↦ exceptions.exceptional c l f (record {
        world = w.world;
        model = w.model;
        point = w.point;
        inside = w.inside;
        member = (r.growing.sound.bit c l e).within.holds w;
        obeys = w.obeys;
      })
      | no l ↦ true≢false (sym e ∙ r.growing.zeros c (omega arith))
    ]

    pub rooted_known : (((c : ℕ) → has met c ≡ false) → ⊥) → Root N (strict_rows (grown rows levels)) (map between (active k rows levels)) s set true
    rooted_known some = record {
      replies = λ w. some (λ c. cases (has met c) (λ e. let (in-set, in-known) = both (has set c) (has known c) (sym (is c) ∙ e) in absurd (no_witness w c in-set in-known)) (λ e. e));
      decides = λ e. absurd (true≢false e);
      zeros = r.growing.zeros;
    }

    -- No set is told there, and [] has nothing from N on.
    pub rooted_unset : (((c : ℕ) → has met c ≡ false) → ⊥) → Root N (strict_rows (grown rows levels)) (map between (active k rows levels)) s [] true
    rooted_unset some = record { replies = (rooted_known some).replies; decides = λ e. absurd (true≢false e); zeros = λ d h. none_has d }
