-- Levels within a pass, one level on. They never fall, so a left that was exceptional below its row's level stays so.
-- Assumes nothing.
use Prim.Native.Nat.{ℕ, suc, ◌+◌, ◌<◌, ◌≤◌}
use native.Mathlib.Omega.{arith}
use native.Mathlib.Decide.{dec_lt}
use mathlib.Core.Path.{◌≡◌, refl, sym, ◌∙◌, ap, subst}
use mathlib.Core.Bool.{Bool, true, false, ◌&&◌}
use mathlib.Core.List.Memᴰ
use mathlib.Core.List.{List, map}
use lib.ListN.{length, get_or}
use lib.Dec.{eqb}
use borrow.Author.Tests.{eqb-true, eq-eqb, ne_eqb}
use Rattle.semantics.specs.Concept.{Inclusion, Exceptional}
use Rattle.semantics.specs.Row.{defeasible_kind, numbered, kind_of, a_of}
use Rattle.semantics.specs.Saturated.{between}
use Rattle.semantics.specs.Set.{has}
use Rattle.semantics.proofs.Consequence.{PartOf, exceptional_grows}
use Rattle.semantics.proofs.Tests.{both, cases}
use Rattle.normal.specs.Rules.{infinite, is_active, is_at, is_stuck, active, stuck, raised_level}
use Rattle.normal.proofs.Selected.{selected_index, selected_member, selected_same}
use Rattle.normal.proofs.Active.{active_is, is_active_lem, active_at}
use Rattle.pass.specs.Levels.{at_level, Live, left_at, Levelled, Falling}
use Rattle.levels.specs.Relevelled.{Relevelled}
use Rattle.pass.specs.Lefts.{ExceptionalLefts}
use Rattle.pass.specs.Passes.{Bounded}
use Rattle.pass.proofs.Active.{live_not_stuck}

-- ---- at the start

pub falling_none : {words levels : List ℕ} → Falling words levels 0
falling_none = record { falls = λ j lt. absurd (omega arith) }

-- ---- one level on

and_false : (a : Bool) {b : Bool} → b ≡ false → (a && b) ≡ false
and_false true e = e
and_false false e = refl

-- a row of level k is active there
at_active : (k w l : ℕ) → k < infinite → is_at k w l ≡ true → is_active k w l ≡ true
at_active k w l small h =
    let (kind, e) = both (eqb (kind_of w) defeasible_kind) (eqb l k) h in
    is_active_lem k w l (record { kind = kind; from = omega (arith, eqb-true l k e); live = omega (arith, eqb-true l k e) })

-- and it is the only level at which a row is looked at
pub active_level : (k w l : ℕ) → is_active 0 w l ≡ true → l ≡ k → is_at k w l ≡ true
active_level k w l a e = rw ((active_is 0 w l a).kind, eq-eqb l k e)

-- the row goes up, or stays
pub raised_cases : {X : Type 0} (k : ℕ) (set : List ℕ) (w l : ℕ) →
    (is_at k w l ≡ true → has set (a_of w) ≡ true → raised_level k set w l ≡ k + 1 → X) →
    ((is_at k w l ≡ true → has set (a_of w) ≡ false) → raised_level k set w l ≡ l → X) → X
raised_cases k set w l up stay = cases (is_at k w l && has set (a_of w))
    (λ e. let (a, h) = both (is_at k w l) (has set (a_of w)) e in up a h (rw (a, h)))
    (λ e. stay (λ a. rw a at e) (rw e))

module _ {words : List ℕ} (k : ℕ) (set : List ℕ) {old new : List ℕ} (small : k + 1 < infinite) (long : length words ≤ length old) (r : Relevelled (raised_level k set) words old new) where
  -- a level never falls
  risen_level : (i : ℕ) → i < length words → get_or old i 0 ≤ get_or new i 0
  risen_level i lt =
      let w = get_or words i 0 in
      let l = get_or old i 0 in
      raised_cases k set w l
      (λ a h e. omega (arith, r.rows i lt, e, eqb-true l k (both (eqb (kind_of w) defeasible_kind) (eqb l k) a).1))
      (λ n e. omega (arith, r.rows i lt, e))

  -- a row that is active at a level stays so
  pub still_active : (j i : ℕ) → i < length words → is_active j (get_or words i 0) (get_or old i 0) ≡ true → is_active j (get_or words i 0) (get_or new i 0) ≡ true
  still_active j i lt t =
      let w = get_or words i 0 in
      let l = get_or old i 0 in
      let o = active_is j w l t in
      raised_cases k set w l
      (λ a h e. is_active_lem j w (get_or new i 0) (record { kind = o.kind; from = omega (arith, o.from, risen_level i lt); live = omega (arith, r.rows i lt, e) }))
      (λ n e. rw (r.rows i lt, e) t)

  -- so the sets only grow
  pub sets_grow : (j : ℕ) → PartOf (at_level words old j) (at_level words new j)
  sets_grow j ρ m =
      let (p, mp, e) = Memᴰ.of_map between (active j words old) m in
      let s = selected_index (is_active j) words old mp in
      rw (← e, ← s.is) (Memᴰ.map between
      (selected_member (is_active j) words new (omega (arith, r.length_kept)) s.index s.within (still_active j s.index s.within s.taken)))

  -- and up to level k they stay
  pub raised_active : (j : ℕ) → j ≤ k → (i : ℕ) → i < length words → is_active j (get_or words i 0) (get_or old i 0) ≡ is_active j (get_or words i 0) (get_or new i 0)
  raised_active j le i lt =
      let w = get_or words i 0 in
      let l = get_or old i 0 in
      raised_cases k set w l
      (λ a h e.
      let o = at_active k w l (omega arith) a in
      let f = active_at j k w l o (omega (arith, (active_is k w l o).from)) in
      f ∙ sym (still_active j i lt f))
      (λ n e. rw (r.rows i lt, e))

  pub raised_level_lem : (j : ℕ) → j ≤ k → active j words old ≡ active j words new
  raised_level_lem j le = selected_same (is_active j) (is_active j) words old new long (omega (arith, r.length_kept)) (raised_active j le)

  -- and no row gets stuck or free
  pub raised_stuck : stuck words old ≡ stuck words new
  raised_stuck = selected_same is_stuck is_stuck words old new long (omega (arith, r.length_kept)) λ i lt.
      let w = get_or words i 0 in
      let l = get_or old i 0 in
      raised_cases k set w l
      (λ a h e. rw (r.rows i lt, e, live_not_stuck k w l (at_active k w l (omega arith) a)) (sym (stuck_above w)))
      (λ n e. rw (r.rows i lt, e))
    where
      stuck_above : (w : ℕ) → is_stuck w (k + 1) ≡ false
      stuck_above w = and_false (eqb (kind_of w) defeasible_kind) (ne_eqb (k + 1) infinite (λ e. omega arith))

  pub raised_bounded : Bounded words old → Bounded words new
  raised_bounded b = record {
    each = λ i lt. raised_cases k set (get_or words i 0) (get_or old i 0)
        (λ a h e. omega (arith, r.rows i lt, e))
        (λ n e. omega (arith, r.rows i lt, e, b.each i lt));
  }

  raised_live : (i : ℕ) → Live words new i → Live words old i
  raised_live i h = (h.0, raised_active 0 (omega arith) i h.0 ∙ h.1)

  pub falling_kept : Falling words old k → Falling words new k
  falling_kept f = record { falls = λ j lt. rw (← raised_level_lem j (omega arith), ← raised_level_lem (suc j) (omega arith)) (f.falls j lt) }

  module _ {T : List (Inclusion ℕ ℕ)} (v : Levelled T words old k) (lefts : ExceptionalLefts T words old k set) where
    -- E(j) is the same set before and after
    same_set : (j : ℕ) → j ≤ k → at_level words old j ≡ at_level words new j
    same_set j le = ap (map between) (raised_level_lem j le)

    risen_old : (i j : ℕ) → Live words old i → j < get_or old i 0 → Exceptional T (at_level words new j) (numbered (left_at words i))
    risen_old i j o lt = exceptional_grows (λ ρ m. m) (sets_grow j) (v.risen i j o lt)

    risen_up : (i j : ℕ) → Live words old i → is_at k (get_or words i 0) (get_or old i 0) ≡ true → has set (left_at words i) ≡ true → j < k + 1 →
        Exceptional T (at_level words new j) (numbered (left_at words i))
    risen_up i j o a s lt = go (dec_lt j k)
      where
        go : Dec (j < k) → Exceptional T (at_level words new j) (numbered (left_at words i))
        go (yes less) = risen_old i j o (omega (arith, (active_is k (get_or words i 0) (get_or old i 0) (at_active k (get_or words i 0) (get_or old i 0) (omega arith) a)).from))
        go (no more) =
            let e : j ≡ k = omega arith in
            rw (e, ← same_set k (omega arith)) (rw s at (lefts.exact i o.0 (at_active k (get_or words i 0) (get_or old i 0) (omega arith) a)))

    risen_more : (i j : ℕ) → Live words new i → j < get_or new i 0 → Exceptional T (at_level words new j) (numbered (left_at words i))
    risen_more i j h lt =
        let o = raised_live i h in
        raised_cases k set (get_or words i 0) (get_or old i 0)
        (λ a s e. risen_up i j o a s (omega (arith, r.rows i h.0, e)))
        (λ n e. risen_old i j o (omega (arith, r.rows i h.0, e)))

    stayed_at : (i : ℕ) → Live words old i → get_or old i 0 ≤ k → (is_at k (get_or words i 0) (get_or old i 0) ≡ true → has set (left_at words i) ≡ false) →
        Exceptional T (at_level words old (get_or old i 0)) (numbered (left_at words i)) → ⊥
    stayed_at i o le n x = go (dec_lt (get_or old i 0) k)
      where
        go : Dec (get_or old i 0 < k) → ⊥
        go (yes less) = v.stayed i o less x
        go (no more) =
            let e : get_or old i 0 ≡ k = omega arith in
            let a = active_level k (get_or words i 0) (get_or old i 0) o.1 e in
            let y : Exceptional T (at_level words old k) (numbered (left_at words i)) = subst (λ l. Exceptional T (at_level words old l) (numbered (left_at words i))) e x in
            (rw (n a) at (lefts.exact i o.0 (at_active k (get_or words i 0) (get_or old i 0) (omega arith) a))) y

    stayed_more : (i : ℕ) → Live words new i → get_or new i 0 < k + 1 → Exceptional T (at_level words new (get_or new i 0)) (numbered (left_at words i)) → ⊥
    stayed_more i h lt x =
        let o = raised_live i h in
        raised_cases k set (get_or words i 0) (get_or old i 0)
        (λ a s e. absurd (omega (arith, r.rows i h.0, e)))
        (λ n e.
        let q : get_or new i 0 ≡ get_or old i 0 = r.rows i h.0 ∙ e in
        let y : Exceptional T (at_level words new (get_or old i 0)) (numbered (left_at words i)) = subst (λ l. Exceptional T (at_level words new l) (numbered (left_at words i))) q x in
        stayed_at i o (omega (arith, q)) n (rw (same_set (get_or old i 0) (omega (arith, q))) y))

    pub levelled_more : Levelled T words new (k + 1)
    levelled_more = record { long = omega (arith, r.length_kept); risen = risen_more; stayed = stayed_more }
