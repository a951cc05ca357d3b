-- The lefts of the rows that go one level up: where they are all there were, the set of active rows repeats, and only there.
-- Assumes nothing.
use Prim.Native.Nat.{ℕ, suc, ◌+◌, ◌<◌, ◌≤◌}
use native.Mathlib.Numerals.{add-one}
use native.Mathlib.Omega.{arith}
use native.Mathlib.Decide.{ℕ_discrete}
use mathlib.Core.Path.{◌≡◌, refl, sym, ◌∙◌, ap, subst}
use mathlib.Core.Bool.{true, false, ◌&&◌, false≢true}
use mathlib.Core.List.Memᴰ
use mathlib.Core.List.{List, [], ◌∷◌, Memᴰ}
use lib.ListN.{length, get_or}
use Rattle.semantics.specs.Concept.{Inclusion}
use Rattle.semantics.specs.Row.{a_of}
use Rattle.semantics.specs.Set.{has}
use Rattle.semantics.proofs.Tests.{both, cases}
use Rattle.sets.specs.Members.{Included}
use Rattle.normal.specs.Rules.{infinite, is_active, active, raised_level}
use Rattle.normal.proofs.Selected.{selected_index, selected_member, selected_same}
use Rattle.normal.proofs.Active.{active_is, active_at, active_below, not_active}
use Rattle.levels.specs.Relevelled.{Relevelled, LeftsFrom}
use Rattle.pass.specs.Levels.{Levelled}
use Rattle.pass.specs.Lefts.{ExceptionalLefts}
use Rattle.pass.proofs.Levelled.{active_level, raised_cases, raised_active, still_active}

-- ---- lefts and rows

no_member : {A : Type 0} (l : List A) → ((a : A) → Memᴰ a l → ⊥) → length l ≡ 0
no_member [] f = refl
no_member (a ∷ l) f = absurd (f a (Memᴰ.head refl))

module _ {N k : ℕ} {words levels lefts : List ℕ} where
  pub no_rows : LeftsFrom N k words levels lefts → ((a : ℕ) → has lefts a ≡ false) → length (active k words levels) ≡ 0
  no_rows l none = no_member (active k words levels) (λ p m.
      let s = selected_index (is_active k) words levels m in
      false≢true (sym (none (a_of (get_or words s.index 0))) ∙ l.has_lefts.each s.index s.within s.taken))

  pub some_rows : length words ≤ length levels → LeftsFrom N k words levels lefts → (((a : ℕ) → has lefts a ≡ false) → ⊥) → 0 < length (active k words levels)
  some_rows long l some = go (active k words levels) refl
    where
      go : (ps : List (ℕ × ℕ)) → active k words levels ≡ ps → 0 < length ps
      go [] e = absurd (some (λ a. cases (has lefts a)
          (λ h. let s = l.source a h in
          absurd (no_pair (subst (Memᴰ _) e (selected_member (is_active k) words levels long s.index s.within s.taken))))
          (λ h. h)))
        where
          no_pair : {p : ℕ × ℕ} → Memᴰ p [] → ⊥
          no_pair m = Memᴰ.not-nil m
      go (p ∷ ps) e = omega arith

-- ---- one level up

module _ {words : List ℕ} (k : ℕ) (set : List ℕ) {old new : List ℕ} (small : k + 1 < infinite) (long : length words ≤ length old)
    (r : Relevelled (raised_level k set) words old new) where
  -- a row that is active at level k, and whose left is in the set, goes on
  goes_on : (i : ℕ) → i < length words → is_active k (get_or words i 0) (get_or old i 0) ≡ true → has set (a_of (get_or words i 0)) ≡ true →
      is_active (k + 1) (get_or words i 0) (get_or new i 0) ≡ true
  goes_on i lt a h =
      let w = get_or words i 0 in
      let l = get_or old i 0 in
      let still = still_active k set small long r k i lt a in
      raised_cases k set w l
      (λ t s e. active_at (k + 1) k w (get_or new i 0) still (omega (arith, r.rows i lt, e)))
      (λ n e. elim (ℕ_discrete l k) [
        | yes q ↦ absurd (false≢true (sym (n (active_level k w l (active_at 0 k w l a (omega arith)) q)) ∙ h))
        | no d ↦ active_at (k + 1) k w (get_or new i 0) still (omega (arith, r.rows i lt, e, (active_is k w l a).from, d))
      ])

  -- the set repeats where every left goes on
  pub all_risen : {N : ℕ} {lefts : List ℕ} → LeftsFrom N k words old lefts → Included lefts set → active k words new ≡ active (suc k) words new
  all_risen l all = selected_same (is_active k) (is_active (suc k)) words new new (omega (arith, r.length_kept)) (omega (arith, r.length_kept)) (λ i lt.
      let w = get_or words i 0 in
      cases (is_active k w (get_or new i 0))
      (λ a.
      let b = raised_active k set small long r k (omega arith) i lt ∙ a in
      a ∙ sym (rw add-one at (goes_on i lt b (all.kept (a_of w) (l.has_lefts.each i lt b)))))
      (λ n. n ∙ sym (not_active (is_active (suc k) w (get_or new i 0))
      (λ a. false≢true (sym n ∙ active_at k (suc k) w (get_or new i 0) a (omega (arith, (active_is (suc k) w (get_or new i 0) a).from)))))))

  module _ {T : List (Inclusion ℕ ℕ)} (v : Levelled T words old k) (exact : ExceptionalLefts T words old k set) where
    -- a row that is active at the next level was so at this one, and its left is in the set
    went_on : (i : ℕ) → i < length words → is_active (k + 1) (get_or words i 0) (get_or new i 0) ≡ true →
        (is_active k (get_or words i 0) (get_or old i 0) ≡ true) × (has set (a_of (get_or words i 0)) ≡ true)
    went_on i lt a =
        let w = get_or words i 0 in
        let o = get_or old i 0 in
        let b = raised_active k set small long r k (omega arith) i lt ∙ active_below k w (get_or new i 0) a in
        raised_cases k set w o
        (λ t s e. (b, s))
        (λ n e.
        let high = (active_is (k + 1) w (get_or new i 0) a).from in
        (b, cases (has set (a_of w)) (λ s. s) (λ s. absurd ((rw s at (exact.exact i lt b)) (v.risen i k (lt, active_at 0 k w o b (omega arith)) (omega (arith, r.rows i lt, e, high)))))))

    module _ {N : ℕ} {lefts : List ℕ} (l : LeftsFrom N k words old lefts) where
      pub lefts_more : {next : List ℕ} → ((a : ℕ) → has next a ≡ (has lefts a && has set a)) → LeftsFrom N (k + 1) words new next
      lefts_more {next} is = record {
        has_lefts = record { each = λ i lt a. let (b, s) = went_on i lt a in is (a_of (get_or words i 0)) ∙ rw (l.has_lefts.each i lt b, s) };
        source = λ a h.
            let (m, s) = both (has lefts a) (has set a) (sym (is a) ∙ h) in
            let f = l.source a m in
            record { index = f.index; within = f.within; taken = goes_on f.index f.within f.taken (rw f.is s); is = f.is };
        below = λ a h. l.below a (both (has lefts a) (has set a) (sym (is a) ∙ h)).0;
      }

      -- where the set repeats, every left has gone on
      pub none_left_behind : active (suc k) words new ≡ active k words new → Included lefts set
      none_left_behind same = record {
        kept = λ a h.
            let f = l.source a h in
            let m = selected_member (is_active k) words new (omega (arith, r.length_kept)) f.index f.within (still_active k set small long r k f.index f.within f.taken) in
            let g = selected_index (is_active (suc k)) words new (subst (Memᴰ _) (sym same) m) in
            let left : a_of (get_or words g.index 0) ≡ a = ap (λ (p : ℕ × ℕ). p.0) g.is ∙ f.is in
            subst (λ b. has set b ≡ true) left (went_on g.index g.within (rw add-one g.taken)).1;
      }
