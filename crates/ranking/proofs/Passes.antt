-- The loop over the passes: at the start, after a pass that got stuck, and after one that settled.
--     Going   n passes have led from the deck to these levels
-- Assumes nothing.
use Prim.Native.Nat.{ℕ, suc, ◌+◌, ◌<◌, ◌≤◌}
use native.Mathlib.Omega.{arith}
use native.Mathlib.Numerals.{add-one}
use mathlib.Core.Path.{◌≡◌, refl, sym, ◌∙◌, ap, ap₂, subst}
use mathlib.Core.Bool.{Bool, true, false, ◌&&◌, false≢true}
use mathlib.Core.List.{List, [], ◌∷◌, ◌++◌, map, append-nil, Memᴰ}
use lib.ListN.{length, get_or, length-map}
use lib.Dec.{eqb}
use Rattle.semantics.specs.Concept.{Inclusion, Exceptional}
use Rattle.semantics.specs.Closure.{keep_if, Filtered, Pass, emptied}
use Rattle.semantics.specs.Row.{defeasible_kind, kind_of}
use Rattle.semantics.specs.Outputs.{StrictTable}
use Rattle.semantics.specs.Saturated.{strict_rows, between, empty_row}
use Rattle.semantics.specs.Progress.{Passed}
use Rattle.semantics.proofs.Progress.{passed_none, passed_more, passed_all}
use Rattle.semantics.proofs.Rows.{pairs_of, pairs_between}
use Rattle.semantics.proofs.Unpacking.{RowAccepted}
use Rattle.normal.specs.Rules.{Deck, row_of, is_stuck, pair_of, selected, active, stuck, grown, marked_level}
use Rattle.normal.proofs.Decoding.{deck_row}
use Rattle.normal.proofs.Selected.{selected_index, pairs_row}
use Rattle.pass.specs.Levels.{at_level, Levelled}
use Rattle.levels.specs.Relevelled.{Relevelled}
use Rattle.pass.specs.Passes.{strict_of_words, defeasibles, SameRules, PassEnded, ends, sticks, Ranked}
use Rattle.pass.proofs.Same.{same_flip, same_table, same_levelled}
use Rattle.pass.proofs.Sets.{pass_ended, pass_stuck, repeated}
use Rattle.ranking.proofs.Stuck.{rest_filtered, marked_levelled, grown_there, grown_back}

-- ---- at the start

defeasible_active : {N R : ℕ} (words levels : List ℕ) → ((i : ℕ) → i < length words → RowAccepted N R (get_or words i 0)) → length words ≤ length levels →
    ((i : ℕ) → i < length words → get_or levels i 0 ≡ 0) → pairs_of (map row_of words) ≡ active 0 words levels
unfolding pairs_of selected
defeasible_active [] levels ok long zeros = refl
defeasible_active (w ∷ words) [] ok long zeros = absurd (omega arith)
defeasible_active (w ∷ words) (l ∷ levels) ok long zeros =
    let z : l ≡ 0 = zeros 0 (omega arith) in
    let rest = defeasible_active words levels (λ i lt. ok (suc i) (omega arith)) (omega arith) (λ i lt. zeros (suc i) (omega arith)) in
    pairs_row (map row_of words) (ok 0 (omega arith)) ∙ rw z (ap₂ (λ b ps. keep_if b (pair_of w) ps) (and_true (eqb (kind_of w) defeasible_kind)) rest)
  where
    and_true : (b : Bool) → b ≡ (b && true)
    and_true true = refl
    and_true false = refl

pub record Going (words levels : List ℕ) (n : ℕ) : Type 0 where
  pub T : List (Inclusion ℕ ℕ)
  pub passed : Passed (strict_of_words words) (defeasibles words) n T (at_level words levels 0)
  pub rules : SameRules T (strict_rows (grown words levels))
  pub levelled : Levelled (strict_rows (grown words levels)) words levels 0

module _ {N : ℕ} {words : List ℕ} (levels : List ℕ) (deck : Deck N words) (long : length words ≤ length levels) (zeros : (i : ℕ) → i < length words → get_or levels i 0 ≡ 0) where
  none_stuck : stuck words levels ≡ []
  none_stuck = no_member (stuck words levels) (λ p m.
      let s = selected_index is_stuck words levels m in
      not_stuck (get_or words s.index 0) (rw (zeros s.index s.within) at s.taken))
    where
      no_member : (ps : List (ℕ × ℕ)) → ((p : ℕ × ℕ) → Memᴰ p ps → ⊥) → ps ≡ []
      no_member [] f = refl
      no_member (p ∷ ps) f = absurd (f p (Memᴰ.head refl))

      not_stuck : (w : ℕ) → is_stuck w 0 ≡ true → ⊥
      not_stuck w e = go (eqb (kind_of w) defeasible_kind) e
        where
          go : (b : Bool) → (b && false) ≡ true → ⊥
          go true e = false≢true e
          go false e = false≢true e

  -- nothing is stuck at first, so T is the written one
  pub grown_start : strict_rows (grown words levels) ≡ strict_of_words words
  grown_start = rw (none_stuck, append-nil (map row_of words))

  pub going_none : Going words levels 0
  going_none = record {
    T = strict_of_words words;
    passed = subst (Passed (strict_of_words words) (defeasibles words) 0 (strict_of_words words))
        (sym (pairs_between (map row_of words)) ∙ ap (map between) (defeasible_active words levels (deck_row deck) long zeros)) passed_none;
    rules = rw grown_start (record { there = λ ρ m. m; back = λ ρ m. m });
    levelled = record {
      long = long;
      risen = λ i j h lt. absurd (omega (arith, zeros i h.0));
      stayed = λ i h lt. absurd (omega arith);
    };
  }

-- ---- after a pass

passed_stuck : {T D T' D' D'' : List (Inclusion ℕ ℕ)} {n : ℕ} (stuck : List (Inclusion ℕ ℕ)) {sets : List (List (Inclusion ℕ ℕ))} → 0 < length stuck → Passed T D n T' D' →
    Pass T' D' sets stuck → Filtered (λ (σ : Inclusion ℕ ℕ). Exceptional T' stuck σ.left → ⊥) D' D'' → Passed T D (suc n) (T' ++ emptied stuck) D''
passed_stuck [] h f p rest = absurd (omega arith)
passed_stuck (ρ ∷ stuck) h f p rest = passed_more f p rest

module _ {words start : List ℕ} (levels : List ℕ) {n : ℕ} (g : Going words start n) where
  -- T as the levels of the pass have it
  rules_now : stuck words levels ≡ stuck words start → SameRules g.T (strict_rows (grown words levels))
  rules_now e = subst (λ ps. SameRules g.T (strict_rows (map row_of words ++ map empty_row ps))) (sym e) g.rules

  passed_now : active 0 words levels ≡ active 0 words start → Passed (strict_of_words words) (defeasibles words) n g.T (at_level words levels 0)
  passed_now e = subst (λ ps. Passed (strict_of_words words) (defeasibles words) n g.T (map between ps)) (sym e) g.passed

  pub going_more : {k : ℕ} {new : List ℕ} → PassEnded words start levels k true → Relevelled (marked_level k) words levels new → Going words new (n + 1)
  going_more {k} {new} (sticks v f all some_left live same) m =
      let s = rules_now same in
      let v' = same_levelled (same_flip s) v in
      let whole = repeated v k (omega arith) all in
      record {
        T = g.T ++ emptied (at_level words levels k);
        passed = rw add-one (passed_stuck (at_level words levels k) (rw (length-map (active k words levels) between) some_left) (passed_now live)
            (pass_stuck v' k (omega arith) f all) (rest_filtered k v' m));
        rules = record { there = grown_there k v m whole s.there; back = grown_back k v m whole s.back };
        levelled = marked_levelled k v m whole (λ ρ i. i);
      }

  pub ranked : {k N : ℕ} {table : List ℕ} → PassEnded words start levels k false → StrictTable N (strict_rows (grown words start)) table → Ranked N words levels table k (n + 1)
  ranked (ends v f e live same) t =
      let s = rules_now same in
      let v' = same_levelled (same_flip s) v in
      record {
        T* = g.T;
        passed = passed_all (passed_now live) (pass_ended v' f e);
        rules = s;
        levelled = v';
        none_left = e;
        strict_table = same_table (same_flip g.rules) t;
      }
