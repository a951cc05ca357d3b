-- What a concept of a closure usually is: what it is within together with the rights of some defeasible lines, by strict inclusions alone.
-- At a finite rank these are the rules of its level that fire at it; at an infinite one it is empty over T*, and no rule is needed.
-- Assumes nothing.
use Prim.Native.Nat.{ℕ}
use native.Mathlib.Nat.{le_refl}
use mathlib.Core.Path.{◌≡◌, refl, subst}
use mathlib.Core.Option.{Option, none, some}
use mathlib.Core.List.Memᴰ
use mathlib.Core.List.{List, [], ◌∷◌}
use mathlib.Core.Logic.Iff
use mathlib.Core.Logic.{◌↔◌}
use lib.ListN.{length, get_or}
use Rattle.semantics.specs.Concept.{Concept, bottom, conj, Inclusion, Exceptional}
use Rattle.semantics.specs.Closure.{Filtered, Line, line, query, strict_of, level, RankIs, DefeasiblyAt, RationalClosure}
use Rattle.semantics.specs.Replies.{AnsweredYes, defeasibly}
use Rattle.semantics.proofs.Consequence.{exceptional_within}
use Rattle.semantics.proofs.Filter.{filtered_member, filtered_has, filtered_as}
use Rattle.semantics.proofs.Unique.{rank_unique}
use Rattle.laws.specs.Existence.{ClosuresExist}
use Rattle.laws.specs.Habits.{Fires, rights, Defeasibly, RankedHabits}
use Rattle.laws.proofs.Product.{in_conj, witness_for}
use Rattle.laws.proofs.Habits.{habits_stay}
use Rattle.laws.proofs.PassParts.{passes_part}
use Rattle.laws.proofs.Deciding.{habits_exist, rank_exists}
use Rattle.laws.proofs.Emptied.{written_within}

past : {A R : Type 0} (l : List (List (Inclusion A R))) → get_or l (length l) [] ≡ []
past [] = refl
past (s ∷ l) = past l

module _ {A R : Type 0} (written : List (Inclusion A R)) {T : List (Inclusion A R)} {sets : List (List (Inclusion A R))} {X : Concept A R} where
  yes_at : (Y : Concept A R) (k : Option ℕ) → RankIs T sets X k → AnsweredYes written T sets (line query X Y) → DefeasiblyAt T sets k X Y
  yes_at Y k h (defeasibly k' h' u) = subst (λ k. DefeasiblyAt T sets k X Y) (rank_unique T sets X k' k h' h) u

  -- A query is answered at whichever rank its left is shown to have, as there is one only.
  yes_iff : (Y : Concept A R) (k : Option ℕ) → RankIs T sets X k → (AnsweredYes written T sets (line query X Y) ↔ DefeasiblyAt T sets k X Y)
  yes_iff Y k h = (yes_at Y k h, defeasibly k h)

module _ {A R : Type 0} {lines : List (Line A R)} {levels passes : ℕ} {results : List ℕ} (s : RationalClosure lines levels passes results) (X : Concept A R) where
  -- At an infinite rank X is empty over T*, so it is within everything.
  infinite_habits : RankIs s.T* s.sets X none → RankedHabits s s.T* X []
  infinite_habits h =
      let x : Exceptional s.T* [] X = subst (λ E. Exceptional s.T* E X) (past s.sets) (h (length s.sets) (le_refl (length s.sets))) in
      record {
        lines_only = λ ρ m. absurd (Memᴰ.not-nil m);
        lefts_defeasible = λ ρ m. absurd (Memᴰ.not-nil m);
        decides = λ Y. (
          λ y. record { holds = λ w. absurd (x (witness_for w ((in_conj w.world X (rights []) w.point).0 w.member).0 w.obeys)) },
          λ i. defeasibly none h tt,
        );
      }

  module _ (i : ℕ) (h : RankIs s.T* s.sets X (some i)) {F : List (Inclusion A R)} (fired : Filtered (Fires s.T* (level s.sets i) X) (level s.sets i) F) where
    -- At a finite rank the rules of its level that fire at X are its habits, over T*.
    fired_habits : RankedHabits s s.T* X F
    fired_habits = record {
      lines_only = λ ρ m. passes_part s.passed i ρ (filtered_member fired m);
      lefts_defeasible = λ ρ m. defeasibly (some i) h (filtered_has fired m);
      decides = λ Y. Iff.trans (yes_iff (strict_of lines) Y (some i) h) (habits_stay fired Y);
    }

    -- X is not exceptional there, so X with their rights is not empty, and only emptiness is new in T*.
    written_habits : RankedHabits s (strict_of lines) X F
    written_habits =
        let alive : Exceptional s.T* [] (conj X (rights F)) → ⊥ = λ x.
        h.1 ((exceptional_within s.T* (level s.sets i) X).1 ((habits_stay fired bottom).1 ((exceptional_within s.T* [] (conj X (rights F))).0 x))) in
        record {
          lines_only = fired_habits.lines_only;
          lefts_defeasible = fired_habits.lefts_defeasible;
          decides = λ Y. Iff.trans (fired_habits.decides Y) (written_within s (conj X (rights F)) Y alive);
        }

  module _ (every : ClosuresExist A R) where
    pub ranked_habits : (F : List (Inclusion A R)) × RankedHabits s s.T* X F
    ranked_habits = let (k, h) = rank_exists every s X in go k h
      where
        go : (k : Option ℕ) → RankIs s.T* s.sets X k → (F : List (Inclusion A R)) × RankedHabits s s.T* X F
        go none h = ([], infinite_habits h)
        go (some i) h = let (F, fired) = habits_exist every s.T* (level s.sets i) X in (F, fired_habits i h fired)

    pub finite_habits : (i : ℕ) → RankIs s.T* s.sets X (some i) →
        (F : List (Inclusion A R)) × Filtered (λ (ρ : Inclusion A R). Defeasibly s X ρ.left) (level s.sets i) F × RankedHabits s (strict_of lines) X F
    finite_habits i h =
        let (F, fired) = habits_exist every s.T* (level s.sets i) X in
        (F, filtered_as (λ ρ m. Iff.symm (yes_iff (strict_of lines) ρ.left (some i) h)) fired, written_habits i h fired)
