-- The laws of rational closure in EL with bottom, in reading order: a sentence, the whole statement, one citation. The first file of this crate to open.
--     habits              habits_stay, habits_exist, habits_absent; in a closure ranked_habits, finite_habits
--     from pass to pass   rules_rise, exceptional_rises, exceptional_stays, rank_rises
--     emptied lefts       only_emptied; in a closure written_within, written_defeasibly, written_table
--     existence           word_closures, number_closures, rank_exists
--     false variants      no_strict_firing, no_habits_as_written, no_level_kept, no_emptied_anyway
-- They hold over any names A and roles R; those that ask `ClosuresExist A R` hold over words and over numbers.
-- Assumes nothing.
use Prim.Native.Nat.{ℕ, ◌<◌, ◌≤◌}
use mathlib.Core.Path.{◌≡◌}
use mathlib.Core.Bool.{false}
use mathlib.Core.Option.{Option, some}
use mathlib.Core.List.{List, [], ◌++◌, Memᴰ}
use mathlib.Core.Logic.{◌↔◌}
use lib.ListN.{get_or}
use Rattle.semantics.specs.Concept.{Concept, conj, Inclusion, Within, Exceptional}
use Rattle.semantics.specs.Closure.{Line, strict_of, Filtered, Pass, Passes, emptied, level, RankIs, DefeasiblyAt, Replies, RationalClosure}
use Rattle.semantics.specs.Limits.{set_words}
use Rattle.semantics.specs.Outputs.{StrictTable}
use Rattle.semantics.specs.Row.{numbered}
use Rattle.semantics.specs.Set.{cell}
use Rattle.semantics.specs.Source.{Word}
use Rattle.laws.specs.Existence.{ClosuresExist}
use Rattle.laws.specs.Habits.{Fires, rights, Defeasibly, RankedHabits}
use Rattle.laws.specs.NextPass.{NextPass}
use Rattle.laws.proofs.Habits as habits
use Rattle.laws.proofs.RankedHabits as ranked
use Rattle.laws.proofs.LaterPasses as later
use Rattle.laws.proofs.Emptied as emptiness
use Rattle.laws.proofs.Deciding as deciding
use Rattle.laws.proofs.Misreadings as misreadings

-- ---- habits stay with the element

-- Usual rules bear on the thing itself and never on what its roles lead to, so a trait that a part of a machine usually has does not leak to the machine.
-- That is: what C, where it obeys E, is within, is what C with the rights of the rules that fire at it is within by the strict inclusions T alone, whether C is exceptional or not.
pub habits_stay : {A R : Type 0} {T E F : List (Inclusion A R)} {C : Concept A R} → Filtered (Fires T E C) E F →
    (D : Concept A R) → (Within T E C D ↔ Within T [] (conj C (rights F)) D)
habits_stay = habits.habits_stay

-- The rules that fire can be told, whatever T, E and C are.
pub habits_exist : {A R : Type 0} → ClosuresExist A R → (T E : List (Inclusion A R)) (C : Concept A R) → (F : List (Inclusion A R)) × Filtered (Fires T E C) E F
habits_exist = deciding.habits_exist

-- Where C is by T alone within the left of no rule, the rules add nothing.
pub habits_absent : {A R : Type 0} {T E : List (Inclusion A R)} {C : Concept A R} → ((ρ : Inclusion A R) → Memᴰ ρ E → Within T [] C ρ.left → ⊥) →
    (D : Concept A R) → (Within T E C D ↔ Within T [] C D)
habits_absent = habits.habits_absent

module _ {A R : Type 0} {lines : List (Line A R)} {levels passes : ℕ} {results : List ℕ} (s : RationalClosure lines levels passes results) (X : Concept A R) where
  -- In a closure, at whatever rank: what X usually is, is what X with the rights of some defeasible lines, whose left it usually is, is within over T*.
  -- Of the stuck rules T* has only that their lefts are nothing, so that what must have an impossible part is impossible too (the scope's P8).
  pub ranked_habits : ClosuresExist A R → (F : List (Inclusion A R)) × RankedHabits s s.T* X F
  ranked_habits = ranked.ranked_habits s X

  -- At a finite rank i the lines are the rules of E(i) whose left X usually is, and the strict lines serve as written: a query on X has the reply of a strict query on X with their rights.
  -- So the stuck rules have a say in ranks and levels only.
  pub finite_habits : ClosuresExist A R → (i : ℕ) → RankIs s.T* s.sets X (some i) →
      (F : List (Inclusion A R)) × Filtered (λ (ρ : Inclusion A R). Defeasibly s X ρ.left) (level s.sets i) F × RankedHabits s (strict_of lines) X F
  finite_habits = ranked.finite_habits s X

-- ---- ranks only rise from pass to pass: E(i) is `get_or sets i stuck`

module _ {A R : Type 0} {T D T' D' stuck stuck' : List (Inclusion A R)} {sets sets' : List (List (Inclusion A R))} where
  -- Every rule of E(i) that is not stuck is in E(i) of the next pass.
  pub rules_rise : Pass T D sets stuck → NextPass T D stuck T' D' → Pass T' D' sets' stuck' →
      (i : ℕ) (ρ : Inclusion A R) → Memᴰ ρ (get_or sets i stuck) → (Memᴰ ρ stuck → ⊥) → Memᴰ ρ (get_or sets' i stuck')
  rules_rise = later.rules_rise

  -- Every concept that is exceptional at E(i), whether it stands in a rule or not, is so at E(i) of the next pass.
  pub exceptional_rises : Pass T D sets stuck → NextPass T D stuck T' D' → Pass T' D' sets' stuck' →
      (C : Concept A R) (i : ℕ) → Exceptional T (get_or sets i stuck) C → Exceptional T' (get_or sets' i stuck') C
  exceptional_rises = later.exceptional_rises

-- `Passes T D ..` are the passes from one over (T, D) to the last, and that one is `Pass T D ..`.
module _ {A R : Type 0} {T D T* stuck : List (Inclusion A R)} {sets sets* : List (List (Inclusion A R))} {n : ℕ} where
  -- So what is exceptional at E(i) of a pass is so at E(i) of the last, by which ranks are told.
  pub exceptional_stays : Passes T D n T* sets* → Pass T D sets stuck → (C : Concept A R) (i : ℕ) → Exceptional T (get_or sets i stuck) C → Exceptional T* (level sets* i) C
  exceptional_stays = later.exceptional_stays

  -- So a concept that is exceptional at the first i levels of a pass has no rank below i, and one that is so at all its levels no finite rank.
  pub rank_rises : Passes T D n T* sets* → Pass T D sets stuck →
      (C : Concept A R) (i j : ℕ) → ((k : ℕ) → k < i → Exceptional T (get_or sets k stuck) C) → RankIs T* sets* C (some j) → i ≤ j
  rank_rises = later.rank_rises

-- ---- only emptiness follows newly

-- Where lefts are made nothing, a concept that is not exceptional even then is within what it was within before.
pub only_emptied : {A R : Type 0} (T S : List (Inclusion A R)) {E : List (Inclusion A R)} {C : Concept A R} (D : Concept A R) →
    (Exceptional (T ++ emptied S) E C → ⊥) → (Within (T ++ emptied S) E C D ↔ Within T E C D)
only_emptied = emptiness.only_emptied

module _ {A R : Type 0} {lines : List (Line A R)} {levels passes : ℕ} {results : List ℕ} (s : RationalClosure lines levels passes results) where
  -- So what is not exceptional over T* is within what it is within over the strict lines as written.
  pub written_within : {E : List (Inclusion A R)} (C D : Concept A R) → (Exceptional s.T* E C → ⊥) → (Within s.T* E C D ↔ Within (strict_of lines) E C D)
  written_within = emptiness.written_within s

  -- So at a finite rank what is usual can be told over the strict lines as written: only ranks and levels need T*.
  pub written_defeasibly : (C D : Concept A R) (i : ℕ) → RankIs s.T* s.sets C (some i) →
      (DefeasiblyAt s.T* s.sets (some i) C D ↔ Within (strict_of lines) (level s.sets i) C D)
  written_defeasibly = emptiness.written_defeasibly s

-- So in the strict table over T* the row of a number that is not empty, whose bit 1 is not set, says what the strict lines as written say.
pub written_table : {lines : List (Line ℕ ℕ)} {levels passes : ℕ} {results : List ℕ} (s : RationalClosure lines levels passes results) {N : ℕ} {table : List ℕ} →
    StrictTable N s.T* table → 1 < N → (a b : ℕ) → a < N → b < N → cell set_words table a 1 ≡ false →
    Replies (cell set_words table a b) (Within (strict_of lines) [] (numbered a) (numbered b))
written_table = emptiness.written_table

-- ---- existence

-- Over words, which source texts have, every list of lines has a closure; so it has over numbers, which their normal forms have.
pub word_closures : ClosuresExist Word Word
word_closures = deciding.word_closures

pub number_closures : ClosuresExist ℕ ℕ
number_closures = deciding.number_closures

-- Then every concept has a rank in every closure, whether it stands in the lines or not.
pub rank_exists : {A R : Type 0} → ClosuresExist A R → {lines : List (Line A R)} {levels passes : ℕ} {results : List ℕ} (s : RationalClosure lines levels passes results)
    (C : Concept A R) → (k : Option ℕ) × RankIs s.T* s.sets C k
rank_exists = deciding.rank_exists

-- ---- false variants

-- `habits_stay` fails for the rules whose left C is within by T alone: they are too few, as one rule's right can make another fire.
pub no_strict_firing : ((T E F : List (Inclusion ℕ ℕ)) (C D : Concept ℕ ℕ) → Filtered (Fires T [] C) E F → Within T E C D → Within T [] (conj C (rights F)) D) → ⊥
no_strict_firing = misreadings.no_strict_firing

-- `finite_habits` fails at an infinite rank: there everything is usual, which the strict lines as written need not give, with the rights of whichever defeasible lines.
pub no_habits_as_written : ((lines : List (Line ℕ ℕ)) (levels passes : ℕ) (results : List ℕ) (s : RationalClosure lines levels passes results) (X : Concept ℕ ℕ) →
    (F : List (Inclusion ℕ ℕ)) × RankedHabits s (strict_of lines) X F) → ⊥
no_habits_as_written = misreadings.no_habits_as_written

-- `rules_rise` fails the other way round: a rule can come to a level where it was not.
pub no_level_kept : ((T D T' D' stuck stuck' : List (Inclusion ℕ ℕ)) (sets sets' : List (List (Inclusion ℕ ℕ))) → Pass T D sets stuck → NextPass T D stuck T' D' → Pass T' D' sets' stuck' →
    (i : ℕ) (ρ : Inclusion ℕ ℕ) → Memᴰ ρ (get_or sets' i stuck') → Memᴰ ρ (get_or sets i stuck)) → ⊥
no_level_kept = misreadings.no_level_kept

-- `only_emptied` fails without its condition: a concept that becomes empty is newly within everything.
pub no_emptied_anyway : ((T S : List (Inclusion ℕ ℕ)) (C D : Concept ℕ ℕ) → Within (T ++ emptied S) [] C D → Within T [] C D) → ⊥
no_emptied_anyway = misreadings.no_emptied_anyway
