-- Rational closure of a list of lines (what the scope's settling gives), over any concept names A and role names R: passes, levels, ranks and replies.
-- One definition serves a source text (the scope's book), whose names are words, and its normal form (the deck), whose names are numbers.
use Rattle.std.specs.Prelude.{ℕ, suc, ◌+◌, ◌/◌, ◌<◌, ◌≤◌, ◌≡◌, Bool, true, false, cond, length, get_or}
use Rattle.std.proofs.Math.Option.{Option, none, some}
use mathlib.Core.List.{List, [], ◌∷◌, ◌++◌, Memᴰ, map}
use Rattle.semantics.specs.Concept.{Concept, bottom, Inclusion, Within, Exceptional}

-- ---- lines

-- what a line says of its left and its right
pub data Kind : Type 0 where
  strict : Kind  -- S: every left is right
  defeasible : Kind  -- U: a left is usually right
  query : Kind  -- Q: is a left usually right?
  strict_query : Kind  -- K: is every left right?

abbrev pub is_strict : Kind → Bool
is_strict strict = true
is_strict defeasible = false
is_strict query = false
is_strict strict_query = false

abbrev pub is_defeasible : Kind → Bool
is_defeasible strict = false
is_defeasible defeasible = true
is_defeasible query = false
is_defeasible strict_query = false

abbrev pub is_question : Kind → Bool
is_question strict = false
is_question defeasible = false
is_question query = true
is_question strict_query = true

pub data Line (A R : Type 0) : Type 0 where
  line : Kind → Concept A R → Concept A R → Line A R

abbrev pub includes : {A R : Type 0} → Concept A R → Concept A R → Inclusion A R
includes C D = record { left = C; right = D }

abbrev pub kind_of_line : {A R : Type 0} → Line A R → Kind
kind_of_line (line k C D) = k

abbrev pub left_of : {A R : Type 0} → Line A R → Concept A R
left_of (line k C D) = C

abbrev pub right_of : {A R : Type 0} → Line A R → Concept A R
right_of (line k C D) = D

-- x and l, where the test holds, and else l alone
abbrev pub keep_if : {X : Type 0} → Bool → X → List X → List X
keep_if true x l = x ∷ l
keep_if false x l = l

-- the inclusions of the lines whose kind passes the test, in order
unfoldable pub inclusions_of : {A R : Type 0} → (Kind → Bool) → List (Line A R) → List (Inclusion A R)
inclusions_of test [] = []
inclusions_of test (l ∷ ls) = keep_if (test (kind_of_line l)) (includes (left_of l) (right_of l)) (inclusions_of test ls)

-- T: the strict inclusions
abbrev pub strict_of : {A R : Type 0} → List (Line A R) → List (Inclusion A R)
strict_of = inclusions_of is_strict

-- D: the defeasible inclusions
abbrev pub defeasible_of : {A R : Type 0} → List (Line A R) → List (Inclusion A R)
defeasible_of = inclusions_of is_defeasible

-- what the questions ask
abbrev pub questions_of : {A R : Type 0} → List (Line A R) → List (Inclusion A R)
questions_of = inclusions_of is_question

-- ---- one pass, and all passes

-- l' is what of l has P, in order
pub data Filtered {A : Type 0} (P : A → Type 0) : List A → List A → Type 0 where
  end : Filtered P [] []
  keep : {a : A} {l l' : List A} → P a → Filtered P l l' → Filtered P (a ∷ l) (a ∷ l')
  leave : {a : A} {l l' : List A} → (P a → ⊥) → Filtered P l l' → Filtered P (a ∷ l) l'

-- E(i+1) is the rules of E(i) whose left is exceptional for (T, E(i)).
abbrev pub Next : {A R : Type 0} → List (Inclusion A R) → List (Inclusion A R) → List (Inclusion A R) → Type 0
Next T E E' = Filtered (λ ρ. Exceptional T E ρ.left) E E'

-- Pass T E sets stuck: one pass from E gives the sets E(0), E(1), .. before the first that repeats, and that one, the stuck set (004's D∞).
-- Each set is part of the one before it, so it repeats exactly when it is not shorter.
pub data Pass {A R : Type 0} (T : List (Inclusion A R)) : List (Inclusion A R) → List (List (Inclusion A R)) → List (Inclusion A R) → Type 0 where
  repeats : {E : List (Inclusion A R)} → Next T E E → Pass T E [] E
  falls : {E E' stuck : List (Inclusion A R)} {sets : List (List (Inclusion A R))} →
      Next T E E' → length E' < length E → Pass T E' sets stuck → Pass T E (E ∷ sets) stuck

-- "left is nothing" for each inclusion
abbrev pub emptied : {A R : Type 0} → List (Inclusion A R) → List (Inclusion A R)
emptied {A} {R} = map (λ (ρ : Inclusion A R). includes ρ.left bottom)

-- Passes T D n T* sets: n passes over (T, D), the last, over T*, with an empty stuck set; `sets` are the last pass's before that one
pub data Passes {A R : Type 0} : List (Inclusion A R) → List (Inclusion A R) → ℕ → List (Inclusion A R) → List (List (Inclusion A R)) → Type 0 where
  last : {T D : List (Inclusion A R)} {sets : List (List (Inclusion A R))} → Pass T D sets [] → Passes T D 1 T sets
  again : {T D D' T* stuck : List (Inclusion A R)} {ρ : Inclusion A R} {sets sets* : List (List (Inclusion A R))} {n : ℕ} →
      Pass T D sets (ρ ∷ stuck) →
      Filtered (λ (σ : Inclusion A R). Memᴰ σ (ρ ∷ stuck) → ⊥) D D' →
      Passes (T ++ emptied (ρ ∷ stuck)) D' n T* sets* →
      Passes T D (suc n) T* sets*

-- ---- ranks and replies

-- E(i) of the last pass; the empty set at i = levels, which is the number of sets
abbrev pub level : {A R : Type 0} → List (List (Inclusion A R)) → ℕ → List (Inclusion A R)
level sets i = get_or sets i []

-- `some i`: C's rank is i; `none`: it is infinite
abbrev pub RankIs : {A R : Type 0} → List (Inclusion A R) → List (List (Inclusion A R)) → Concept A R → Option ℕ → Type 0
RankIs T sets C (some i) =
    (i ≤ length sets) × (Exceptional T (level sets i) C → ⊥) × ((j : ℕ) → j < i → Exceptional T (level sets j) C)
RankIs T sets C none = (j : ℕ) → j ≤ length sets → Exceptional T (level sets j) C

-- "a C is usually a D", where C's rank is the one given
abbrev pub DefeasiblyAt : {A R : Type 0} → List (Inclusion A R) → List (List (Inclusion A R)) → Option ℕ → Concept A R → Concept A R → Type 0
DefeasiblyAt T sets none C D = Unit {0}
DefeasiblyAt T sets (some i) C D = Within T (level sets i) C D

-- the reply to "does P hold?"
abbrev pub Replies : Bool → Type 0 → Type 0
Replies true P = P
Replies false P = P → ⊥

-- ---- the report

abbrev pub rank_code : Option ℕ → ℕ
rank_code none = 32767
rank_code (some i) = i

abbrev pub yes_bit : Bool → ℕ
yes_bit true = 32768
yes_bit false = 0

-- The result of one line: `written` is the strict lines, T and sets the last pass's.
pub data Result {A R : Type 0} (written T : List (Inclusion A R)) (sets : List (List (Inclusion A R))) : Line A R → ℕ → Type 0 where
  of_strict : {C D : Concept A R} → Result written T sets (line strict C D) 0
  of_defeasible : {C D : Concept A R} (rank : Option ℕ) → RankIs T sets C rank → Result written T sets (line defeasible C D) (yes_bit true + rank_code rank)
  of_query : {C D : Concept A R} (rank : Option ℕ) (reply : Bool) → RankIs T sets C rank → Replies reply (DefeasiblyAt T sets rank C D) →
      Result written T sets (line query C D) (yes_bit reply + rank_code rank)
  of_strict_query : {C D : Concept A R} (reply : Bool) → Replies reply (Within written [] C D) →
      Result written T sets (line strict_query C D) (yes_bit reply)

-- the results of all lines, in order
pub data Results {A R : Type 0} (written T : List (Inclusion A R)) (sets : List (List (Inclusion A R))) : List (Line A R) → List ℕ → Type 0 where
  done : Results written T sets [] []
  more : {l : Line A R} {ls : List (Line A R)} {r : ℕ} {rs : List ℕ} →
      Result written T sets l r → Results written T sets ls rs → Results written T sets (l ∷ ls) (r ∷ rs)

-- 1 where a question's result has the yes bit. (A rank below 32,767 leaves that bit alone, and no rank of an accepted deck is above its levels, at most its rows.)
abbrev pub yes_of : {A R : Type 0} → Line A R → ℕ → ℕ
yes_of l r = cond (is_question (kind_of_line l)) (r / yes_bit true) 0

-- the count of yes over all questions
unfoldable pub yes_count : {A R : Type 0} → List (Line A R) → List ℕ → ℕ
yes_count [] rs = 0
yes_count (l ∷ ls) [] = 0
yes_count (l ∷ ls) (r ∷ rs) = yes_of l r + yes_count ls rs

-- The rational closure of the lines. T* and the levels' sets are in the record, for what else is said of them. The count of yes is `yes_count lines results`.
pub record RationalClosure {A R : Type 0} (lines : List (Line A R)) (levels passes : ℕ) (results : List ℕ) : Type 0 where
  pub T* : List (Inclusion A R)
  pub sets : List (List (Inclusion A R))
  pub passed : Passes (strict_of lines) (defeasible_of lines) passes T* sets
  pub level_count : levels ≡ length sets
  pub reported : Results (strict_of lines) T* sets lines results
