-- The definition rows that a reading adds: those of the numbers that it gives out, in their order.
--     SameAt     two states know the same of a number
--     added      the rows of the numbers that the first state has not given out
-- Assumes nothing.
use Prim.Native.Nat.{ℕ, zero, suc, ◌+◌, ◌-◌, ◌<◌, ◌≤◌}
use native.Mathlib.Nat.{add-zero, zero-add, add-suc, suc-add, add_comm, sub_self}
use native.Mathlib.Numerals.{add-one}
use native.Mathlib.Omega.{arith}
use mathlib.Core.Path.{◌≡◌, refl, sym, ◌∙◌, ap}
use mathlib.Core.List.{List, [], ◌++◌, append-nil, append_assoc}
use lib.ListN.{get_or}
use lib.Seq.{get_or-set_other}
use Rattle.semantics.specs.Limits.{number_least}
use Rattle.semantics.specs.Row.{Row}
use Rattle.chains.specs.declared.Sort.TheVariants.{Concepts}
use Rattle.names.specs.Names.{with_left, with_right}
use Rattle.source.specs.Lines.{definitions_of, definitions_to, definitions}
use Rattle.names.specs.State.{State, next_concept}

pub record SameAt (s t : State) (n : ℕ) : Type 0 where
  pub starts : get_or (t.lists Concepts).starts n 0 ≡ get_or (s.lists Concepts).starts n 0
  pub lengths : get_or (t.lists Concepts).lengths n 0 ≡ get_or (s.lists Concepts).lengths n 0
  pub lefts : get_or t.lefts n 0 ≡ get_or s.lefts n 0
  pub rights : get_or t.rights n 0 ≡ get_or s.rights n 0

pub same_left : (s : State) (number side n : ℕ) → (n ≡ number → ⊥) → SameAt s (with_left s number side) n
same_left s number side n h = record { starts = refl; lengths = refl; lefts = get_or-set_other s.lefts number n side 0 h; rights = refl }

pub same_right : (s : State) (number side n : ℕ) → (n ≡ number → ⊥) → SameAt s (with_right s number side) n
same_right s number side n h = record { starts = refl; lengths = refl; lefts = refl; rights = get_or-set_other s.rights number n side 0 h }

-- ---- the rows of some numbers in a row

unfoldable pub rows_from : List ℕ → State → ℕ → ℕ → List Row
rows_from text s a zero = []
rows_from text s a (suc k) = definitions_of text s a ++ rows_from text s (suc a) k

module _ (text : List ℕ) where
  definitions_same : (s t : State) (n : ℕ) → SameAt s t n → definitions_of text t n ≡ definitions_of text s n
  unfolding definitions_of
  definitions_same s t n e = rw (e.starts, e.lengths, e.lefts, e.rights)

  rows_same : (s t : State) (a k : ℕ) → ((n : ℕ) → a ≤ n → n < a + k → SameAt s t n) → rows_from text t a k ≡ rows_from text s a k
  unfolding rows_from
  rows_same s t a zero e = refl
  rows_same s t a (suc k) e = rw (definitions_same s t a (e a (omega arith) (omega arith)), rows_same s t (suc a) k (λ n h l. e n (omega arith) (omega arith)))

  rows_split : (s : State) (a k j : ℕ) → rows_from text s a (k + j) ≡ rows_from text s a k ++ rows_from text s (a + k) j
  unfolding rows_from
  rows_split s a zero j = rw (zero-add, add-zero)
  rows_split s a (suc k) j = rw (suc-add, add-suc, rows_split s (suc a) k j, suc-add, append_assoc)

  definitions_rows : (s : State) (m : ℕ) → definitions_to text s m ≡ rows_from text s number_least m
  unfolding definitions_to rows_from
  definitions_rows s zero = refl
  definitions_rows s (suc m) =
      let last : rows_from text s (number_least + m) 1 ≡ definitions_of text s (m + number_least) = rw (append-nil, add_comm m number_least) in
      rw (definitions_rows s m) (sym (ap (rows_from text s number_least) (sym (add-one m)) ∙ rows_split s number_least m 1 ∙ ap (λ r. rows_from text s number_least m ++ r) last))

-- ---- what a later state adds

abbrev pub added : List ℕ → State → State → List Row
added text s t = rows_from text t (next_concept s) (next_concept t - next_concept s)

module _ (text : List ℕ) where
  pub added_none : (s : State) → added text s s ≡ []
  unfolding rows_from
  added_none s = rw sub_self

  -- the first number that is added, and the others
  pub added_more : (s t u : State) → next_concept t ≡ next_concept s + 1 → next_concept t ≤ next_concept u →
      added text s u ≡ definitions_of text u (next_concept s) ++ added text t u
  unfolding rows_from
  added_more s t u e h =
      let k : next_concept u - next_concept s ≡ suc (next_concept u - next_concept t) = omega arith in
      rw (k, e, add-one)

  pub added_trans : (s t u : State) → next_concept s ≤ next_concept t → next_concept t ≤ next_concept u → ((n : ℕ) → next_concept s ≤ n → n < next_concept t → SameAt t u n) →
      added text s u ≡ added text s t ++ added text t u
  added_trans s t u h l e =
      let k : next_concept u - next_concept s ≡ (next_concept t - next_concept s) + (next_concept u - next_concept t) = omega arith in
      let m : next_concept s + (next_concept t - next_concept s) ≡ next_concept t = omega arith in
      rw (
        k,
        rows_split text u (next_concept s) (next_concept t - next_concept s) (next_concept u - next_concept t),
        m,
        rows_same text t u (next_concept s) (next_concept t - next_concept s) (λ n a b. e n a (omega arith)),
      )

  pub added_same : (s t u : State) → next_concept u ≡ next_concept t → ((n : ℕ) → next_concept s ≤ n → n < next_concept t → SameAt t u n) → added text s u ≡ added text s t
  added_same s t u q e =
      ap (λ k. rows_from text u (next_concept s) (k - next_concept s)) q ∙ rows_same text t u (next_concept s) (next_concept t - next_concept s) (λ n a b. e n a (omega arith))

  -- All definition rows of the later state.
  pub definitions_added : (s t : State) → number_least ≤ next_concept s → next_concept s ≤ next_concept t → ((n : ℕ) → number_least ≤ n → n < next_concept s → SameAt s t n) →
      definitions text t ≡ definitions text s ++ added text s t
  definitions_added s t least more e =
      let k : next_concept t - number_least ≡ (next_concept s - number_least) + (next_concept t - next_concept s) = omega arith in
      let m : number_least + (next_concept s - number_least) ≡ next_concept s = omega arith in
      rw (
        definitions_rows text t (next_concept t - number_least),
        definitions_rows text s (next_concept s - number_least),
        k,
        rows_split text t number_least (next_concept s - number_least) (next_concept t - next_concept s),
        m,
        rows_same text s t number_least (next_concept s - number_least) (λ n a b. e n a (omega arith)),
      )
