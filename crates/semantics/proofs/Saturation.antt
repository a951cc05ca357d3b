-- Saturation ends: each round adds a number that was missing, or nothing. So rows within their bounds have a table and roots that pass their test.
--     lack_count   how many numbers below N a set lacks
--     PairsBelow   the numbers of defeasible rows are below N
-- Assumes nothing.
use Prim.Native.Nat.{ℕ, zero, suc, ◌+◌, ◌*◌, ◌<◌, ◌≤◌}
use native.Mathlib.Omega.{arith}
use native.Mathlib.Decide.{dec_lt}
use mathlib.Core.Path.{◌≡◌, refl, sym, ◌∙◌, ap, ap₂, subst}
use mathlib.Core.Bool.{Bool, true, false, ◌&&◌, ◌||◌, cond, or-true}
use mathlib.Core.Option.{some}
use mathlib.Core.List.Memᴰ
use mathlib.Core.List.{List, [], ◌∷◌, map, Memᴰ}
use mathlib.Core.Logic.{◌⊎◌, inl, inr}
use lib.ListN.{length, length-map}
use lib.Dec.{eqb}
use borrow.Author.Tests.{eq-eqb, ne_eqb, lt-ltb}
use Rattle.semantics.specs.Closure.{is_strict}
use Rattle.semantics.specs.Row.{Row, simple, conj_subsumed, in_exist, exist_in, RowBelow, Below}
use Rattle.semantics.proofs.Tests.{cases}
use Rattle.semantics.proofs.Evaluate.{elem, member, all_members, insert_all, when, through_row, through, row_at, gives, gives_all, gives_defeasible, adds}
use Rattle.semantics.proofs.Evaluate.{is_closed_set, starts, sizes, table_round, saturate_table, closed_from, is_row_below, all_rows_below, table_of, saturate_set, root, Pairs}
use Rattle.semantics.proofs.Tables.{when_mem}

-- ---- what a set lacks

lack_count : ℕ → List ℕ → ℕ
lack_count zero P = 0
lack_count (suc n) P = cond (elem n P) 0 1 + lack_count n P

bit_less : (a b : Bool) → cond (a || b) 0 1 ≤ cond b 0 1
bit_less true true = omega arith
bit_less true false = omega arith
bit_less false true = omega arith
bit_less false false = omega arith

lack_cons : (n c : ℕ) (P : List ℕ) → lack_count n (c ∷ P) ≤ lack_count n P
unfolding lack_count elem
lack_cons zero c P = omega arith
lack_cons (suc n) c P = omega (arith, bit_less (eqb n c) (elem n P), lack_cons n c P)

lack_bound : (n : ℕ) (P : List ℕ) → lack_count n P ≤ n
unfolding lack_count
lack_bound zero P = omega arith
lack_bound (suc n) P = cases (elem n P) (λ e. rw e (omega (arith, lack_bound n P))) (λ e. rw e (omega (arith, lack_bound n P)))

-- a number that was missing is so no longer
lack_less : (n c : ℕ) (P : List ℕ) → c < n → elem c P ≡ false → lack_count n (c ∷ P) < lack_count n P
unfolding lack_count elem
lack_less zero c P lt e = absurd (omega arith)
lack_less (suc n) c P lt e = go (dec_lt c n) (lack_less n c P)
  where
    go : Dec (c < n) → (c < n → elem c P ≡ false → lack_count n (c ∷ P) < lack_count n P) →
        cond (eqb n c || elem n P) 0 1 + lack_count n (c ∷ P) < cond (elem n P) 0 1 + lack_count n P
    go (yes l) rec = omega (arith, bit_less (eqb n c) (elem n P), rec l e)
    go (no ge) rec =
        let q : n ≡ c = omega arith in
        let f : elem n P ≡ false = subst (λ m. elem m P ≡ false) (sym q) e in
        rw (eq-eqb n c q, f) (omega (arith, lack_cons n c P))

-- ---- insertion

insert_keeps : (l P : List ℕ) (b : ℕ) → elem b P ≡ true → elem b (insert_all l P) ≡ true
unfolding insert_all elem
insert_keeps [] P b e = e
insert_keeps (c ∷ l) P b e = insert_keeps l (cond (elem c P) P (c ∷ P)) b (cases (elem c P) (λ f. rw f e) (λ f. rw (f, e) (or-true (eqb b c))))

insert_same : (l P : List ℕ) → ((c : ℕ) → Memᴰ c l → elem c P ≡ true) → insert_all l P ≡ P
unfolding insert_all
insert_same [] P f = refl
insert_same (c ∷ l) P f = rw (f c (Memᴰ.head refl)) (insert_same l P (λ d m. f d (Memᴰ.tail m)))

AllIn : List ℕ → List ℕ → Type 0
AllIn l P = (c : ℕ) → Memᴰ c l → elem c P ≡ true

Enlarges : ℕ → List ℕ → List ℕ → Type 0
Enlarges N P P' = (lack_count N P' < lack_count N P) × (length P < length P')

insert_grows : (N : ℕ) (l P : List ℕ) → ((c : ℕ) → Memᴰ c l → c < N) → AllIn l P ⊎ Enlarges N P (insert_all l P)
unfolding insert_all AllIn Enlarges
insert_grows N [] P range = inl (λ c m. absurd (Memᴰ.not-nil m))
insert_grows N (c ∷ l) P range = go (elem c P) refl (insert_grows N l P (λ d m. range d (Memᴰ.tail m))) (insert_grows N l (c ∷ P) (λ d m. range d (Memᴰ.tail m)))
  where
    also : elem c P ≡ true → AllIn l P → (d : ℕ) → Memᴰ d (c ∷ l) → elem d P ≡ true
    also e f d (Memᴰ.head q) = rw q e
    also e f d (Memᴰ.tail m) = f d m

    go : (b : Bool) → elem c P ≡ b → AllIn l P ⊎ Enlarges N P (insert_all l P) → AllIn l (c ∷ P) ⊎ Enlarges N (c ∷ P) (insert_all l (c ∷ P)) →
        AllIn (c ∷ l) P ⊎ Enlarges N P (insert_all l (cond b P (c ∷ P)))
    go true e (inl f) other = inl (also e f)
    go true e (inr g) other = inr g
    go false e same (inl f) = inr (rw (insert_same l (c ∷ P) f) (lack_less N c P (range c (Memᴰ.head refl)) e, omega arith))
    go false e same (inr g) = inr (omega (arith, lack_less N c P (range c (Memᴰ.head refl)) e, g.0, g.1))

-- ---- what is added is below N

pub record PairsBelow (N : ℕ) (E : Pairs) : Type 0 where
  pub each : (p : ℕ × ℕ) → Memᴰ p E → (p.0 < N) × (p.1 < N)

module _ {N R : ℕ} {rows : List Row} (two : 1 < N) (below : Below N R rows) (table : List (List ℕ)) (P : List ℕ) where
  through_range : (r : ℕ) (S : List ℕ) (qs : List Row) → ((q : Row) → Memᴰ q qs → Memᴰ q rows) → (x : ℕ) → Memᴰ x (through r S qs) → x < N
  unfolding through
  through_range r S [] f x i = absurd (Memᴰ.not-nil i)
  through_range r S (q ∷ qs) f x i = elim (Memᴰ.append_cases (through_row r S q) i) [
    | inl j ↦ one q (f q (Memᴰ.head refl)) j
    | inr j ↦ through_range r S qs (λ p k. f p (Memᴰ.tail k)) x j
  ]
    where
      one : (q : Row) → Memᴰ q rows → Memᴰ x (through_row r S q) → x < N
      one (exist_in r' a c) m j = let (t, k) = when_mem (eqb r r' && member S a) j in rw (Memᴰ.eq_of_singleton k) (below.each (exist_in r' a c) m).2
      one (simple k a c) m j = absurd (Memᴰ.not-nil j)
      one (conj_subsumed a b c) m j = absurd (Memᴰ.not-nil j)
      one (in_exist a r' c) m j = absurd (Memᴰ.not-nil j)

  gives_range : (q : Row) → Memᴰ q rows → (x : ℕ) → Memᴰ x (gives rows table P q) → x < N
  gives_range (simple n a c) m x i = let (t, k) = when_mem (is_strict n && elem a P) i in rw (Memᴰ.eq_of_singleton k) (below.each (simple n a c) m).1
  gives_range (conj_subsumed a b c) m x i = let (t, k) = when_mem (elem a P && elem b P) i in rw (Memᴰ.eq_of_singleton k) (below.each (conj_subsumed a b c) m).2
  gives_range (in_exist a r c) m x i =
      let (t, k) = when_mem (elem a P) i in
      elim (Memᴰ.append_cases (when (member (row_at table c) 1) (1 ∷ [])) k) [
        | inl j ↦ let (e, l) = when_mem (member (row_at table c) 1) j in rw (Memᴰ.eq_of_singleton l) two
        | inr j ↦ through_range r (row_at table c) rows (λ q n. n) x j
      ]
  gives_range (exist_in r a c) m x i = absurd (Memᴰ.not-nil i)

  gives_all_range : (qs : List Row) → ((q : Row) → Memᴰ q qs → Memᴰ q rows) → (x : ℕ) → Memᴰ x (gives_all rows table P qs) → x < N
  unfolding gives_all
  gives_all_range [] f x i = absurd (Memᴰ.not-nil i)
  gives_all_range (q ∷ qs) f x i = elim (Memᴰ.append_cases (gives rows table P q) i) [
    | inl j ↦ gives_range q (f q (Memᴰ.head refl)) x j
    | inr j ↦ gives_all_range qs (λ p k. f p (Memᴰ.tail k)) x j
  ]

  gives_defeasible_range : (E : Pairs) → PairsBelow N E → (x : ℕ) → Memᴰ x (gives_defeasible P E) → x < N
  unfolding gives_defeasible
  gives_defeasible_range [] f x i = absurd (Memᴰ.not-nil i)
  gives_defeasible_range (p ∷ E) f x i = elim (Memᴰ.append_cases (when (elem p.0 P) (p.1 ∷ [])) i) [
    | inl j ↦ let (t, k) = when_mem (elem p.0 P) j in rw (Memᴰ.eq_of_singleton k) (f.each p (Memᴰ.head refl)).1
    | inr j ↦ gives_defeasible_range E (record { each = λ q m. f.each q (Memᴰ.tail m) }) x j
  ]

  adds_range : {E : Pairs} → PairsBelow N E → (x : ℕ) → Memᴰ x (adds rows table E P) → x < N
  adds_range {E} pairs x i = elim (Memᴰ.append_cases (gives_all rows table P rows) i) [
    | inl j ↦ gives_all_range rows (λ q m. m) x j
    | inr j ↦ gives_defeasible_range E pairs x j
  ]

members_all : (P l : List ℕ) → AllIn l P → all_members P l ≡ true
unfolding all_members AllIn
members_all P [] f = refl
members_all P (c ∷ l) f = rw (f c (Memᴰ.head refl), or-true (elem 1 P)) (members_all P l (λ d m. f d (Memᴰ.tail m)))

closed_all : (rows : List Row) (table : List (List ℕ)) (E : Pairs) (P : List ℕ) → elem 0 P ≡ true → AllIn (adds rows table E P) P → is_closed_set rows table E P ≡ true
unfolding is_closed_set
closed_all rows table E P z f = rw (z, members_all P (adds rows table E P) f) (or-true (elem 1 P))

start_zero : (a : ℕ) → elem 0 (0 ∷ a ∷ []) ≡ true
unfolding elem
start_zero a = refl

start_own : (a : ℕ) → elem a (0 ∷ a ∷ []) ≡ true
unfolding elem
start_own a = rw (eq-eqb a a refl) (or-true (eqb a 0))

-- ---- roots

module _ {N R : ℕ} {rows : List Row} (two : 1 < N) (below : Below N R rows) (table : List (List ℕ)) {E : Pairs} (pairs : PairsBelow N E) where
  saturate_ends : (n : ℕ) (P : List ℕ) → lack_count N P < n → AllIn (adds rows table E (saturate_set n rows table E P)) (saturate_set n rows table E P)
  unfolding saturate_set AllIn Enlarges
  saturate_ends zero P lt = absurd (omega arith)
  saturate_ends (suc n) P lt =
      let P' = insert_all (adds rows table E P) P in
      elim (insert_grows N (adds rows table E P) P (adds_range two below table P pairs)) [
        | inl f ↦ rw (eq-eqb (length P') (length P) (ap length (insert_same (adds rows table E P) P f)), saturate_set) f
        | inr g ↦ rw (ne_eqb (length P') (length P) (λ q. omega (arith, g.1)), saturate_set) (saturate_ends n P' (omega (arith, g.0)))
      ]

  saturate_keeps : (n : ℕ) (P : List ℕ) (b : ℕ) → elem b P ≡ true → elem b (saturate_set n rows table E P) ≡ true
  unfolding saturate_set
  saturate_keeps zero P b e = e
  saturate_keeps (suc n) P b e =
      let P' = insert_all (adds rows table E P) P in
      cases (eqb (length P') (length P)) (λ f. rw (f, saturate_set) e) (λ f. rw (f, saturate_set) (saturate_keeps n P' b (insert_keeps (adds rows table E P) P b e)))

  -- A root passes its test.
  pub root_exists : length table ≡ N → (a : ℕ) → (P : List ℕ) × (root rows table E a ≡ some P)
  unfolding root
  root_exists len a =
      let Q = saturate_set (suc (length table)) rows table E (0 ∷ a ∷ []) in
      let z : elem 0 Q ≡ true = saturate_keeps (suc (length table)) (0 ∷ a ∷ []) 0 (start_zero a) in
      let s : elem a Q ≡ true = saturate_keeps (suc (length table)) (0 ∷ a ∷ []) a (start_own a) in
      let f : AllIn (adds rows table E Q) Q = saturate_ends (suc (length table)) (0 ∷ a ∷ []) (omega (arith, lack_bound N (0 ∷ a ∷ []))) in
      (Q, rw (closed_all rows table E Q z f, s))

-- ---- the table

table_lack_count : ℕ → List (List ℕ) → ℕ
table_lack_count N [] = 0
table_lack_count N (P ∷ t) = lack_count N P + table_lack_count N t

-- each row has 0 and its own number, from k on
data RowsStarted : ℕ → List (List ℕ) → Type 0 where
  no_rows : {k : ℕ} → RowsStarted k []
  one_row : {k : ℕ} {P : List ℕ} {t : List (List ℕ)} → elem 0 P ≡ true → elem k P ≡ true → RowsStarted (suc k) t → RowsStarted k (P ∷ t)

starts_started : (k n : ℕ) → RowsStarted k (starts k n)
unfolding starts
starts_started k zero = no_rows
starts_started k (suc n) = one_row (start_zero k) (start_own k) (starts_started (suc k) n)

starts_length : (k n : ℕ) → length (starts k n) ≡ n
unfolding starts
starts_length k zero = refl
starts_length k (suc n) = ap suc (starts_length (suc k) n)

starts_lack : (N k n : ℕ) → table_lack_count N (starts k n) ≤ n * N
unfolding starts table_lack_count
starts_lack N k zero = omega arith
starts_lack N k (suc n) = omega (arith, lack_bound N (0 ∷ k ∷ []), starts_lack N (suc k) n)

module _ (f : List ℕ → List ℕ) where
  abbrev enlarged : List (List ℕ) → List (List ℕ)
  enlarged = map (λ P. insert_all (f P) P)

  round_started : {k : ℕ} {t : List (List ℕ)} → RowsStarted k t → RowsStarted k (enlarged t)
  round_started no_rows = no_rows
  round_started (one_row {k} {P} z e s) = one_row (insert_keeps (f P) P 0 z) (insert_keeps (f P) P k e) (round_started s)

  NothingDue : List (List ℕ) → Type 0
  NothingDue t = (P : List ℕ) → Memᴰ P t → AllIn (f P) P

  round_same : (t : List (List ℕ)) → NothingDue t → enlarged t ≡ t
  unfolding NothingDue AllIn
  round_same [] h = refl
  round_same (P ∷ t) h = ap₂ ◌∷◌ (insert_same (f P) P (h P (Memᴰ.head refl))) (round_same t (λ Q m. h Q (Memᴰ.tail m)))

  -- a round adds a number to some row, or nothing to any
  round_grows : (N : ℕ) → ((P : List ℕ) (c : ℕ) → Memᴰ c (f P) → c < N) → (t : List (List ℕ)) →
      NothingDue t ⊎ ((table_lack_count N (enlarged t) < table_lack_count N t) × (sizes t < sizes (enlarged t)))
  unfolding NothingDue AllIn Enlarges table_lack_count sizes
  round_grows N range [] = inl (λ P m. absurd (Memᴰ.not-nil m))
  round_grows N range (P ∷ t) = go (insert_grows N (f P) P (range P)) (round_grows N range t)
    where
      also : AllIn (f P) P → NothingDue t → (Q : List ℕ) → Memᴰ Q (P ∷ t) → AllIn (f Q) Q
      also a h Q (Memᴰ.head e) = subst (λ Q. AllIn (f Q) Q) (sym e) a
      also a h Q (Memᴰ.tail m) = h Q m

      go : AllIn (f P) P ⊎ Enlarges N P (insert_all (f P) P) → NothingDue t ⊎ ((table_lack_count N (enlarged t) < table_lack_count N t) × (sizes t < sizes (enlarged t))) →
          NothingDue (P ∷ t) ⊎
          ((lack_count N (insert_all (f P) P) + table_lack_count N (enlarged t) < lack_count N P + table_lack_count N t) × (length P + sizes t < length (insert_all (f P) P) + sizes (enlarged t)))
      go (inl a) (inl h) = inl (also a h)
      go (inl a) (inr g) = inr (rw (insert_same (f P) P a) (omega (arith, g.0, g.1)))
      go (inr g) (inl h) = inr (rw (round_same t h) (omega (arith, g.0, g.1)))
      go (inr g) (inr k) = inr (omega (arith, g.0, g.1, k.0, k.1))

suc_bound : (m n : ℕ) → m ≤ n → m < suc n
suc_bound m n h = omega arith

none_below : {N : ℕ} → PairsBelow N []
none_below = record { each = λ p m. absurd (Memᴰ.not-nil m) }

module _ {N R : ℕ} {rows : List Row} (two : 1 < N) (below : Below N R rows) where
  table_ended : (n : ℕ) (t : List (List ℕ)) → table_lack_count N t < n → NothingDue (adds rows (saturate_table n rows t) []) (saturate_table n rows t)
  unfolding saturate_table NothingDue AllIn
  table_ended zero t lt = absurd (omega arith)
  table_ended (suc n) t lt =
      let t' = table_round rows t in
      elim (round_grows (adds rows t []) N (λ P. adds_range two below t P none_below) t) [
        | inl h ↦ rw (eq-eqb (sizes t') (sizes t) (ap sizes (round_same (adds rows t []) t h)), saturate_table) h
        | inr g ↦ rw (ne_eqb (sizes t') (sizes t) (λ q. omega (arith, g.1)), saturate_table) (table_ended n t' (omega (arith, g.0)))
      ]

table_started : (rows : List Row) (n : ℕ) (t : List (List ℕ)) → RowsStarted 0 t → RowsStarted 0 (saturate_table n rows t)
unfolding saturate_table
table_started rows zero t s = s
table_started rows (suc n) t s =
    let t' = table_round rows t in
    cases (eqb (sizes t') (sizes t)) (λ f. rw (f, saturate_table) s) (λ f. rw (f, saturate_table) (table_started rows n t' (round_started (adds rows t []) s)))

table_length : (rows : List Row) (n : ℕ) (t : List (List ℕ)) → length (saturate_table n rows t) ≡ length t
unfolding saturate_table
table_length rows zero t = refl
table_length rows (suc n) t =
    let t' = table_round rows t in
    cases (eqb (sizes t') (sizes t)) (λ f. rw (f, saturate_table)) (λ f. rw (f, saturate_table) (table_length rows n t' ∙ length-map t (λ P. insert_all (adds rows t [] P) P)))

closed_rows : (rows : List Row) (table : List (List ℕ)) {k : ℕ} {t : List (List ℕ)} → RowsStarted k t → NothingDue (adds rows table []) t → closed_from k rows table t ≡ true
unfolding closed_from NothingDue
closed_rows rows table no_rows h = refl
closed_rows rows table (one_row {P} z e s) h =
    rw (e, closed_all rows table [] P z (h P (Memᴰ.head refl))) (closed_rows rows table s (λ Q m. h Q (Memᴰ.tail m)))

row_tested : (N R : ℕ) (q : Row) → RowBelow N R q → is_row_below N R q ≡ true
row_tested N R (simple k a c) h = rw (lt-ltb a N h.0, lt-ltb c N h.1)
row_tested N R (conj_subsumed a b c) h = rw (lt-ltb a N h.0, lt-ltb b N h.1, lt-ltb c N h.2)
row_tested N R (in_exist a r c) h = rw (lt-ltb a N h.0, lt-ltb r R h.1, lt-ltb c N h.2)
row_tested N R (exist_in r a c) h = rw (lt-ltb r R h.0, lt-ltb a N h.1, lt-ltb c N h.2)

rows_tested : (N R : ℕ) (rows : List Row) → ((q : Row) → Memᴰ q rows → RowBelow N R q) → all_rows_below N R rows ≡ true
unfolding all_rows_below
rows_tested N R [] h = refl
rows_tested N R (q ∷ rows) h = rw (row_tested N R q (h q (Memᴰ.head refl))) (rows_tested N R rows (λ p m. h p (Memᴰ.tail m)))

-- A table passes its test.
pub table_exists : (N R : ℕ) (rows : List Row) → 1 < N → Below N R rows → (t : List (List ℕ)) × (table_of N R rows ≡ some t) × (length t ≡ N)
unfolding table_of
table_exists N R rows two below =
    let t = saturate_table (suc (N * N)) rows (starts 0 N) in
    let len : length t ≡ N = table_length rows (suc (N * N)) (starts 0 N) ∙ starts_length 0 N in
    let finished = table_ended two below (suc (N * N)) (starts 0 N) (suc_bound (table_lack_count N (starts 0 N)) (N * N) (starts_lack N 0 N)) in
    let closed = closed_rows rows t (table_started rows (suc (N * N)) (starts 0 N) (starts_started 0 N)) finished in
    (t, rw (rows_tested N R rows below.each, lt-ltb 1 N two, eq-eqb (length t) N len, closed), len)
