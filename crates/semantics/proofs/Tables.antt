-- The tables and roots that pass their test: their numbers hold, and they decide what is exceptional and what is within.
-- Assumes nothing.
use Prim.Native.Nat.{ℕ, zero, suc, ◌+◌, ◌*◌, ◌<◌}
use native.Mathlib.Omega.{arith}
use mathlib.Core.Path.{◌≡◌, refl, sym, ◌∙◌, subst}
use mathlib.Core.Bool.{Bool, true, false, ◌&&◌, ◌||◌, false≢true, or-true}
use mathlib.Core.Option.{Option, none, some}
use mathlib.Core.List.{List, [], ◌∷◌, map, Memᴰ}
use mathlib.Core.Logic.{inl, inr}
use lib.ListN.{length}
use lib.Dec.{eqb, ltb}
use borrow.Author.Tests.{eqb-true, eq-eqb, ltb-true}
use Rattle.semantics.specs.Concept.{In, Within, Exceptional}
use Rattle.semantics.specs.Closure.{strict, is_strict, Replies}
use Rattle.semantics.specs.Row.{Row, simple, conj_subsumed, in_exist, exist_in, numbered, RowBelow, Below}
use Rattle.semantics.specs.Saturated.{strict_rows, between, Holds, ClosedSet, ClosedTable}
use Rattle.semantics.proofs.Tests.{cases, either, both}
use Rattle.semantics.proofs.RowKinds.{strict_kind_lem}
use Rattle.semantics.proofs.Steps.{holds_self, holds_top, holds_rest, holds_strict, holds_conj, holds_exist, holds_bottom, holds_defeasible}
use Rattle.semantics.proofs.Canonical.{set_complete, set_witness}
use Rattle.semantics.proofs.Evaluate.{elem, member, all_members, insert_all, when, through_row, through, row_at, gives, gives_all, gives_defeasible, adds, is_closed_set, starts, sizes}
use Rattle.semantics.proofs.Evaluate.{table_round, saturate_table, closed_from, is_row_below, all_rows_below, provided, table_of, saturate_set, root, bind, exceptional_in, within_in, Pairs}

-- ---- tests and lists

elem_mem : (b : ℕ) (P : List ℕ) → elem b P ≡ true → Memᴰ b P
unfolding elem
elem_mem b [] h = absurd (false≢true h)
elem_mem b (x ∷ P) h = either (eqb b x) (elem b P) h (λ e. mathlib.Core.List.Memᴰ.head (eqb-true b x e)) (λ e. mathlib.Core.List.Memᴰ.tail (elem_mem b P e))

member_elem : (P : List ℕ) (b : ℕ) → elem b P ≡ true → member P b ≡ true
member_elem P b e = rw e (or-true (elem 1 P))

-- a set with 1 has all; another has what is in it
member_cases : {X : Type 0} (P : List ℕ) (b : ℕ) → member P b ≡ true → (elem 1 P ≡ true → X) → (elem b P ≡ true → X) → X
member_cases P b h f g = either (elem 1 P) (elem b P) h f g

member_one : (P : List ℕ) (b : ℕ) → elem 1 P ≡ true → member P b ≡ true
member_one P b e = rw e

pub when_mem : {x : ℕ} (b : Bool) {l : List ℕ} → Memᴰ x (when b l) → (b ≡ true) × Memᴰ x l
when_mem true m = (refl, m)
when_mem false m = absurd (mathlib.Core.List.Memᴰ.not-nil m)

mem_when : {x : ℕ} {b : Bool} {l : List ℕ} → b ≡ true → Memᴰ x l → Memᴰ x (when b l)
mem_when e m = rw e m

all_members_lem : (P l : List ℕ) → all_members P l ≡ true → (c : ℕ) → Memᴰ c l → member P c ≡ true
unfolding all_members
all_members_lem P (x ∷ l) h c (mathlib.Core.List.Memᴰ.head e) = rw e (both (member P x) (all_members P l) h).0
all_members_lem P (x ∷ l) h c (mathlib.Core.List.Memᴰ.tail m) = all_members_lem P l (both (member P x) (all_members P l) h).1 c m
all_members_lem P [] h c x'' = elim x'' [ ]

-- ---- every number of a set, and of each row of a table, holds

pub record SoundSet (rows : List Row) (E : Pairs) (s : ℕ) (P : List ℕ) : Type 0 where
  pub each : (c : ℕ) → Memᴰ c P → Holds rows E s c

pub record SoundRows (rows : List Row) (table : List (List ℕ)) : Type 0 where
  pub row : (a : ℕ) → SoundSet rows [] a (row_at table a)

elem_holds : {rows : List Row} {E : Pairs} {s : ℕ} {P : List ℕ} → SoundSet rows E s P → {b : ℕ} → elem b P ≡ true → Holds rows E s b
elem_holds {P} sound {b} e = sound.each b (elem_mem b P e)

pub member_holds : {rows : List Row} {E : Pairs} {s : ℕ} {P : List ℕ} → SoundSet rows E s P → (b : ℕ) → member P b ≡ true → Holds rows E s b
member_holds {P} sound b h = member_cases P b h (λ e. holds_rest b (elem_holds sound e)) (λ e. elem_holds sound e)

start_sound : {rows : List Row} {E : Pairs} (a : ℕ) → SoundSet rows E a (0 ∷ a ∷ [])
start_sound {rows} {E} a = record { each = go }
  where
    go : (c : ℕ) → Memᴰ c (0 ∷ a ∷ []) → Holds rows E a c
    go c (mathlib.Core.List.Memᴰ.head e) = rw e holds_top
    go c (mathlib.Core.List.Memᴰ.tail (mathlib.Core.List.Memᴰ.head e)) = rw e holds_self
    go c (mathlib.Core.List.Memᴰ.tail (mathlib.Core.List.Memᴰ.tail x8)) = elim x8 [ ]

insert_sound : {rows : List Row} {E : Pairs} {s : ℕ} (l : List ℕ) {P : List ℕ} → ((c : ℕ) → Memᴰ c l → Holds rows E s c) → SoundSet rows E s P → SoundSet rows E s (insert_all l P)
unfolding insert_all
insert_sound [] f sound = sound
insert_sound {rows} {E} {s} (c ∷ l) {P} f sound = insert_sound l (λ d m. f d (mathlib.Core.List.Memᴰ.tail m)) (cases (elem c P) (λ e. rw e sound) (λ e. rw e (record { each = go })))
  where
    go : (d : ℕ) → Memᴰ d (c ∷ P) → Holds rows E s d
    go d (mathlib.Core.List.Memᴰ.head e) = rw e (f c (mathlib.Core.List.Memᴰ.head refl))
    go d (mathlib.Core.List.Memᴰ.tail m) = sound.each d m

module _ {rows : List Row} {table : List (List ℕ)} (sound : SoundRows rows table) {E : Pairs} {s : ℕ} where
  through_row_sound : {a r c : ℕ} → Memᴰ (in_exist a r c) rows → Holds rows E s a → (q : Row) → Memᴰ q rows →
      (x : ℕ) → Memᴰ x (through_row r (row_at table c) q) → Holds rows E s x
  through_row_sound {r} {c} m h (exist_in r' a' c') k x i =
      let (t, j) = when_mem (eqb r r' && member (row_at table c) a') i in
      let (er, em) = both (eqb r r') (member (row_at table c) a') t in
      let m' : Memᴰ (exist_in r a' c') rows = rw (eqb-true r r' er) k in
      rw (mathlib.Core.List.Memᴰ.eq_of_singleton j) (holds_exist m m' h (member_holds (sound.row c) a' em))
  through_row_sound m h (simple n a' c') k x i = absurd (mathlib.Core.List.Memᴰ.not-nil i)
  through_row_sound m h (conj_subsumed a' b' c') k x i = absurd (mathlib.Core.List.Memᴰ.not-nil i)
  through_row_sound m h (in_exist a' r' c') k x i = absurd (mathlib.Core.List.Memᴰ.not-nil i)

  through_sound : {a r c : ℕ} → Memᴰ (in_exist a r c) rows → Holds rows E s a →
      (qs : List Row) → ((q : Row) → Memᴰ q qs → Memᴰ q rows) → (x : ℕ) → Memᴰ x (through r (row_at table c) qs) → Holds rows E s x
  unfolding through
  through_sound m h [] f x i = absurd (mathlib.Core.List.Memᴰ.not-nil i)
  through_sound {r} {c} m h (q ∷ qs) f x i = elim (mathlib.Core.List.Memᴰ.append_cases (through_row r (row_at table c) q) i) [
    | inl j ↦ through_row_sound m h q (f q (mathlib.Core.List.Memᴰ.head refl)) x j
    | inr j ↦ through_sound m h qs (λ p k. f p (mathlib.Core.List.Memᴰ.tail k)) x j
  ]

  module _ {P : List ℕ} (set : SoundSet rows E s P) where
    gives_sound : (q : Row) → Memᴰ q rows → (x : ℕ) → Memᴰ x (gives rows table P q) → Holds rows E s x
    gives_sound (simple n a c) m x i =
        let (t, k) = when_mem (is_strict n && elem a P) i in
        let (s, ea) = both (is_strict n) (elem a P) t in
        let m' : Memᴰ (simple strict a c) rows = rw (strict_kind_lem n s) m in
        rw (mathlib.Core.List.Memᴰ.eq_of_singleton k) (holds_strict m' (elem_holds set ea))
    gives_sound (conj_subsumed a b c) m x i =
        let (t, k) = when_mem (elem a P && elem b P) i in
        let (ea, eb) = both (elem a P) (elem b P) t in
        rw (mathlib.Core.List.Memᴰ.eq_of_singleton k) (holds_conj m (elem_holds set ea) (elem_holds set eb))
    gives_sound (in_exist a r c) m x i =
        let (t, k) = when_mem (elem a P) i in
        elim (mathlib.Core.List.Memᴰ.append_cases (when (member (row_at table c) 1) (1 ∷ [])) k) [
          | inl j ↦
              let (e, l) = when_mem (member (row_at table c) 1) j in
              rw (mathlib.Core.List.Memᴰ.eq_of_singleton l) (holds_bottom m (elem_holds set t) (member_holds (sound.row c) 1 e))
          | inr j ↦ through_sound m (elem_holds set t) rows (λ q n. n) x j
        ]
    gives_sound (exist_in r a c) m x i = absurd (mathlib.Core.List.Memᴰ.not-nil i)

    gives_all_sound : (qs : List Row) → ((q : Row) → Memᴰ q qs → Memᴰ q rows) → (x : ℕ) → Memᴰ x (gives_all rows table P qs) → Holds rows E s x
    unfolding gives_all
    gives_all_sound [] f x i = absurd (mathlib.Core.List.Memᴰ.not-nil i)
    gives_all_sound (q ∷ qs) f x i = elim (mathlib.Core.List.Memᴰ.append_cases (gives rows table P q) i) [
      | inl j ↦ gives_sound q (f q (mathlib.Core.List.Memᴰ.head refl)) x j
      | inr j ↦ gives_all_sound qs (λ p k. f p (mathlib.Core.List.Memᴰ.tail k)) x j
    ]

    gives_defeasible_sound : (F : Pairs) → ((p : ℕ × ℕ) → Memᴰ p F → Memᴰ p E) → (x : ℕ) → Memᴰ x (gives_defeasible P F) → Holds rows E s x
    unfolding gives_defeasible
    gives_defeasible_sound [] f x i = absurd (mathlib.Core.List.Memᴰ.not-nil i)
    gives_defeasible_sound (p ∷ F) f x i = elim (mathlib.Core.List.Memᴰ.append_cases (when (elem p.0 P) (p.1 ∷ [])) i) [
      | inl j ↦
          let (t, k) = when_mem (elem p.0 P) j in
          rw (mathlib.Core.List.Memᴰ.eq_of_singleton k) (holds_defeasible p (f p (mathlib.Core.List.Memᴰ.head refl)) (elem_holds set t))
      | inr j ↦ gives_defeasible_sound F (λ p k. f p (mathlib.Core.List.Memᴰ.tail k)) x j
    ]

    adds_sound : (x : ℕ) → Memᴰ x (adds rows table E P) → Holds rows E s x
    adds_sound x i = elim (mathlib.Core.List.Memᴰ.append_cases (gives_all rows table P rows) i) [
      | inl j ↦ gives_all_sound rows (λ q m. m) x j
      | inr j ↦ gives_defeasible_sound E (λ p m. m) x j
    ]

  saturate_sound : (n : ℕ) (P : List ℕ) → SoundSet rows E s P → SoundSet rows E s (saturate_set n rows table E P)
  unfolding saturate_set
  saturate_sound zero P set = set
  saturate_sound (suc n) P set =
      let P' = insert_all (adds rows table E P) P in
      let set' : SoundSet rows E s P' = insert_sound (adds rows table E P) (adds_sound set) set in
      cases (eqb (length P') (length P)) (λ e. rw (e, saturate_set) set) (λ e. rw (e, saturate_set) (saturate_sound n P' set'))

-- ---- the table, from its first row on

data SoundFrom (rows : List Row) : ℕ → List (List ℕ) → Type 0 where
  no_more : {k : ℕ} → SoundFrom rows k []
  one_more : {k : ℕ} {P : List ℕ} {t : List (List ℕ)} → SoundSet rows [] k P → SoundFrom rows (suc k) t → SoundFrom rows k (P ∷ t)

starts_sound : {rows : List Row} (k n : ℕ) → SoundFrom rows k (starts k n)
unfolding starts
starts_sound k zero = no_more
starts_sound k (suc n) = one_more (start_sound k) (starts_sound (suc k) n)

from_row : {rows : List Row} {k : ℕ} {t : List (List ℕ)} → SoundFrom rows k t → (i : ℕ) → SoundSet rows [] (k + i) (row_at t i)
from_row no_more i = record { each = λ c m. absurd (mathlib.Core.List.Memᴰ.not-nil m) }
from_row {rows} (one_more {k} {P} set from) zero = let e : k + 0 ≡ k = omega arith in rw e set
from_row {rows} (one_more {k} {t} set from) (suc i) = let e : k + suc i ≡ suc k + i = omega arith in rw e (from_row from i)

sound_table : {rows : List Row} {t : List (List ℕ)} → SoundFrom rows 0 t → SoundRows rows t
sound_table {rows} {t} from = record { row = λ a. let e : 0 + a ≡ a = omega arith in rw e at (from_row from a) }

round_sound : {rows : List Row} {table : List (List ℕ)} → SoundRows rows table → {k : ℕ} {t : List (List ℕ)} → SoundFrom rows k t → SoundFrom rows k (map (λ P. insert_all (adds rows table [] P) P) t)
round_sound sound no_more = no_more
round_sound {rows} {table} sound (one_more {P} set from) = one_more (insert_sound (adds rows table [] P) (adds_sound sound set) set) (round_sound sound from)

saturate_table_sound : {rows : List Row} (n : ℕ) (t : List (List ℕ)) → SoundFrom rows 0 t → SoundFrom rows 0 (saturate_table n rows t)
unfolding saturate_table
saturate_table_sound zero t from = from
saturate_table_sound {rows} (suc n) t from =
    let t' = table_round rows t in
    let from' : SoundFrom rows 0 t' = round_sound (sound_table from) from in
    cases (eqb (sizes t') (sizes t)) (λ e. rw (e, saturate_table) from) (λ e. rw (e, saturate_table) (saturate_table_sound n t' from'))

-- ---- closed sets

abbrev pub table_bits : List (List ℕ) → ℕ → ℕ → Bool
table_bits table a b = member (row_at table a) b

module _ (rows : List Row) (table : List (List ℕ)) (P : List ℕ) where
  through_mem : {r a c : ℕ} (S : List ℕ) (qs : List Row) → Memᴰ (exist_in r a c) qs → member S a ≡ true → Memᴰ c (through r S qs)
  unfolding through
  through_mem {r} {a} {c} S (q ∷ qs) (mathlib.Core.List.Memᴰ.head e) h =
      let own : Memᴰ c (through_row r S (exist_in r a c)) = mem_when {b = eqb r r && member S a} (rw (eq-eqb r r refl) h) (mathlib.Core.List.Memᴰ.head refl) in
      mathlib.Core.List.Memᴰ.append_left (through r S qs) (subst (λ p. Memᴰ c (through_row r S p)) e own)
  through_mem {r} S (q ∷ qs) (mathlib.Core.List.Memᴰ.tail m) h = mathlib.Core.List.Memᴰ.append_right (through_row r S q) (through_mem S qs m h)
  through_mem {r = r} {a = a} {c = c} S [] x'' h = elim x'' [ ]

  given_mem : (q : Row) (qs : List Row) → Memᴰ q qs → (x : ℕ) → Memᴰ x (gives rows table P q) → Memᴰ x (gives_all rows table P qs)
  unfolding gives_all
  given_mem q (p ∷ qs) (mathlib.Core.List.Memᴰ.head e) x i = mathlib.Core.List.Memᴰ.append_left (gives_all rows table P qs) (subst (λ p. Memᴰ x (gives rows table P p)) e i)
  given_mem q (p ∷ qs) (mathlib.Core.List.Memᴰ.tail m) x i = mathlib.Core.List.Memᴰ.append_right (gives rows table P p) (given_mem q qs m x i)
  given_mem q [] x4 x i = elim x4 [ ]

  defeasible_mem : (E : Pairs) (p : ℕ × ℕ) → Memᴰ p E → elem p.0 P ≡ true → Memᴰ p.1 (gives_defeasible P E)
  unfolding gives_defeasible
  defeasible_mem (q ∷ E) p (mathlib.Core.List.Memᴰ.head e) h =
      mathlib.Core.List.Memᴰ.append_left (gives_defeasible P E) (subst (λ (t : ℕ × ℕ). Memᴰ p.1 (when (elem t.0 P) (t.1 ∷ []))) e (mem_when h (mathlib.Core.List.Memᴰ.head refl)))
  defeasible_mem (q ∷ E) p (mathlib.Core.List.Memᴰ.tail m) h = mathlib.Core.List.Memᴰ.append_right (when (elem q.0 P) (q.1 ∷ [])) (defeasible_mem E p m h)
  defeasible_mem [] p x'' h = elim x'' [ ]

  module _ (E : Pairs) (closed : is_closed_set rows table E P ≡ true) where
    -- what is given is there
    given_in : (x : ℕ) → Memᴰ x (adds rows table E P) → member P x ≡ true
    unfolding is_closed_set
    given_in x m =
        let (z, t) = both (elem 0 P) (elem 1 P || all_members P (adds rows table E P)) closed in
        either (elem 1 P) (all_members P (adds rows table E P)) t (member_one P x) (λ e. all_members_lem P (adds rows table E P) e x m)

    row_in : (q : Row) → Memᴰ q rows → (x : ℕ) → Memᴰ x (gives rows table P q) → member P x ≡ true
    row_in q m x i = given_in x (mathlib.Core.List.Memᴰ.append_left (gives_defeasible P E) (given_mem q rows m x i))

    closed_set : ClosedSet rows (table_bits table) (member P)
    unfolding is_closed_set
    closed_set = record {
      top_in = member_elem P 0 (both (elem 0 P) (elem 1 P || all_members P (adds rows table E P)) closed).0;
      strict_in = λ {a} {c} m h. member_cases P a h (member_one P c) (λ e. row_in (simple strict a c) m c (mem_when e (mathlib.Core.List.Memᴰ.head refl)));
      conj_in = λ {a} {b} {c} m h k. member_cases P a h (member_one P c) (λ e. member_cases P b k (member_one P c) (λ f. row_in (conj_subsumed a b c) m c
          (mem_when {b = elem a P && elem b P} (rw (e, f)) (mathlib.Core.List.Memᴰ.head refl))));
      by_exist_in = λ {a} {r} {c} {a'} {c'} m m' h k. member_cases P a h (member_one P c') (λ e. row_in (in_exist a r c) m c'
          (mem_when e (mathlib.Core.List.Memᴰ.append_right (when (member (row_at table c) 1) (1 ∷ [])) (through_mem (row_at table c) rows m' k))));
      bottom_in = λ {a} {r} {c} m h k. member_cases P a h (member_one P 1) (λ e. row_in (in_exist a r c) m 1
          (mem_when e (mathlib.Core.List.Memᴰ.append_left (through r (row_at table c) rows) (mem_when k (mathlib.Core.List.Memᴰ.head refl)))));
    }

    defeasible_in : (p : ℕ × ℕ) → Memᴰ p E → member P p.0 ≡ true → member P p.1 ≡ true
    defeasible_in p m h = member_cases P p.0 h (member_one P p.1) (λ e. given_in p.1 (mathlib.Core.List.Memᴰ.append_right (gives_all rows table P rows) (defeasible_mem E p m e)))

-- ---- a table that passed its test

provided_some : {X : Type 0} (b : Bool) {x y : X} → provided b x ≡ some y → (b ≡ true) × (x ≡ y)
provided_some true h = (refl, (cc))
provided_some false h = let z : ◌≡◌ {A = ℕ} 0 1 = cc in absurd (omega arith)

two_below : (N a c : ℕ) → (ltb a N && ltb c N) ≡ true → (a < N) × (c < N)
two_below N a c h = let t = both (ltb a N) (ltb c N) h in (ltb-true a N t.0, ltb-true c N t.1)

row_below : (N R : ℕ) (q : Row) → is_row_below N R q ≡ true → RowBelow N R q
row_below N R (simple k a c) h = two_below N a c h
row_below N R (conj_subsumed a b c) h = let t = both (ltb a N) (ltb b N && ltb c N) h in let u = two_below N b c t.1 in (ltb-true a N t.0, u.0, u.1)
row_below N R (in_exist a r c) h =
    let t = both (ltb a N) (ltb r R && ltb c N) h in
    let u = both (ltb r R) (ltb c N) t.1 in
    (ltb-true a N t.0, ltb-true r R u.0, ltb-true c N u.1)
row_below N R (exist_in r a c) h = let t = both (ltb r R) (ltb a N && ltb c N) h in let u = two_below N a c t.1 in (ltb-true r R t.0, u.0, u.1)

rows_below : (N R : ℕ) (rows : List Row) → all_rows_below N R rows ≡ true → (q : Row) → Memᴰ q rows → RowBelow N R q
unfolding all_rows_below
rows_below N R (p ∷ rows) h q (mathlib.Core.List.Memᴰ.head e) = subst (RowBelow N R) (sym e) (row_below N R p (both (is_row_below N R p) (all_rows_below N R rows) h).0)
rows_below N R (p ∷ rows) h q (mathlib.Core.List.Memᴰ.tail m) = rows_below N R rows (both (is_row_below N R p) (all_rows_below N R rows) h).1 q m
rows_below N R [] h q x'' = elim x'' [ ]

closed_from_lem : (k : ℕ) (rows : List Row) (table t : List (List ℕ)) → closed_from k rows table t ≡ true → (i : ℕ) → i < length t →
    (elem (k + i) (row_at t i) ≡ true) × (is_closed_set rows table [] (row_at t i) ≡ true)
unfolding closed_from
closed_from_lem k rows table [] h i lt = absurd (omega arith)
closed_from_lem k rows table (P ∷ t) h zero lt =
    let (e, f) = both (elem k P) (is_closed_set rows table [] P && closed_from (suc k) rows table t) h in
    let q : k + 0 ≡ k = omega arith in
    (rw q e, (both (is_closed_set rows table [] P) (closed_from (suc k) rows table t) f).0)
closed_from_lem k rows table (P ∷ t) h (suc i) lt =
    let (e, f) = both (elem k P) (is_closed_set rows table [] P && closed_from (suc k) rows table t) h in
    let q : k + suc i ≡ suc k + i = omega arith in
    rw q (closed_from_lem (suc k) rows table t (both (is_closed_set rows table [] P) (closed_from (suc k) rows table t) f).1 i (omega arith))

pub record Good (N R : ℕ) (rows : List Row) (table : List (List ℕ)) : Type 0 where
  pub two : 1 < N
  pub below : Below N R rows
  pub closed : ClosedTable N rows (table_bits table)
  pub sound : SoundRows rows table

pub table_good : (N R : ℕ) (rows : List Row) (table : List (List ℕ)) → table_of N R rows ≡ some table → Good N R rows table
unfolding table_of
table_good N R rows table h =
    let t = saturate_table (suc (N * N)) rows (starts 0 N) in
    let (e, same) = provided_some (all_rows_below N R rows && (ltb 1 N && (eqb (length t) N && closed_from 0 rows t t))) h in
    let (eb, e') = both (all_rows_below N R rows) (ltb 1 N && (eqb (length t) N && closed_from 0 rows t t)) e in
    let (e2, e'') = both (ltb 1 N) (eqb (length t) N && closed_from 0 rows t t) e' in
    let (el, ec) = both (eqb (length t) N) (closed_from 0 rows t t) e'' in
    let len : length t ≡ N = eqb-true (length t) N el in
    let at : (x : ℕ) → x < N → (elem x (row_at t x) ≡ true) × (is_closed_set rows t [] (row_at t x) ≡ true) =
    λ x lt. let q : 0 + x ≡ x = omega arith in rw q at (closed_from_lem 0 rows t t ec x (omega arith)) in
    let good : Good N R rows t = record {
      two = ltb-true 1 N e2;
      below = record { each = rows_below N R rows eb };
      closed = record {
        own = λ x lt. member_elem (row_at t x) x (at x lt).0;
        rest = λ x b lt _ f. member_cases (row_at t x) 1 f (member_one (row_at t x) b) (member_one (row_at t x) b);
        row = λ x lt. closed_set rows t (row_at t x) [] (at x lt).1;
      };
      sound = sound_table (saturate_table_sound (suc (N * N)) (starts 0 N) (starts_sound 0 N));
    } in
    rw same at good

-- ---- what the roots say

pub replies_of : {P : Type 0} (b : Bool) → (b ≡ true → P) → (b ≡ false → P → ⊥) → Replies b P
replies_of true f g = f refl
replies_of false f g = g refl

pub bound : {X Y Z : Type 0} (o : Option X) (f : X → Option Y) {y : Y} → bind o f ≡ some y → ((x : X) → o ≡ some x → f x ≡ some y → Z) → Z
bound none f h k = let z : ◌≡◌ {A = ℕ} 0 1 = cc in absurd (omega arith)
bound (some x) f h k = k x refl h

module _ {N R : ℕ} {rows : List Row} {table : List (List ℕ)} (good : Good N R rows table) where
  record RootOf (E : Pairs) (a : ℕ) (P : List ℕ) : Type 0 where
    closed : is_closed_set rows table E P ≡ true
    start : elem a P ≡ true
    sound : SoundSet rows E a P

  root_of : (E : Pairs) (a : ℕ) (P : List ℕ) → root rows table E a ≡ some P → RootOf E a P
  unfolding root
  root_of E a P h =
      let Q = saturate_set (suc (length table)) rows table E (0 ∷ a ∷ []) in
      let (e, same) = provided_some (is_closed_set rows table E Q && elem a Q) h in
      let (ec, es) = both (is_closed_set rows table E Q) (elem a Q) e in
      let r : RootOf E a Q = record { closed = ec; start = es; sound = saturate_sound good.sound (suc (length table)) (0 ∷ a ∷ []) (start_sound a) } in
      rw same at r

  alive : (P : List ℕ) → elem 1 P ≡ false → member P 1 ≡ false
  alive P e = rw e

  pub exceptional_sound : (E : Pairs) (a : ℕ) (b : Bool) → exceptional_in rows table E a ≡ some b → Replies b (Exceptional (strict_rows rows) (map between E) (numbered a))
  unfolding exceptional_in In
  exceptional_sound E a b h =
      bound (root rows table E a) (λ P. some (elem 1 P)) h λ P hP e.
      let r = root_of E a P hP in
      let closed = closed_set rows table P E r.closed in
      let obeyed = defeasible_in rows table P E r.closed in
      let q : elem 1 P ≡ b = cc in
      subst (λ b. Replies b (Exceptional (strict_rows rows) (map between E) (numbered a))) q
      (replies_of (elem 1 P) (λ t w. (elem_holds r.sound t).within.holds w)
      (λ f x. x (set_witness good.below good.closed closed obeyed (alive P f) (member_elem P a r.start))))

  pub within_sound : (E : Pairs) (a c : ℕ) (b : Bool) → within_in rows table E a c ≡ some b → Replies b (Within (strict_rows rows) (map between E) (numbered a) (numbered c))
  unfolding within_in
  within_sound E a c b h =
      bound (root rows table E a) (λ P. some (member P c)) h λ P hP e.
      let r = root_of E a P hP in
      let closed = closed_set rows table P E r.closed in
      let obeyed = defeasible_in rows table P E r.closed in
      let q : member P c ≡ b = cc in
      subst (λ b. Replies b (Within (strict_rows rows) (map between E) (numbered a) (numbered c))) q
      (replies_of (member P c) (λ t. (member_holds r.sound c t).within) (λ f w. cases (elem 1 P) (λ t. false≢true (sym f ∙ member_one P c t))
      (λ g. false≢true (sym f ∙ set_complete good.below good.closed closed obeyed (alive P g) (member_elem P a r.start) (record { within = w })))))
