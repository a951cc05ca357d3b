-- A closed table, and a closed root, decide what is within what.
-- Assumes nothing.
use Prim.Native.Nat.{ℕ, zero, suc, ◌<◌}
use mathlib.Core.Path.{◌≡◌, refl, sym, ◌∙◌, subst}
use mathlib.Core.Bool.{Bool, true, false, cond, false≢true, So-prop}
use mathlib.Core.Logic.Iff
use mathlib.Core.Logic.{◌↔◌, ∥∥₁_elim}
use mathlib.Core.List.Memᴰ
use mathlib.Core.List.{List, [], map, Memᴰ, all, all-eq-true}
use native.Mathlib.Omega.{arith}
use native.Mathlib.Nat.{le_refl}
use lib.Dec.{ltb, eqb}
use borrow.Author.Tests.{ltb-true, eqb-true, lt-ltb, le-ltb, eq-eqb}
use Rattle.semantics.specs.Concept.{Interpretation, In, Inclusion, Model, Witness, Within, Exceptional}
use Rattle.semantics.specs.Closure.{is_strict}
use Rattle.semantics.specs.Row.{Row, simple, conj_subsumed, in_exist, exist_in, numbered, line_of, Below}
use Rattle.semantics.specs.Saturated.{strict_rows, between, Holds, Table, SoundTable, ClosedSet, ClosedTable, SoundRoot, ClosedRoot}
use Rattle.semantics.proofs.Tests.{cases}
use Rattle.semantics.proofs.RowKinds.{strict_kind_lem}
use Rattle.semantics.proofs.Lines.{ObeysLine}
use Rattle.semantics.proofs.Rows.{rows_model}
use Rattle.semantics.proofs.Steps.{holds_table}

-- ---- a role leads from the names Q to the names P wherever the rows let it

-- the row lets r lead from Q to P
abbrev lets : ℕ → (ℕ → Bool) → (ℕ → Bool) → Row → Bool
lets r Q P (simple k a c) = true
lets r Q P (conj_subsumed a b c) = true
lets r Q P (in_exist a r' c) = true
lets r Q P (exist_in r' a c) = cond (eqb r r') (cond (P a) (Q c) true) true

module _ (rows : List Row) (r : ℕ) (Q P : ℕ → Bool) where
  abbrev role_leads : Bool
  role_leads = all rows (lets r Q P)

  role_leads_back : {a c : ℕ} → role_leads ≡ true → Memᴰ (exist_in r a c) rows → P a ≡ true → Q c ≡ true
  role_leads_back {a} {c} e m h = rw (eq-eqb r r refl, h) at (all-eq-true.0 e (exist_in r a c) ∣ m ∣₁)

  role_leads_if : ((a c : ℕ) → Memᴰ (exist_in r a c) rows → P a ≡ true → Q c ≡ true) → role_leads ≡ true
  role_leads_if f = all-eq-true.1 (λ q m. ∥∥₁_elim m (So-prop (lets r Q P q)) (each q))
    where
      each : (q : Row) → Memᴰ q rows → lets r Q P q ≡ true
      each (simple k a c) m = refl
      each (conj_subsumed a b c) m = refl
      each (in_exist a r' c) m = refl
      each (exist_in r' a c) m =
          cases (eqb r r')
          (λ e. rw e (cases (P a) (λ h. rw h (f a c (rw (eqb-true r r' e) m) h)) (λ h. rw h)))
          (λ e. rw e)

-- ---- the model: an element below N has its row of S as names; N, and each element whose row has 1, has P

-- names that are closed and do not have 1
record Alive (rows : List Row) (S : Table) (P : ℕ → Bool) : Type 0 where
  closed : ClosedSet rows S P
  alive : P 1 ≡ false

module _ (N : ℕ) (rows : List Row) (S : Table) (P : ℕ → Bool) where
  abbrev names : ℕ → ℕ → Bool
  names x = cond (ltb x N) (cond (S x 1) P (S x)) P

  abbrev world : Interpretation ℕ ℕ
  world = record {
    size = suc N;
    nonempty = omega arith;
    of_name = λ b x. names x b;
    of_role = λ r x y. role_leads rows r (names x) (names y);
  }

  names_row : (c : ℕ) → c < N → S c 1 ≡ false → names c ≡ S c
  names_row c h e = rw (lt-ltb c N h, e)

  names_root : names N ≡ P
  names_root = rw (le-ltb N N (le_refl N))

  module _ {R : ℕ} (below : Below N R rows) (closed : ClosedTable N rows S) (root : Alive rows S P) where
    names_alive : (x : ℕ) → Alive rows S (names x)
    names_alive x =
        cases (ltb x N)
        (λ e. rw e (cases (S x 1) (λ f. rw f root) (λ f. rw f record { closed = closed.row x (ltb-true x N e); alive = f })))
        (λ e. rw e root)

    in_names : (k x : ℕ) → In world (numbered k) x ↔ (names x k ≡ true)
    unfolding In
    in_names zero x = (λ i. (names_alive x).closed.top_in, λ e. tt)
    in_names (suc zero) x = (absurd, λ e. false≢true (sym (names_alive x).alive ∙ e))
    in_names (suc (suc k)) x = Iff.rfl

    -- an element that an `in_exist` row leads to has its own row of S as names
    led_names : {a r c : ℕ} (x : ℕ) → Memᴰ (in_exist a r c) rows → names x a ≡ true → names c ≡ S c
    led_names {c = c} x m h =
        cases (S c 1)
        (λ e. absurd (false≢true (sym (names_alive x).alive ∙ (names_alive x).closed.bottom_in m h e)))
        (names_row c (below.each _ m).2)

    obeys : (x : ℕ) (q : Row) → Memᴰ q rows → ObeysLine world x (line_of q)
    unfolding In
    obeys x (simple k a c) m = cases (is_strict k)
        (λ e. rw e (λ i. (in_names c x).1 ((names_alive x).closed.strict_in (rw (strict_kind_lem k e) m) ((in_names a x).0 i))))
        (λ e. rw e tt)
    obeys x (conj_subsumed a b c) m = λ i. (in_names c x).1 ((names_alive x).closed.conj_in m ((in_names a x).0 i.0) ((in_names b x).0 i.1))
    obeys x (in_exist a r c) m = λ i.
        let h = (in_names a x).0 i in
        let e = led_names x m h in (
          c,
          omega (arith, (below.each _ m).2),
          role_leads_if rows r (names x) (names c) (λ a' c' m' h'. (names_alive x).closed.by_exist_in m m' h (rw e at h')),
          (in_names c c).1 (rw e (closed.own c (below.each _ m).2)),
        )
    obeys x (exist_in r a c) m = λ (y, hy, led, i). (in_names c x).1 (role_leads_back rows r (names x) (names y) led m ((in_names a y).0 i))

    model : Model (strict_rows rows) world
    model = (rows_model world rows).1 (λ x lt q m. obeys x q m)

    root_has : (k : ℕ) → In world (numbered k) N ↔ (P k ≡ true)
    root_has k = rw names_root at (in_names k N)

-- ---- an element that has just the names P, in a model

record Shown (rows : List Row) (P : ℕ → Bool) : Type 0 where
  world : Interpretation ℕ ℕ
  model : Model (strict_rows rows) world
  at : ℕ
  inside : at < world.size
  has : (k : ℕ) → In world (numbered k) at ↔ (P k ≡ true)

shown : {N R : ℕ} {rows : List Row} {S : Table} {P : ℕ → Bool} → Below N R rows → ClosedTable N rows S → ClosedSet rows S P → P 1 ≡ false → Shown rows P
shown {N} {rows} {S} {P} below closed P-closed alive =
    let root : Alive rows S P = record { closed = P-closed; alive = alive } in
    record {
      world = world N rows S P;
      model = model N rows S P below closed root;
      at = N;
      inside = le_refl (suc N);
      has = root_has N rows S P below closed root;
    }

-- it is a witness for each number that it has, where it obeys E
abbrev witness : {rows : List Row} {P : ℕ → Bool} (E : List (ℕ × ℕ)) → Shown rows P → ((p : ℕ × ℕ) → Memᴰ p E → P p.0 ≡ true → P p.1 ≡ true) →
    (s : ℕ) → P s ≡ true → Witness (strict_rows rows) (map between E) (numbered s)
witness E w defeasible_in s start = record {
  world = w.world;
  model = w.model;
  point = w.at;
  inside = w.inside;
  member = (w.has s).1 start;
  obeys = λ ρ m. let (p, mp, e) = Memᴰ.of_map between E m in
      subst (λ (σ : Inclusion ℕ ℕ). In w.world σ.left w.at → In w.world σ.right w.at) e (λ i. (w.has p.1).1 (defeasible_in p mp ((w.has p.0).0 i)));
}

-- ---- a set that is closed, without 1, decides

module _ {N R : ℕ} {rows : List Row} {S : Table} {E : List (ℕ × ℕ)} {P : ℕ → Bool}
    (below : Below N R rows) (closed : ClosedTable N rows S) (set : ClosedSet rows S P) (defeasible_in : (p : ℕ × ℕ) → Memᴰ p E → P p.0 ≡ true → P p.1 ≡ true)
    (alive : P 1 ≡ false) where
  -- what is within is in the set
  pub set_complete : {s d : ℕ} → P s ≡ true → Holds rows E s d → P d ≡ true
  set_complete {s} {d} start h =
      let w = shown below closed set alive in
      (w.has d).0 (h.within.holds (witness E w defeasible_in s start))

  pub set_witness : {s : ℕ} → P s ≡ true → Witness (strict_rows rows) (map between E) (numbered s)
  set_witness {s} start = witness E (shown below closed set alive) defeasible_in s start

-- ---- the table

pub table_complete : {N R : ℕ} {rows : List Row} {S : Table} → Below N R rows → ClosedTable N rows S → {a b : ℕ} → a < N → b < N → Holds rows [] a b → S a b ≡ true
table_complete {S = S} below closed {a} {b} ha hb h =
    cases (S a 1) (closed.rest a b ha hb) λ alive. set_complete below closed (closed.row a ha) (λ p m. absurd (Memᴰ.not-nil m)) alive (closed.own a ha) h

pub table_decides : {N R : ℕ} {rows : List Row} {S : Table} → Below N R rows → ClosedTable N rows S → SoundTable N rows S →
    (a b : ℕ) → a < N → b < N → (Within (strict_rows rows) [] (numbered a) (numbered b) ↔ (S a b ≡ true))
table_decides below closed sound a b ha hb = (λ w. table_complete below closed ha hb (record { within = w }), λ e. (sound.bit a b ha hb e).within)

-- rows of the table that decides are closed under the table
pub table_trans : {N R : ℕ} {rows : List Row} {S : Table} → Below N R rows → ClosedTable N rows S → SoundTable N rows S →
    (a b c : ℕ) → a < N → b < N → c < N → S a b ≡ true → S b c ≡ true → S a c ≡ true
table_trans below closed sound a b c ha hb hc e f = table_complete below closed ha hc (holds_table (sound.bit a b ha hb e) (sound.bit b c hb hc f))

-- ---- the root

root_set : {N R : ℕ} {rows : List Row} {S : Table} {E : List (ℕ × ℕ)} {P : ℕ → Bool} → 1 < N → Below N R rows → ClosedTable N rows S →
    ClosedRoot N rows S E P → ClosedSet rows S P
root_set lt below closed root = record {
  top_in = root.top_in;
  strict_in = λ {a} {c} m h.
      let (ha, hc) = below.each _ m in
      root.table_in a c ha hc h ((closed.row a ha).strict_in m (closed.own a ha));
  conj_in = root.conj_in;
  by_exist_in = λ {a} {c' = c'} m m' h e.
      let (ha, hr, hc) = below.each _ m in
      let (hr', ha', hc') = below.each _ m' in
      root.table_in a c' ha hc' h ((closed.row a ha).by_exist_in m m' (closed.own a ha) e);
  bottom_in = λ {a} m h e.
      let (ha, hr, hc) = below.each _ m in
      root.table_in a 1 ha lt h ((closed.row a ha).bottom_in m (closed.own a ha) e);
}

module _ {N R : ℕ} {rows : List Row} {S : Table} {E : List (ℕ × ℕ)} {P : ℕ → Bool} {s : ℕ}
    (lt : 1 < N) (below : Below N R rows) (closed : ClosedTable N rows S)
    (root : ClosedRoot N rows S E P) (start : P s ≡ true) (sound : SoundRoot N rows E s P) where
  pub root_exceptional : Exceptional (strict_rows rows) (map between E) (numbered s) ↔ (P 1 ≡ true)
  unfolding In
  root_exceptional = (
    λ x. cases (P 1) (λ e. e) (λ alive. absurd (x (set_witness below closed (root_set lt below closed root) root.defeasible_in alive start))),
    λ e w. (sound.bit 1 lt e).within.holds w,
  )

  pub root_decides : P 1 ≡ false → (d : ℕ) → d < N → (Within (strict_rows rows) (map between E) (numbered s) (numbered d) ↔ (P d ≡ true))
  root_decides alive d h = (
    λ w. set_complete below closed (root_set lt below closed root) root.defeasible_in alive start (record { within = w }),
    λ e. (sound.bit d h e).within,
  )
