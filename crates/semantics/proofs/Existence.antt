-- Every list of lines has a rational closure: that of its rows, over which saturation decides what is within.
-- Assumes nothing.
use Prim.Native.Nat.{ℕ, ◌<◌}
use mathlib.Core.Path.{◌≡◌, refl, sym, ap₂, subst, subst₂}
use mathlib.Core.Bool.{Bool, true, false}
use mathlib.Core.Option.{some}
use mathlib.Core.List.Memᴰ
use mathlib.Core.List.{List, [], ◌∷◌, ◌++◌, map, Memᴰ}
use mathlib.Core.Logic.{inl, inr}
use lib.ListN.{length, take}
use Rattle.semantics.specs.Concept.{Concept, Inclusion, Within}
use Rattle.semantics.specs.Closure.{is_strict, is_defeasible, Line, keep_if, Replies, RationalClosure, emptied}
use Rattle.semantics.specs.Row.{Row, simple, conj_subsumed, in_exist, exist_in, numbered, line_of, RowBelow, Below}
use Rattle.semantics.specs.Source.{Word}
use Rattle.semantics.specs.Numbering.{no_names, number_lines, normal_rows}
use Rattle.semantics.specs.Saturated.{strict_rows, between, empty_row}
use Rattle.semantics.proofs.Rows.{pairs_of, pairs_between, grown_rows}
use Rattle.semantics.proofs.Tests.{cases}
use Rattle.semantics.proofs.Exists.{Decidable, Asks, closure_of_decided}
use Rattle.semantics.proofs.NormalForm.{normal_form_reads}
use Rattle.semantics.proofs.Counts.{normal_below, numbers_two}
use Rattle.semantics.proofs.Evaluate.{member, within_in, Pairs}
use Rattle.semantics.proofs.Tables.{table_good, within_sound}
use Rattle.semantics.proofs.Saturation.{PairsBelow, table_exists, root_exists}

-- ---- sets and concepts of numbers below N

record StrictBelow (N R : ℕ) (T : List (Inclusion ℕ ℕ)) : Type 0 where
  rows : List Row
  are : strict_rows rows ≡ T
  below : Below N R rows

record PairBelow (N : ℕ) (ρ : Inclusion ℕ ℕ) : Type 0 where
  pair : ℕ × ℕ
  is : between pair ≡ ρ
  below : (pair.0 < N) × (pair.1 < N)

record DefeasibleBelow (N : ℕ) (E : List (Inclusion ℕ ℕ)) : Type 0 where
  each : (ρ : Inclusion ℕ ℕ) → Memᴰ ρ E → PairBelow N ρ

record NumberBelow (N : ℕ) (C : Concept ℕ ℕ) : Type 0 where
  number : ℕ
  is : numbered number ≡ C
  below : number < N

-- the pairs of a defeasible set
pairs_exist : {N : ℕ} (E : List (Inclusion ℕ ℕ)) → DefeasibleBelow N E → (ps : Pairs) × (map between ps ≡ E) × PairsBelow N ps
pairs_exist [] e = ([], refl, record { each = λ p m. absurd (Memᴰ.not-nil m) })
pairs_exist {N} (ρ ∷ E) e =
    let p = e.each ρ (Memᴰ.head refl) in
    let r = pairs_exist E (record { each = λ σ m. e.each σ (Memᴰ.tail m) }) in
    (p.pair ∷ r.0, ap₂ ◌∷◌ p.is r.1, record { each = go p.pair p.below r.0 r.2 })
  where
    go : (p : ℕ × ℕ) → (p.0 < N) × (p.1 < N) → (ps : Pairs) → PairsBelow N ps → (q : ℕ × ℕ) → Memᴰ q (p ∷ ps) → (q.0 < N) × (q.1 < N)
    go p h ps f q (Memᴰ.head i) = subst (λ (q : ℕ × ℕ). (q.0 < N) × (q.1 < N)) (sym i) h
    go p h ps f q (Memᴰ.tail m) = f.each q m

-- ---- what is within is decided

dec_of_replies : {P : Type 0} (b : Bool) → Replies b P → Dec P
dec_of_replies true h = yes h
dec_of_replies false h = no h

rows_within : (N R : ℕ) (rows : List Row) (E : Pairs) (a c : ℕ) → 1 < N → Below N R rows → PairsBelow N E → Dec (Within (strict_rows rows) (map between E) (numbered a) (numbered c))
unfolding within_in
rows_within N R rows E a c two below pairs =
    let (table, ht, len) = table_exists N R rows two below in
    let (P, hP) = root_exists two below table pairs len a in
    let h : within_in rows table E a c ≡ some (member P c) = rw hP in
    dec_of_replies (member P c) (within_sound (table_good N R rows table ht) E a c (member P c) h)

stuck_below : {N R : ℕ} (rows : List Row) (ps : Pairs) → 1 < N → Below N R rows → PairsBelow N ps → Below N R (rows ++ map empty_row ps)
stuck_below {N} {R} rows ps two below pairs = record {
  each = λ q m. elim (Memᴰ.append_cases rows m) [
    | inl j ↦ below.each q j
    | inr j ↦ let (p, mp, e) = Memᴰ.of_map empty_row ps j in subst (RowBelow N R) e ((pairs.each p mp).0, two)
  ];
}

decided : (N R : ℕ) → 1 < N → Decidable (StrictBelow N R) (DefeasibleBelow N) (NumberBelow N)
decided N R two = record {
  within = λ {T} {E} {C} {D} t e c c'.
      let (ps, are, pairs) = pairs_exist E e in
      let d = rows_within N R t.rows ps c.number c'.number two t.below pairs in
      subst₂ (λ T E. Dec (Within T E C D)) t.are are (subst₂ (λ C D. Dec (Within (strict_rows t.rows) (map between ps) C D)) c.is c'.is d);
  none_ok = record { each = λ ρ m. absurd (Memᴰ.not-nil m) };
  part_ok = λ e f. record { each = λ ρ m. e.each ρ (f ρ m) };
  left_ok = λ {E} {ρ} e m. let p = e.each ρ m in record { number = p.pair.0; is = λ i. (p.is i).left; below = p.below.0 };
  bottom_ok = record { number = 1; is = refl; below = two };
  emptied_ok = λ {T} {E} t e.
      let (ps, are, pairs) = pairs_exist E e in record {
        rows = t.rows ++ map empty_row ps;
        are = subst₂ (λ T E. strict_rows (t.rows ++ map empty_row ps) ≡ T ++ emptied E) t.are are (grown_rows t.rows ps);
        below = stuck_below t.rows ps two t.below pairs;
      };
}

-- ---- rows, and lines

pairs_below : {N R : ℕ} (rows : List Row) → ((q : Row) → Memᴰ q rows → RowBelow N R q) → (p : ℕ × ℕ) → Memᴰ p (pairs_of rows) → (p.0 < N) × (p.1 < N)
unfolding pairs_of
pairs_below [] h p m = absurd (Memᴰ.not-nil m)
pairs_below {N} {R} (simple k a c ∷ rows) h p m = go (is_defeasible k) m (pairs_below rows (λ q i. h q (Memᴰ.tail i)) p)
  where
    go : (b : Bool) → Memᴰ p (keep_if b (a, c) (pairs_of rows)) → (Memᴰ p (pairs_of rows) → (p.0 < N) × (p.1 < N)) → (p.0 < N) × (p.1 < N)
    go true (Memᴰ.head e) rec = subst (λ (q : ℕ × ℕ). (q.0 < N) × (q.1 < N)) (sym e) (h (simple k a c) (Memᴰ.head refl))
    go true (Memᴰ.tail m) rec = rec m
    go false m rec = rec m
pairs_below (conj_subsumed a b c ∷ rows) h p m = pairs_below rows (λ q i. h q (Memᴰ.tail i)) p m
pairs_below (in_exist a r c ∷ rows) h p m = pairs_below rows (λ q i. h q (Memᴰ.tail i)) p m
pairs_below (exist_in r a c ∷ rows) h p m = pairs_below rows (λ q i. h q (Memᴰ.tail i)) p m

row_asks : (N R : ℕ) (q : Row) → RowBelow N R q → Asks (NumberBelow N) (line_of q)
row_asks N R (simple k a c) h = cases (is_strict k) (λ e. rw e tt) (λ e. rw e (record { number = a; is = refl; below = h.0 }, record { number = c; is = refl; below = h.1 }))
row_asks N R (conj_subsumed a b c) h = tt
row_asks N R (in_exist a r c) h = tt
row_asks N R (exist_in r a c) h = tt

-- Rows within their bounds have a rational closure.
pub closure_of_rows : (N R : ℕ) (rows : List Row) → 1 < N → Below N R rows → (levels passes : ℕ) × (results : List ℕ) × RationalClosure (map line_of rows) levels passes results
closure_of_rows N R rows two below = closure_of_decided (decided N R two) (map line_of rows)
    (record { rows = rows; are = refl; below = below })
    (record {
      each = λ ρ m.
          let (p, mp, e) = Memᴰ.of_map between (pairs_of rows) (rw (← pairs_between rows) at m) in
          record { pair = p; is = e; below = pairs_below rows below.each p mp };
    })
    (λ l m. let (q, mq, e) = Memᴰ.of_map line_of rows m in subst (Asks (NumberBelow N)) e (row_asks N R q (below.each q mq)))

-- Every list of lines has a rational closure.
pub closure_exists : (lines : List (Line Word Word)) → (levels passes : ℕ) × (results : List ℕ) × RationalClosure lines levels passes results
closure_exists lines =
    let n = (number_lines lines no_names).after in
    let (levels, passes, results, c) = closure_of_rows n.next (length n.roles) (normal_rows lines) (numbers_two lines) (normal_below lines) in
    (levels, passes, take (length lines) results, (normal_form_reads lines c).0)
