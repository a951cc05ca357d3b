-- Words that are not refused pack rows within their bounds.
-- Assumes nothing.
use Prim.Native.Nat.{ℕ, suc, ◌<◌, ◌≤◌}
use native.Mathlib.Omega.{arith}
use native.Mathlib.Nat.{div-div-eq-div-mul}
use mathlib.Core.Path.{◌≡◌, refl, ◌∙◌, ap₂}
use mathlib.Core.Bool.{Bool, true, false, ◌&&◌, ◌||◌, not, cond}
use mathlib.Core.Option.{Option, none, some}
use mathlib.Core.List.Memᴰ
use mathlib.Core.List.{List, [], ◌∷◌}
use lib.Dec.{eqb, leb, ltb}
use borrow.Author.Tests.{eqb-true, ltb-true, leb-true}
use Rattle.semantics.specs.Closure.{Kind}
use Rattle.semantics.specs.Row.{Row, simple, conj_subsumed, in_exist, exist_in, packed, strict_kind, strict_query_kind, kind_number, pack, RowBelow, Unpacked, kind_of, role_of, a_of, b_of, c_of}
use Rattle.semantics.specs.Refusals.{has_role, has_b, fields_refusal, row_refusal, rows_refusal}
use Rattle.semantics.proofs.Tests.{cases, both}
use Rattle.semantics.proofs.RowKinds.{each_number, each_kind}
use Rattle.semantics.proofs.Packing.{below_more}

-- a word is its fields, packed
pub word_packed : (w : ℕ) → w ≡ packed (kind_of w) (role_of w) (a_of w) (b_of w) (c_of w)
word_packed w = omega (arith, div-div-eq-div-mul w 65536 65536, div-div-eq-div-mul w 4294967296 65536, div-div-eq-div-mul w 281474976710656 4096)

-- ---- a word that is not refused

-- a test that cannot have failed
passed : (b : Bool) → (b ≡ false → ◌≡◌ {A = ℕ} 0 1) → b ≡ true
passed true f = refl
passed false f = absurd (omega (arith, f refl))

role_kept : (b c : Bool) → cond {A = Option ℕ} (b && not c) (some 18) none ≡ none → b ≡ true → c ≡ true
role_kept true true h e = refl
role_kept true false h e = let z : ◌≡◌ {A = ℕ} 0 1 = cc in absurd (omega arith)
role_kept false c h e = let z : ◌≡◌ {A = ℕ} 0 1 = cc in absurd (omega arith)

unused : (b : Bool) (x : ℕ) → (b || eqb x 0) ≡ true → b ≡ false → x ≡ 0
unused true x h e = let z : ◌≡◌ {A = ℕ} 0 1 = cc in absurd (omega arith)
unused false x h e = eqb-true x 0 h

-- what a word that is not refused has
pub record RowAccepted (N R w : ℕ) : Type 0 where
  pub low : strict_kind ≤ kind_of w
  pub high : kind_of w ≤ strict_query_kind
  pub role : has_role (kind_of w) ≡ false → role_of w ≡ 0
  pub second : has_b (kind_of w) ≡ false → b_of w ≡ 0
  pub lefts : a_of w < N
  pub seconds : b_of w < N
  pub rights : c_of w < N
  pub roles : has_role (kind_of w) ≡ true → role_of w < R

-- Holds in either order of the tests for 16 and 17: which of them comes first is what the examples say.
pub accepted : (N R w : ℕ) → row_refusal N R w ≡ none → RowAccepted N R w
unfolding fields_refusal
accepted N R w h =
    let k = passed (leb strict_kind (kind_of w) && leb (kind_of w) strict_query_kind) (λ e. cc) in
    let u = passed ((has_role (kind_of w) || eqb (role_of w) 0) && (has_b (kind_of w) || eqb (b_of w) 0)) (λ e. cases (ltb (a_of w) N && (ltb (b_of w) N && ltb (c_of w) N)) (λ f. cc) (λ f. cc)) in
    let n = passed (ltb (a_of w) N && (ltb (b_of w) N && ltb (c_of w) N)) (λ e. cc) in
    let (kl, kh) = both (leb strict_kind (kind_of w)) (leb (kind_of w) strict_query_kind) k in
    let (ur, ub) = both (has_role (kind_of w) || eqb (role_of w) 0) (has_b (kind_of w) || eqb (b_of w) 0) u in
    let (na, n') = both (ltb (a_of w) N) (ltb (b_of w) N && ltb (c_of w) N) n in
    let (nb, nc) = both (ltb (b_of w) N) (ltb (c_of w) N) n' in
    record {
      low = leb-true strict_kind (kind_of w) kl;
      high = leb-true (kind_of w) strict_query_kind kh;
      role = unused (has_role (kind_of w)) (role_of w) ur;
      second = unused (has_b (kind_of w)) (b_of w) ub;
      lefts = ltb-true (a_of w) N na;
      seconds = ltb-true (b_of w) N nb;
      rights = ltb-true (c_of w) N nc;
      roles = λ e. ltb-true (role_of w) R (role_kept (has_role (kind_of w)) (ltb (role_of w) R) (rw (k, u, n, fields_refusal) at h) e);
    }

-- ---- its row

record RowOf (N R w : ℕ) : Type 0 where
  row : Row
  packs : w ≡ pack row
  below : RowBelow N R row

-- a simple row has no role and no second left
pub simple_no_role : (k : Kind) → has_role (kind_number k) ≡ false
simple_no_role k = each_number (λ n. has_role n ≡ false) refl refl refl refl k

pub simple_no_second : (k : Kind) → has_b (kind_number k) ≡ false
simple_no_second k = each_number (λ n. has_b n ≡ false) refl refl refl refl k

row_of : (N R w : ℕ) → RowAccepted N R w → RowOf N R w
row_of N R w h =
    let a = a_of w in
    let b = b_of w in
    let c = c_of w in
    let r = role_of w in
    each_kind (λ k. kind_of w ≡ k → RowOf N R w)
    (λ k e. record { row = simple k a c; packs = word_packed w ∙ rw (e, h.role (rw e (simple_no_role k)), h.second (rw e (simple_no_second k))); below = (h.lefts, h.rights) })
    (λ e. record { row = conj_subsumed a b c; packs = word_packed w ∙ rw (e, h.role (rw e refl)); below = (h.lefts, h.seconds, h.rights) })
    (λ e. record { row = in_exist a r c; packs = word_packed w ∙ rw (e, h.second (rw e refl)); below = (h.lefts, h.roles (rw e refl), h.rights) })
    (λ e. record { row = exist_in r a c; packs = word_packed w ∙ rw (e, h.second (rw e refl)); below = (h.roles (rw e refl), h.lefts, h.rights) })
    (kind_of w) h.low h.high refl

-- ---- lists

more_rows : {N R w : ℕ} {words : List ℕ} {rows : List Row} → RowOf N R w → Unpacked N R words rows → (rows : List Row) × Unpacked N R (w ∷ words) rows
more_rows {rows} r u = (r.row ∷ rows, record { packs = ap₂ ◌∷◌ r.packs u.packs; below = below_more r.below u.below })

-- Words that are not refused pack rows within their bounds.
pub accepted_unpacked : (N R i : ℕ) (words : List ℕ) → rows_refusal N R i words ≡ none → (rows : List Row) × Unpacked N R words rows
unfolding rows_refusal
accepted_unpacked N R i [] h = ([], record { packs = refl; below = record { each = λ q m. absurd (Memᴰ.not-nil m) } })
accepted_unpacked N R i (w ∷ words) h = go (row_refusal N R w) refl (accepted_unpacked N R (suc i) words)
  where
    go : (o : Option ℕ) → row_refusal N R w ≡ o → (rows_refusal N R (suc i) words ≡ none → (rows : List Row) × Unpacked N R words rows) → (rows : List Row) × Unpacked N R (w ∷ words) rows
    go (some n) e rec = let f = rw e at h in let z : ◌≡◌ {A = ℕ} 0 1 = cc in absurd (omega arith)
    go none e rec = more_rows (row_of N R w (accepted N R w e)) (rec (rw e at h)).1
