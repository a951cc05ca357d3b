-- The rows that the words of an accepted deck pack, by their fields and by index.
-- Assumes nothing.
use Prim.Native.Nat.{ℕ, zero, suc, ◌<◌, ◌≤◌}
use native.Mathlib.Omega.{arith}
use mathlib.Core.Path.{◌≡◌, refl, sym, ◌∙◌, ap, ap₂, subst}
use mathlib.Core.Option.{Option, none, some}
use mathlib.Core.List.Memᴰ
use mathlib.Core.List.{List, [], ◌∷◌, map, Memᴰ}
use lib.ListN.{length, get_or}
use lib.Dec.{eqb, ltb}
use borrow.Author.Tests.{lt-ltb, le-ltb}
use native.Mathlib.Decide.{dec_lt}
use mathlib.Core.Bool.{Bool, true, false, not, cond, ◌||◌, ◌&&◌}
use Rattle.semantics.specs.Limits.{role_limit}
use Rattle.semantics.specs.Refusals.{fields_refusal, row_refusal, rows_refusal, refusal}
use Rattle.semantics.specs.Closure.{Kind, is_defeasible, is_question, kind_of_line}
use Rattle.semantics.specs.Row.{conj_subsumed_kind, in_exist_kind, exist_in_kind, defeasible_kind, query_kind, strict_query_kind, kind_number, kind_of, role_of, a_of, b_of, c_of}
use Rattle.semantics.specs.Row.{Row, simple, conj_subsumed, in_exist, exist_in, packed, fields_with, fields_of, pack, line_of, RowBelow, Unpacked}
use Rattle.semantics.specs.Decoding.{row_with}
use Rattle.semantics.proofs.Index.{index_of, mem_of}
use Rattle.semantics.proofs.Packing.{below_more}
use Rattle.semantics.proofs.RowKinds.{each_kind, with_simple, with_kind, numbered_defeasible, numbered_question}
use Rattle.semantics.proofs.Unpacking.{RowAccepted, accepted, word_packed, simple_no_role, simple_no_second}
use Rattle.semantics.proofs.Compiling.{unpacked_accepted}
use Rattle.semantics.proofs.Accepting.{accepted_decides}
use Rattle.normal.specs.Rules.{Deck, row_of}

module _ {N : ℕ} {words : List ℕ} (deck : Deck N words) where
  pub deck_row : (i : ℕ) → i < length words → RowAccepted N role_limit (get_or words i 0)
  deck_row i h = accepted N role_limit (get_or words i 0) (deck.clean i h)

-- ---- by fields

-- The row of each kind.
module _ (w : ℕ) where
  pub row_simple : (k : Kind) → kind_of w ≡ kind_number k → row_of w ≡ simple k (a_of w) (c_of w)
  unfolding row_of
  row_simple k e = rw e (with_simple k (role_of w) (a_of w) (b_of w) (c_of w))

  pub row_conj : kind_of w ≡ conj_subsumed_kind → row_of w ≡ conj_subsumed (a_of w) (b_of w) (c_of w)
  unfolding row_of row_with
  row_conj e = rw e

  pub row_in_exist : kind_of w ≡ in_exist_kind → row_of w ≡ in_exist (a_of w) (role_of w) (c_of w)
  unfolding row_of row_with
  row_in_exist e = rw e

  pub row_exist_in : kind_of w ≡ exist_in_kind → row_of w ≡ exist_in (role_of w) (a_of w) (c_of w)
  unfolding row_of row_with
  row_exist_in e = rw e

  -- The row is defeasible, or a question, exactly where its kind says so; a word whose kind is unknown packs neither.
  pub row_defeasible : is_defeasible (kind_of_line (line_of (row_of w))) ≡ eqb (kind_of w) defeasible_kind
  unfolding row_of
  row_defeasible = ap is_defeasible (with_kind (kind_of w) (role_of w) (a_of w) (b_of w) (c_of w)) ∙ numbered_defeasible (kind_of w)

  pub row_question : is_question (kind_of_line (line_of (row_of w))) ≡ (eqb (kind_of w) query_kind || eqb (kind_of w) strict_query_kind)
  unfolding row_of
  row_question = ap is_question (with_kind (kind_of w) (role_of w) (a_of w) (b_of w) (c_of w)) ∙ numbered_question (kind_of w)

-- The row has the word's fields.
pub row_fields : {N R w : ℕ} → RowAccepted N R w → fields_of (row_of w) ≡ fields_with (kind_of w) (role_of w) (a_of w) (b_of w) (c_of w)
row_fields {w} h = each_kind (λ k. kind_of w ≡ k → fields_of (row_of w) ≡ fields_with (kind_of w) (role_of w) (a_of w) (b_of w) (c_of w))
    (λ k e. rw (row_simple w k e, e, h.role (rw e (simple_no_role k)), h.second (rw e (simple_no_second k))))
    (λ e. rw (row_conj w e, e, h.role (rw e refl)))
    (λ e. rw (row_in_exist w e, e, h.second (rw e refl)))
    (λ e. rw (row_exist_in w e, e, h.second (rw e refl)))
    (kind_of w) h.low h.high refl

-- ---- by index

pub row_member : (words : List ℕ) (i : ℕ) → i < length words → Memᴰ (row_of (get_or words i 0)) (map row_of words)
row_member words i h = Memᴰ.map row_of (mem_of 0 words i h)

-- the word of a row, and its index
pub record RowAt (words : List ℕ) (q : Row) : Type 0 where
  pub index : ℕ
  pub within : index < length words
  pub is : row_of (get_or words index 0) ≡ q

pub row_index : {words : List ℕ} {q : Row} → Memᴰ q (map row_of words) → RowAt words q
row_index {words} m =
    let (w, mw, e) = Memᴰ.of_map row_of words m in
    let (i, h, f) = index_of 0 mw in
    record { index = i; within = h; is = ap row_of f ∙ e }

-- ---- the rows of an accepted deck are the ones that its words pack

record Packs (N R w : ℕ) : Type 0 where
  packs : w ≡ pack (row_of w)
  below : RowBelow N R (row_of w)

row_packs : {N R w : ℕ} → RowAccepted N R w → Packs N R w
row_packs {N} {R} {w} h = each_kind (λ k. kind_of w ≡ k → Packs N R w)
    (λ k e. plain (row_simple w k e) (rw (e, h.role (rw e (simple_no_role k)), h.second (rw e (simple_no_second k)))) (h.lefts, h.rights))
    (λ e. plain (row_conj w e) (rw (e, h.role (rw e refl))) (h.lefts, h.seconds, h.rights))
    (λ e. plain (row_in_exist w e) (rw (e, h.second (rw e refl))) (h.lefts, h.roles (rw e refl), h.rights))
    (λ e. plain (row_exist_in w e) (rw (e, h.second (rw e refl))) (h.roles (rw e refl), h.lefts, h.rights))
    (kind_of w) h.low h.high refl
  where
    plain : {q : Row} → row_of w ≡ q → packed (kind_of w) (role_of w) (a_of w) (b_of w) (c_of w) ≡ pack q → RowBelow N R q → Packs N R w
    plain e p b = record { packs = word_packed w ∙ p ∙ ap pack (sym e); below = subst (RowBelow N R) (sym e) b }

words_unpacked : {N R : ℕ} (words : List ℕ) → ((i : ℕ) → i < length words → RowAccepted N R (get_or words i 0)) → Unpacked N R words (map row_of words)
words_unpacked [] h = record { packs = refl; below = record { each = λ q m. absurd (Memᴰ.not-nil m) } }
words_unpacked (w ∷ words) h =
    let p = row_packs (h 0 (omega arith)) in
    let u = words_unpacked words (λ i lt. h (suc i) (omega arith)) in
    record { packs = ap₂ ◌∷◌ p.packs u.packs; below = below_more p.below u.below }

pub deck_unpacked : {N : ℕ} {words : List ℕ} (deck : Deck N words) → Unpacked N role_limit words (map row_of words)
deck_unpacked {words} deck = words_unpacked words (deck_row deck)

-- ---- a deck whose rows are not refused

rows_clean : (N R i : ℕ) (words : List ℕ) → rows_refusal N R i words ≡ none → (j : ℕ) → j < length words → row_refusal N R (get_or words j 0) ≡ none
unfolding rows_refusal
rows_clean N R i (w ∷ words) h j lt = go (row_refusal N R w) refl (rows_clean N R (suc i) words) j lt
  where
    go : (o : Option ℕ) → row_refusal N R w ≡ o → (rows_refusal N R (suc i) words ≡ none → (j : ℕ) → j < length words → row_refusal N R (get_or words j 0) ≡ none) →
        (j : ℕ) → j < length (w ∷ words) → row_refusal N R (get_or (w ∷ words) j 0) ≡ none
    go (some n) e rec j lt = let f = rw e at h in let z : ◌≡◌ {A = ℕ} 0 1 = cc in absurd (omega arith)
    go none e rec zero lt = e
    go none e rec (suc j) lt = rec (rw e at h) j (omega arith)
rows_clean N R i [] h j lt = absurd (omega arith)

refused : (n : ℕ) → some n ≡ none → ⊥
refused n h = let z : ◌≡◌ {A = ℕ} 0 1 = cc in omega arith

-- the refusal of a row by its tests
abbrev tests : (k u n r : Bool) → Option ℕ
tests k u n r = cond k (some 15) (cond u (some 16) (cond n (some 17) (cond r (some 18) none)))

-- A role below one count is below a greater one.
wider : (k u n : Bool) (r : ℕ) {R R' : ℕ} (role : Bool) → R ≤ R' →
    tests k u n (role && not (ltb r R)) ≡ none → tests k u n (role && not (ltb r R')) ≡ none
wider true u n r role le h = absurd (refused _ h)
wider false true n r role le h = absurd (refused _ h)
wider false false true r role le h = absurd (refused _ h)
wider false false false r false le h = refl
wider false false false r {R} {R'} true le h = elim (dec_lt r R) [
  | yes l ↦ rw (lt-ltb r R' (omega arith))
  | no n ↦ absurd (refused _ (rw (le-ltb r R (omega arith)) at h))
]

row_wider : (N R R' w : ℕ) → R ≤ R' → row_refusal N R w ≡ none → row_refusal N R' w ≡ none
unfolding fields_refusal
row_wider N R R' w = wider _ _ _ _ _

module _ (N R table results order : ℕ) (words : List ℕ) (h : refusal N R table results order words ≡ none) where
  accepted_clean : (i : ℕ) → i < length words → row_refusal N R (get_or words i 0) ≡ none
  accepted_clean =
      let a = (accepted_decides N R table results order words).0 h in
      rows_clean N R 0 words (unpacked_accepted (omega (arith, a.numbers.0)) (omega (arith, a.numbers.1)) (omega (arith, a.roles)) a.unpacked 0)

  -- What `refusal` lets pass is a deck.
  pub accepted_deck : Deck N words
  accepted_deck =
      let a = (accepted_decides N R table results order words).0 h in
      record { two = a.numbers.0; numbers = a.numbers.1; few = a.few_rows; clean = λ i lt. row_wider N R role_limit _ a.roles (accepted_clean i lt) }

  -- and its rows are the ones that its words pack
  pub accepted_rows : Unpacked N R words (map row_of words)
  accepted_rows = words_unpacked words (λ i lt. accepted N R (get_or words i 0) (accepted_clean i lt))
