-- The visit of the rows that read a: every query with the left a is one of them.
--     Replying   each has its result or is still to come; at the start (-none), after a row (-more) and at the end (-all)
-- Assumes nothing.
use Prim.Native.Nat.{ℕ, ◌*◌, ◌<◌, ◌≤◌}
use native.Mathlib.Decide.{ℕ_discrete}
use native.Mathlib.Omega.{arith}
use mathlib.Core.Logic.{◌⊎◌, inl, inr, ⊎_elim}
use mathlib.Core.Path.{◌≡◌, refl, sym, ◌∙◌, subst}
use mathlib.Core.Bool.{true, false}
use mathlib.Core.List.{List}
use lib.ListN.{length, get_or, set, length-set}
use lib.Seq.{get_or-set_same, get_or-set_other}
use lib.Dec.{eqb}
use borrow.Author.Tests.{eqb-true}
use Rattle.semantics.specs.Row.{query_kind, kind_of, a_of, c_of}
use Rattle.semantics.proofs.Tests.{both}
use Rattle.normal.specs.Rules.{Deck}
use Rattle.index.specs.Index.{slot_key, slot_place, next_slot, Indexed, Visit}
use Rattle.index.proofs.Keys.{left_reads}
use Rattle.index.proofs.Visit.{ToCome, come_none, come_more, come_all}
use Rattle.results.specs.Results.{is_query_of, query_result, replied_result}
use Rattle.queries.specs.Steps.{Replied}

pub query_left : (a w : ℕ) → is_query_of a w ≡ true → a_of w ≡ a
query_left a w e = eqb-true (a_of w) a (both (eqb (kind_of w) query_kind) (eqb (a_of w) a) e).1

-- Every query with the left a has its result or is still to come; every other row has its old one.
pub record Replying (words : List ℕ) (a rank : ℕ) (root : List ℕ) (s : ℕ) (old new : List ℕ) : Type 0 where
  pub length_kept : length new ≡ length old
  pub due : (j : ℕ) → j < length words → is_query_of a (get_or words j 0) ≡ true → (get_or new j 0 ≡ query_result rank root (c_of (get_or words j 0))) ⊎ ToCome (slot_key words) a s j
  pub others : (j : ℕ) → j < length words → is_query_of a (get_or words j 0) ≡ false → get_or new j 0 ≡ get_or old j 0

module _ {N : ℕ} {words heads links : List ℕ} (deck : Deck N words) (l : Indexed words heads links) {a : ℕ} where
  -- ---- at the start

  module _ {s : ℕ} (h : a < N) (first : s ≡ get_or heads a 0) where
    pub replying_none : (rank : ℕ) (root old : List ℕ) → Replying words a rank root s old old
    replying_none rank root old = record {
      length_kept = refl;
      due = λ j lt e.
          let reads = subst (λ x. ToCome (slot_key words) x (2 * length words) j) (query_left a (get_or words j 0) e) (left_reads words j lt) in
          inr (rw first (come_none l (omega (arith, deck.numbers)) reads));
      others = λ j lt e. refl;
    }

  -- ---- after a row

  module _ {s next : ℕ} (v : Visit (slot_key words) a (2 * length words) s) (h : 0 < s) (is-next : next ≡ next_slot links s) where
    pub replying_more : {rank r i : ℕ} {root old new : List ℕ} → i ≡ slot_place s → length words ≤ length new →
        r ≡ replied_result a rank root (get_or words i 0) (get_or new i 0) → Replying words a rank root s old new →
        Replying words a rank root next old (set new i r)
    replying_more {r = r} {i} {new = new} place le is p =
        let same : get_or (set new i r) i 0 ≡ r = get_or-set_same new i r 0 (omega (arith, place, v.within)) in
        record {
          length_kept = length-set new i r ∙ p.length_kept;
          due = λ j lt e. elim (ℕ_discrete j i) [
            | yes q ↦ inl (rw q (same ∙ is ∙ rw (subst (λ x. is_query_of a (get_or words x 0) ≡ true) q e)))
            | no q ↦ ⊎_elim (λ d. inl (get_or-set_other new i j r 0 q ∙ d)) (λ t. ⊎_elim (λ f. absurd (q (f ∙ sym place))) (λ later. inr (rw is-next later)) (come_more l v h t)) (p.due j lt e)
          ];
          others = λ j lt e. elim (ℕ_discrete j i) [
            | yes q ↦ rw q (same ∙ is ∙ rw (subst (λ x. is_query_of a (get_or words x 0) ≡ false) q e)) ∙ p.others j lt e
            | no q ↦ get_or-set_other new i j r 0 q ∙ p.others j lt e
          ];
        }

-- ---- at the end

pub replying_all : {words : List ℕ} {a rank : ℕ} {root : List ℕ} {s : ℕ} {old new : List ℕ} → s ≤ 0 → Replying words a rank root s old new → Replied words a rank root old new
replying_all h p = record {
  length_kept = p.length_kept;
  query = λ i lt e. ⊎_elim (λ d. d) (λ t. absurd (come_all h t)) (p.due i lt e);
  others = p.others;
}
