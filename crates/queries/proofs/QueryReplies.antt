-- Queries, one left after the other: the first query with a left has all of that left's queries answered.
--     Answering   where the loop over the rows stands; at the start (-none), after a row whose left is answered (-more)
--                 or need not be (-other), and at the end (-all)
-- Assumes nothing.
use Prim.Native.Nat.{ℕ, ◌+◌, ◌<◌, ◌≤◌}
use native.Mathlib.Omega.{arith}
use mathlib.Core.Path.{◌≡◌, refl, sym, ◌∙◌}
use mathlib.Core.Bool.{true, false, ◌||◌, or-true, false≢true}
use mathlib.Core.List.{List}
use lib.ListN.{length, get_or}
use lib.Dec.{eqb}
use borrow.Author.Count.{below_more}
use borrow.Author.Tests.{eq-eqb, eqb-true}
use Rattle.semantics.specs.Row.{query_kind, kind_of, a_of, c_of}
use Rattle.semantics.specs.Set.{has}
use Rattle.semantics.proofs.Tests.{cases, either}
use Rattle.normal.specs.Rules.{Deck, infinite}
use Rattle.normal.proofs.Decoding.{deck_row}
use Rattle.ranks.specs.Rank.{RankFound}
use Rattle.queries.proofs.Visiting.{query_left}
use Rattle.results.specs.Results.{is_query_of}
use Rattle.queries.specs.Steps.{Replied, QueryReply, QueriesAnswered}

-- Each query below i has a left that is done, each query whose left is done has its reply, and every other row its old result.
pub record Answering (words levels : List ℕ) (k i : ℕ) (done old new : List ℕ) : Type 0 where
  pub length_kept : length new ≡ length old
  pub met : (j : ℕ) → j < i → kind_of (get_or words j 0) ≡ query_kind → has done (a_of (get_or words j 0)) ≡ true
  pub query : (j : ℕ) → j < length words → kind_of (get_or words j 0) ≡ query_kind → has done (a_of (get_or words j 0)) ≡ true →
      QueryReply words levels k (get_or words j 0) (get_or new j 0)
  pub others : (j : ℕ) → j < length words → eqb (kind_of (get_or words j 0)) query_kind ≡ false → get_or new j 0 ≡ get_or old j 0

module _ {words levels : List ℕ} {k : ℕ} where
  pub answering_none : {done old : List ℕ} → ((c : ℕ) → has done c ≡ false) → Answering words levels k 0 done old old
  answering_none none = record {
    length_kept = refl;
    met = λ j h. absurd (omega arith);
    query = λ j h e d. absurd (false≢true (sym (none (a_of (get_or words j 0))) ∙ d));
    others = λ j h e. refl;
  }

  -- the reply that a left's rank and root give to each query with it
  replied : {N a code : ℕ} {root old new : List ℕ} → Deck N words → RankFound N words levels k a code root → Replied words a code root old new →
      (j : ℕ) → j < length words → is_query_of a (get_or words j 0) ≡ true → QueryReply words levels k (get_or words j 0) (get_or new j 0)
  replied {code = code} {root = root} deck f r j h e =
      let w = get_or words j 0 in
      let left = query_left _ w e in
      record {
        rank = f.rank;
        reply = eqb code infinite || has root (c_of w);
        ranks = rw left f.ranks;
        replies = rw left (f.decides (c_of w) (deck_row deck j h).rights);
        is = r.query j h e ∙ rw (← f.is);
      }

  module _ {i : ℕ} {done old mid : List ℕ} (p : Answering words levels k i done old mid) where
    -- every query with the left of the row at i is answered
    pub answering_more : {N a code : ℕ} {root done' new : List ℕ} → Deck N words → a ≡ a_of (get_or words i 0) → ((c : ℕ) → has done' c ≡ (has done c || eqb a c)) →
        RankFound N words levels k a code root → Replied words a code root mid new → Answering words levels k (i + 1) done' old new
    answering_more {a = a} {done' = done'} deck is add f r = record {
      length_kept = r.length_kept ∙ p.length_kept;
      met = below_more (λ (j : ℕ). kind_of (get_or words j 0) ≡ query_kind → has done' (a_of (get_or words j 0)) ≡ true) i
          (λ j h e. add (a_of (get_or words j 0)) ∙ rw (p.met j h e))
          (λ e. rw (← is) (add a ∙ rw (eq-eqb a a refl) (or-true (has done a))));
      query = λ j h e d.
          let w = get_or words j 0 in
          cases (eqb (a_of w) a)
          (λ t. replied deck f r j h (rw (e, t)))
          (λ n. rw (r.others j h (rw (e, n))) (p.query j h e (either (has done (a_of w)) (eqb a (a_of w)) (sym (add (a_of w)) ∙ d) (λ t. t)
          (λ t. absurd (false≢true (sym n ∙ eq-eqb (a_of w) a (sym (eqb-true a (a_of w) t))))))));
      others = λ j h e. r.others j h (rw e) ∙ p.others j h e;
    }

    -- the row at i is no query, or its left is done
    pub answering_other : {a : ℕ} → a ≡ a_of (get_or words i 0) → (kind_of (get_or words i 0) ≡ query_kind → has done a ≡ true) →
        Answering words levels k (i + 1) done old mid
    answering_other left met = record {
      length_kept = p.length_kept;
      met = below_more (λ (j : ℕ). kind_of (get_or words j 0) ≡ query_kind → has done (a_of (get_or words j 0)) ≡ true) i p.met
          (λ e. rw (← left) (met e));
      query = p.query;
      others = p.others;
    }

    pub answering_all : length words ≤ i → QueriesAnswered words levels k old mid
    answering_all le = record {
      length_kept = p.length_kept;
      query = λ j h e. p.query j h e (p.met j (omega arith) e);
      others = p.others;
    }
