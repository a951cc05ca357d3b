-- The results of all rows: each kind's facts, put together.
--     askable            what the ranks are found from
--     row_result         the result of one row, by its kind
--     answered           all rows
-- Assumes nothing.
use Prim.Native.Nat.{ℕ, suc, ◌+◌, ◌<◌, ◌≤◌}
use native.Mathlib.Omega.{arith}
use native.Mathlib.Decide.{dec_lt}
use mathlib.Core.Path.{◌≡◌, refl, ◌∙◌}
use mathlib.Core.Bool.{true, false}
use mathlib.Core.Option.{none, some}
use mathlib.Core.List.{List, [], ◌∷◌, map}
use lib.ListN.{length, get_or, take}
use lib.Dec.{eqb}
use borrow.Author.Tests.{le-leb, lt-ltb}
use Rattle.semantics.specs.Concept.{Inclusion}
use Rattle.semantics.specs.Closure.{yes_bit, Result, of_strict, of_defeasible, of_query, of_strict_query, Results, done, more, Kind, strict, defeasible, query, strict_query}
use Rattle.semantics.specs.Row.{Row, simple, defeasible_kind, query_kind, strict_query_kind, kind_number, numbered, line_of, kind_of, a_of, c_of}
use Rattle.semantics.proofs.RowKinds.{each_kind}
use Rattle.normal.specs.Rules.{Deck, row_of, infinite}
use Rattle.normal.proofs.Decoding.{deck_row, row_simple, row_conj, row_in_exist, row_exist_in}
use Rattle.pass.specs.Levels.{sets_to}
use Rattle.pass.specs.Passes.{strict_of_words, Bounded, Ranked}
use Rattle.roots.specs.declared.settling.Settling.{Settling}
use Rattle.pass.proofs.Sets.{rank_live}
use Rattle.pass.proofs.Same.{same_flip, same_levelled}
use Rattle.answers.specs.Answers.{StrictAnswered, RankedReady, Answered}
use Rattle.answers.specs.Steps.{ranked_at, Rewritten}
use Rattle.ranks.specs.Rank.{Askable}
use Rattle.ranks.proofs.Ranks.{rank_stuck, levels_few, same_rank, same_defeasibly}
use Rattle.queries.specs.Steps.{QueriesAnswered}

-- ---- by index

results_by_index : {W T : List (Inclusion ℕ ℕ)} {sets : List (List (Inclusion ℕ ℕ))} (words results : List ℕ) → length words ≤ length results →
    ((i : ℕ) → i < length words → Result W T sets (line_of (row_of (get_or words i 0))) (get_or results i 0)) → Results W T sets (map line_of (map row_of words)) (take (length words) results)
results_by_index [] results long each = done
results_by_index (w ∷ words) [] long each = absurd (omega arith)
results_by_index (w ∷ words) (r ∷ results) long each = more (each 0 (omega arith)) (results_by_index words results (omega arith) (λ i h. each (suc i) (omega arith)))

-- what ranks are found from
pub askable : (s : Settling) {k passes : ℕ} → RankedReady s k passes → Askable s k
askable s ready =
    let r = ready.ranked in
    record { exact = ready.exact; levelled = same_levelled r.rules r.levelled; none_left = r.none_left; few = levels_few s.index.deck r }

module _ {N : ℕ} {words levels table : List ℕ} {k passes : ℕ} (deck : Deck N words) (rank : Ranked N words levels table k passes) (bounded : Bounded words levels) where
  module _ {old mid new : List ℕ} (strictly : StrictAnswered words old) (ranked : Rewritten (ranked_at words levels) (length words) old mid) (queries : QueriesAnswered words levels k mid new) where
    -- a row that is neither defeasible nor a query has its first result
    first_kept : (i : ℕ) → i < length words → eqb (kind_of (get_or words i 0)) defeasible_kind ≡ false → eqb (kind_of (get_or words i 0)) query_kind ≡ false → get_or new i 0 ≡ get_or old i 0
    first_kept i h five six = queries.others i h six ∙ ranked.done i h ∙ rw five

    by_level : (i : ℕ) → i < length words → kind_of (get_or words i 0) ≡ defeasible_kind → get_or new i 0 ≡ yes_bit true + get_or levels i 0
    by_level i h e = queries.others i h (rw e) ∙ ranked.done i h ∙ rw e

    module _ (i : ℕ) (h : i < length words) where
      abbrev Due : Row → Type 0
      Due q = Result (strict_of_words words) rank.T* (sets_to words levels k) (line_of q) (get_or new i 0)

      due_defeasible : kind_of (get_or words i 0) ≡ defeasible_kind → Due (simple defeasible (a_of (get_or words i 0)) (c_of (get_or words i 0)))
      due_defeasible e =
          rw (by_level i h e) (go (dec_lt (get_or levels i 0) infinite))
        where
          go : Dec (get_or levels i 0 < infinite) →
              Result (strict_of_words words) rank.T* (sets_to words levels k) (line_of (simple defeasible (a_of (get_or words i 0)) (c_of (get_or words i 0)))) (yes_bit true + get_or levels i 0)
          go (yes live) =
              of_defeasible (some (get_or levels i 0)) (rank_live rank.levelled rank.none_left i (h, rw (e, le-leb 0 (get_or levels i 0) (omega arith), lt-ltb _ _ live)))
          go (no most) =
              let f : get_or levels i 0 ≡ infinite = omega (arith, bounded.each i h) in
              rw f (of_defeasible none (rank_stuck words levels (sets_to words levels k) rank.rules rank.levelled.long i h (rw (e, f))))

      due_query : kind_of (get_or words i 0) ≡ query_kind → Due (simple query (a_of (get_or words i 0)) (c_of (get_or words i 0)))
      due_query e =
          let w = get_or words i 0 in
          let u = queries.query i h e in
          let s = same_flip rank.rules in
          rw u.is (of_query u.rank u.reply (same_rank (sets_to words levels k) s (numbered (a_of w)) u.rank u.ranks)
          (same_defeasibly (sets_to words levels k) s (numbered (a_of w)) (numbered (c_of w)) u.rank u.reply u.replies))

      due_strict_query : kind_of (get_or words i 0) ≡ strict_query_kind → Due (simple strict_query (a_of (get_or words i 0)) (c_of (get_or words i 0)))
      due_strict_query e =
          let u = strictly.strict_query i h e in
          rw (first_kept i h (rw e) (rw e) ∙ u.is) (of_strict_query u.reply u.replies)

      -- a strict row has 0
      due_zero : eqb (kind_of (get_or words i 0)) defeasible_kind ≡ false → eqb (kind_of (get_or words i 0)) query_kind ≡ false → eqb (kind_of (get_or words i 0)) strict_query_kind ≡ false → get_or new i 0 ≡ 0
      due_zero five six seven = first_kept i h five six ∙ strictly.others i h seven

      due_simple : (kind : Kind) → kind_of (get_or words i 0) ≡ kind_number kind → Due (simple kind (a_of (get_or words i 0)) (c_of (get_or words i 0)))
      due_simple strict e = rw (due_zero (rw e) (rw e) (rw e)) of_strict
      due_simple defeasible e = due_defeasible e
      due_simple query e = due_query e
      due_simple strict_query e = due_strict_query e

      row_result : Due (row_of (get_or words i 0))
      row_result =
          let w = get_or words i 0 in
          let row = deck_row deck i h in
          each_kind (λ kind. kind_of w ≡ kind → Due (row_of w))
          (λ kind e. rw (row_simple w kind e) (due_simple kind e))
          (λ e. rw (row_conj w e, due_zero (rw e) (rw e) (rw e)) of_strict)
          (λ e. rw (row_in_exist w e, due_zero (rw e) (rw e) (rw e)) of_strict)
          (λ e. rw (row_exist_in w e, due_zero (rw e) (rw e) (rw e)) of_strict)
          (kind_of w) row.low row.high refl

    pub answered : length words ≤ length old → Answered N words levels table k passes new
    answered long = record {
      ranked = rank;
      answers = results_by_index words new (omega (arith, ranked.length_kept, queries.length_kept)) row_result;
      by_level = by_level;
    }
