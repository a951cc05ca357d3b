-- A result word tells its rank and its reply, and the count of yes is the number of questions answered yes, where the levels are below 32,767.
-- Assumes nothing.
use Prim.Native.Nat.{ℕ, ◌+◌, ◌/◌, ◌%◌, ◌<◌, ◌≤◌}
use native.Mathlib.Omega.{arith}
use mathlib.Core.Path.{◌≡◌, refl, sym, ◌∙◌, ap, subst}
use mathlib.Core.Bool.{Bool, true, false}
use mathlib.Core.Option.{Option, none, some}
use mathlib.Core.List.{List, [], ◌∷◌}
use mathlib.Core.Logic.{◌↔◌, ◌⊎◌, inl, inr}
use lib.ListN.{length}
use Rattle.semantics.specs.Concept.{Concept, Inclusion, Within}
use Rattle.semantics.specs.Closure.{is_defeasible, Line, line, defeasible, query, strict_query, strict_of, end, keep, leave, RankIs, DefeasiblyAt, Replies, rank_code, yes_bit}
use Rattle.semantics.specs.Closure.{Result, of_strict, of_defeasible, of_query, of_strict_query, Results, done, more, RationalClosure, yes_of, yes_count}
use Rattle.semantics.specs.Limits.{row_limit}
use Rattle.semantics.specs.Replies.{TellsRank, AnsweredYes, defeasibly, always, YesCounted}
use Rattle.semantics.proofs.Lines.{inclusions_length}
use Rattle.semantics.proofs.Unique.{rank_unique}
use Rattle.semantics.proofs.Stuck.{closure_bound}

-- ---- a word's two fields

-- the yes bit stands above every code that is below it
word_rank : (b : Bool) (c : ℕ) → c < yes_bit true → (yes_bit b + c) % yes_bit true ≡ c
word_rank true c lt = omega arith
word_rank false c lt = omega arith

word_reply : {P : Type 0} (b : Bool) (c : ℕ) → c < yes_bit true → Replies b P → (((yes_bit b + c) / yes_bit true ≡ 1) ↔ P)
word_reply true c lt h = (λ e. h, λ p. omega arith)
word_reply false c lt n = (λ e. absurd (omega arith), λ p. absurd (n p))

-- the yes bit alone
bare_word : {P : Type 0} (b : Bool) → Replies b P → (yes_bit b % yes_bit true ≡ 0) × ((yes_bit b / yes_bit true ≡ 1) ↔ P)
bare_word true h = (omega arith, (λ e. h, λ p. omega arith))
bare_word false n = (omega arith, (λ e. absurd (omega arith), λ p. absurd (n p)))

-- ---- ranks and their codes

module _ {A R : Type 0} (T : List (Inclusion A R)) (sets : List (List (Inclusion A R))) (C : Concept A R) (few : length sets < rank_code none) where
  code_below : (rank : Option ℕ) → RankIs T sets C rank → rank_code rank < yes_bit true
  code_below none h = omega arith
  code_below (some i) h = omega (arith, h.0)

  -- no finite rank has the code of the infinite one
  code_none : (rank : Option ℕ) → RankIs T sets C rank → rank_code rank ≡ rank_code none → RankIs T sets C none
  code_none none h e = h
  code_none (some i) h e = absurd (omega (arith, h.0))

  code_some : (rank : Option ℕ) → RankIs T sets C rank → (i : ℕ) → i < rank_code none → rank_code rank ≡ i → RankIs T sets C (some i)
  code_some none h i lt e = absurd (omega arith)
  code_some (some j) h i lt e = subst (λ k. RankIs T sets C (some k)) e h

  code_tells : (rank : Option ℕ) → RankIs T sets C rank → (code : ℕ) → code ≡ rank_code rank → TellsRank T sets C code
  code_tells rank h code e = record {
    infinite = (λ h'. e ∙ ap rank_code (rank_unique T sets C rank none h h'), λ f. code_none rank h (sym e ∙ f));
    finite = λ i lt. (λ h'. e ∙ ap rank_code (rank_unique T sets C rank (some i) h h'), λ f. code_some rank h i lt (sym e ∙ f));
  }

-- ---- what a result word says

module _ {A R : Type 0} {written T : List (Inclusion A R)} {sets : List (List (Inclusion A R))} where
  -- The low fifteen bits of a query's result tell the rank of its left, and the bit above them is the reply.
  pub query_says : {C D : Concept A R} {r : ℕ} → Result written T sets (line query C D) r → length sets < rank_code none →
      TellsRank T sets C (r % yes_bit true) × ((rank : Option ℕ) → RankIs T sets C rank → ((r / yes_bit true ≡ 1) ↔ DefeasiblyAt T sets rank C D))
  query_says (of_query {C} {D} rank b h s) few =
      let lt = code_below T sets C few rank h in (
        code_tells T sets C few rank h _ (word_rank b (rank_code rank) lt),
        λ k h'. subst (λ k. ((yes_bit b + rank_code rank) / yes_bit true ≡ 1) ↔ DefeasiblyAt T sets k C D) (rank_unique T sets C rank k h h') (word_reply b (rank_code rank) lt s),
      )

  -- Those of a defeasible line's tell the rank of its left, and the bit above them is set.
  pub defeasible_says : {C D : Concept A R} {r : ℕ} → Result written T sets (line defeasible C D) r → length sets < rank_code none → TellsRank T sets C (r % yes_bit true) × (r / yes_bit true ≡ 1)
  defeasible_says (of_defeasible {C} rank h) few =
      let lt = code_below T sets C few rank h in
      (code_tells T sets C few rank h _ (word_rank true (rank_code rank) lt), omega arith)

  -- A strict query's result has the reply alone.
  pub strict_query_says : {C D : Concept A R} {r : ℕ} → Result written T sets (line strict_query C D) r → (r % yes_bit true ≡ 0) × ((r / yes_bit true ≡ 1) ↔ Within written [] C D)
  strict_query_says (of_strict_query b s) = bare_word b s

-- ---- the count of yes

-- a line's share of the count: 1 where P, and else 0
abbrev pub Share : Type 0 → ℕ → Type 0
Share P n = (P × (n ≡ 1)) ⊎ ((P → ⊥) × (n ≡ 0))

share_word : {P Q : Type 0} (b : Bool) (c : ℕ) → c < yes_bit true → Replies b P → (P → Q) → (Q → P) → Share Q ((yes_bit b + c) / yes_bit true)
share_word true c lt h f g = inl (f h, omega arith)
share_word false c lt n f g = inr (λ q. n (g q), omega arith)

share_bare : {P Q : Type 0} (b : Bool) → Replies b P → (P → Q) → (Q → P) → Share Q (yes_bit b / yes_bit true)
share_bare true h f g = inl (f h, omega arith)
share_bare false n f g = inr (λ q. n (g q), omega arith)

module _ {A R : Type 0} {written T : List (Inclusion A R)} {sets : List (List (Inclusion A R))} where
  yes_defeasibly : {C D : Concept A R} (rank : Option ℕ) → RankIs T sets C rank → AnsweredYes written T sets (line query C D) → DefeasiblyAt T sets rank C D
  yes_defeasibly rank h (defeasibly {C} {D} k h' u) = subst (λ k. DefeasiblyAt T sets k C D) (rank_unique T sets C k rank h' h) u

  yes_always : {C D : Concept A R} → AnsweredYes written T sets (line strict_query C D) → Within written [] C D
  yes_always (always h) = h

  pub yes_share : {l : Line A R} {r : ℕ} → Result written T sets l r → length sets < rank_code none → Share (AnsweredYes written T sets l) (yes_of l r)
  yes_share of_strict few = inr (λ a. elim a [ ], refl)
  yes_share (of_defeasible rank h) few = inr (λ a. elim a [ ], refl)
  yes_share (of_query {C} {D} rank b h s) few = share_word b (rank_code rank) (code_below T sets C few rank h) s (defeasibly rank h) (yes_defeasibly rank h)
  yes_share (of_strict_query b s) few = share_bare b s always yes_always

  count_more : {l : Line A R} {ls : List (Line A R)} {n m : ℕ} → Share (AnsweredYes written T sets l) n → YesCounted written T sets ls m → YesCounted written T sets (l ∷ ls) (n + m)
  count_more {l} (inl s) c = record { answered = l ∷ c.answered; chosen = keep s.0 c.chosen; counted = omega (arith, s.1, c.counted) }
  count_more (inr s) c = record { answered = c.answered; chosen = leave s.0 c.chosen; counted = omega (arith, s.1, c.counted) }

  results_count : {ls : List (Line A R)} {rs : List ℕ} → Results written T sets ls rs → length sets < rank_code none → YesCounted written T sets ls (yes_count ls rs)
  unfolding yes_count
  results_count done few = record { answered = []; chosen = end; counted = refl }
  results_count (more h hs) few = count_more (yes_share h few) (results_count hs few)

module _ {A R : Type 0} {lines : List (Line A R)} {levels passes : ℕ} {results : List ℕ} where
  -- The count of yes is the number of questions that are answered yes, where the levels are below 32,767.
  pub yes_replies : (s : RationalClosure lines levels passes results) → levels < rank_code none → YesCounted (strict_of lines) s.T* s.sets lines (yes_count lines results)
  yes_replies s few = results_count s.reported (omega (arith, s.level_count))

  -- There are no more levels than lines, so that is so of every deck and every text that is accepted.
  pub levels_few : RationalClosure lines levels passes results → length lines ≤ row_limit → levels < rank_code none
  levels_few s le = omega (arith, (closure_bound s).0, inclusions_length is_defeasible lines)

  pub yes_accepted : (s : RationalClosure lines levels passes results) → length lines ≤ row_limit → YesCounted (strict_of lines) s.T* s.sets lines (yes_count lines results)
  yes_accepted s le = yes_replies s (levels_few s le)
