-- The answer key of lines: what the results of their rational closure say of their questions, and there is no other.
--     key_of_closure    the yes bits of the questions' results are the key, where the lines are few
--     key_unique        and no other list is
--     key_length        it has a reply for each question
-- Assumes nothing.
use Prim.Native.Nat.{ℕ, suc, ◌/◌, ◌<◌, ◌≤◌}
use native.Mathlib.Omega.{arith}
use mathlib.Core.Path.{◌≡◌, refl, sym, ◌∙◌, ap, ap₂, subst}
use mathlib.Core.Bool.{Bool, true, false, true≢false}
use mathlib.Core.Option.{none}
use mathlib.Core.List.{List, [], ◌∷◌}
use mathlib.Core.Logic.{inl, inr}
use lib.ListN.{length, take}
use lib.Dec.{leb}
use borrow.Author.Tests.{le-leb, lt-leb}
use Rattle.semantics.specs.Concept.{Inclusion}
use Rattle.semantics.specs.Closure.{is_question, Line, line, kind_of_line, keep_if, inclusions_of, strict_of, questions_of, Replies, rank_code, yes_bit}
use Rattle.semantics.specs.Closure.{Result, of_strict, of_defeasible, of_query, of_strict_query, Results, done, more, RationalClosure}
use Rattle.semantics.specs.Limits.{row_limit}
use Rattle.semantics.specs.OwnNames.{OwnName, plain_lines}
use Rattle.semantics.specs.Replies.{AnsweredYes, AnswerKey, ends, asked, unasked, replies_in}
use Rattle.semantics.proofs.Replies.{Share, yes_share, levels_few}

-- results behind the lines' play no part
pub replies_first : {A R : Type 0} (ls : List (Line A R)) (rs : List ℕ) → replies_in ls (take (length ls) rs) ≡ replies_in ls rs
unfolding replies_in
replies_first [] rs = refl
replies_first (l ∷ ls) [] = refl
replies_first (l ∷ ls) (r ∷ rs) = ap (keep_if (is_question (kind_of_line l)) (leb (yes_bit true) r)) (replies_first ls rs)

-- lines over their own names have the same questions
pub plain_replies : {A R : Type 0} {names : List A} {roles : List R} (own : List (Line (OwnName names) (OwnName roles))) (rs : List ℕ) → replies_in own rs ≡ replies_in (plain_lines own) rs
unfolding replies_in
plain_replies [] rs = refl
plain_replies (line k C D ∷ ls) [] = refl
plain_replies (line k C D ∷ ls) (r ∷ rs) = ap (keep_if (is_question k) (leb (yes_bit true) r)) (plain_replies ls rs)

-- the yes bit is the reply
reply_of : {P : Type 0} (r : ℕ) → Share P (r / yes_bit true) → Replies (leb (yes_bit true) r) P
reply_of {P} r (inl (p, e)) = subst (λ b. Replies b P) (sym (le-leb (yes_bit true) r (omega arith))) p
reply_of {P} r (inr (n, e)) = subst (λ b. Replies b P) (sym (lt-leb (yes_bit true) r (omega arith))) n

-- a question has one reply
one_reply : (P : Type 0) (b c : Bool) → Replies b P → Replies c P → b ≡ c
one_reply P true true h k = refl
one_reply P true false h k = absurd (k h)
one_reply P false true h k = absurd (h k)
one_reply P false false h k = refl

module _ {A R : Type 0} {written T : List (Inclusion A R)} {sets : List (List (Inclusion A R))} where
  key_more : {l : Line A R} {ls : List (Line A R)} {r : ℕ} {key : List Bool} → Result written T sets l r → length sets < rank_code none →
      AnswerKey written T sets ls key → AnswerKey written T sets (l ∷ ls) (keep_if (is_question (kind_of_line l)) (leb (yes_bit true) r) key)
  key_more of_strict few k = unasked refl k
  key_more (of_defeasible rank h) few k = unasked refl k
  key_more {r} (of_query rank b h s) few k = asked refl (reply_of r (yes_share (of_query rank b h s) few)) k
  key_more {r} (of_strict_query b s) few k = asked refl (reply_of r (yes_share (of_strict_query b s) few)) k

  key_all : {ls : List (Line A R)} {rs : List ℕ} → Results written T sets ls rs → length sets < rank_code none → AnswerKey written T sets ls (replies_in ls rs)
  unfolding replies_in
  key_all done few = ends
  key_all (more h hs) few = key_more h few (key_all hs few)

  pub key_unique : {ls : List (Line A R)} {key key' : List Bool} → AnswerKey written T sets ls key → AnswerKey written T sets ls key' → key ≡ key'
  key_unique ends ends = refl
  key_unique (asked {l} {reply} q h k) (asked {reply = reply'} q' h' k') = ap₂ ◌∷◌ (one_reply (AnsweredYes written T sets l) reply reply' h h') (key_unique k k')
  key_unique (asked q h k) (unasked n k') = absurd (true≢false (sym q ∙ n))
  key_unique (unasked n k) (asked q h k') = absurd (true≢false (sym q ∙ n))
  key_unique (unasked n k) (unasked n' k') = key_unique k k'

  pub key_length : {ls : List (Line A R)} {key : List Bool} → AnswerKey written T sets ls key → length key ≡ length (questions_of ls)
  unfolding inclusions_of
  key_length ends = refl
  key_length (asked q h k) = rw q (ap suc (key_length k))
  key_length (unasked n k) = rw n (key_length k)

-- The results of a rational closure say the key, where the lines are as few as those of an accepted text.
pub key_of_closure : {A R : Type 0} {lines : List (Line A R)} {levels passes : ℕ} {results : List ℕ} (s : RationalClosure lines levels passes results) →
    length lines ≤ row_limit → AnswerKey (strict_of lines) s.T* s.sets lines (replies_in lines results)
key_of_closure s le = key_all s.reported (omega (arith, levels_few s le, s.level_count))
