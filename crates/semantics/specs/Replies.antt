-- Replies, said of ranks and consequences and of no result word; and what results and the count of yes say of them.
--     AnsweredYes, AnswerKey   a question is answered yes; the replies to all questions: marking's contract cites these
--     TellsRank, YesCounted    what a result and the count of yes tell, where the levels are below 32,767, the code of an infinite rank: theorems cite these
--     replies_in               the replies as results have them
use Rattle.std.specs.Prelude.{ℕ, ◌<◌, ◌≡◌, Bool, true, false, List, [], ◌∷◌, ◌↔◌, length, leb}
use Rattle.std.proofs.Math.Option.{Option, none, some}
use Rattle.semantics.specs.Concept.{Concept, Inclusion, Within}
use Rattle.semantics.specs.Closure.{is_question, Line, line, kind_of_line, query, strict_query, keep_if, Filtered, RankIs, DefeasiblyAt, Replies, rank_code, yes_bit}

-- The number tells C's rank.
pub record TellsRank {A R : Type 0} (T : List (Inclusion A R)) (sets : List (List (Inclusion A R))) (C : Concept A R) (code : ℕ) : Type 0 where
  pub infinite : RankIs T sets C none ↔ (code ≡ rank_code none)
  pub finite : (i : ℕ) → i < rank_code none → (RankIs T sets C (some i) ↔ (code ≡ i))

-- The line is a question, and what it asks is so: `written` is the strict lines, T and sets the last pass's. It reads no result.
pub data AnsweredYes {A R : Type 0} (written T : List (Inclusion A R)) (sets : List (List (Inclusion A R))) : Line A R → Type 0 where
  defeasibly : {C D : Concept A R} (rank : Option ℕ) → RankIs T sets C rank → DefeasiblyAt T sets rank C D → AnsweredYes written T sets (line query C D)
  always : {C D : Concept A R} → Within written [] C D → AnsweredYes written T sets (line strict_query C D)

-- So many of the lines are answered yes.
pub record YesCounted {A R : Type 0} (written T : List (Inclusion A R)) (sets : List (List (Inclusion A R))) (lines : List (Line A R)) (yes : ℕ) : Type 0 where
  pub answered : List (Line A R)
  pub chosen : Filtered (AnsweredYes written T sets) lines answered
  pub counted : yes ≡ length answered

-- The replies to the questions among the lines, in their order: `true` for yes.
pub data AnswerKey {A R : Type 0} (written T : List (Inclusion A R)) (sets : List (List (Inclusion A R))) : List (Line A R) → List Bool → Type 0 where
  ends : AnswerKey written T sets [] []
  asked : {l : Line A R} {ls : List (Line A R)} {reply : Bool} {key : List Bool} → is_question (kind_of_line l) ≡ true → Replies reply (AnsweredYes written T sets l) →
      AnswerKey written T sets ls key → AnswerKey written T sets (l ∷ ls) (reply ∷ key)
  unasked : {l : Line A R} {ls : List (Line A R)} {key : List Bool} → is_question (kind_of_line l) ≡ false →
      AnswerKey written T sets ls key → AnswerKey written T sets (l ∷ ls) key

-- The yes bits of the questions' results, in order.
unfoldable pub replies_in : {A R : Type 0} → List (Line A R) → List ℕ → List Bool
replies_in [] rs = []
replies_in (l ∷ ls) [] = []
replies_in (l ∷ ls) (r ∷ rs) = keep_if (is_question (kind_of_line l)) (leb (yes_bit true) r) (replies_in ls rs)
