-- Ranks.
--     same_rank, same_defeasibly   lists with the same inclusions give the same ranks and replies
--     rank_stuck                   the rank of a stuck row's left is infinite
--     levels_few                   there are fewer levels than `infinite`
-- Assumes nothing.
use Prim.Native.Nat.{ℕ, ◌<◌, ◌≤◌}
use native.Mathlib.Omega.{arith}
use mathlib.Core.Path.{◌≡◌, ◌∙◌}
use mathlib.Core.Bool.{Bool, true}
use mathlib.Core.Option.{Option, none, some}
use mathlib.Core.List.{List, map, Memᴰ}
use lib.ListN.{length, get_or, length-map}
use Rattle.semantics.specs.Concept.{Concept, In, Inclusion}
use Rattle.semantics.specs.Closure.{is_defeasible, RankIs, DefeasiblyAt, Replies, level}
use Rattle.semantics.specs.Row.{numbered, line_of}
use Rattle.semantics.specs.Saturated.{strict_rows, empty_row}
use Rattle.semantics.proofs.Lines.{inclusions_length}
use Rattle.semantics.proofs.Rows.{row_obeyed}
use Rattle.semantics.proofs.Stuck.{passes_bound}
use Rattle.normal.specs.Rules.{Deck, row_of, infinite, is_stuck, pair_of, grown}
use Rattle.normal.proofs.Selected.{selected_member}
use Rattle.pass.specs.Levels.{left_at}
use Rattle.pass.specs.Passes.{SameRules, Ranked}
use Rattle.pass.proofs.Sets.{sets_length}
use Rattle.pass.proofs.Same.{same_flip, same_exceptional, same_replies}

-- ---- lists with the same inclusions

module _ {T T' : List (Inclusion ℕ ℕ)} (sets : List (List (Inclusion ℕ ℕ))) (s : SameRules T T') where
  pub same_rank : (C : Concept ℕ ℕ) (rank : Option ℕ) → RankIs T sets C rank → RankIs T' sets C rank
  same_rank C none r = λ j le. same_exceptional s (r j le)
  same_rank C (some i) r = (r.0, λ x. r.1 (same_exceptional (same_flip s) x), λ j lt. same_exceptional s (r.2 j lt))

  pub same_defeasibly : (C D : Concept ℕ ℕ) (rank : Option ℕ) (b : Bool) → Replies b (DefeasiblyAt T sets rank C D) → Replies b (DefeasiblyAt T' sets rank C D)
  same_defeasibly C D none b r = r
  same_defeasibly C D (some i) b r = same_replies (level sets i) C D s b r

-- ---- stuck rows

-- "left is nothing" is one of the rules
pub rank_stuck : (words levels : List ℕ) {T : List (Inclusion ℕ ℕ)} (sets : List (List (Inclusion ℕ ℕ))) → SameRules T (strict_rows (grown words levels)) → length words ≤ length levels →
    (i : ℕ) → i < length words → is_stuck (get_or words i 0) (get_or levels i 0) ≡ true → RankIs T sets (numbered (left_at words i)) none
unfolding In
rank_stuck words levels sets s long i h e j le =
    let p = pair_of (get_or words i 0) in
    let m : Memᴰ (empty_row p) (grown words levels) = mathlib.Core.List.Memᴰ.append_right (map row_of words) (mathlib.Core.List.Memᴰ.map empty_row (selected_member is_stuck words levels long i h e)) in
    same_exceptional (same_flip s) (λ w. row_obeyed w (empty_row p) m w.member)

-- ---- the levels are few

pub levels_few : {N : ℕ} {words levels table : List ℕ} {k passes : ℕ} → Deck N words → Ranked N words levels table k passes → k < infinite
levels_few {words} {levels} {k} deck r =
    let rows : length (map line_of (map row_of words)) ≡ length words = length-map (map row_of words) line_of ∙ length-map words row_of in
    omega (arith, (passes_bound r.passed).0, sets_length words levels k, inclusions_length is_defeasible (map line_of (map row_of words)), deck.few)
