-- The rows that read column 1: only those of kind 3 ask anything of it, since what is in it takes nothing more.
--     LeftsEmptied    the rows below i have drawn that their left is nothing where their right is
-- Assumes nothing.
use Prim.Native.Nat.{ℕ, ◌+◌, ◌<◌, ◌≤◌}
use native.Mathlib.Omega.{arith}
use mathlib.Core.Path.{◌≡◌, refl}
use mathlib.Core.Bool.{true, not, false≢true}
use mathlib.Core.Logic.{◌⊎◌, inl, inr, ⊎_elim}
use mathlib.Core.List.{List}
use lib.ListN.{length, get_or}
use borrow.Author.Count.{below_more}
use Rattle.semantics.specs.Limits.{set_words}
use Rattle.semantics.specs.Row.{a_of, c_of}
use Rattle.semantics.specs.Set.{cell}
use Rattle.semantics.proofs.Tests.{both}
use Rattle.normal.specs.Rules.{Deck}
use Rattle.columns.specs.Steps.{in_apart}
use Rattle.saturation.specs.Worklist.{Inference, pair_inference, OfPair, forwards, backwards, TakesPart, strictly, jointly, emptily, in_pair}
use Rattle.saturation.specs.Worklist.{ReadsColumn, by_first, by_second, ReadingOf, met, Drawn, WorkStep, Draws}
use Rattle.saturation.proofs.Inferences.{BottomOf, part_stable}
use Rattle.saturation.proofs.Stepping.{step_then}

apart_one : (a : ℕ) (columns : List ℕ) (x : ℕ) → a ≡ 1 → in_apart a columns x ≡ true → ⊥
apart_one a columns x e h = let (f, g) = both (cell set_words columns a x) (not (cell set_words columns 1 x)) h in false≢true (rw (rw e at f) at g)

pair_first : (w v : ℕ) (columns : List ℕ) (x : ℕ) → a_of w ≡ 1 → (pair_inference w v).due columns x ≡ true → ⊥
pair_first w v columns x e h = apart_one (a_of w) columns x e (both (in_apart (a_of v) columns (c_of w)) (in_apart (a_of w) columns x) h).1

pair_second : (w v : ℕ) (columns : List ℕ) (x : ℕ) → a_of v ≡ 1 → (pair_inference w v).due columns x ≡ true → ⊥
pair_second w v columns x e h = apart_one (a_of v) columns (c_of w) e (both (in_apart (a_of v) columns (c_of w)) (in_apart (a_of w) columns x) h).0

pair_one : {w v : ℕ} {d : Inference} (columns : List ℕ) → OfPair w v d → ReadsColumn d 1 → (x : ℕ) → d.due columns x ≡ true → ⊥
pair_one {w} {v} columns (forwards p) (by_first r) x h = pair_first w v columns x r h
pair_one {w} {v} columns (forwards p) (by_second r) x h = pair_second w v columns x r h
pair_one {w} {v} columns (backwards p) (by_first r) x h = pair_first v w columns x r h
pair_one {w} {v} columns (backwards p) (by_second r) x h = pair_second v w columns x r h

-- A row's inference that reads column 1 is that its left is nothing, or nothing is due.
one_cases : {words : List ℕ} {i : ℕ} {d : Inference} (columns : List ℕ) → TakesPart words (get_or words i 0) d → ReadsColumn d 1 → BottomOf words i d ⊎ ((x : ℕ) → d.due columns x ≡ true → ⊥)
one_cases columns (strictly e) (by_first r) = inr (λ x h. apart_one _ columns x r h)
one_cases columns (strictly e) (by_second r) = inr (λ x h. apart_one _ columns x r h)
one_cases columns (jointly e) (by_first r) = inr (λ x h. apart_one _ columns x r (both (in_apart _ columns x) _ h).0)
one_cases columns (jointly e) (by_second r) = inr (λ x h.
    let (f, g) = both (in_apart _ columns x) (cell set_words columns _ x) h in
    false≢true (rw (rw r at g) at (both (cell set_words columns _ x) (not (cell set_words columns 1 x)) f).1))
one_cases columns (emptily e) r = inl (record { kind = e; is = refl })
one_cases columns (in_pair p) r = inr (pair_one columns p.of r)

-- ---- the loop over the rows

pub record LeftsEmptied (N : ℕ) (words old new dirty dirty' : List ℕ) (i : ℕ) : Type 0 where
  pub bound : i ≤ length words
  pub step : WorkStep N words old new dirty dirty'
  pub below : (k : ℕ) → k < i → (d : Inference) → BottomOf words k d → Drawn d new dirty'

pub emptied_more : {N : ℕ} {words old mid new dirty dirty' dirty'' : List ℕ} {i : ℕ} → i < length words → LeftsEmptied N words old mid dirty dirty' i →
    Draws N words (BottomOf words i) mid new dirty' dirty'' → LeftsEmptied N words old new dirty dirty'' (i + 1)
emptied_more {new = new} {dirty'' = dirty''} {i} h s t = record {
  bound = omega arith;
  step = step_then s.step t.step;
  below = below_more (λ k. (d : Inference) → BottomOf _ k d → Drawn d new dirty'') i (λ k l d p. t.step.kept d (s.below k l d p)) t.drawn;
}

pub emptied_all : {N : ℕ} {words old new dirty dirty' : List ℕ} {i : ℕ} → Deck N words → length words ≤ i → LeftsEmptied N words old new dirty dirty' i →
    Draws N words (ReadingOf words 1) old new dirty dirty'
emptied_all {new = new} deck h s = record {
  step = s.step;
  drawn = λ d p.
      ⊎_elim
      (s.below p.index (omega (arith, p.within)) d)
      (λ none. record { stable = part_stable deck p.index p.within p.part; standing = met (record { each = λ x l e. absurd (none x e) }) })
      (one_cases new p.part p.reads);
}
