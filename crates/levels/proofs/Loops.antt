-- The loops over rows and their levels.
--     left_small   a row's left is a number that a set can have
--     Gathered     the lefts of the rows below i that are active at level k
--     Mapped       the rows below i have their new levels, the others their old ones
-- Assumes nothing.
use Prim.Native.Nat.{ℕ, ◌+◌, ◌<◌, ◌≤◌}
use native.Mathlib.Omega.{arith}
use mathlib.Core.Path.{◌≡◌, refl, sym, ◌∙◌}
use mathlib.Core.Bool.{true, false, ◌||◌, or-true, false≢true}
use mathlib.Core.List.{List}
use lib.ListN.{length, get_or}
use lib.Dec.{eqb}
use borrow.Author.Count.{below_more}
use borrow.Author.Tests.{eq-eqb, eqb-true}
use Rattle.semantics.specs.Limits.{number_limit}
use Rattle.semantics.specs.Row.{a_of}
use Rattle.semantics.specs.Set.{has}
use Rattle.semantics.proofs.Tests.{either}
use Rattle.normal.specs.Rules.{Deck, is_active}
use Rattle.normal.proofs.Decoding.{deck_row}
use Rattle.levels.specs.Relevelled.{ActiveLeft}

pub left_small : {N : ℕ} {words : List ℕ} → Deck N words → (i : ℕ) → i < length words → a_of (get_or words i 0) < number_limit
left_small deck i h = omega (arith, (deck_row deck i h).lefts, deck.numbers)

-- ---- lefts

pub record Gathered (N k : ℕ) (words levels : List ℕ) (i : ℕ) (set : List ℕ) : Type 0 where
  pub each : (j : ℕ) → j < i → is_active k (get_or words j 0) (get_or levels j 0) ≡ true → has set (a_of (get_or words j 0)) ≡ true
  pub source : (a : ℕ) → has set a ≡ true → ActiveLeft k words levels a
  pub below : (a : ℕ) → has set a ≡ true → a < N

module _ {N k : ℕ} {words levels : List ℕ} where
  -- the row at i is active, and its left a is added
  pub gathered_added : {i a : ℕ} {old new : List ℕ} → i < length words → is_active k (get_or words i 0) (get_or levels i 0) ≡ true → a ≡ a_of (get_or words i 0) → a < N →
      ((b : ℕ) → has new b ≡ (has old b || eqb a b)) → Gathered N k words levels i old → Gathered N k words levels (i + 1) new
  gathered_added {i} {a} {old} {new} lt t e small add g = record {
    each = below_more (λ (j : ℕ). is_active k (get_or words j 0) (get_or levels j 0) ≡ true → has new (a_of (get_or words j 0)) ≡ true) i
        (λ j h t. add (a_of (get_or words j 0)) ∙ rw (g.each j h t)) (λ t. rw (← e) (add a ∙ rw (eq-eqb a a refl) (or-true (has old a))));
    source = λ b h. either (has old b) (eqb a b) (sym (add b) ∙ h) (g.source b) (λ q. record { index = i; within = lt; taken = t; is = sym e ∙ eqb-true a b q });
    below = λ b h. either (has old b) (eqb a b) (sym (add b) ∙ h) (g.below b) (λ q. rw (← eqb-true a b q) small);
  }

  pub gathered_left : {i : ℕ} {set : List ℕ} → is_active k (get_or words i 0) (get_or levels i 0) ≡ false → Gathered N k words levels i set →
      Gathered N k words levels (i + 1) set
  gathered_left {i} {set} n g = record {
    each = below_more (λ (j : ℕ). is_active k (get_or words j 0) (get_or levels j 0) ≡ true → has set (a_of (get_or words j 0)) ≡ true) i g.each
        (λ t. absurd (false≢true (sym n ∙ t)));
    source = g.source;
    below = g.below;
  }

-- ---- new levels

pub record Mapped (f : ℕ → ℕ → ℕ) (words old : List ℕ) (i : ℕ) (new : List ℕ) : Type 0 where
  pub length_kept : length new ≡ length old
  pub done : (j : ℕ) → j < i → get_or new j 0 ≡ f (get_or words j 0) (get_or old j 0)
  pub left : (j : ℕ) → i ≤ j → get_or new j 0 ≡ get_or old j 0
