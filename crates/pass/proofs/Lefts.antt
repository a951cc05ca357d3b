-- The lefts of a level, looked at one after the other. Invariant: what is known to be exceptional is, and a left that is neither known nor still
-- to be looked at is not. Measure: those still to be looked at.
--     Looked     one left more is looked at
--     Looking    where the loop stands
-- Assumes nothing.
use Prim.Native.Nat.{ℕ, ◌+◌, ◌<◌}
use native.Mathlib.Decide.{ℕ_discrete}
use native.Mathlib.Omega.{arith}
use mathlib.Core.Path.{◌≡◌, refl, sym, ◌∙◌, subst}
use mathlib.Core.Bool.{true, false, not, ◌||◌, ◌&&◌, or-true, and-true, false≢true}
use mathlib.Core.List.{List}
use lib.Dec.{eqb}
use lib.ListN.{get_or}
use borrow.Author.Tests.{eq-eqb, ne_eqb, eqb-true}
use Rattle.semantics.specs.Concept.{In, Inclusion, Exceptional}
use Rattle.semantics.specs.Limits.{number_limit}
use Rattle.semantics.specs.Row.{numbered}
use Rattle.semantics.specs.Set.{has}
use Rattle.semantics.proofs.Tables.{replies_of}
use Rattle.semantics.proofs.Tests.{both, cases, either}
use Rattle.sets.specs.Members.{Included}
use Rattle.picking.specs.Size.{size}
use Rattle.picking.proofs.Size.{size_remove}
use Rattle.normal.specs.Rules.{Deck}
use Rattle.normal.proofs.Decoding.{deck_row}
use Rattle.normal.proofs.Active.{active_is, active_at}
use Rattle.levels.specs.Relevelled.{ActiveLeft, LeftsFrom}
use Rattle.roots.specs.Root.{KnownExceptional, Root}
use Rattle.pass.specs.Levels.{at_level, left_at, Levelled}
use Rattle.pass.specs.Lefts.{ExceptionalLefts}

-- Nothing is exceptional, whatever the rules.
bottom_exceptional : (T E : List (Inclusion ℕ ℕ)) → Exceptional T E (numbered 1)
unfolding In
bottom_exceptional T E w = absurd w.member

-- ---- one left

-- From the known ones to the new: a is among them where it is exceptional.
pub record Looked (N : ℕ) (T E : List (Inclusion ℕ ℕ)) (a : ℕ) (old new : List ℕ) : Type 0 where
  pub known : KnownExceptional N T E new
  pub included : Included old new
  pub decided : has new a ≡ false → Exceptional T E (numbered a) → ⊥

module _ {N : ℕ} {T E : List (Inclusion ℕ ℕ)} {a : ℕ} {known root : List ℕ} (k : KnownExceptional N T E known) where
  pub looked_exceptional : {new : List ℕ} → Root N T E a root true → ((b : ℕ) → has new b ≡ (has known b || eqb a b)) → Looked N T E a known new
  looked_exceptional {new} r add = record {
    known = record {
      bottom_in = add 1 ∙ rw k.bottom_in;
      exceptional = λ b h e. either (has known b) (eqb a b) (sym (add b) ∙ e) (k.exceptional b h) (λ q. subst (λ b. Exceptional T E (numbered b)) (eqb-true a b q) r.replies);
    };
    included = record { kept = λ b h. add b ∙ rw h };
    decided = λ n. absurd (false≢true (sym n ∙ add a ∙ rw (eq-eqb a a refl) (or-true (has known a))));
  }

  pub looked_other : Root N T E a root false → Looked N T E a known known
  looked_other r = record { known = k; included = record { kept = λ b h. h }; decided = λ n. r.replies }

-- ---- all lefts of a level

pub record Looking (N : ℕ) (T E : List (Inclusion ℕ ℕ)) (lefts known unknown : List ℕ) : Type 0 where
  pub sound : KnownExceptional N T E known
  pub within : Included unknown lefts
  pub others : (b : ℕ) → has lefts b ≡ true → has known b ≡ false → has unknown b ≡ false → Exceptional T E (numbered b) → ⊥

module _ {N k : ℕ} {T : List (Inclusion ℕ ℕ)} {words levels : List ℕ} where
  -- what rows of a level above k have as their left
  pub above_known : {above known : List ℕ} → Levelled T words levels k → LeftsFrom N (k + 1) words levels above → ((b : ℕ) → has known b ≡ (has above b || eqb 1 b)) →
      KnownExceptional N T (at_level words levels k) known
  above_known {above} v l add = record {
    bottom_in = add 1 ∙ or-true (has above 1);
    exceptional = λ b h e. either (has above b) (eqb 1 b) (sym (add b) ∙ e) (λ q. of_left (l.source b q))
        (λ q. subst (λ b. Exceptional T (at_level words levels k) (numbered b)) (eqb-true 1 b q) (bottom_exceptional T (at_level words levels k)));
  }
    where
      of_left : {b : ℕ} → ActiveLeft (k + 1) words levels b → Exceptional T (at_level words levels k) (numbered b)
      of_left s = subst (λ b. Exceptional T (at_level words levels k) (numbered b)) s.is
          (v.risen s.index k (s.within, active_at 0 (k + 1) (get_or words s.index 0) (get_or levels s.index 0) s.taken (omega arith))
          (omega (arith, (active_is (k + 1) (get_or words s.index 0) (get_or levels s.index 0) s.taken).from)))

  pub looking_none : {lefts above known unknown : List ℕ} → Levelled T words levels k → LeftsFrom N (k + 1) words levels above →
      ((b : ℕ) → has known b ≡ (has above b || eqb 1 b)) → ((b : ℕ) → has unknown b ≡ (has lefts b && not (has known b))) →
      Looking N T (at_level words levels k) lefts known unknown
  looking_none {lefts} {above} {known} v l add rest = record {
    sound = above_known v l add;
    within = record { kept = λ b h. (both (has lefts b) (not (has known b)) (sym (rest b) ∙ h)).0 };
    others = λ b i n o. absurd (false≢true (sym o ∙ rest b ∙ rw (i, n)));
  }

  pub looking_all : {lefts known unknown : List ℕ} → Deck N words → LeftsFrom N k words levels lefts → ((b : ℕ) → has unknown b ≡ false) →
      Looking N T (at_level words levels k) lefts known unknown → ExceptionalLefts T words levels k known
  looking_all {known = known} deck l none g = record {
    exact = λ i lt t.
        let a = left_at words i in
        replies_of (has known a) (g.sound.exceptional a (deck_row deck i lt).lefts) (λ n. g.others a (l.has_lefts.each i lt t) n (none a));
  }

module _ {N : ℕ} {T E : List (Inclusion ℕ ℕ)} {lefts known unknown : List ℕ} {a : ℕ} (g : Looking N T E lefts known unknown) (picked : (a < number_limit) × (has unknown a ≡ true)) where
  pub looking_left : has lefts a ≡ true
  looking_left = g.within.kept a picked.1

  module _ (fewer : List ℕ) (removed : (b : ℕ) → has fewer b ≡ (has unknown b && not (eqb a b))) where
    pub looking_less : size fewer number_limit < size unknown number_limit
    looking_less = omega (arith, size_remove unknown fewer a picked.1 removed number_limit picked.0)

    pub looking_more : {known' : List ℕ} → Looked N T E a known known' → Looking N T E lefts known' fewer
    looking_more {known'} l = record {
      sound = l.known;
      within = record { kept = λ b i. g.within.kept b (both (has unknown b) (not (eqb a b)) (sym (removed b) ∙ i)).0 };
      others = λ b i n o.
          let unseen : has known b ≡ false = cases (has known b) (λ e. absurd (false≢true (sym n ∙ l.included.kept b e))) (λ e. e) in
          elim (ℕ_discrete a b) [
            | yes e ↦ subst (λ b. Exceptional T E (numbered b) → ⊥) e (l.decided (rw (← e) at n))
            | no d ↦ g.others b i unseen (sym (removed b ∙ rw (ne_eqb a b d) (and-true (has unknown b))) ∙ o)
          ];
    }
