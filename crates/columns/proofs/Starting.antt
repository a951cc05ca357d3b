-- The start: each number within itself and within 0.
-- Assumes nothing.
use Prim.Native.Nat.{ℕ, ◌+◌, ◌<◌, ◌≤◌}
use native.Mathlib.Decide.{ℕ_discrete}
use native.Mathlib.Omega.{arith}
use mathlib.Core.Path.{◌≡◌, refl, sym, ◌∙◌}
use mathlib.Core.Bool.{false, ◌||◌, false≢true}
use mathlib.Core.Logic.{inl, inr, ⊎_elim}
use mathlib.Core.List.{List}
use lib.Dec.{eqb}
use lib.ListN.{get_or}
use borrow.Author.Tests.{eq-eqb, eqb-true}
use Rattle.semantics.specs.Limits.{set_words, number_limit}
use Rattle.semantics.specs.Row.{Row}
use Rattle.semantics.specs.Set.{has, cell}
use Rattle.semantics.proofs.Steps.{holds_self, holds_top}
use Rattle.semantics.proofs.Tests.{cases}
use Rattle.tables.specs.Table.{RowBecomes}
use Rattle.sets.proofs.Bits.{bit_zero}
use Rattle.sets.specs.Members.{Included}
use Rattle.tables.proofs.Rows.{joined_included}
use Rattle.columns.specs.Columns.{Seeded, Started}
use Rattle.columns.proofs.Joining.{joined_has, joined_only}

has_nothing : (columns : List ℕ) → ((j : ℕ) → get_or columns j 0 ≡ 0) → (m : ℕ) → has columns m ≡ false
unfolding has
has_nothing columns zeros m = rw (zeros _) (bit_zero _)

pub started_none : {columns : List ℕ} → ((j : ℕ) → get_or columns j 0 ≡ 0) → Started 0 columns
started_none zeros = record {
  own = λ a h. absurd (omega arith);
  top = λ a h. absurd (omega arith);
  only = λ a b l h. absurd (false≢true (sym (has_nothing _ zeros _) ∙ h));
}

-- Column a gets a, and then column 0.
module _ {a : ℕ} {old mid new : List ℕ} (small : a < number_limit) (s : Started a old)
    (r : RowBecomes set_words a (λ c. cell set_words old a c || eqb a c) old mid) (r' : RowBecomes set_words 0 (λ c. cell set_words mid 0 c || eqb a c) mid new) where
  later : Included mid new
  later = joined_included (eqb a) r'

  grows : Included old new
  grows = record { kept = λ m h. later.kept m ((joined_included (eqb a) r).kept m h) }

  pub started_more : Started (a + 1) new
  started_more = record {
    own = λ x h. elim (ℕ_discrete x a) [ yes e ↦ rw e (later.kept _ (joined_has (eqb a) r a small (eq-eqb a a refl))) | no n ↦ grows.kept _ (s.own x (omega arith)) ];
    top = λ x h. elim (ℕ_discrete x a) [ yes e ↦ rw e (joined_has (eqb a) r' a small (eq-eqb a a refl)) | no n ↦ grows.kept _ (s.top x (omega arith)) ];
    only = λ x b l h.
        ⊎_elim
        (λ p. ⊎_elim
        (λ p. let (lt, is) = s.only x b l p in (omega arith, is))
        (λ (e, q). let i = eqb-true a x q in (omega arith, inl (e ∙ i)))
        (joined_only (eqb a) r b x l p))
        (λ (e, q). let i = eqb-true a x q in (omega arith, inr e))
        (joined_only (eqb a) r' b x l h);
  }

-- The start is sound for any rows.
pub started_seeded : {N : ℕ} {rows : List Row} {columns : List ℕ} → N ≤ number_limit → Started N columns → Seeded N rows columns
started_seeded {N} {rows} {columns} small s = record {
  sound = λ a b ha hb h. ⊎_elim (λ e. rw e holds_self) (λ e. rw e holds_top) (s.only a b (omega arith) h).1;
  own = s.own;
  top = s.top;
  zeros = λ a b ha l hb. cases (cell set_words columns b a) (λ h. absurd (omega (arith, (s.only a b l h).0))) (λ e. e);
}
