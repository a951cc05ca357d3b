-- One column takes some numbers and is dirty where that adds anything, or it has them already.
--     Lacking    a number that one test takes and another does not
-- Assumes nothing.
use Prim.Native.Nat.{ℕ, zero, suc, ◌+◌, ◌*◌, ◌<◌}
use native.Mathlib.Nat.{eq-or-lt_of_le, le_of_suc-le-suc}
use native.Mathlib.Decide.{dec_lt}
use native.Mathlib.Omega.{arith}
use mathlib.Core.Path.{◌≡◌, refl, sym, ◌∙◌}
use mathlib.Core.Bool.{Bool, true, false, ◌||◌, or-false, true≢false, false≢true}
use mathlib.Core.Logic.{⊎_elim}
use mathlib.Core.List.{List}
use lib.Dec.{eqb}
use lib.ListN.{length}
use Rattle.semantics.specs.Limits.{set_words}
use Rattle.semantics.specs.Set.{has, cell}
use Rattle.semantics.proofs.Tests.{cases}
use Rattle.tables.specs.Table.{HasRow, row_words, RowBecomes}
use Rattle.sets.specs.Members.{Included}
use Rattle.sets.proofs.Members.{has_past}
use Rattle.tables.proofs.Rows.{has_row}
use Rattle.columns.specs.Steps.{Marks}
use Rattle.columns.proofs.Joining.{joined_has}

-- ---- a number that is lacking

pub record Lacking (p q : ℕ → Bool) (k : ℕ) : Type 0 where
  pub number : ℕ
  pub inside : number < k
  pub wanted : p number ≡ true
  pub lacked : q number ≡ false

lacking_on : {p q : ℕ → Bool} {k : ℕ} → Lacking p q k → Lacking p q (suc k)
lacking_on l = record { number = l.number; inside = omega (arith, l.inside); wanted = l.wanted; lacked = l.lacked }

-- Where not every number below k that p takes is taken by q, one is found.
pub lacking : (p q : ℕ → Bool) (k : ℕ) → (((x : ℕ) → x < k → p x ≡ true → q x ≡ true) → ⊥) → Lacking p q k
lacking p q zero h = absurd (h (λ x l. absurd (omega arith)))
lacking p q (suc k) h =
    let lower : (p k ≡ true → q k ≡ true) → Lacking p q (suc k) =
    λ at. lacking_on (lacking p q k (λ below. h (λ x l e. ⊎_elim (λ i. rw i (at (rw i at e))) (λ m. below x m e) (eq-or-lt_of_le (le_of_suc-le-suc l))))) in
    cases (p k)
    (λ e. cases (q k) (λ f. lower (λ g. f)) (λ f. record { number = k; inside = omega arith; wanted = e; lacked = f }))
    (λ f. lower (λ e. absurd (false≢true (sym f ∙ e))))

-- a member of a set that row c lacks
pub lacking_set : (set table : List ℕ) (c : ℕ) → length set ≡ set_words → (Included set (row_words set_words table c) → ⊥) →
    Lacking (has set) (cell set_words table c) (64 * set_words)
lacking_set set table c long n =
    lacking (has set) (cell set_words table c) (64 * set_words)
    (λ all. n (record {
      kept = λ x h. elim (dec_lt x (64 * set_words)) [
        | yes l ↦ has_row set_words table c x l ∙ all x l h
        | no l ↦ absurd (false≢true (sym (has_past set x (omega arith)) ∙ h))
      ];
    }))

-- ---- marking

or_absorbs : (p q : Bool) → (q ≡ true → p ≡ true) → p ≡ (p || q)
or_absorbs true q h = refl
or_absorbs false true h = absurd (false≢true (h refl))
or_absorbs false false h = refl

module _ {c : ℕ} {q : List ℕ → ℕ → Bool} {old : List ℕ} where
  -- Nothing is new.
  pub marks_none : {dirty : List ℕ} → ((x : ℕ) → x < 64 * set_words → q old x ≡ true → cell set_words old c x ≡ true) → Marks c q old old dirty dirty
  marks_none {dirty} h = record {
    joined = record {
      row = λ b l. or_absorbs (cell set_words old c b) (q old b) (h b l);
      below_kept = λ j l. refl;
      above_kept = λ j l. refl;
      length_kept = refl;
    };
    changed = false;
    gains = λ e. absurd (false≢true e);
    same = λ e. refl;
    marked = λ x. sym (or-false (has dirty x));
  }

  -- Something is new.
  pub marks_new : {new dirty dirty' : List ℕ} → HasRow set_words old c → RowBecomes set_words c (λ x. cell set_words old c x || q old x) old new →
      Lacking (q old) (cell set_words old c) (64 * set_words) → ((x : ℕ) → has dirty' x ≡ (has dirty x || eqb c x)) → Marks c q old new dirty dirty'
  marks_new room joined new added = record {
    joined = joined;
    changed = true;
    gains = λ e. record {
      number = 64 * (set_words * c) + new.number;
      inside = omega (arith, new.inside);
      lacked = new.lacked;
      gained = joined_has (q old) joined new.number new.inside new.wanted;
    };
    same = λ e. absurd (true≢false e);
    marked = added;
  }

  -- another test with the same numbers
  pub marks_as : {new dirty dirty' : List ℕ} (q' : List ℕ → ℕ → Bool) → ((x : ℕ) → x < 64 * set_words → q old x ≡ q' old x) → Marks c q old new dirty dirty' → Marks c q' old new dirty dirty'
  marks_as q' same m = record {
    joined = record {
      row = λ b l. m.joined.row b l ∙ rw (same b l);
      below_kept = m.joined.below_kept;
      above_kept = m.joined.above_kept;
      length_kept = m.joined.length_kept;
    };
    changed = m.changed;
    gains = m.gains;
    same = m.same;
    marked = m.marked;
  }
