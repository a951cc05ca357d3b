-- Rows selected by a test: members by index, and one selection as a filtered part of another.
--     SelectedAt   where a selected pair stands
-- Assumes nothing.
use Prim.Native.Nat.{ℕ, zero, suc, ◌<◌, ◌≤◌}
use native.Mathlib.Omega.{arith}
use mathlib.Core.Path.{◌≡◌, refl, sym, ap₂}
use mathlib.Core.Bool.{Bool, true, false}
use mathlib.Core.List.Memᴰ
use mathlib.Core.List.{List, [], ◌∷◌, Memᴰ}
use lib.ListN.{length, get_or}
use lib.Dec.{eqb}
use Rattle.semantics.specs.Closure.{keep_if, Filtered, end, keep, leave, Replies}
use Rattle.semantics.specs.Row.{Row, defeasible_kind, kind_of}
use Rattle.semantics.proofs.Rows.{pairs_of}
use Rattle.semantics.proofs.RowKinds.{each_kind, defeasible_number}
use Rattle.semantics.proofs.Unpacking.{RowAccepted}
use Rattle.normal.specs.Rules.{row_of, pair_of, selected}
use Rattle.normal.proofs.Decoding.{row_simple, row_conj, row_in_exist, row_exist_in}

-- ---- members, by index

pub record SelectedAt (t : ℕ → ℕ → Bool) (words levels : List ℕ) (p : ℕ × ℕ) : Type 0 where
  pub index : ℕ
  pub within : index < length words
  pub taken : t (get_or words index 0) (get_or levels index 0) ≡ true
  pub is : pair_of (get_or words index 0) ≡ p

selected_further : {t : ℕ → ℕ → Bool} {words levels : List ℕ} {p : ℕ × ℕ} (w l : ℕ) → SelectedAt t words levels p → SelectedAt t (w ∷ words) (l ∷ levels) p
selected_further w l s = record { index = suc s.index; within = omega (arith, s.within); taken = s.taken; is = s.is }

pub selected_index : (t : ℕ → ℕ → Bool) (words levels : List ℕ) {p : ℕ × ℕ} → Memᴰ p (selected t words levels) → SelectedAt t words levels p
unfolding selected
selected_index t [] levels m = absurd (Memᴰ.not-nil m)
selected_index t (w ∷ words) [] m = absurd (Memᴰ.not-nil m)
selected_index t (w ∷ words) (l ∷ levels) {p} m = go (t w l) refl m (λ m. selected_index t words levels m)
  where
    go : (b : Bool) → t w l ≡ b → Memᴰ p (keep_if b (pair_of w) (selected t words levels)) → (Memᴰ p (selected t words levels) → SelectedAt t words levels p) →
        SelectedAt t (w ∷ words) (l ∷ levels) p
    go true e (Memᴰ.head q) rec = record { index = 0; within = omega arith; taken = e; is = sym q }
    go true e (Memᴰ.tail m) rec = selected_further w l (rec m)
    go false e m rec = selected_further w l (rec m)

pub selected_member : (t : ℕ → ℕ → Bool) (words levels : List ℕ) → length words ≤ length levels → (i : ℕ) → i < length words →
    t (get_or words i 0) (get_or levels i 0) ≡ true → Memᴰ (pair_of (get_or words i 0)) (selected t words levels)
unfolding selected
selected_member t [] levels long i h e = absurd (omega arith)
selected_member t (w ∷ words) [] long i h e = absurd (omega arith)
selected_member t (w ∷ words) (l ∷ levels) long zero h e = rw e (Memᴰ.head refl)
selected_member t (w ∷ words) (l ∷ levels) long (suc i) h e = go (t w l) (selected_member t words levels (omega arith) i (omega arith) e)
  where
    go : (b : Bool) → Memᴰ (pair_of (get_or words i 0)) (selected t words levels) → Memᴰ (pair_of (get_or words i 0)) (keep_if b (pair_of w) (selected t words levels))
    go true m = Memᴰ.tail m
    go false m = m

pub selected_length : (t : ℕ → ℕ → Bool) (words levels : List ℕ) → length (selected t words levels) ≤ length words
unfolding selected
selected_length t [] levels = omega arith
selected_length t (w ∷ words) [] = omega arith
selected_length t (w ∷ words) (l ∷ levels) = go (t w l) (selected_length t words levels)
  where
    go : (b : Bool) → length (selected t words levels) ≤ length words → length (keep_if b (pair_of w) (selected t words levels)) ≤ suc (length words)
    go true h = omega arith
    go false h = omega arith

-- ---- two selections

module _ (t t' : ℕ → ℕ → Bool) where
  -- rows for which the tests agree
  pub selected_same : (words levels levels' : List ℕ) → length words ≤ length levels → length words ≤ length levels' →
      ((i : ℕ) → i < length words → t (get_or words i 0) (get_or levels i 0) ≡ t' (get_or words i 0) (get_or levels' i 0)) →
      selected t words levels ≡ selected t' words levels'
  unfolding selected
  selected_same [] levels levels' long long' h = refl
  selected_same (w ∷ words) [] levels' long long' h = absurd (omega arith)
  selected_same (w ∷ words) (l ∷ levels) [] long long' h = absurd (omega arith)
  selected_same (w ∷ words) (l ∷ levels) (l' ∷ levels') long long' h =
      ap₂ (λ b ps. keep_if b (pair_of w) ps) (h 0 (omega arith)) (selected_same words levels levels' (omega arith) (omega arith) (λ i lt. h (suc i) (omega arith)))

  -- Of the rows that the first test takes, the second takes those whose pair has P, and no others.
  pub record Sifts (P : ℕ × ℕ → Type 0) (w l l' : ℕ) : Type 0 where
    pub none_new : t w l ≡ false → t' w l' ≡ false
    pub sifts : t w l ≡ true → Replies (t' w l') (P (pair_of w))

  sift : {P : ℕ × ℕ → Type 0} (w : ℕ) {ps qs : List (ℕ × ℕ)} (b b' : Bool) → (b ≡ false → b' ≡ false) → (b ≡ true → Replies b' (P (pair_of w))) →
      Filtered P ps qs → Filtered P (keep_if b (pair_of w) ps) (keep_if b' (pair_of w) qs)
  sift w true true n s k = keep (s refl) k
  sift w true false n s k = leave (s refl) k
  sift w false b' n s k = rw (n refl) k

  pub selected_sifted : {P : ℕ × ℕ → Type 0} (words levels levels' : List ℕ) → length words ≤ length levels → length words ≤ length levels' →
      ((i : ℕ) → i < length words → Sifts P (get_or words i 0) (get_or levels i 0) (get_or levels' i 0)) →
      Filtered P (selected t words levels) (selected t' words levels')
  unfolding selected
  selected_sifted [] levels levels' long long' h = end
  selected_sifted (w ∷ words) [] levels' long long' h = absurd (omega arith)
  selected_sifted (w ∷ words) (l ∷ levels) [] long long' h = absurd (omega arith)
  selected_sifted (w ∷ words) (l ∷ levels) (l' ∷ levels') long long' h =
      let first = h 0 (omega arith) in
      sift w (t w l) (t' w l') first.none_new first.sifts
      (selected_sifted words levels levels' (omega arith) (omega arith) (λ i lt. h (suc i) (omega arith)))

-- ---- the defeasible rows, while nothing is stuck

pub pairs_row : {N R w : ℕ} (rows : List Row) → RowAccepted N R w → pairs_of (row_of w ∷ rows) ≡ keep_if (eqb (kind_of w) defeasible_kind) (pair_of w) (pairs_of rows)
unfolding pairs_of
pairs_row {w} rows h = each_kind (λ k. kind_of w ≡ k → pairs_of (row_of w ∷ rows) ≡ keep_if (eqb (kind_of w) defeasible_kind) (pair_of w) (pairs_of rows))
    (λ k e. rw (row_simple w k e, e, defeasible_number k))
    (λ e. rw (row_conj w e, e))
    (λ e. rw (row_in_exist w e, e))
    (λ e. rw (row_exist_in w e, e))
    (kind_of w) h.low h.high refl
