-- The keys of the slots.
--     key_left, ..       the key of each slot
--     pair_in_exist, ..  the key of the rows that a row makes a pair with
--     left_reads, ..     row i has a slot with the key of what it reads
--     slot_small         every key of an accepted deck has a list
--     in_exist_slot, ..  only rows of kind 3, or 4, with this role have a role's key
-- Assumes nothing.
use Prim.Native.Nat.{ℕ, ◌+◌, ◌*◌, ◌/◌, ◌%◌, ◌<◌}
use native.Mathlib.Decide.{ℕ_discrete}
use native.Mathlib.Omega.{arith}
use mathlib.Core.Path.{◌≡◌, refl, sym}
use mathlib.Core.Bool.{cond}
use mathlib.Core.List.{List}
use lib.Dec.{eqb}
use lib.ListN.{length, get_or}
use borrow.Author.Tests.{eq-eqb, ne_eqb}
use Rattle.semantics.specs.Row.{conj_subsumed_kind, in_exist_kind, exist_in_kind, kind_of, role_of, a_of, b_of}
use Rattle.semantics.specs.Limits.{role_limit}
use Rattle.semantics.proofs.Unpacking.{RowAccepted}
use Rattle.normal.specs.Rules.{Deck}
use Rattle.normal.proofs.Decoding.{deck_row}
use Rattle.index.proofs.Visit.{ToCome}
use Rattle.index.specs.Index.{key_count, in_exist_key, exist_in_key, pair_key, key_of, slot_key}

module _ (w : ℕ) where
  pub key_left : (odd : ℕ) → odd ≡ 0 → key_of w odd ≡ a_of w
  unfolding key_of
  key_left odd e = rw (eq-eqb odd 0 e)

  pub key_in_exist : (odd : ℕ) → (odd ≡ 0 → ⊥) → kind_of w ≡ in_exist_kind → key_of w odd ≡ in_exist_key (role_of w)
  unfolding key_of
  key_in_exist odd n e = rw (ne_eqb odd 0 n, eq-eqb (kind_of w) in_exist_kind e)

  pub key_exist_in : (odd : ℕ) → (odd ≡ 0 → ⊥) → kind_of w ≡ exist_in_kind → key_of w odd ≡ exist_in_key (role_of w)
  unfolding key_of
  key_exist_in odd n e = rw (ne_eqb odd 0 n, ne_eqb (kind_of w) in_exist_kind (λ f. omega arith), eq-eqb (kind_of w) exist_in_kind e)

  pub key_second : (odd : ℕ) → (odd ≡ 0 → ⊥) → (kind_of w ≡ in_exist_kind → ⊥) → (kind_of w ≡ exist_in_kind → ⊥) → key_of w odd ≡ b_of w
  unfolding key_of
  key_second odd n p q = rw (ne_eqb odd 0 n, ne_eqb (kind_of w) in_exist_kind p, ne_eqb (kind_of w) exist_in_kind q)

  -- The key of the rows that it makes a pair with, of kind 4
  pub pair_in_exist : kind_of w ≡ in_exist_kind → pair_key w ≡ exist_in_key (role_of w)
  unfolding pair_key
  pair_in_exist e = rw (eq-eqb (kind_of w) in_exist_kind e)

  -- or 3.
  pub pair_exist_in : (kind_of w ≡ in_exist_kind → ⊥) → pair_key w ≡ in_exist_key (role_of w)
  unfolding pair_key
  pair_exist_in n = rw (ne_eqb (kind_of w) in_exist_kind n)

  key_cases : (P : ℕ → Type 0) → P (a_of w) → (kind_of w ≡ in_exist_kind → P (in_exist_key (role_of w))) → (kind_of w ≡ exist_in_kind → P (exist_in_key (role_of w))) → P (b_of w)
      → (odd : ℕ) → P (key_of w odd)
  key_cases P left third fourth second odd =
      elim (ℕ_discrete odd 0) [
        | yes e ↦ rw (key_left odd e) left
        | no n ↦ elim (ℕ_discrete (kind_of w) in_exist_kind) [
          | yes e ↦ rw (key_in_exist odd n e) (third e)
          | no p ↦ elim (ℕ_discrete (kind_of w) exist_in_kind) [
            | yes e ↦ rw (key_exist_in odd n e) (fourth e)
            | no q ↦ rw (key_second odd n p q) second
          ]
        ]
      ]

-- ---- the slots of row i

module _ (rows : List ℕ) (i : ℕ) (h : i < length rows) where
  abbrev row : ℕ
  row = get_or rows i 0

  at : (s odd x : ℕ) → s < 2 * length rows → s / 2 ≡ i → s % 2 ≡ odd → key_of row odd ≡ x → ToCome (slot_key rows) x (2 * length rows) i
  at s odd x b p q e = record { slot = s; below = b; of_row = p; keyed = rw (p, q) e }

  pub left_reads : ToCome (slot_key rows) (a_of row) (2 * length rows) i
  left_reads = at (2 * i) 0 (a_of row) (omega arith) (omega arith) (omega arith) (key_left row 0 refl)

  pub second_reads : kind_of row ≡ conj_subsumed_kind → ToCome (slot_key rows) (b_of row) (2 * length rows) i
  second_reads e =
      at (2 * i + 1) 1 (b_of row) (omega arith) (omega arith) (omega arith) (key_second row 1 (λ f. omega arith) (λ f. omega arith) (λ f. omega arith))

  pub in_exist_reads : kind_of row ≡ in_exist_kind → ToCome (slot_key rows) (in_exist_key (role_of row)) (2 * length rows) i
  in_exist_reads e = at (2 * i + 1) 1 (in_exist_key (role_of row)) (omega arith) (omega arith) (omega arith) (key_in_exist row 1 (λ f. omega arith) e)

  pub exist_in_reads : kind_of row ≡ exist_in_kind → ToCome (slot_key rows) (exist_in_key (role_of row)) (2 * length rows) i
  exist_in_reads e = at (2 * i + 1) 1 (exist_in_key (role_of row)) (omega arith) (omega arith) (omega arith) (key_exist_in row 1 (λ f. omega arith) e)

-- the second slot of a row is the odd one
pub second_odd : (s : ℕ) → cond (eqb (s % 2) 1) 1 0 ≡ s % 2
second_odd s = elim (ℕ_discrete (s % 2) 1) [ yes e ↦ rw (eq-eqb (s % 2) 1 e) (sym e) | no n ↦ rw (ne_eqb (s % 2) 1 n) (omega arith) ]

-- ---- the keys of an accepted deck

module _ {N : ℕ} {rows : List ℕ} (deck : Deck N rows) (s : ℕ) (h : s < 2 * length rows) where
  abbrev w : ℕ
  w = get_or rows (s / 2) 0

  accepted : RowAccepted N role_limit w
  accepted = deck_row deck (s / 2) (omega arith)

  pub slot_small : slot_key rows s < key_count
  slot_small =
      key_cases w (λ v. v < key_count)
      (omega (arith, accepted.lefts, deck.numbers))
      (λ e. omega (arith, accepted.roles (rw e refl)))
      (λ e. omega (arith, accepted.roles (rw e refl)))
      (omega (arith, accepted.seconds, deck.numbers))
      (s % 2)

  -- Only rows of kind 3 with this role have its key,
  pub in_exist_slot : (r : ℕ) → r < role_limit → slot_key rows s ≡ in_exist_key r → (kind_of w ≡ in_exist_kind) × (role_of w ≡ r)
  in_exist_slot r l =
      key_cases w (λ v. v ≡ in_exist_key r → (kind_of w ≡ in_exist_kind) × (role_of w ≡ r))
      (λ q. absurd (omega (arith, accepted.lefts, deck.numbers)))
      (λ e q. (e, omega arith))
      (λ e q. absurd (omega arith))
      (λ q. absurd (omega (arith, accepted.seconds, deck.numbers)))
      (s % 2)

  -- and only those of kind 4 the other.
  pub exist_in_slot : (r : ℕ) → r < role_limit → slot_key rows s ≡ exist_in_key r → (kind_of w ≡ exist_in_kind) × (role_of w ≡ r)
  exist_in_slot r l =
      key_cases w (λ v. v ≡ exist_in_key r → (kind_of w ≡ exist_in_kind) × (role_of w ≡ r))
      (λ q. absurd (omega (arith, accepted.lefts, deck.numbers)))
      (λ e q. absurd (omega (arith, accepted.roles (rw e refl))))
      (λ e q. (e, omega arith))
      (λ q. absurd (omega (arith, accepted.seconds, deck.numbers)))
      (s % 2)
