-- A row by its kind: what it lets a column take draws the inferences that it has a part in.
-- Assumes nothing.
use Prim.Native.Nat.{ℕ, ◌*◌, ◌<◌, ◌≤◌}
use native.Mathlib.Decide.{ℕ_discrete}
use native.Mathlib.Omega.{arith}
use mathlib.Core.Path.{◌≡◌, refl, sym, ◌∙◌}
use mathlib.Core.Bool.{true, false, false≢true}
use mathlib.Core.Logic.{◌⊎◌, ⊎_elim}
use mathlib.Core.List.{List, map, Memᴰ}
use lib.Dec.{eqb}
use lib.ListN.{length, get_or}
use borrow.Author.Tests.{eqb-true, eq-eqb}
use Rattle.semantics.specs.Closure.{strict}
use Rattle.semantics.specs.Limits.{set_words, number_limit, role_limit}
use Rattle.semantics.specs.Row.{Row, strict_kind, conj_subsumed_kind, in_exist_kind, exist_in_kind, kind_of, a_of, b_of, c_of}
use Rattle.semantics.specs.Set.{cell}
use Rattle.semantics.proofs.Tests.{both}
use Rattle.semantics.proofs.Unpacking.{RowAccepted}
use Rattle.normal.specs.Rules.{Deck, row_of}
use Rattle.normal.proofs.Decoding.{deck_row, row_simple, row_conj, row_in_exist, row_exist_in, row_member}
use Rattle.columns.specs.Steps.{Marks, in_apart, in_shared, in_apart_where}
use Rattle.saturation.specs.Applying.{RowIn, InColumns, is_emptied, Plain}
use Rattle.saturation.specs.Worklist.{Inference, strict_inference, conj_inference, bottom_inference, pair_inference, Pair, OfPair, forwards, backwards, Paired}
use Rattle.saturation.specs.Worklist.{TakesPart, strictly, jointly, emptily, in_pair, met, Drawn, WorkStep, Draws}
use Rattle.saturation.proofs.Inferences.{BottomOf, strict_stable, conj_stable, bottom_stable, pair_stable}
use Rattle.saturation.proofs.Soundness.{strict_sound, conj_sound, bottom_sound, exist_sound, apart_in}
use Rattle.saturation.proofs.Stepping.{marks_grows, marks_drawn, marks_step, step_none}

-- ---- one of the rows

module _ {N : ℕ} {words : List ℕ} (deck : Deck N words) {w : ℕ} (row : RowIn words w) where
  pub row_fine : RowAccepted N role_limit w
  row_fine = rw row.is at (deck_row deck row.index row.within)

  small_right : c_of w < number_limit
  small_right = omega (arith, row_fine.rights, deck.numbers)

  member : {q : Row} → row_of w ≡ q → Memᴰ q (map row_of words)
  member e = rw (row.is, e) at (row_member words row.index row.within)

  pub readable : {room : ℕ} {columns : List ℕ} → set_words * N ≤ room → length columns ≡ room → InColumns columns w
  readable enough kept = record {
    kind = row_fine.low;
    nothing = omega (arith, deck.two);
    left = omega (arith, row_fine.lefts);
    second = omega (arith, row_fine.seconds);
    right = omega (arith, row_fine.rights);
    small = small_right;
  }

-- the inferences that it has a part in, by its kind
part_cases : {words : List ℕ} {w : ℕ} (P : Inference → Type 0) → (kind_of w ≡ strict_kind → P (strict_inference w)) → (kind_of w ≡ conj_subsumed_kind → P (conj_inference w)) →
    (kind_of w ≡ in_exist_kind → P (bottom_inference w)) → ((d : Inference) → Paired words w d → P d) → (d : Inference) → TakesPart words w d → P d
part_cases P a b c e d (strictly h) = a h
part_cases P a b c e d (jointly h) = b h
part_cases P a b c e d (emptily h) = c h
part_cases P a b c e d (in_pair p) = e d p

-- Rows of other kinds make no pair.
no_pair : {w v : ℕ} {d : Inference} → (kind_of w ≡ in_exist_kind → ⊥) → (kind_of w ≡ exist_in_kind → ⊥) → OfPair w v d → ⊥
no_pair m n (forwards p) = m p.by_in_exist
no_pair m n (backwards p) = n p.by_exist_in

emptied_kind : (w : ℕ) (columns : List ℕ) → is_emptied w columns ≡ true → kind_of w ≡ in_exist_kind
emptied_kind w columns e = eqb-true (kind_of w) in_exist_kind (both (eqb (kind_of w) in_exist_kind) (cell set_words columns 1 (c_of w)) e).0

module _ {N : ℕ} {words : List ℕ} (deck : Deck N words) {w : ℕ} (row : RowIn words w) where
  -- ---- kinds 1 and 2

  module _ {old new dirty dirty' : List ℕ} where
    strict_applied : kind_of w ≡ strict_kind → Marks (c_of w) (in_apart (a_of w)) old new dirty dirty' → Draws N words (TakesPart words w) old new dirty dirty'
    strict_applied one m = record {
      step = marks_step m deck.numbers (small_right deck row) (strict_sound (row_fine deck row).lefts (member deck row (row_simple w strict one)));
      drawn = part_cases (λ d. Drawn d new dirty') (λ e. marks_drawn m _ (strict_stable _) refl (λ x l p. p)) (λ e. absurd (omega arith)) (λ e. absurd (omega arith))
          (λ d p. absurd (no_pair (λ e. omega arith) (λ e. omega arith) p.of));
    }

    conj_applied : kind_of w ≡ conj_subsumed_kind → Marks (c_of w) (in_shared (a_of w) (b_of w)) old new dirty dirty' → Draws N words (TakesPart words w) old new dirty dirty'
    conj_applied two m = record {
      step = marks_step m deck.numbers (small_right deck row) (conj_sound (row_fine deck row).lefts (row_fine deck row).seconds (member deck row (row_conj w two)));
      drawn = part_cases (λ d. Drawn d new dirty') (λ e. absurd (omega arith)) (λ e. marks_drawn m _ (conj_stable _) refl (λ x l p. p)) (λ e. absurd (omega arith))
          (λ d p. absurd (no_pair (λ e. omega arith) (λ e. omega arith) p.of));
    }

  none_applied : {columns dirty : List ℕ} → (kind_of w ≡ strict_kind → ⊥) → (kind_of w ≡ conj_subsumed_kind → ⊥) → (kind_of w ≡ in_exist_kind → ⊥) → (kind_of w ≡ exist_in_kind → ⊥) →
      Draws N words (TakesPart words w) columns columns dirty dirty
  none_applied {columns} {dirty} n1 n2 n3 n4 = record {
    step = step_none;
    drawn = part_cases (λ d. Drawn d columns dirty) (λ e. absurd (n1 e)) (λ e. absurd (n2 e)) (λ e. absurd (n3 e)) (λ d p. absurd (no_pair n3 n4 p.of));
  }

  pub plain_applied : {old new dirty dirty' : List ℕ} → (kind_of w ≡ in_exist_kind → ⊥) → (kind_of w ≡ exist_in_kind → ⊥) → Plain w old new dirty dirty' →
      Draws N words (TakesPart words w) old new dirty dirty'
  plain_applied n3 n4 plain = elim (ℕ_discrete (kind_of w) strict_kind) [
    | yes one ↦ strict_applied one (plain.strict one)
    | no n1 ↦ elim (ℕ_discrete (kind_of w) conj_subsumed_kind) [
      | yes two ↦ conj_applied two (plain.conj two)
      | no n2 ↦ let (same, clean) = plain.other n1 n2 in rw (same, clean) (none_applied n1 n2 n3 n4)
    ]
  ]

  -- ---- kind 3, where its right is nothing

  module _ {old new dirty dirty' : List ℕ} (emptied : is_emptied w old ≡ true) (m : Marks 1 (in_apart (a_of w)) old new dirty dirty') where
    three : kind_of w ≡ in_exist_kind
    three = emptied_kind w old emptied

    nothing : cell set_words old 1 (c_of w) ≡ true
    nothing = (both (eqb (kind_of w) in_exist_kind) (cell set_words old 1 (c_of w)) emptied).1

    emptied_step : WorkStep N words old new dirty dirty'
    emptied_step = marks_step m deck.numbers (omega arith)
        (bottom_sound deck.two (row_fine deck row).lefts (row_fine deck row).rights (member deck row (row_in_exist w three)) nothing)

    emptied_bottom : Drawn (bottom_inference w) new dirty'
    emptied_bottom = marks_drawn m _ (bottom_stable _ (small_right deck row)) refl (λ x l p. (both (cell set_words old 1 (c_of w)) (in_apart (a_of w) old x) p).1)

    -- no pair asks anything of it.
    emptied_pair : {v : ℕ} {d : Inference} → OfPair w v d → Drawn d new dirty'
    emptied_pair {v} (forwards p) = record {
      stable = pair_stable _ _ (small_right deck row);
      standing = met (record {
        each = λ x l q.
            let (f, g) = both (in_apart (a_of v) new (c_of w)) (in_apart (a_of w) new x) q in
            absurd (false≢true (rw ((marks_grows m).kept _ nothing) at (both (cell set_words new (a_of v) (c_of w)) _ f).1));
      });
    }
    emptied_pair (backwards p) = absurd (omega (arith, three, p.by_exist_in))

    pub emptied_applied : Draws N words (TakesPart words w) old new dirty dirty'
    emptied_applied = record {
      step = emptied_step;
      drawn = part_cases (λ d. Drawn d new dirty') (λ e. absurd (omega (arith, three))) (λ e. absurd (omega (arith, three))) (λ e. emptied_bottom) (λ d p. emptied_pair p.of);
    }

  -- ---- kinds 3 and 4

  -- Where the right of a row of kind 3 is not nothing, nothing is due by that rule.
  bottom_met : {old dirty : List ℕ} → kind_of w ≡ in_exist_kind → is_emptied w old ≡ false → Drawn (bottom_inference w) old dirty
  bottom_met {old} three e =
      let lacking : cell set_words old 1 (c_of w) ≡ false = rw (eq-eqb (kind_of w) in_exist_kind three) at e in
      record {
        stable = bottom_stable _ (small_right deck row);
        standing = met (record { each = λ x l p. absurd (false≢true (sym lacking ∙ (both (cell set_words old 1 (c_of w)) (in_apart (a_of w) old x) p).0)) });
      }

  pub pairs_applied : {old new dirty dirty' : List ℕ} → is_emptied w old ≡ false → (kind_of w ≡ in_exist_kind) ⊎ (kind_of w ≡ exist_in_kind) → Draws N words (Paired words w) old new dirty dirty' →
      Draws N words (TakesPart words w) old new dirty dirty'
  pairs_applied {new = new} {dirty' = dirty'} e kinds s = record {
    step = s.step;
    drawn = part_cases (λ d. Drawn d new dirty') (λ f. absurd (⊎_elim (λ k. omega arith) (λ k. omega arith) kinds)) (λ f. absurd (⊎_elim (λ k. omega arith) (λ k. omega arith) kinds))
        (λ three. s.step.kept _ (bottom_met three e)) s.drawn;
  }

-- ---- the rows one by one, for column 1

module _ {N : ℕ} {words : List ℕ} (deck : Deck N words) (i : ℕ) (h : i < length words) where
  pub row_at : RowIn words (get_or words i 0)
  row_at = record { index = i; within = h; is = refl }

  pub bottom_applied : {old new dirty dirty' : List ℕ} → is_emptied (get_or words i 0) old ≡ true → Marks 1 (in_apart (a_of (get_or words i 0))) old new dirty dirty' →
      Draws N words (BottomOf words i) old new dirty dirty'
  bottom_applied e m = record { step = emptied_step deck row_at e m; drawn = λ d p. rw p.is (emptied_bottom deck row_at e m) }

  pub bottom_none : {columns dirty : List ℕ} → is_emptied (get_or words i 0) columns ≡ false → Draws N words (BottomOf words i) columns columns dirty dirty
  bottom_none e = record { step = step_none; drawn = λ d p. rw p.is (bottom_met deck row_at p.kind e) }

-- ---- a pair

module _ {N : ℕ} {words : List ℕ} (deck : Deck N words) {w v : ℕ} (row : RowIn words w) (row' : RowIn words v) (pair : Pair w v) {old new dirty dirty' : List ℕ}
    (m : Marks (c_of v) (in_apart_where (a_of v) (c_of w) (a_of w)) old new dirty dirty') where
  pair_step : WorkStep N words old new dirty dirty'
  pair_step = marks_step m deck.numbers (small_right deck row')
      (exist_sound (row_fine deck row).lefts (row_fine deck row).rights (row_fine deck row').lefts (member deck row (row_in_exist w pair.by_in_exist))
      (rw pair.role at (member deck row' (row_exist_in v pair.by_exist_in))))

  pair_drawn : Drawn (pair_inference w v) new dirty'
  pair_drawn = marks_drawn m _ (pair_stable _ _ (small_right deck row)) refl (λ x l p.
      let (f, g) = both (in_apart (a_of v) old (c_of w)) (in_apart (a_of w) old x) p in
      rw (apart_in (a_of v) old (c_of w) f) g)

  pub forwards_applied : Draws N words (OfPair w v) old new dirty dirty'
  forwards_applied = record { step = pair_step; drawn = drawn }
    where
      drawn : (d : Inference) → OfPair w v d → Drawn d new dirty'
      drawn d (forwards p) = pair_drawn
      drawn d (backwards p) = absurd (omega (arith, pair.by_exist_in, p.by_in_exist))

  pub backwards_applied : Draws N words (OfPair v w) old new dirty dirty'
  backwards_applied = record { step = pair_step; drawn = drawn }
    where
      drawn : (d : Inference) → OfPair v w d → Drawn d new dirty'
      drawn d (forwards p) = absurd (omega (arith, pair.by_exist_in, p.by_in_exist))
      drawn d (backwards p) = pair_drawn
