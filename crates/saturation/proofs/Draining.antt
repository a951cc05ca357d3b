-- The worklist: every inference is drawn from the start, where each column is dirty, to the end, where none is and so every inference is met.
--     AllDrawn    every inference of the rows is drawn
--     Draining    the columns are sound, and every inference is drawn
-- Assumes nothing.
use Prim.Native.Nat.{ℕ, ◌<◌}
use native.Mathlib.Decide.{ℕ_discrete}
use native.Mathlib.Omega.{arith}
use mathlib.Core.Path.{◌≡◌, refl, ◌∙◌}
use mathlib.Core.Bool.{true, not, ◌&&◌}
use mathlib.Core.Logic.{◌⊎◌, inl, inr, ⊎_elim}
use mathlib.Core.List.{List, map}
use lib.Dec.{eqb}
use lib.ListN.{length, get_or}
use borrow.Author.Tests.{ne_eqb}
use Rattle.semantics.specs.Limits.{set_words, number_limit}
use Rattle.semantics.specs.Row.{a_of}
use Rattle.semantics.specs.Set.{has}
use Rattle.tables.specs.Table.{row_words}
use Rattle.tables.proofs.Rows.{has_row}
use Rattle.picking.proofs.Size.{size_remove}
use Rattle.normal.specs.Rules.{Deck, row_of}
use Rattle.normal.proofs.Decoding.{deck_row}
use Rattle.columns.specs.Columns.{Seeded}
use Rattle.saturation.specs.Worklist.{Inference, OfPair, forwards, backwards, TakesPart, strictly, jointly, emptily, in_pair}
use Rattle.saturation.specs.Worklist.{ReadsColumn, by_first, ReadingOf, Progress, met, unread, Drawn, work_left, Draws}
use Rattle.saturation.proofs.Inferences.{part_stable}

-- every inference of the rows
pub record AllDrawn (words columns dirty : List ℕ) : Type 0 where
  pub each : (i : ℕ) → i < length words → (d : Inference) → TakesPart words (get_or words i 0) d → Drawn d columns dirty

pub record Draining (N : ℕ) (words old columns dirty : List ℕ) : Type 0 where
  pub seeded : Seeded N (map row_of words) columns
  pub drawn : AllDrawn words columns dirty
  pub length_kept : length columns ≡ length old

-- ---- at the start

pair_small : {N w v : ℕ} {d : Inference} → a_of w < N → a_of v < N → OfPair w v d → d.first < N
pair_small h k (forwards p) = h
pair_small h k (backwards p) = k

part_small : {N : ℕ} {words : List ℕ} → Deck N words → (i : ℕ) → i < length words → {d : Inference} → TakesPart words (get_or words i 0) d → d.first < N
part_small deck i h (strictly e) = (deck_row deck i h).lefts
part_small deck i h (jointly e) = (deck_row deck i h).lefts
part_small deck i h (emptily e) = (deck_row deck i h).lefts
part_small deck i h (in_pair p) = pair_small (deck_row deck i h).lefts (deck_row deck p.index p.within).lefts p.of

-- Column 0 has every number: each column is dirty.
pub draining_none : {N : ℕ} {words columns dirty : List ℕ} → Deck N words → Seeded N (map row_of words) columns → dirty ≡ row_words set_words columns 0 →
    Draining N words columns columns dirty
draining_none {N} {words} {columns} {dirty} deck seeded is = record {
  seeded = seeded;
  drawn = record { each = λ i h d p. record { stable = part_stable deck i h p; standing = unread d.first (by_first refl) (all d.first (part_small deck i h p)) } };
  length_kept = refl;
}
  where
    all : (x : ℕ) → x < N → has dirty x ≡ true
    all x h = rw is (has_row set_words columns 0 x (omega (arith, deck.numbers)) ∙ seeded.top x h)

-- ---- after the readers of column b

-- Without b, an inference is drawn as it was, or reads b.
removed : {b : ℕ} {d : Inference} {columns dirty rest : List ℕ} → ((x : ℕ) → has rest x ≡ (has dirty x && not (eqb b x))) → Drawn d columns dirty → Drawn d columns rest ⊎ ReadsColumn d b
removed {b} {d} {columns} {dirty} {rest} is s = go s.standing
  where
    go : Progress d columns dirty → Drawn d columns rest ⊎ ReadsColumn d b
    go (met covers) = inl (record { stable = s.stable; standing = met covers })
    go (unread x reads h) = elim (ℕ_discrete b x) [
      | yes e ↦ inr (rw e reads)
      | no n ↦ inl (record { stable = s.stable; standing = unread x reads (is x ∙ rw (h, ne_eqb b x n)) })
    ]

module _ {N : ℕ} {words old columns new dirty rest dirty' : List ℕ} {b : ℕ} (s : Draining N words old columns dirty)
    (is : (x : ℕ) → has rest x ≡ (has dirty x && not (eqb b x))) (t : Draws N words (ReadingOf words b) columns new rest dirty') where
  pub draining_more : Draining N words old new dirty'
  draining_more = record {
    seeded = t.step.seeded s.seeded;
    drawn = record {
      each = λ i h d p. ⊎_elim (t.step.kept d) (λ reads. t.drawn d (record { index = i; within = h; part = p; reads = reads })) (removed is (s.drawn.each i h d p));
    };
    length_kept = t.step.length_kept ∙ s.length_kept;
  }

  pub draining_less : b < number_limit → has dirty b ≡ true → work_left new dirty' < work_left columns dirty
  draining_less l member = omega (arith, t.step.no_more, size_remove dirty rest b member is number_limit l)
