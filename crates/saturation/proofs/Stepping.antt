-- Steps of the worklist: none, one after the other, and one column that takes sound numbers.
--     Sound    a test takes nothing that some model of the rows lacks
-- Assumes nothing.
use Prim.Native.Nat.{ℕ, ◌*◌, ◌<◌, ◌≤◌}
use native.Mathlib.Decide.{ℕ_discrete}
use native.Mathlib.Omega.{arith}
use mathlib.Core.Path.{◌≡◌, refl, sym, ap, ◌∙◌}
use mathlib.Core.Bool.{Bool, true, false, false≢true, or-false, or-true}
use mathlib.Core.Logic.{⊎_elim}
use mathlib.Core.List.{List, [], map}
use borrow.Author.Tests.{eq-eqb}
use Rattle.semantics.specs.Limits.{set_words, number_limit}
use Rattle.semantics.specs.Row.{Row}
use Rattle.semantics.specs.Saturated.{Holds}
use Rattle.semantics.specs.Set.{has, cell}
use Rattle.semantics.proofs.Tests.{cases}
use Rattle.sets.specs.Members.{Included}
use Rattle.picking.proofs.Missing.{missing_lt}
use Rattle.picking.proofs.Size.{size_same, size_add_le}
use Rattle.tables.proofs.Rows.{joined_included, other_row}
use Rattle.normal.specs.Rules.{row_of}
use Rattle.columns.specs.Columns.{Seeded}
use Rattle.columns.specs.Steps.{Marks}
use Rattle.saturation.specs.Worklist.{Inference, by_first, by_second, Stable, Progress, met, unread, Drawn, work_left, WorkStep}
use Rattle.columns.proofs.Joining.{joined_has, joined_only}

-- ---- none, and one after the other

module _ {N : ℕ} {words : List ℕ} where
  pub step_none : {columns dirty : List ℕ} → WorkStep N words columns columns dirty dirty
  step_none = record { seeded = λ s. s; length_kept = refl; kept = λ d s. s; no_more = omega arith }

  pub step_then : {old mid new dirty dirty' dirty'' : List ℕ} → WorkStep N words old mid dirty dirty' → WorkStep N words mid new dirty' dirty'' → WorkStep N words old new dirty dirty''
  step_then s t = record {
    seeded = λ h. t.seeded (s.seeded h);
    length_kept = t.length_kept ∙ s.length_kept;
    kept = λ d h. t.kept d (s.kept d h);
    no_more = omega (arith, s.no_more, t.no_more);
  }

-- ---- one column takes sound numbers

-- What q takes for column c is below N and sound.
pub record Sound (N : ℕ) (rows : List Row) (c : ℕ) (q : List ℕ → ℕ → Bool) (columns : List ℕ) : Type 0 where
  pub each : Seeded N rows columns → (x : ℕ) → x < 64 * set_words → q columns x ≡ true → (x < N) × Holds rows [] x c

module _ {c : ℕ} {q : List ℕ → ℕ → Bool} {old new dirty dirty' : List ℕ} (m : Marks c q old new dirty dirty') where
  pub marks_grows : Included old new
  marks_grows = joined_included (q old) m.joined

  still_dirty : Included dirty dirty'
  still_dirty = record { kept = λ b h. m.marked b ∙ rw h }

  newly_dirty : m.changed ≡ true → has dirty' c ≡ true
  newly_dirty e = m.marked c ∙ rw (e, eq-eqb c c refl) (or-true (has dirty c))

  -- An inference is drawn where its target now has what was due before.
  drawn_after : (d : Inference) → Stable d → ((x : ℕ) → x < 64 * set_words → d.due old x ≡ true → cell set_words new d.target x ≡ true) → Drawn d new dirty'
  drawn_after d stable given = record { stable = stable; standing = cases m.changed added none }
    where
      none : m.changed ≡ false → Progress d new dirty'
      none e = met (record { each = λ x l h. given x l (ap (λ columns. d.due columns x) (sym (m.same e)) ∙ h) })

      added : m.changed ≡ true → Progress d new dirty'
      added e = elim (ℕ_discrete d.first c) [
        | yes p ↦ unread c (by_first p) (newly_dirty e)
        | no n ↦ elim (ℕ_discrete d.second c) [
          | yes p ↦ unread c (by_second p) (newly_dirty e)
          | no n' ↦ met (record {
            each = λ x l h. given x l (stable.stays marks_grows (λ y k. other_row m.joined d.first y n k) (λ y k. other_row m.joined d.second y n' k) x l h);
          })
        ]
      ]

  -- What is taken draws the inference of which it is all that was due.
  pub marks_drawn : (d : Inference) → Stable d → d.target ≡ c → ((x : ℕ) → x < 64 * set_words → d.due old x ≡ true → q old x ≡ true) → Drawn d new dirty'
  marks_drawn d stable e all = drawn_after d stable (λ x l h. rw e (joined_has (q old) m.joined x l (all x l h)))

  marks_kept : (d : Inference) → Drawn d old dirty → Drawn d new dirty'
  marks_kept d s = go s.standing
    where
      go : Progress d old dirty → Drawn d new dirty'
      go (met covers) = drawn_after d s.stable (λ x l h. marks_grows.kept _ (covers.each x l h))
      go (unread b reads h) = record { stable = s.stable; standing = unread b reads (still_dirty.kept b h) }

  marks_no_more : c < number_limit → work_left new dirty' ≤ work_left old dirty
  marks_no_more small = cases m.changed
      (λ e. let g = m.gains e in
      rw m.joined.length_kept
      (omega (arith, missing_lt marks_grows g.number g.lacked g.gained _ g.inside, size_add_le dirty dirty' c (λ x. m.marked x ∙ rw e) number_limit small)))
      (λ e. rw (m.same e) (omega (arith, size_same dirty' dirty number_limit (λ x l. m.marked x ∙ rw e (or-false (has dirty x))))))

  module _ {N : ℕ} {rows : List Row} (few : N ≤ number_limit) (sound : Sound N rows c q old) where
    marks_seeded : Seeded N rows old → Seeded N rows new
    marks_seeded s = record {
      sound = λ a b ha hb h. ⊎_elim (s.sound a b ha hb) (λ (e, p). rw e (sound.each s a (omega arith) p).1) (joined_only (q old) m.joined b a (omega arith) h);
      own = λ a ha. marks_grows.kept _ (s.own a ha);
      top = λ a ha. marks_grows.kept _ (s.top a ha);
      zeros = λ a b ha l hb.
          cases (cell set_words new b a)
          (λ h. absurd (⊎_elim (λ p. false≢true (sym (s.zeros a b ha l hb) ∙ p)) (λ (e, p). omega (arith, (sound.each s a l p).0)) (joined_only (q old) m.joined b a l h)))
          (λ e. e);
    }

  pub marks_step : {N : ℕ} {words : List ℕ} → N ≤ number_limit → c < number_limit → Sound N (map row_of words) c q old → WorkStep N words old new dirty dirty'
  marks_step few small sound = record {
    seeded = marks_seeded few sound;
    length_kept = m.joined.length_kept;
    kept = marks_kept;
    no_more = marks_no_more small;
  }
