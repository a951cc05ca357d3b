-- What `classify` leaves is determined by what it was given: the answer, the results, the table and the order.
--     classified_unique    by the words, the counts and the buffers at entry: all of it
--     classified_follows   by the words and the counts alone: all that is written, where nothing is refused
-- Assumes nothing.
use Prim.Native.Nat.{ℕ, ◌*◌, ◌≤◌}
use native.Mathlib.Omega.{arith}
use mathlib.Core.Path.{◌≡◌, sym, ◌∙◌, ap, subst}
use mathlib.Core.List.{List, map}
use lib.ListN.{length, length-map}
use Rattle.std.specs.Prelude.{Result, Ok, Err}
use Rattle.semantics.specs.Limits.{set_words}
use Rattle.semantics.specs.Closure.{yes_count}
use Rattle.semantics.specs.Row.{Row, line_of, pack, Unpacked}
use Rattle.semantics.specs.Outputs.{StrictTable, defeasible_rows}
use Rattle.semantics.proofs.RankOrder.{order_first}
use Rattle.semantics.proofs.Theorems.{closure_unique, closure_sets, unpacked_unique, accepted_decides, table_unique, order_unique}
use Rattle.refusal.specs.Refusal.{refusal_number}
use Rattle.refusal.specs.declared.Refused.{Refused}
use Rattle.tables.proofs.Rows.{table_words}
use Rattle.refusal.proofs.Refusals.{refusal_number_injective}
use Rattle.copying.proofs.Writing.{whole}
use Rattle.buffers.specs.Buffers.{Buffers}
use Rattle.workspace.specs.declared.Counts.{Counts}
use Rattle.closure.specs.Contract.{DeckAcceptable, ClosureReport, Classified, refused, classified}
use Rattle.closure.specs.Same.{SameBuffers, SameWritten}

-- ---- what is written

-- Reports of the same rows, whatever the buffers held and however long they were.
report_follows : {rows : List Row} {N : ℕ} {before after before' after' : Buffers} {c c' : Counts} →
    ClosureReport rows N (length rows) before after c → set_words * N ≤ length before.table →
    ClosureReport rows N (length rows) before' after' c' → set_words * N ≤ length before'.table →
    (c ≡ c') × SameWritten N (length rows) (length (defeasible_rows rows)) after after'
report_follows {rows} {N} {after} {after'} r le r' le' =
    let u = closure_unique r.closure r'.closure in
    let t = (closure_sets r.closure r'.closure).0 in
    let yes = r.yes_counted ∙ ap (yes_count (map line_of rows)) u.2 ∙ sym r'.yes_counted in (
      (λ i. record { levels = u.0 i; passes = u.1 i; yes = yes i }),
      record {
        first_results = u.2;
        first_table =
            table_words set_words N after.table after'.table
            (table_unique (subst (λ T. StrictTable N T after.table) t r.strict_table) r'.strict_table)
            (omega (arith, r.table_length))
            (omega (arith, r'.table_length));
        first_order = order_unique (order_first (length rows) after.results after'.results (omega (arith, length-map rows line_of)) u.2 r.rank_order) r'.rank_order;
      },
    )

-- ---- the whole

-- With the same buffers at entry the rest is the same too.
same_whole : {rows : List Row} {N : ℕ} {before after after' : Buffers} {c c' : Counts} →
    ClosureReport rows N (length rows) before after c → ClosureReport rows N (length rows) before after' c' →
    SameWritten N (length rows) (length (defeasible_rows rows)) after after' → SameBuffers after after'
same_whole {rows} {N} {after} {after'} r r' w = record {
  same_results = whole (length rows) after.results after'.results w.first_results (r.results_kept ∙ sym r'.results_kept);
  same_table = λ p q. whole (set_words * N) after.table after'.table (w.first_table p q) (r.table_kept ∙ sym r'.table_kept);
  same_order = whole (length (defeasible_rows rows)) after.order after'.order w.first_order (r.order_kept ∙ sym r'.order_kept);
}

-- where nothing is written, nothing differs
pub same_kept : {before after after' : Buffers} → after ≡ before → after' ≡ before → SameBuffers after after'
same_kept k k' =
    let e = k ∙ sym k' in
    record { same_results = ap (λ b. b.results) e; same_table = λ p q. ap (λ b. b.table) e; same_order = ap (λ b. b.order) e }

-- ---- settled

-- What a settled answer stands for.
record ClassifiedAs (words : List ℕ) (N R : ℕ) (before after : Buffers) (c : Counts) : Type 0 where
  accepted : DeckAcceptable N R words before
  rows : List Row
  unpacked : Unpacked N R words rows
  report : ClosureReport rows N (length rows) before after c

module _ {words : List ℕ} {N R : ℕ} where
  as_classified : {before after : Buffers} {c : Counts} → Classified words N R before after (Ok c) → ClassifiedAs words N R before after c
  as_classified {before} {after} {c} (classified {rows} h u r) = record {
    accepted = (accepted_decides _ _ _ _ _ _).0 h;
    rows = rows;
    unpacked = u;
    report = subst (λ n. ClosureReport rows N n before after c) (ap length u.packs ∙ length-map rows pack) r;
  }

  -- The words have one list of rows.
  same_rows : {before after before' after' : Buffers} {c c' : Counts} → (s : ClassifiedAs words N R before after c) → ClassifiedAs words N R before' after' c' →
      ClosureReport s.rows N (length s.rows) before' after' c'
  same_rows {before'} {after'} {c'} s s' =
      let e = unpacked_unique (omega (arith, s.accepted.numbers.1)) (omega (arith, s.accepted.roles)) s'.unpacked s.unpacked in
      subst (λ rows. ClosureReport rows N (length rows) before' after' c') e s'.report

  -- What settling writes follows from the words and the counts, whatever the lent buffers held and however long they were.
  pub classified_follows : {before after before' after' : Buffers} {c c' : Counts} →
      Classified words N R before after (Ok c) → Classified words N R before' after' (Ok c') →
      (c ≡ c') × (rows : List Row) × Unpacked N R words rows × SameWritten N (length words) (length (defeasible_rows rows)) after after'
  classified_follows {after} {after'} k k' =
      let s = as_classified k in
      let s' = as_classified k' in
      let (c, w) = report_follows s.report s.accepted.table_lent (same_rows s s') s'.accepted.table_lent in
      let n = ap length s.unpacked.packs ∙ length-map s.rows pack in
      (c, s.rows, s.unpacked, subst (λ n. SameWritten N n (length (defeasible_rows s.rows)) after after') (sym n) w)

  -- What `classify` promises, it promises of one answer, one list of results, one table and one order.
  pub classified_unique : {before after after' : Buffers} {a a' : Result Counts Refused} → Classified words N R before after a → Classified words N R before after' a' →
      (a ≡ a') × SameBuffers after after'
  classified_unique (refused {e} h k) (refused {e = e'} h' k') =
      let p : ◌≡◌ {A = ℕ × ℕ} (refusal_number e.why, e.place) (refusal_number e'.why, e'.place) = cc in
      let w = refusal_number_injective e.why e'.why (λ i. (p i).0) in
      (λ i. Err record { why = w i; place = (p i).1 }, same_kept k k')
  classified_unique (refused h k) (classified h' u' s') = absurd cc
  classified_unique (classified h u s) (refused h' k') = absurd cc
  classified_unique (classified h u r) (classified h' u' r') =
      let s = as_classified (classified h u r) in
      let t = same_rows s (as_classified (classified h' u' r')) in
      let (c, w) = report_follows s.report s.accepted.table_lent t s.accepted.table_lent in
      (ap Ok c, same_whole s.report t w)
