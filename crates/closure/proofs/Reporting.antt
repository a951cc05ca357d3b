-- The report of a settled deck: what was worked out, handed over to the lent buffers.
-- Assumes nothing.
use Prim.Native.Nat.{ℕ, ◌+◌, ◌*◌, ◌/◌, ◌<◌, ◌≤◌}
use native.Mathlib.Omega.{arith}
use native.Mathlib.Decide.{dec_lt}
use mathlib.Core.Path.{◌≡◌, sym, ◌∙◌, ap, subst}
use mathlib.Core.Bool.{true}
use mathlib.Core.Logic.{inl, inr}
use mathlib.Core.List.Permᴰ
use mathlib.Core.List.{List, map}
use lib.ListN.{length, get_or, take}
use lib.Seq.{get_or-take}
use borrow.Author.Tests.{eq-eqb, le-leb, lt-ltb}
use Rattle.semantics.specs.Concept.{Inclusion}
use Rattle.semantics.specs.Closure.{yes_bit}
use Rattle.semantics.specs.Limits.{number_limit, set_words}
use Rattle.semantics.specs.Row.{line_of, defeasible_kind, kind_of}
use Rattle.semantics.specs.Set.{has, cell}
use Rattle.semantics.specs.Outputs.{StrictTable, RankOrder}
use Rattle.semantics.proofs.Index.{mem_of}
use Rattle.semantics.proofs.Like.{perm_member, perm_length}
use Rattle.semantics.proofs.RankOrder.{precedes_raised}
use Rattle.normal.specs.Rules.{Deck, row_of, infinite}
use Rattle.pass.specs.Levels.{sets_to}
use Rattle.pass.specs.Passes.{Bounded}
use Rattle.pass.proofs.Sets.{sets_length, live_below}
use Rattle.answers.specs.Answers.{Answered}
use Rattle.copying.specs.Written.{Copied}
use Rattle.order.specs.Written.{places, RanksBelow, Ordered}
use Rattle.order.proofs.Places.{places_member}
use Rattle.buffers.specs.Buffers.{Buffers}
use Rattle.workspace.specs.declared.Counts.{Counts}
use Rattle.closure.specs.Contract.{ClosureReport}
use Rattle.buffers.specs.Writing.{WrittenOut}
use Rattle.workspace.specs.Steps.{WorkedOut}

-- ---- copies

copied_at : {n : ℕ} {source old new : List ℕ} → Copied n source old new → (i : ℕ) → i < n → get_or new i 0 ≡ get_or source i 0
copied_at {n} {source} {old} {new} c i lt =
    sym (get_or-take n new i 0 lt) ∙ ap (λ l. get_or l i 0) c.written ∙ get_or-take n source i 0 lt

cell_copied : {N : ℕ} {source old new : List ℕ} → Copied (set_words * N) source old new → (a b : ℕ) → a < N → b < 64 * set_words → cell set_words new a b ≡ cell set_words source a b
unfolding has
cell_copied c a b ha hb = rw (copied_at c ((64 * (set_words * a) + b) / 64) (omega arith))

table_copied : {N : ℕ} {T : List (Inclusion ℕ ℕ)} {source old new : List ℕ} → N ≤ number_limit → Copied (set_words * N) source old new → StrictTable N T source → StrictTable N T new
table_copied most c t = record {
  bit = λ a b ha hb. rw (cell_copied c a b ha (omega arith)) (t.bit a b ha hb);
  zeros = λ a b ha le hb. cell_copied c a b ha hb ∙ t.zeros a b ha le hb;
}

-- ---- ranks and levels

ranks_below : {N : ℕ} {words levels table answers : List ℕ} {k passes : ℕ} → Answered N words levels table k passes answers → Bounded words levels → RanksBelow k words levels
ranks_below {words = words} {levels} a b = record {
  each = λ i lt e. elim (dec_lt (get_or levels i 0) infinite) [
    | yes live ↦ inl (live_below a.ranked.levelled a.ranked.none_left i (lt, rw (eq-eqb (kind_of (get_or words i 0)) defeasible_kind e, le-leb 0 (get_or levels i 0) (omega arith), lt-ltb _ _ live)))
    | no most ↦ inr (omega (arith, b.each i lt))
  ];
}

-- The order by levels is one by ranks: a defeasible row's result is its level with the yes bit.
order_ranks : {words levels results old new : List ℕ} → Ordered words levels old new →
    ((i : ℕ) → i < length words → kind_of (get_or words i 0) ≡ defeasible_kind → get_or results i 0 ≡ yes_bit true + get_or levels i 0) →
    RankOrder (map line_of (map row_of words)) results (take (length (places words)) new)
order_ranks {words} {levels} {results} {old} {new} o by_level = record {
  once = o.once;
  sorted = λ i j lt h. let n : length first ≡ m = sym (perm_length o.once) in
      rw (get_or-take m new i 0 (omega arith), get_or-take m new j 0 (omega arith))
      (precedes_raised (yes_bit true) (at i (omega arith)) (at j (omega arith)) (o.sorted i j lt (omega arith)));
}
  where
    m : ℕ
    m = length (places words)

    first : List ℕ
    first = take m new

    at : (i : ℕ) → i < m → get_or results (get_or new i 0) 0 ≡ yes_bit true + get_or levels (get_or new i 0) 0
    at i lt =
        let d = places_member words (perm_member (Permᴰ.symm o.once) (mem_of 0 first i (omega (arith, perm_length o.once)))) in
        let p : d.index ≡ get_or new i 0 = omega (arith, d.is, get_or-take m new i 0 lt) in
        subst (λ q. get_or results q 0 ≡ yes_bit true + get_or levels q 0) p (by_level d.index d.within d.kind)

-- ---- the report

module _ {N : ℕ} {words strict₀ strict levels₀ levels answers₀ answers : List ℕ} {c : Counts} (w : WorkedOut N words strict₀ strict levels₀ levels answers₀ answers c) where
  pub worked_ranks : RanksBelow c.levels words levels
  worked_ranks = ranks_below w.answered w.bounded

  pub report : Deck N words → {before after : Buffers} → WrittenOut N words strict levels answers before after →
      ClosureReport (map row_of words) N (length words) before after c
  report deck h =
      let a = w.answered in
      record {
        closure = record {
          T* = a.ranked.T*;
          sets = sets_to words levels c.levels;
          passed = a.ranked.passed;
          level_count = sym (sets_length words levels c.levels);
          reported = rw h.reports.written a.answers;
        };
        yes_counted = rw h.reports.written w.yes_counted;
        strict_table = table_copied deck.numbers h.tables a.ranked.strict_table;
        rank_order = order_ranks h.ordered (λ i lt e. copied_at h.reports i lt ∙ a.by_level i lt e);
        table_kept = h.tables.rest_kept;
        results_kept = h.reports.rest_kept;
        order_kept = h.ordered.rest_kept;
        table_length = h.tables.length_kept;
        results_length = h.reports.length_kept;
        order_length = h.ordered.length_kept;
      }
