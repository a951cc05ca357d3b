-- What marking comes to, from what a sitting on copies and the marking by its key promise.
-- Assumes nothing.
use Prim.Native.Nat.{ℕ, ◌≤◌}
use native.Mathlib.Omega.{arith}
use mathlib.Core.Path.{◌≡◌, refl, sym, ◌∙◌, ap, ap₂, subst, subst₂}
use mathlib.Core.Bool.{Bool, true, false, true≢false}
use mathlib.Core.List.{List, ◌++◌, map}
use lib.ListN.{length, take, drop, take-append-drop}
use lib.Seq.{take_all, take-take}
use borrow.Author.Tests.{le-ltb, ltb-false}
use Rattle.semantics.specs.Closure.{questions_of}
use Rattle.semantics.specs.Limits.{row_limit, table_limit}
use Rattle.semantics.specs.Replies.{replies_in}
use Rattle.semantics.proofs.Tests.{neither}
use Rattle.semantics.proofs.Theorems.{reads_unique}
use Rattle.std.specs.Prelude.{Result, Ok, Err}
use Rattle.refusal.specs.declared.Refusal.{Refusal}
use Rattle.refusal.specs.declared.Refused.{Refused}
use Rattle.copying.specs.Written.{Copied}
use Rattle.buffers.specs.Buffers.{Buffers, buffers}
use Rattle.workspace.specs.declared.Counts.{Counts}
use Rattle.closure.specs.Contract.{Classified, classified}
use Rattle.closure.proofs.Longer.{longer}
use Rattle.grammar.specs.Accepted.{TextAcceptable}
use Rattle.compiler.specs.Refused.{BookRefused, long, short, author}
use Rattle.compiler.specs.declared.Sizes.{Sizes}
use Rattle.evaluator.specs.Contract.{LongEnough, BookEvaluated, Evaluated, refused as not_done, done}
use Rattle.evaluator.specs.declared.EvaluationCounts.{EvaluationCounts}
use Rattle.evaluator.proofs.Evaluating.{compile_accepted}
use Rattle.evaluator.proofs.Longer.{evaluated_longer}
use Rattle.evaluator.proofs.Theorems.{evaluate_accepts, evaluate_refuses}
use Rattle.sheets.specs.Sheets.{sheets_of, answer_byte, Scored}
use Rattle.sheets.specs.Refused.{ClassAcceptable, ClassRefused}
use Rattle.sheets.specs.declared.Totals.{Totals}
use Rattle.keys.specs.Key.{key_of}
use Rattle.marking.specs.Contract.{MarkRefused, of_sitting, of_class, Unchanged, Marked, refused, marked}
use Rattle.marking.specs.Steps.{is_short, AllCopied, Ready, MarkedByKey, refused as class_refused, finished}
use Rattle.marking.proofs.Settled.{replies, replies_key, replies_count, replies_written}

-- ---- what is lent

module _ (deck : List ℕ) (lent : Buffers) {b : Bool} (e : b ≡ is_short (length deck) (length lent.table) (length lent.results) (length lent.order)) where
  pub short_refused : b ≡ true → LongEnough deck lent → ⊥
  short_refused h l =
      true≢false (sym h ∙ e ∙ rw (le-ltb _ _ l.deck_long, le-ltb _ _ l.table_long, le-ltb _ _ l.results_long, le-ltb _ _ l.order_long) refl)

  pub long_enough : b ≡ false → LongEnough deck lent
  long_enough h =
      let (x, y) = neither _ _ (sym e ∙ h) in
      let (d, t) = neither _ _ x in
      let (r, o) = neither _ _ y in
      record { deck_long = ltb-false _ _ d; table_long = ltb-false _ _ t; results_long = ltb-false _ _ r; order_long = ltb-false _ _ o }

pub untouched : {deck report : List ℕ} {lent : Buffers} → Unchanged deck deck lent lent report report
untouched = record { deck_kept = refl; buffers_kept = refl; report_kept = refl }

-- ---- copies

-- Exactly as long as is copied.
pub record Exact (deck : List ℕ) (lent : Buffers) : Type 0 where
  pub deck_exact : length deck ≡ row_limit
  pub table_exact : length lent.table ≡ table_limit
  pub results_exact : length lent.results ≡ row_limit
  pub order_exact : length lent.order ≡ row_limit

pub exact_long : {deck : List ℕ} {lent : Buffers} → Exact deck lent → LongEnough deck lent
exact_long e = record {
  deck_long = omega (arith, e.deck_exact);
  table_long = omega (arith, e.table_exact);
  results_long = omega (arith, e.results_exact);
  order_long = omega (arith, e.order_exact);
}

-- A copy of that length is the first part of what is copied, and what it is copied back to begins with it.
copied_in : {n : ℕ} {source old new : List ℕ} → Copied n source old new → length old ≡ n → new ++ drop n source ≡ source
copied_in {n} {source} {old} {new} c e =
    ap (λ l. l ++ drop n source) (sym (take_all n new (omega (arith, c.length_kept))) ∙ c.written) ∙ take-append-drop n source

copied_out : {n : ℕ} {source old new : List ℕ} → Copied n source old new → length source ≡ n → source ++ drop n old ≡ new
copied_out {n} {source} {old} {new} c e =
    ap₂ ◌++◌ (sym (take_all n source (omega arith)) ∙ sym c.written) (sym c.rest_kept) ∙ take-append-drop n new

-- a sitting keeps the lengths
pub exact_after : {text deck₀ deck : List ℕ} {before after : Buffers} {s : Sizes} {c : Counts} → Exact deck₀ before → BookEvaluated text deck₀ deck before after s c → Exact deck after
exact_after {before} {after} x b =
    let l = lengths b.classified in
    record {
      deck_exact = (compile_accepted b.compiled).form.length_kept ∙ x.deck_exact;
      table_exact = l.0 ∙ x.table_exact;
      results_exact = l.1 ∙ x.results_exact;
      order_exact = l.2 ∙ x.order_exact;
    }
  where
    lengths : {words : List ℕ} {N R : ℕ} {c : Counts} → Classified words N R before after (Ok c) →
        (length after.table ≡ length before.table) × (length after.results ≡ length before.results) × (length after.order ≡ length before.order)
    lengths (classified h u p) = (p.table_length, p.results_length, p.order_length)

pub exact_copies : {deck₀ zeros rows : List ℕ} {before empty source : Buffers} → AllCopied deck₀ before zeros rows empty source → Exact zeros empty → Exact rows source
exact_copies to e = record {
  deck_exact = to.deck_copied.length_kept ∙ e.deck_exact;
  table_exact = to.table_copied.length_kept ∙ e.table_exact;
  results_exact = to.results_copied.length_kept ∙ e.results_exact;
  order_exact = to.order_copied.length_kept ∙ e.order_exact;
}

-- what is lent behind that
abbrev behind : Buffers → Buffers
behind lent = buffers (drop table_limit lent.table) (drop row_limit lent.results) (drop row_limit lent.order)

-- A sitting on copies of what is lent, copied back, is a sitting on what is lent.
pub sitting_lent : {text deck₀ deck zeros rows₀ rows : List ℕ} {before after empty source₀ source : Buffers} {s : Sizes} {c : Counts} →
    AllCopied deck₀ before zeros rows₀ empty source₀ → Exact zeros empty → AllCopied rows source deck₀ deck before after →
    BookEvaluated text rows₀ rows source₀ source s c → BookEvaluated text deck₀ deck before after s c
sitting_lent {text} {deck₀} {deck} {rows₀} {rows} {before} {after} {source₀} {source} {s} {c} to e from b =
    let x = exact_after (exact_copies to e) b in
    let deck-in = copied_in to.deck_copied e.deck_exact in
    let deck-out = copied_out from.deck_copied x.deck_exact in
    let all_in : longer source₀ (behind before) ≡ before = λ i. record {
      table = copied_in to.table_copied e.table_exact i;
      results = copied_in to.results_copied e.results_exact i;
      order = copied_in to.order_copied e.order_exact i;
    } in
    let all_out : longer source (behind before) ≡ after = λ i. record {
      table = copied_out from.table_copied x.table_exact i;
      results = copied_out from.results_copied x.results_exact i;
      order = copied_out from.order_copied x.order_exact i;
    } in
    subst₂ (λ d d'. BookEvaluated text d d' before after s c) deck-in deck-out
    (subst₂ (λ l l'. BookEvaluated text (rows₀ ++ drop row_limit deck₀) (rows ++ drop row_limit deck₀) l l' s c) all_in all_out
    (evaluated_longer (drop row_limit deck₀) (behind before) b))

-- ---- refused by the sitting

sitting_refused : {text rows deck : List ℕ} {source lent : Buffers} {p : ℕ} {why : Refusal} → LongEnough rows source → LongEnough deck lent →
    BookRefused (LongEnough rows source) text p why → BookRefused (LongEnough deck lent) text p why
sitting_refused here there (long l k) = long l k
sitting_refused here there (short l n k) = absurd (n here)
sitting_refused here there (author l e t) = author l there t

pub mark_refused : {text sheets deck rows₀ rows : List ℕ} {lent source₀ source : Buffers} {room : ℕ} {e : Refused} → LongEnough rows₀ source₀ → LongEnough deck lent →
    Evaluated text rows₀ rows source₀ source (Err e) → MarkRefused text sheets deck lent room e.place e.why
mark_refused {text} {rows₀} {source₀} {e} here there (not_done h d k) =
    of_sitting (sitting_refused here there ((evaluate_refuses text rows₀ source₀ e.place e.why).0 h))

-- ---- settled

-- a sitting that is done accepts the text
evaluated_done : {text rows₀ rows : List ℕ} {source₀ source : Buffers} {n : EvaluationCounts} → Evaluated text rows₀ rows source₀ source (Ok n) →
    TextAcceptable text × BookEvaluated text rows₀ rows source₀ source n.sizes n.counts
evaluated_done {text} {rows₀} {source₀} (done h b) = (((evaluate_accepts text rows₀ source₀).0 h).0, b)

-- it keeps the lengths, and has no more lines than there is room for rows
module _ {text rows₀ rows : List ℕ} {source₀ source : Buffers} {n : EvaluationCounts} (x : Exact rows₀ source₀) (ev : Evaluated text rows₀ rows source₀ source (Ok n)) where
  done_exact : Exact rows source
  done_exact = exact_after x (evaluated_done ev).1

  pub done_ready : {deck : List ℕ} {lent : Buffers} → LongEnough deck lent → Ready n.sizes.lines rows source deck lent
  done_ready there =
      let t = (evaluated_done ev).1.reported in
      record { few = omega (arith, t.behind, t.inside, done_exact.results_exact); from = exact_long done_exact; to = there }

-- what is the same among the first m is the same among the first n
first_fewer : (n m : ℕ) (l k : List ℕ) → n ≤ m → take m l ≡ take m k → take n l ≡ take n k
first_fewer n m l k le e = sym (take-take n m l le) ∙ ap (take n) e ∙ take-take n m k le

pub mark_done : {text sheets deck₀ deck zeros rows₀ rows report₀ report : List ℕ} {before after empty source₀ source : Buffers} {n : EvaluationCounts} {a : Result Totals Refused} →
    AllCopied deck₀ before zeros rows₀ empty source₀ → Exact zeros empty → LongEnough deck₀ before → Evaluated text rows₀ rows source₀ source (Ok n) →
    MarkedByKey (key_of n.sizes.lines rows source.results) sheets rows source deck₀ deck before after report₀ report a →
    Marked text sheets deck₀ deck before after report₀ report a
mark_done {text} {sheets} {deck₀} {deck} {rows₀} {rows} {report₀} {report} {before} {after} {source₀} {source} {n} to x there ev f =
    let (book, b) = evaluated_done ev in go book b f
  where
    -- the key has a reply for each question of the text
    questions : (book : TextAcceptable text) (b : BookEvaluated text rows₀ rows source₀ source n.sizes n.counts) →
        length (key_of n.sizes.lines rows source.results) ≡ length (questions_of book.lines)
    questions book b = ap length (replies_written b) ∙ replies_count b ∙ ap (λ ls. length (questions_of ls)) (reads_unique b.reported.reads book.reads)

    go : {a : Result Totals Refused} (book : TextAcceptable text) (b : BookEvaluated text rows₀ rows source₀ source n.sizes n.counts) →
        MarkedByKey (key_of n.sizes.lines rows source.results) sheets rows source deck₀ deck before after report₀ report a →
        Marked text sheets deck₀ deck before after report₀ report a
    go book b (class_refused {e} r u) = refused (of_class book there (subst (λ q. ClassRefused q (sheets_of sheets) (length report₀) e.place e.why) (questions book b) r)) u
    go book b (finished {t} acc from scored) =
        let lent = sitting_lent to x from b in
        let few : n.sizes.lines ≤ row_limit = omega (arith, b.reported.behind, b.reported.inside, (exact_after (exact_copies to x) b).results_exact) in
        let first = first_fewer n.sizes.lines row_limit source.results after.results few (sym from.results_copied.written) in
        let same : key_of n.sizes.lines rows source.results ≡ map answer_byte (replies lent) =
        replies_written b ∙ ap (map answer_byte) (ap₂ replies_in (reads_unique b.reported.reads lent.reported.reads) first) in
        marked
        record { book = book; long_enough = there; class = subst (λ q. ClassAcceptable q (sheets_of sheets) (length report₀)) (questions book b) acc }
        record {
          sizes = n.sizes;
          counts = n.counts;
          sitting = lent;
          key = replies lent;
          replies = replies_key lent;
          scored = subst (λ k. Scored k (sheets_of sheets) report₀ report t) same scored;
        }
