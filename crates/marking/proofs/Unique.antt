-- What `mark` leaves is determined by what it was given.
--     mark_unique     by the text, the sheets and what is lent: all of it
--     mark_outcome    by the text, the sheets and the lengths of what is lent: the answer
--     mark_follows    by the text and the sheets alone: all that is written, where nothing is refused
-- Assumes nothing.
use Prim.Native.Nat.{ℕ, ◌*◌}
use native.Mathlib.Omega.{arith}
use mathlib.Core.Path.{◌≡◌, sym, ◌∙◌, ap, subst, subst₂}
use mathlib.Core.Bool.{Bool}
use mathlib.Core.List.{List, ◌++◌, map}
use lib.ListN.{length, take, drop}
use lib.Seq.{take_at}
use Rattle.semantics.specs.Closure.{Line, strict_of, questions_of, RationalClosure}
use Rattle.semantics.specs.Limits.{score_size}
use Rattle.semantics.specs.Replies.{AnswerKey}
use Rattle.semantics.proofs.Keys.{key_unique}
use Rattle.semantics.proofs.Theorems.{closure_sets, reads_unique}
use Rattle.std.specs.Prelude.{Result, Ok, Err}
use Rattle.refusal.specs.declared.Refusal.{Refusal}
use Rattle.refusal.specs.declared.Refused.{Refused}
use Rattle.buffers.specs.Buffers.{Buffers}
use Rattle.closure.specs.Same.{SameBuffers}
use Rattle.closure.proofs.Unique.{same_kept}
use Rattle.compiler.specs.Refused.{BookRefused, long, short, author}
use Rattle.evaluator.specs.Contract.{LongEnough, BookEvaluated, done}
use Rattle.evaluator.specs.Same.{SameEvaluation}
use Rattle.evaluator.proofs.Theorems.{evaluate_accepts, evaluated_unique, evaluated_follows}
use Rattle.sheets.specs.Sheets.{sheets_of, answer_byte, right_count, wrong_count, scores_of, total}
use Rattle.sheets.specs.Refused.{ClassRefused}
use Rattle.sheets.specs.declared.Totals.{Totals}
use Rattle.sheets.proofs.Scores.{scores_length}
use Rattle.marking.specs.Contract.{MarkAcceptable, MarkRefused, of_sitting, of_class, ClassMarked, Marked, refused, marked}
use Rattle.marking.specs.Same.{SameLengths, SameMarking}
use Rattle.marking.proofs.Deciding.{mark_exclusive, mark_one}

-- ---- one key

-- closures of the same lines have the same T* and sets, and so one key
module _ {A R : Type 0} {lines : List (Line A R)} {levels passes : ℕ} {results : List ℕ} (s : RationalClosure lines levels passes results) {key : List Bool}
    (k : AnswerKey (strict_of lines) s.T* s.sets lines key) where
  abbrev OneKey : List (Line A R) → Type 0
  OneKey ls = (levels' passes' : ℕ) (results' : List ℕ) (key' : List Bool) (s' : RationalClosure ls levels' passes' results') →
      AnswerKey (strict_of ls) s'.T* s'.sets ls key' → key ≡ key'

  one_key_here : OneKey lines
  one_key_here _ _ _ key' s' k' =
      let (t, e) = closure_sets s s' in
      key_unique k (subst₂ (λ T sets. AnswerKey (strict_of lines) T sets lines key') (sym t) (sym e) k')

  one_key : {ls : List (Line A R)} → lines ≡ ls → OneKey ls
  one_key e = subst OneKey e one_key_here

module _ {text sheets deck₀ deck deck₁ deck' : List ℕ} {before after before' after' : Buffers} {report₀ report report₁ report' : List ℕ} {t t' : Totals}
    (m : ClassMarked text sheets deck₀ deck before after report₀ report t) (m' : ClassMarked text sheets deck₁ deck' before' after' report₁ report' t') where
  same_key : m.key ≡ m'.key
  same_key =
      let here = m.sitting.reported in
      let there = m'.sitting.reported in
      one_key here.closure m.replies (reads_unique here.reads there.reads) _ _ _ _ there.closure m'.replies

  pub same_totals : t ≡ t'
  same_totals =
      let keys = ap (map answer_byte) same_key in
      let right = m.scored.right_total ∙ ap (λ k. total (right_count k) (sheets_of sheets)) keys ∙ sym m'.scored.right_total in
      let wrong = m.scored.wrong_total ∙ ap (λ k. total (wrong_count k) (sheets_of sheets)) keys ∙ sym m'.scored.wrong_total in
      λ i. record { right = right i; wrong = wrong i }

  same_scores : take (score_size * length (sheets_of sheets)) report ≡ take (score_size * length (sheets_of sheets)) report'
  same_scores = first m ∙ ap (λ k. scores_of (map answer_byte k) (sheets_of sheets)) same_key ∙ sym (first m')
    where
      first : {d₀ d : List ℕ} {b a : Buffers} {r₀ r : List ℕ} {t : Totals} (m : ClassMarked text sheets d₀ d b a r₀ r t) →
          take (score_size * length (sheets_of sheets)) r ≡ scores_of (map answer_byte m.key) (sheets_of sheets)
      first {r₀} m =
          let scores = scores_of (map answer_byte m.key) (sheets_of sheets) in
          ap (take (score_size * length (sheets_of sheets))) m.scored.written ∙
          take_at scores (drop (length scores) r₀) (score_size * length (sheets_of sheets)) (scores_length (map answer_byte m.key) (sheets_of sheets))

  pub same_marking : MarkAcceptable text sheets deck₀ before (length report₀) → MarkAcceptable text sheets deck₁ before' (length report₁) →
      SameMarking text sheets deck₀ deck deck₁ deck' before after before' after' report report' t t'
  same_marking a a' =
      let e = evaluated_follows
      (done {n = record { sizes = m.sizes; counts = m.counts }} ((evaluate_accepts text deck₀ before).1 (a.book, a.long_enough)) m.sitting)
      (done {n = record { sizes = m'.sizes; counts = m'.counts }} ((evaluate_accepts text deck₁ before').1 (a'.book, a'.long_enough)) m'.sitting) in
      record {
        same_totals = same_totals;
        first_scores = same_scores;
        sizes = m.sizes;
        counts = m.counts;
        sitting = m.sitting;
        sitting' = subst₂ (BookEvaluated text deck₁ deck' before' after') (sym e.same_sizes) (sym e.same_counts) m'.sitting;
        same_sitting = subst₂ (λ s c. SameEvaluation text deck deck' after after' m.sizes s m.counts c) (sym e.same_sizes) (sym e.same_counts) e;
      }

-- ---- one outcome

module _ {text sheets deck₀ deck deck' : List ℕ} {before after after' : Buffers} {report₀ report report' : List ℕ} where
  pub mark_unique : {a a' : Result Totals Refused} → Marked text sheets deck₀ deck before after report₀ report a → Marked text sheets deck₀ deck' before after' report₀ report' a' →
      (a ≡ a') × (deck ≡ deck') × SameBuffers after after' × (report ≡ report')
  mark_unique (refused r u) (refused r' u') =
      let (w, p) = mark_one r r' in
      ((λ i. Err (record { why = w i; place = p i })), u.deck_kept ∙ sym u'.deck_kept, same_kept u.buffers_kept u'.buffers_kept, u.report_kept ∙ sym u'.report_kept)
  mark_unique (refused r u) (marked a m) = absurd (mark_exclusive a r)
  mark_unique (marked a m) (refused r u) = absurd (mark_exclusive a r)
  mark_unique (marked a m) (marked a' m') =
      let free = (evaluate_accepts text deck₀ before).1 (a.book, a.long_enough) in
      let (e, d, b) = evaluated_unique
      (done {n = record { sizes = m.sizes; counts = m.counts }} free m.sitting) (done {n = record { sizes = m'.sizes; counts = m'.counts }} free m'.sitting) in (
        ap Ok (same_totals m m'),
        d,
        b,
        m.scored.written ∙ ap (λ k. scores_of (map answer_byte k) (sheets_of sheets) ++ drop (length (scores_of (map answer_byte k) (sheets_of sheets))) report₀) (same_key m m') ∙
            sym m'.scored.written,
      )

-- ---- whatever was lent

-- as much is lent here as there
enough : {deck deck' report report' : List ℕ} {lent lent' : Buffers} → SameLengths deck deck' lent lent' report report' → LongEnough deck lent → LongEnough deck' lent'
enough s e = record {
  deck_long = omega (arith, s.decks, e.deck_long);
  table_long = omega (arith, s.tables, e.table_long);
  results_long = omega (arith, s.results, e.results_long);
  order_long = omega (arith, s.orders, e.order_long);
}

same_back : {deck deck' report report' : List ℕ} {lent lent' : Buffers} → SameLengths deck deck' lent lent' report report' → SameLengths deck' deck lent' lent report' report
same_back s = record { decks = sym s.decks; tables = sym s.tables; results = sym s.results; orders = sym s.orders; reports = sym s.reports }

book_there : {text deck deck' report report' : List ℕ} {lent lent' : Buffers} {p : ℕ} {why : Refusal} → SameLengths deck deck' lent lent' report report' →
    BookRefused (LongEnough deck lent) text p why → BookRefused (LongEnough deck' lent') text p why
book_there s (long l k) = long l k
book_there s (short l n k) = short l (λ e. n (enough (same_back s) e)) k
book_there s (author l e t) = author l (enough s e) t

refused_there : {text sheets deck deck' report report' : List ℕ} {lent lent' : Buffers} {p : ℕ} {why : Refusal} → SameLengths deck deck' lent lent' report report' →
    MarkRefused text sheets deck lent (length report) p why → MarkRefused text sheets deck' lent' (length report') p why
refused_there s (of_sitting b) = of_sitting (book_there s b)
refused_there {sheets} {p} {why} s (of_class book l c) =
    of_class book (enough s l) (subst (λ n. ClassRefused (length (questions_of book.lines)) (sheets_of sheets) n p why) s.reports c)

module _ {text sheets deck₀ deck deck₁ deck' : List ℕ} {before after before' after' : Buffers} {report₀ report report₁ report' : List ℕ} where
  pub mark_outcome : {a a' : Result Totals Refused} → SameLengths deck₀ deck₁ before before' report₀ report₁ →
      Marked text sheets deck₀ deck before after report₀ report a → Marked text sheets deck₁ deck' before' after' report₁ report' a' → a ≡ a'
  mark_outcome s (refused r u) (refused r' u') = let (w, p) = mark_one (refused_there s r) r' in λ i. Err (record { why = w i; place = p i })
  mark_outcome s (refused r u) (marked a m) = absurd (mark_exclusive a (refused_there s r))
  mark_outcome s (marked a m) (refused r u) = absurd (mark_exclusive a (refused_there (same_back s) r))
  mark_outcome s (marked a m) (marked a' m') = ap Ok (same_totals m m')

  pub mark_follows : {t t' : Totals} → Marked text sheets deck₀ deck before after report₀ report (Ok t) → Marked text sheets deck₁ deck' before' after' report₁ report' (Ok t') →
      SameMarking text sheets deck₀ deck deck₁ deck' before after before' after' report report' t t'
  mark_follows (marked a m) (marked a' m') = same_marking m m' a a'
