-- What an evaluation comes to, from what compiling and settling promise.
-- Assumes nothing.
use Prim.Native.Nat.{ℕ, ◌<◌, ◌≤◌}
use native.Mathlib.Omega.{arith}
use native.Mathlib.Decide.{dec_le}
use mathlib.Core.Path.{◌≡◌, sym, ◌∙◌, subst}
use mathlib.Core.Bool.{Bool, true, false, ◌||◌, true≢false}
use mathlib.Core.Option.{none, some}
use mathlib.Core.List.{List}
use mathlib.Core.Logic.{◌↔◌}
use lib.ListN.{length, take}
use lib.Dec.{ltb}
use borrow.Author.Tests.{lt-ltb, le-ltb, ltb-false}
use Rattle.std.specs.Prelude.{Result, Ok, Err}
use Rattle.semantics.specs.Limits.{text_limit, row_limit, table_limit}
use Rattle.semantics.proofs.Tests.{cases, neither}
use Rattle.refusal.specs.declared.Refusal.{Refusal}
use Rattle.refusal.specs.declared.Refusal.TheVariants.{TextTooLong, BufferTooShort}
use Rattle.refusal.specs.declared.Refused.{Refused}
use Rattle.closure.specs.Contract.{Classified}
use Rattle.buffers.specs.Buffers.{Buffers}
use Rattle.workspace.specs.declared.Counts.{Counts}
use Rattle.compiler.specs.Contract.{compile_refusal, NormalForm, Compiled, refused as compileRefused, accepted}
use Rattle.compiler.specs.Refused.{BookRefused}
use Rattle.compiler.specs.declared.Sizes.{Sizes}
use Rattle.compiler.proofs.Refusing.{InOrder, in_order_accepts, in_order_refuses}
use Rattle.compiler.proofs.Compiling.{compile_order}
use Rattle.grammar.specs.Accepted.{TextAcceptable}
use Rattle.evaluator.specs.Contract.{TextClosure, GivesClosure, LongEnough, evaluate_refusal, BookEvaluated}
use Rattle.evaluator.proofs.TextClosure.{normal_closure}

-- ---- refusals

-- a buffer beside the deck is too short
abbrev pub short : Buffers → Bool
short lent = ltb (length lent.table) table_limit || (ltb (length lent.results) row_limit || ltb (length lent.order) row_limit)

module _ (text deck : List ℕ) (lent : Buffers) where
  pub refused_long : text_limit < length text → evaluate_refusal text deck lent ≡ some (TextTooLong, 0)
  unfolding evaluate_refusal
  refused_long h = rw (lt-ltb text_limit (length text) h)

  pub refused_short : length text ≤ text_limit → short lent ≡ true → evaluate_refusal text deck lent ≡ some (BufferTooShort, 0)
  unfolding evaluate_refusal
  refused_short h e = rw (le-ltb text_limit (length text) h, e)

  pub refused_later : length text ≤ text_limit → short lent ≡ false → evaluate_refusal text deck lent ≡ compile_refusal text (length deck)
  unfolding evaluate_refusal
  refused_later h e = rw (le-ltb text_limit (length text) h, e)

  not_short : short lent ≡ false → row_limit ≤ length deck → LongEnough deck lent
  not_short h d =
      let (t, rest) = neither _ _ h in
      let (r, o) = neither _ _ rest in
      record { deck_long = d; table_long = ltb-false _ _ t; results_long = ltb-false _ _ r; order_long = ltb-false _ _ o }

  long_not_short : LongEnough deck lent → short lent ≡ false
  long_not_short e = rw (le-ltb _ _ e.table_long, le-ltb _ _ e.results_long, le-ltb _ _ e.order_long)

  long_enough : Dec (LongEnough deck lent)
  long_enough = elim (dec_le row_limit (length deck)) [
    | yes d ↦ cases (short lent) (λ t. no (λ e. absurd (true≢false (sym t ∙ long_not_short e)))) (λ f. yes (not_short f d))
    | no n ↦ no (λ e. n e.deck_long)
  ]

  -- first the text's length, then the buffers', then the reader
  evaluate_order : InOrder (LongEnough deck lent) text (evaluate_refusal text deck lent)
  evaluate_order = record {
    first = refused_long;
    second = λ l n. cases (short lent) (refused_short l) (λ f. refused_later l f ∙ (compile_order text (length deck)).second l (λ d. n (not_short f d)));
    third = λ l e. refused_later l (long_not_short e) ∙ (compile_order text (length deck)).third l e.deck_long;
  }

  pub evaluate_accepts : (evaluate_refusal text deck lent ≡ none) ↔ (TextAcceptable text × LongEnough deck lent)
  evaluate_accepts = in_order_accepts evaluate_order long_enough

  pub evaluate_refuses : (p : ℕ) (why : Refusal) → (evaluate_refusal text deck lent ≡ some (why, p)) ↔ BookRefused (LongEnough deck lent) text p why
  evaluate_refuses = in_order_refuses evaluate_order long_enough

-- ---- compiling

pub record Refuses (text deck₀ deck : List ℕ) (e : Refused) : Type 0 where
  pub why : compile_refusal text (length deck₀) ≡ some (e.why, e.place)
  pub kept : deck ≡ deck₀

pub record Accepts (text deck₀ deck : List ℕ) (s : Sizes) : Type 0 where
  pub free : compile_refusal text (length deck₀) ≡ none
  pub form : NormalForm text deck₀ deck s

pub compile_refused : {text deck₀ deck : List ℕ} {e : Refused} → Compiled text deck₀ deck (Err e) → Refuses text deck₀ deck e
compile_refused (compileRefused h k) = record { why = h; kept = k }

pub compile_accepted : {text deck₀ deck : List ℕ} {s : Sizes} → Compiled text deck₀ deck (Ok s) → Accepts text deck₀ deck s
compile_accepted (accepted h n) = record { free = h; form = n }

-- ---- settling

rows_few : {text deck₀ deck : List ℕ} {s : Sizes} → Accepts text deck₀ deck s → s.rows ≤ row_limit
rows_few a = omega (arith, a.form.row_count, a.form.within.rows)

-- where a sitting is not refused, the buffers are long enough for the rows
gives_closure : {text deck₀ deck : List ℕ} {before after : Buffers} {s : Sizes} {b : Result Counts Refused} → evaluate_refusal text deck₀ before ≡ none →
    Accepts text deck₀ deck s → Classified (take s.rows deck) s.numbers s.roles before after b → GivesClosure text after.results s b
gives_closure {text} {deck₀} {before} free a =
    let long = ((evaluate_accepts text deck₀ before).0 free).1 in
    normal_closure a.form
    (omega (arith, long.table_long, a.form.number_count, a.form.within.within.numbers)) (omega (arith, long.results_long, rows_few a)) (omega (arith, long.order_long, rows_few a))

pub same_counts : {c d : Counts} → ◌≡◌ {A = Result Counts Refused} (Ok c) (Ok d) → c ≡ d
same_counts e = cc

pub evaluated : {text deck₀ deck : List ℕ} {before after : Buffers} {s : Sizes} {c : Counts} → Accepts text deck₀ deck s →
    evaluate_refusal text deck₀ before ≡ none → Classified (take s.rows deck) s.numbers s.roles before after (Ok c) → BookEvaluated text deck₀ deck before after s c
evaluated {text} {after} {s} a free cl =
    let r = gives_closure free a cl in
    record {
      compiled = accepted a.free a.form;
      classified = cl;
      reported = subst (TextClosure text after.results s.lines s.rows) (sym (same_counts r.answer)) r.reported;
    }

-- so settling refuses nothing there
pub never_refused : {text deck₀ deck : List ℕ} {before after : Buffers} {s : Sizes} {e : Refused} → Accepts text deck₀ deck s →
    evaluate_refusal text deck₀ before ≡ none → Classified (take s.rows deck) s.numbers s.roles before after (Err e) → ⊥
never_refused {e} a free cl =
    let r = gives_closure free a cl in
    let never : ◌≡◌ {A = Result Counts Refused} (Err e) (Ok r.counts) = r.answer in
    absurd cc
