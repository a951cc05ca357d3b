-- What is lent beyond what a sitting asks plays no part, and is kept: its promise holds of longer buffers, with the same rest behind each at entry and at exit.
-- Assumes nothing.
use Prim.Native.Nat.{ℕ, ◌-◌}
use native.Mathlib.Omega.{arith}
use mathlib.Core.Path.{sym, ◌∙◌, ap, subst}
use mathlib.Core.List.{List, ◌++◌}
use lib.ListN.{take, drop, length-append, length-drop}
use lib.Seq.{take-append-le, drop-append-le}
use Rattle.std.specs.Prelude.{Ok}
use Rattle.semantics.specs.Closure.{strict_of, Results, yes_count}
use Rattle.buffers.specs.Buffers.{Buffers}
use Rattle.workspace.specs.declared.Counts.{Counts}
use Rattle.closure.specs.Contract.{Classified}
use Rattle.closure.proofs.Longer.{longer, classified_longer}
use Rattle.compiler.specs.declared.Sizes.{Sizes}
use Rattle.compiler.proofs.Longer.{rows_inside, compiled_longer}
use Rattle.evaluator.specs.Contract.{TextClosure, BookEvaluated}
use Rattle.evaluator.proofs.Evaluating.{compile_accepted}

text_longer : {text results : List ℕ} {line_count row_count : ℕ} {c : Counts} (rest : List ℕ) → TextClosure text results line_count row_count c →
    TextClosure text (results ++ rest) line_count row_count c
text_longer {results} {line_count} {row_count} rest t =
    let first = sym (take-append-le line_count results rest (omega (arith, t.behind, t.inside))) in
    let s = t.closure in
    record {
      lines = t.lines;
      reads = t.reads;
      count = t.count;
      closure = record {
        T* = s.T*;
        sets = s.sets;
        passed = s.passed;
        level_count = s.level_count;
        reported = subst (Results (strict_of t.lines) s.T* s.sets t.lines) first s.reported;
      };
      yes_counted = t.yes_counted ∙ ap (yes_count t.lines) first;
      definitions =
          ap (take (row_count - line_count)) (drop-append-le line_count results rest (omega (arith, t.behind, t.inside))) ∙
          take-append-le (row_count - line_count) (drop line_count results) rest (omega (arith, length-drop line_count results, t.inside)) ∙ t.definitions;
      behind = t.behind;
      inside = omega (arith, t.inside, length-append results rest);
    }

pub evaluated_longer : {text deck₀ deck : List ℕ} {before after : Buffers} {s : Sizes} {c : Counts} (rows : List ℕ) (rest : Buffers) →
    BookEvaluated text deck₀ deck before after s c → BookEvaluated text (deck₀ ++ rows) (deck ++ rows) (longer before rest) (longer after rest) s c
evaluated_longer {deck} {before} {after} {s} {c} rows rest b = record {
  compiled = compiled_longer rows b.compiled;
  classified =
      subst (λ l. Classified l s.numbers s.roles (longer before rest) (longer after rest) (Ok c))
      (sym (take-append-le s.rows deck rows (rows_inside (compile_accepted b.compiled).form))) (classified_longer rest b.classified);
  reported = text_longer rest.results b.reported;
}
