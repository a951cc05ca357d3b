-- The key of a settled text: what is written of it is the answer key of the text's own lines.
-- Assumes nothing.
use Prim.Native.Nat.{ℕ, ◌≤◌}
use native.Mathlib.Omega.{arith}
use mathlib.Core.Path.{◌≡◌, sym, ◌∙◌, ap}
use mathlib.Core.Bool.{Bool}
use mathlib.Core.List.Memᴰ
use mathlib.Core.List.{List, map, map-append}
use lib.ListN.{length, take, length-map, length-append}
use lib.Seq.{take-take, take_at}
use Rattle.semantics.specs.Closure.{strict_of, questions_of}
use Rattle.semantics.specs.Limits.{row_limit}
use Rattle.semantics.specs.Numbering.{no_names, number_lines}
use Rattle.semantics.specs.Replies.{AnswerKey, replies_in}
use Rattle.semantics.specs.Row.{pack, Below}
use Rattle.semantics.proofs.Counts.{normal_below}
use Rattle.semantics.proofs.Keys.{replies_first, key_of_closure, key_length}
use Rattle.semantics.proofs.Theorems.{reads_unique}
use Rattle.buffers.specs.Buffers.{Buffers}
use Rattle.workspace.specs.declared.Counts.{Counts}
use Rattle.grammar.proofs.AcceptsDecides.{lines_length}
use Rattle.compiler.specs.Contract.{NormalForm}
use Rattle.compiler.specs.declared.Sizes.{Sizes}
use Rattle.evaluator.specs.Contract.{BookEvaluated}
use Rattle.evaluator.proofs.Evaluating.{compile_accepted}
use Rattle.sheets.specs.Sheets.{answer_byte}
use Rattle.keys.specs.Key.{key_bytes, key_of}
use Rattle.keys.proofs.Keys.{key_lines}

-- the lines' own rows stand first
own_rows : {text deck₀ deck : List ℕ} {s : Sizes} (f : NormalForm text deck₀ deck s) → take s.lines deck ≡ map pack (number_lines f.lines no_names).line_rows
own_rows {deck} {s} f =
    let m = number_lines f.lines no_names in
    let count : length (map pack m.line_rows) ≡ s.lines = length-map m.line_rows pack ∙ lines_length f.lines no_names ∙ sym f.line_count in
    let few : s.lines ≤ s.rows = omega (arith, count, f.row_count, length-map m.line_rows pack, length-append m.line_rows m.definitions) in
    sym (take-take s.lines s.rows deck few) ∙ ap (take s.lines) (f.rows ∙ map-append pack m.line_rows m.definitions) ∙
    take_at (map pack m.line_rows) (map pack m.definitions) s.lines count

module _ {text deck₀ deck : List ℕ} {before after : Buffers} {s : Sizes} {c : Counts} (b : BookEvaluated text deck₀ deck before after s c) where
  -- the replies to the text's questions
  abbrev pub replies : List Bool
  replies = replies_in b.reported.lines (take s.lines after.results)

  pub few_lines : length b.reported.lines ≤ row_limit
  few_lines =
      let f = (compile_accepted b.compiled).form in
      omega (arith, f.within.rows, f.row_count, b.reported.behind, b.reported.count)

  pub replies_key : AnswerKey (strict_of b.reported.lines) b.reported.closure.T* b.reported.closure.sets b.reported.lines replies
  replies_key = key_of_closure b.reported.closure few_lines

  pub replies_count : length (map answer_byte replies) ≡ length (questions_of b.reported.lines)
  replies_count = length-map replies answer_byte ∙ key_length replies_key

  -- are what is written of them
  pub replies_written : key_of s.lines deck after.results ≡ map answer_byte replies
  replies_written =
      let f = (compile_accepted b.compiled).form in
      let t = b.reported in
      let m = number_lines f.lines no_names in
      let below : Below m.after.next (length m.after.roles) m.line_rows =
      record { each = λ q i. (normal_below f.lines).each q (Memᴰ.append_left m.definitions i) } in
      let same = reads_unique f.reads t.reads in
      let inside : length f.lines ≤ length after.results = omega (arith, f.line_count, t.behind, t.inside) in
      ap (λ words. key_bytes words after.results) (own_rows f) ∙
      key_lines (omega (arith, f.within.within.numbers)) (omega (arith, f.within.within.roles)) f.lines no_names below after.results inside ∙
      ap (map answer_byte) (ap (λ ls. replies_in ls after.results) same ∙ sym (replies_first t.lines after.results) ∙
      ap (λ n. replies_in t.lines (take n after.results)) (sym t.count))
