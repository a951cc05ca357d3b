-- From axioms to ranks and replies: the book that was converted, compiled and settled, gets what the axioms have by themselves. Assumes nothing.
use Prim.Native.Nat.{ℕ, ◌*◌, ◌≤◌}
use mathlib.Core.Path.{◌≡◌, sym, ◌∙◌, subst}
use mathlib.Core.List.{List, [], ◌++◌, append-nil}
use lib.ListN.{length, get_or, take}
use Rattle.semantics.specs.Closure.{Line, RationalClosure, yes_count}
use Rattle.semantics.specs.Limits.{answer_limit, set_words}
use Rattle.semantics.specs.Source.{Word, Reads}
use Rattle.semantics.proofs.Reading.{reads_unique}
use Rattle.buffers.specs.Buffers.{Buffers}
use Rattle.workspace.specs.declared.Counts.{Counts}
use Rattle.evaluator.specs.Contract.{TextClosure}
use Rattle.ontology.specs.Book.{lines_of, SameMeaning}
use Rattle.ontology.specs.Closure.{AxiomClosure}
use Rattle.ontology.proofs.Theorems.{book_means, book_reads, book_behind, book_closure}
use Rattle.converter.specs.Contract.{BookWritten}
use Rattle.engine.specs.Calls.{CompileCall, ClassifyCall}
use Rattle.engine.specs.Returned.{CallsGiveAxioms}
use Rattle.engine.proofs.Returning.{calls_closure}

module _ {input text₀ text : List ℕ} {size : ℕ} (b : BookWritten input text₀ text size) where
  -- what is written reads as the book's lines
  text_reads : Reads (take size text) (lines_of b.axioms)
  text_reads = subst (λ t. Reads t (lines_of b.axioms)) (sym b.written) (book_reads b.reads)

  pub text_means : Reads (take size text) (lines_of b.axioms) × SameMeaning b.axioms (lines_of b.axioms)
  text_means = (text_reads, book_means b.axioms)

  module _ {results : List ℕ} {line_count row_count : ℕ} {c : Counts} where
    -- the closure of a text whose lines are the book's and others
    closed_text : {whole : List ℕ} (behind : List (Line Word Word)) → Reads whole (lines_of b.axioms ++ behind) → TextClosure whole results line_count row_count c →
        AxiomClosure b.axioms behind c.levels c.passes c.yes (take line_count results)
    closed_text behind r t =
        let same = reads_unique t.reads r in
        let closure = subst (λ ls. RationalClosure ls c.levels c.passes (take line_count results)) same t.closure in
        let yes : yes_count (lines_of b.axioms ++ behind) (take line_count results) ≡ c.yes = sym (t.yes_counted ∙ rw same) in
        subst (λ n. AxiomClosure b.axioms behind c.levels c.passes n (take line_count results)) yes (book_closure b.axioms behind closure)

    pub axioms_closure : TextClosure (take size text) results line_count row_count c → AxiomClosure b.axioms [] c.levels c.passes c.yes (take line_count results)
    axioms_closure = closed_text [] (subst (Reads (take size text)) (sym (append-nil (lines_of b.axioms))) text_reads)

    pub behind_closure : {more : List ℕ} {behind : List (Line Word Word)} → Reads more behind → TextClosure (take size text ++ more) results line_count row_count c →
        AxiomClosure b.axioms behind c.levels c.passes c.yes (take line_count results)
    behind_closure {more} {behind} r = closed_text behind (subst (λ t. Reads (t ++ more) (lines_of b.axioms ++ behind)) (sym b.written) (book_behind b.reads r))

  pub axioms_calls : {more : List ℕ} {behind : List (Line Word Word)} {deck₀ deck answer₀ answer last₀ last : List ℕ} {before after : Buffers} {result : ℕ} → Reads more behind →
      CompileCall (take size text ++ more) deck₀ deck answer₀ answer 0 →
      set_words * get_or answer 2 0 ≤ length before.table → get_or answer 1 0 ≤ length before.results → get_or answer 1 0 ≤ length before.order →
      answer_limit ≤ length last₀ → ClassifyCall (take (get_or answer 1 0) deck) (get_or answer 2 0) (get_or answer 3 0) before after last₀ last result →
      CallsGiveAxioms b.axioms behind after.results answer last result
  axioms_calls r compiled t n o long settled =
      let c = calls_closure compiled t n o long settled in
      record { accepted = c.accepted; closure = behind_closure r c.reported }
