-- Refusal 3 at p: the byte at p can't stand behind those before it, and where the text ends at p, it is the text of no lines.
-- (That the bytes before p begin the text of lines within the limits is the other half of `SyntaxAt`.)
-- The reader of a text follows the automaton, which so dies at p. The automaton takes every text of lines, and where it dies depends on no byte behind p.
-- Assumes nothing.
use Prim.Native.Nat.{ℕ, zero, suc, ◌+◌, ◌<◌, ◌≤◌}
use native.Mathlib.Omega.{arith}
use native.Mathlib.Numerals.{add-one}
use mathlib.Core.Path.{◌≡◌, refl, sym, ◌∙◌}
use mathlib.Core.Bool.{cond}
use mathlib.Core.Option.{some, none-ne-some}
use mathlib.Core.List.{List, [], ◌∷◌}
use lib.ListN.{length, take, drop}
use lib.Dec.{eqb, leb, ltb}
use borrow.Author.Tests.{leb-false}
use Rattle.semantics.proofs.Tests.{cases}
use Rattle.semantics.specs.Closure.{Line}
use Rattle.semantics.specs.Limits.{text_limit, depth_limit, row_limit}
use Rattle.semantics.specs.Source.{Word, Reads}
use Rattle.refusal.specs.declared.Refusal.TheVariants.{SyntaxError}
use Rattle.words.specs.Bytes.{byte_at, is_line_end}
use Rattle.source.specs.Lines.{line_kind, read_line, read_lines, definitions, within_rows, read_text, read_letter}
use Rattle.names.specs.Names.{no_numbers, refuse, read_to, onward, and_then}
use Rattle.forms.specs.Opened.{after_space}
use Rattle.concepts.specs.Reader.{read_sides, read_concept}
use Rattle.names.specs.State.{State, Ending}
use Rattle.std.specs.Prelude.{Ok, Err}
use Rattle.grammar.specs.ViablePrefix.{ViablePrefix}
use Rattle.grammar.proofs.AutomatonTakes.{writes_taken}
use Rattle.grammar.proofs.AutomatonFollowed.{Follows, follows_on, follows_then, follows_space, follows_sides, follows_concept}
use Rattle.grammar.proofs.Automaton.{concept, space, line_end, step, dies, dies_inside, dies_at, byte_taken, dies_local}
use Rattle.grammar.proofs.ReaderCases.{onward_lines_cases}

-- ---- lines

module _ (text : List ℕ) where
  follows_end : (names : State) (kind end : ℕ) → end ≤ length text →
      Follows text (line_end ∷ []) end [] (cond (is_line_end (byte_at text end)) (read_to names kind (end + 1)) (refuse names SyntaxError end)).step
  unfolding step
  follows_end names kind end i = cases (is_line_end (byte_at text end))
      (λ e. rw e (byte_taken text end line_end [] [] (rw e)))
      (λ e. rw e (λ w. (i, dies_at text end line_end [] ∙ rw e)))

  follows_line : (names : State) (at : ℕ) → at < length text → Follows text [] at [] (read_line text names at).step
  unfolding read_line read_letter onward step
  follows_line names at i =
      let kind = line_kind (byte_at text at) in
      let inner = read_concept depth_limit text in
      let more : State → ℕ → ℕ → Ending = λ t x end. cond (is_line_end (byte_at text end)) (read_to t kind (end + 1)) (refuse t SyntaxError end) in
      let rest : ℕ → Ending = λ start. and_then (read_sides inner text names start 0) more in
      let due = concept ∷ space ∷ concept ∷ line_end ∷ [] in
      cases (eqb kind 0)
      (λ e. rw e (λ w. (omega arith, dies_inside text at [] i ∙ rw e)))
      (λ e. rw e (follows_on text [] (space ∷ due) [] at (at + 1) (after_space text names (at + 1) rest).step
      (dies_inside text at [] i ∙ rw e)
      (follows_space text due [] names (at + 1) rest (omega arith)
      (λ j. follows_then text due (line_end ∷ []) [] (at + 1 + 1) (read_sides inner text names (at + 1 + 1) 0) more
      (follows_sides text inner (follows_concept text depth_limit) line_end [] names (at + 1 + 1) 0 j)
      (λ names number end k. follows_end names kind end k)))))

  follows_lines : (steps : ℕ) (names : State) (at lines : ℕ) → at ≤ length text → Follows text [] at [] (read_lines steps text names at lines).reading.step
  unfolding read_lines
  follows_lines zero names at lines i = (i, refl)
  follows_lines (suc steps) names at lines i = cases (leb (length text) at)
      (λ e. rw e (i, refl))
      (λ e.
      let line : Follows text [] at [] (read_line text names at).step = follows_line names at (leb-false (length text) at e) in
      rw e (onward_lines_cases (λ b. Follows text [] at [] b.reading.step) (read_line text names at) (λ names kind next. read_lines steps text names next (lines + 1))
      (λ kind next f.
      let h : Follows text [] at [] (Ok (kind, next)) = rw f at line in
      follows_on text [] [] [] at next (read_lines steps text (read_line text names at).names next (lines + 1)).reading.step h.1
      (follows_lines steps (read_line text names at).names next (lines + 1) h.0))
      (λ why p f. line)))

-- ---- a text

follows_rows : (text : List ℕ) (r : Ending) → Follows text [] 0 [] r.step → Follows text [] 0 [] (within_rows text r).step
unfolding within_rows
follows_rows text r h = follows_then text [] [] [] 0 r _ h
    (λ names lines end i. cases (ltb row_limit (lines + length (definitions text names))) (λ e. rw e (λ w. absurd (omega arith))) (λ e. rw e (i, refl)))

follows_text : (text : List ℕ) → Follows text [] 0 [] (read_text text).reading.step
unfolding read_text
follows_text text = cases (ltb text_limit (length text))
    (λ e. rw e (λ w. absurd (omega arith)))
    (λ e. rw e (follows_rows text (read_lines (length text) text no_numbers 0 0).reading (follows_lines text (length text) no_numbers 0 0 (omega arith))))

-- ---- refusal 3

module _ (text : List ℕ) {p : ℕ} (refused : (read_text text).reading.step ≡ Err record { why = SyntaxError; place = p }) where
  syntax_dies : dies text [] ≡ some (drop p text)
  syntax_dies = let h : Follows text [] 0 [] (Err record { why = SyntaxError; place = p }) = rw refused at (follows_text text) in (h refl).1

  -- No lines have a text that begins with the bytes before p and the one at p.
  pub syntax_byte : p < length text → ViablePrefix (take (p + 1) text) → ⊥
  syntax_byte i b = dies_local text p [] b.rest i syntax_dies (rw (← add-one) (writes_taken b.writes))

  -- No lines have the text. (So it is wherever p stands.)
  pub syntax_end : p ≡ length text → (lines : List (Line Word Word)) → Reads text lines → ⊥
  syntax_end _ lines r = none-ne-some _ (sym (writes_taken r.writes) ∙ syntax_dies)
