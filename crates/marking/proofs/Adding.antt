-- What a class was marked by, and that it adds up.
--     key_of_results, own_words_key    the key is what the sitting replies, and that of the text's own words
--     report_adds_up, totals_are_all   right and wrong are the questions of the text, on each sheet and on all
-- Assumes nothing.
use Prim.Native.Nat.{ℕ, ◌+◌, ◌*◌, ◌<◌, ◌≤◌}
use native.Mathlib.Omega.{arith}
use mathlib.Core.Path.{◌≡◌, sym, ◌∙◌, ap, subst}
use mathlib.Core.List.{List, map}
use lib.ListN.{length, get_or, take, length-map}
use Rattle.semantics.specs.Closure.{Line, strict_of, questions_of, RationalClosure}
use Rattle.semantics.specs.Limits.{row_limit, score_size}
use Rattle.semantics.specs.OwnNames.{line_names, line_roles, renamed_line, OwnName, plain_lines}
use Rattle.semantics.specs.Replies.{AnswerKey, replies_in}
use Rattle.semantics.proofs.Keys.{plain_replies, key_of_closure, key_unique, key_length}
use Rattle.semantics.proofs.Theorems.{reads_unique}
use Rattle.buffers.specs.Buffers.{Buffers}
use Rattle.evaluator.proofs.Theorems.{own_words_closure}
use Rattle.sheets.specs.Sheets.{sheet_at, sheets_of, answer_byte, Filled}
use Rattle.sheets.specs.declared.Totals.{Totals}
use Rattle.sheets.proofs.Theorems.{sheet_adds_up, totals_add_up, score_stands}
use Rattle.marking.specs.Contract.{MarkAcceptable, ClassMarked}
use Rattle.marking.proofs.Settled.{few_lines, replies_key}

module _ {text sheets deck₀ deck : List ℕ} {before after : Buffers} {report₀ report : List ℕ} {t : Totals}
    (a : MarkAcceptable text sheets deck₀ before (length report₀)) (m : ClassMarked text sheets deck₀ deck before after report₀ report t) where
  -- the key has a reply for each question
  questions : length (map answer_byte m.key) ≡ length (questions_of m.sitting.reported.lines)
  questions = length-map m.key answer_byte ∙ key_length m.replies

  filled : (i : ℕ) → i < length (sheets_of sheets) → Filled (length (map answer_byte m.key)) (sheet_at (sheets_of sheets) i)
  filled i lt =
      let e = ap (λ ls. length (questions_of ls)) (reads_unique a.book.reads m.sitting.reported.reads) ∙ sym questions in
      subst (λ q. Filled q (sheet_at (sheets_of sheets) i)) e (a.class.filled i lt)

  pub report_adds_up : (i : ℕ) → i < length (sheets_of sheets) →
      get_or report (score_size * i + 0) 0 + get_or report (score_size * i + 1) 0 ≡ length (questions_of m.sitting.reported.lines)
  report_adds_up i lt =
      omega (arith, score_stands m.scored i 0 lt (omega arith), score_stands m.scored i 1 lt (omega arith), sheet_adds_up (map answer_byte m.key) (filled i lt), questions)

  pub totals_are_all : t.right + t.wrong ≡ length (sheets_of sheets) * length (questions_of m.sitting.reported.lines)
  totals_are_all =
      let sum = totals_add_up (map answer_byte m.key) (sheets_of sheets) filled in
      omega (arith, m.scored.right_total, m.scored.wrong_total, sum ∙ ap (λ q. length (sheets_of sheets) * q) questions)

module _ {text sheets deck₀ deck : List ℕ} {before after : Buffers} {report₀ report : List ℕ} {t : Totals} (m : ClassMarked text sheets deck₀ deck before after report₀ report t) where
  pub key_of_results : m.key ≡ replies_in m.sitting.reported.lines (take m.sizes.lines after.results)
  key_of_results = key_unique m.replies (replies_key m.sitting)

  pub own_words_key : let b = m.sitting.reported in
      (own : List (Line (OwnName (line_names b.lines)) (OwnName (line_roles b.lines)))) × (plain_lines own ≡ b.lines) ×
      (s : RationalClosure own m.counts.levels m.counts.passes (take m.sizes.lines after.results)) × AnswerKey (strict_of own) s.T* s.sets own m.key
  own_words_key =
      let results = take m.sizes.lines after.results in
      let (own, plain, s, counted) = own_words_closure m.sitting.reported in
      let same : replies_in own results ≡ m.key = plain_replies own results ∙ ap (λ ls. replies_in ls results) plain ∙ sym key_of_results in
      let few : length own ≤ row_limit = omega (arith, length-map own (renamed_line (λ n. n.plain) (λ r. r.plain)), ap length plain, few_lines m.sitting) in
      (own, plain, s, subst (AnswerKey (strict_of own) s.T* s.sets own) same (key_of_closure s few))
