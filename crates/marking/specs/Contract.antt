-- What `mark` promises, for every input: a class of score sheets is marked by the replies of a sitting.
--     MarkAcceptable   what is marked
--     MarkRefused      what is refused, by which refusal and at which place
--     Unchanged        everything that is lent is as at entry
--     ClassMarked      the sitting, its key, and the score of each sheet by that key
--     Marked           a case for each answer: refused, or marked
use Rattle.std.specs.Prelude.{ℕ, ◌≡◌, Bool, List, map, length, Result, Ok, Err}
use Rattle.semantics.specs.Closure.{strict_of, questions_of}
use Rattle.semantics.specs.Replies.{AnswerKey}
use Rattle.refusal.specs.declared.Refusal.{Refusal}
use Rattle.refusal.specs.declared.Refused.{Refused}
use Rattle.buffers.specs.Buffers.{Buffers}
use Rattle.workspace.specs.declared.Counts.{Counts}
use Rattle.grammar.specs.Accepted.{TextAcceptable}
use Rattle.compiler.specs.Refused.{BookRefused}
use Rattle.compiler.specs.declared.Sizes.{Sizes}
use Rattle.evaluator.specs.Contract.{LongEnough, BookEvaluated}
use Rattle.sheets.specs.Sheets.{sheets_of, answer_byte, Scored}
use Rattle.sheets.specs.Refused.{ClassAcceptable, ClassRefused}
use Rattle.sheets.specs.declared.Totals.{Totals}

-- A sitting accepts the text, and the sheets fit its questions.
pub record MarkAcceptable (text sheets deck : List ℕ) (lent : Buffers) (room : ℕ) : Type 0 where
  pub book : TextAcceptable text
  pub long_enough : LongEnough deck lent
  pub class : ClassAcceptable (length (questions_of book.lines)) (sheets_of sheets) room

-- A sitting refuses the text, or else the class is refused.
pub data MarkRefused (text sheets deck : List ℕ) (lent : Buffers) (room p : ℕ) (why : Refusal) : Type 0 where
  of_sitting : BookRefused (LongEnough deck lent) text p why → MarkRefused text sheets deck lent room p why
  of_class : (book : TextAcceptable text) → LongEnough deck lent → ClassRefused (length (questions_of book.lines)) (sheets_of sheets) room p why →
      MarkRefused text sheets deck lent room p why

pub record Unchanged (deck₀ deck : List ℕ) (before after : Buffers) (report₀ report : List ℕ) : Type 0 where
  pub deck_kept : deck ≡ deck₀
  pub buffers_kept : after ≡ before
  pub report_kept : report ≡ report₀

-- The sitting is as ever. The key is the reply to each question of the text's own nested lines, in their order, over all finite interpretations of their words (`own_words_key`).
pub record ClassMarked (text sheets deck₀ deck : List ℕ) (before after : Buffers) (report₀ report : List ℕ) (t : Totals) : Type 0 where
  pub sizes : Sizes
  pub counts : Counts
  pub sitting : BookEvaluated text deck₀ deck before after sizes counts
  pub key : List Bool
  pub replies : AnswerKey (strict_of sitting.reported.lines) sitting.reported.closure.T* sitting.reported.closure.sets sitting.reported.lines key
  pub scored : Scored (map answer_byte key) (sheets_of sheets) report₀ report t

pub data Marked (text sheets deck₀ deck : List ℕ) (before after : Buffers) (report₀ report : List ℕ) : Result Totals Refused → Type 0 where
  refused : {e : Refused} → MarkRefused text sheets deck₀ before (length report₀) e.place e.why → Unchanged deck₀ deck before after report₀ report →
      Marked text sheets deck₀ deck before after report₀ report (Err e)
  marked : {t : Totals} → MarkAcceptable text sheets deck₀ before (length report₀) → ClassMarked text sheets deck₀ deck before after report₀ report t →
      Marked text sheets deck₀ deck before after report₀ report (Ok t)
