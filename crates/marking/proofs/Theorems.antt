-- The theorems on marking, in reading order.
--     mark_either, mark_exclusive, mark_one   a text and its sheets are marked, or refused by one refusal at one place
--     report_adds_up, totals_are_all           on each sheet right and wrong are the questions, and so they are in all
--     key_of_results, own_words_key            the key is the sitting's replies, and that of the text's own words
--     mark_unique                              what `mark` promises has one outcome
--     mark_outcome, mark_follows               which follows from the text, the sheets and the lengths of what is lent
-- Assumes nothing.
use Prim.Native.Nat.{ℕ, ◌+◌, ◌*◌, ◌<◌}
use mathlib.Core.Path.{◌≡◌}
use mathlib.Core.List.{List}
use mathlib.Core.Logic.{◌⊎◌}
use lib.ListN.{length, get_or, take}
use Rattle.semantics.specs.Closure.{Line, strict_of, questions_of, RationalClosure}
use Rattle.semantics.specs.Limits.{score_size}
use Rattle.semantics.specs.OwnNames.{line_names, line_roles, OwnName, plain_lines}
use Rattle.semantics.specs.Replies.{AnswerKey, replies_in}
use Rattle.std.specs.Prelude.{Result, Ok}
use Rattle.refusal.specs.declared.Refusal.{Refusal}
use Rattle.refusal.specs.declared.Refused.{Refused}
use Rattle.buffers.specs.Buffers.{Buffers}
use Rattle.closure.specs.Same.{SameBuffers}
use Rattle.sheets.specs.Sheets.{sheets_of}
use Rattle.sheets.specs.declared.Totals.{Totals}
use Rattle.marking.specs.Contract.{MarkAcceptable, MarkRefused, ClassMarked, Marked}
use Rattle.marking.specs.Same.{SameLengths, SameMarking}
use Rattle.marking.proofs.Adding as adding
use Rattle.marking.proofs.Deciding as deciding
use Rattle.marking.proofs.Unique as unique

-- Everything that is not refused by one of the written refusals is acceptable, and so it is marked (`demand_1_mark` of crate engine).
pub mark_either : (text sheets deck : List ℕ) (lent : Buffers) (room : ℕ) →
    MarkAcceptable text sheets deck lent room ⊎ ((p : ℕ) × (why : Refusal) × MarkRefused text sheets deck lent room p why)
mark_either = deciding.mark_either

-- Nothing is both, and nothing is refused by two refusals or at two places.
pub mark_exclusive : {text sheets deck : List ℕ} {lent : Buffers} {room : ℕ} → MarkAcceptable text sheets deck lent room →
    {p : ℕ} {why : Refusal} → MarkRefused text sheets deck lent room p why → ⊥
mark_exclusive = deciding.mark_exclusive

pub mark_one : {text sheets deck : List ℕ} {lent : Buffers} {room p q : ℕ} {why how : Refusal} →
    MarkRefused text sheets deck lent room p why → MarkRefused text sheets deck lent room q how → (why ≡ how) × (p ≡ q)
mark_one = deciding.mark_one

module _ {text sheets deck₀ deck : List ℕ} {before after : Buffers} {report₀ report : List ℕ} {t : Totals} where
  -- On each sheet right and wrong, the first two of its three numbers, add up to the questions of the text.
  pub report_adds_up : MarkAcceptable text sheets deck₀ before (length report₀) → (m : ClassMarked text sheets deck₀ deck before after report₀ report t) →
      (i : ℕ) → i < length (sheets_of sheets) → get_or report (score_size * i + 0) 0 + get_or report (score_size * i + 1) 0 ≡ length (questions_of m.sitting.reported.lines)
  report_adds_up = adding.report_adds_up

  -- The totals add up to the questions of all sheets.
  pub totals_are_all : MarkAcceptable text sheets deck₀ before (length report₀) → (m : ClassMarked text sheets deck₀ deck before after report₀ report t) →
      t.right + t.wrong ≡ length (sheets_of sheets) * length (questions_of m.sitting.reported.lines)
  totals_are_all = adding.totals_are_all

-- ---- the key

module _ {text sheets deck₀ deck : List ℕ} {before after : Buffers} {report₀ report : List ℕ} {t : Totals} (m : ClassMarked text sheets deck₀ deck before after report₀ report t) where
  -- The key is what the sitting replies: the yes bits of the questions' results.
  pub key_of_results : m.key ≡ replies_in m.sitting.reported.lines (take m.sizes.lines after.results)
  key_of_results = adding.key_of_results m

  -- It is the key of the text's lines over the words and roles that stand in them, and over no others (as `own_words_closure` says of the results).
  pub own_words_key : let b = m.sitting.reported in
      (own : List (Line (OwnName (line_names b.lines)) (OwnName (line_roles b.lines)))) × (plain_lines own ≡ b.lines) ×
      (s : RationalClosure own m.counts.levels m.counts.passes (take m.sizes.lines after.results)) × AnswerKey (strict_of own) s.T* s.sets own m.key
  own_words_key = adding.own_words_key m

-- ---- one outcome

-- What was given and lent determines the answer, the deck, the results, the order, the table where its words have 64 bits, and the whole report.
pub mark_unique : {text sheets deck₀ deck deck' : List ℕ} {before after after' : Buffers} {report₀ report report' : List ℕ} {a a' : Result Totals Refused} →
    Marked text sheets deck₀ deck before after report₀ report a → Marked text sheets deck₀ deck' before after' report₀ report' a' →
    (a ≡ a') × (deck ≡ deck') × SameBuffers after after' × (report ≡ report')
mark_unique = unique.mark_unique

module _ {text sheets deck₀ deck deck₁ deck' : List ℕ} {before after before' after' : Buffers} {report₀ report report₁ report' : List ℕ} where
  -- The answer, refused or not, follows from the text, the sheets and the lengths of what is lent.
  pub mark_outcome : {a a' : Result Totals Refused} → SameLengths deck₀ deck₁ before before' report₀ report₁ →
      Marked text sheets deck₀ deck before after report₀ report a → Marked text sheets deck₁ deck' before' after' report₁ report' a' → a ≡ a'
  mark_outcome = unique.mark_outcome

  -- Where it is marked, what is written follows from the text and the sheets alone.
  pub mark_follows : {t t' : Totals} → Marked text sheets deck₀ deck before after report₀ report (Ok t) → Marked text sheets deck₁ deck' before' after' report₁ report' (Ok t') →
      SameMarking text sheets deck₀ deck deck₁ deck' before after before' after' report report' t t'
  mark_follows = unique.mark_follows
