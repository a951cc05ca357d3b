-- What only inner functions cite; nobody has to believe it.
--     is_short    a buffer is too short for a sitting
--     AllCopied   what a sitting is lent was copied
--     Ready       what is known when a text is settled
--     MarkedByKey what marking by a key comes to
use Rattle.std.specs.Prelude.{ℕ, ◌≤◌, Bool, ◌||◌, List, length, ltb, Result, Ok, Err}
use Rattle.semantics.specs.Limits.{row_limit, table_limit}
use Rattle.refusal.specs.declared.Refused.{Refused}
use Rattle.copying.specs.Written.{Copied}
use Rattle.buffers.specs.Buffers.{Buffers}
use Rattle.evaluator.specs.Contract.{LongEnough}
use Rattle.sheets.specs.Sheets.{sheets_of, Scored}
use Rattle.sheets.specs.Refused.{ClassAcceptable, ClassRefused}
use Rattle.sheets.specs.declared.Totals.{Totals}
use Rattle.marking.specs.Contract.{Unchanged}

abbrev pub is_short : (deck table results order : ℕ) → Bool
is_short deck table results order = (ltb deck row_limit || ltb table table_limit) || (ltb results row_limit || ltb order row_limit)

pub record AllCopied (rows : List ℕ) (source : Buffers) (deck₀ deck : List ℕ) (before after : Buffers) : Type 0 where
  pub deck_copied : Copied row_limit rows deck₀ deck
  pub table_copied : Copied table_limit source.table before.table after.table
  pub results_copied : Copied row_limit source.results before.results after.results
  pub order_copied : Copied row_limit source.order before.order after.order

pub record Ready (lines : ℕ) (rows : List ℕ) (source : Buffers) (deck : List ℕ) (lent : Buffers) : Type 0 where
  pub few : lines ≤ row_limit
  pub from : LongEnough rows source
  pub to : LongEnough deck lent

pub data MarkedByKey (key sheets rows : List ℕ) (source : Buffers) (deck₀ deck : List ℕ) (before after : Buffers) (report₀ report : List ℕ) : Result Totals Refused → Type 0 where
  refused : {e : Refused} → ClassRefused (length key) (sheets_of sheets) (length report₀) e.place e.why → Unchanged deck₀ deck before after report₀ report →
      MarkedByKey key sheets rows source deck₀ deck before after report₀ report (Err e)
  finished : {t : Totals} → ClassAcceptable (length key) (sheets_of sheets) (length report₀) → AllCopied rows source deck₀ deck before after →
      Scored key (sheets_of sheets) report₀ report t → MarkedByKey key sheets rows source deck₀ deck before after report₀ report (Ok t)
