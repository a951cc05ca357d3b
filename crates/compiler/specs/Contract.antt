-- What `compile` (the scope's compiling) promises, for every input.
--     compile_refusal   refusals 1 to 8 in the scope's order, with their places
--     NormalForm        what the deck then holds, and what the counts are
--     Compiled          a case for each answer: refused, or accepted
use Rattle.names.specs.State.{Step}
use Rattle.std.specs.Prelude.{ℕ, ◌≡◌, cond, List, map, length, take, drop, ltb, Result, Ok, Err}
use Rattle.std.proofs.Math.Option.{Option, none, some}
use Rattle.semantics.specs.Closure.{Line}
use Rattle.semantics.specs.Limits.{text_limit, row_limit}
use Rattle.semantics.specs.Numbering.{normal_rows}
use Rattle.semantics.specs.Row.{pack}
use Rattle.semantics.specs.Source.{Word, Reads}
use Rattle.refusal.specs.declared.Refusal.{Refusal}
use Rattle.refusal.specs.declared.Refusal.TheVariants.{TextTooLong, BufferTooShort}
use Rattle.refusal.specs.declared.Refused.{Refused}
use Rattle.source.specs.Lines.{read_text}
use Rattle.grammar.specs.Limits.{names_after, WithinLimits}
use Rattle.compiler.specs.declared.Sizes.{Sizes}

-- the reader's refusal, if it has one
abbrev pub reader_refusal : Step → Option (Refusal × ℕ)
reader_refusal (Ok (count, end)) = none
reader_refusal (Err e) = some (e.why, e.place)

-- The text too long; then a lent deck with no room for the most rows that a text may have; then the reader's.
unfoldable pub compile_refusal : List ℕ → ℕ → Option (Refusal × ℕ)
compile_refusal text lent =
    cond (ltb text_limit (length text)) (some (TextTooLong, 0))
    (cond (ltb lent row_limit) (some (BufferTooShort, 0)) (reader_refusal (read_text text).reading.step))

-- The lines of the text, within every limit; their counts; the packed rows of their normal form at the start of the deck, the rest as at entry.
pub record NormalForm (text deck₀ deck : List ℕ) (c : Sizes) : Type 0 where
  pub lines : List (Line Word Word)
  pub reads : Reads text lines
  pub within : WithinLimits text lines
  pub line_count : c.lines ≡ length lines
  pub row_count : c.rows ≡ length (normal_rows lines)
  pub number_count : c.numbers ≡ (names_after lines).next
  pub role_count : c.roles ≡ length (names_after lines).roles
  pub rows : take c.rows deck ≡ map pack (normal_rows lines)
  pub rest_kept : drop c.rows deck ≡ drop c.rows deck₀
  pub length_kept : length deck ≡ length deck₀

pub data Compiled (text deck₀ deck : List ℕ) : Result Sizes Refused → Type 0 where
  refused : {e : Refused} → compile_refusal text (length deck₀) ≡ some (e.why, e.place) → deck ≡ deck₀ → Compiled text deck₀ deck (Err e)
  accepted : {c : Sizes} → compile_refusal text (length deck₀) ≡ none → NormalForm text deck₀ deck c → Compiled text deck₀ deck (Ok c)
