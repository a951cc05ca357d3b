-- What is said of an accepted text.
--     AcceptedReading   the text is read and not refused
--     TextAcceptable    the text is that of lines, within every limit
--     TextNumbered      the counts and the rows that its reading gives
use Rattle.std.specs.Prelude.{ℕ, ◌≡◌, List, length}
use Rattle.semantics.specs.Closure.{Line}
use Rattle.semantics.specs.Numbering.{no_names, number_lines}
use Rattle.semantics.specs.Source.{Word, Reads}
use Rattle.source.specs.Lines.{read_text, definitions}
use Rattle.chains.specs.declared.Sort.TheVariants.{Concepts, Roles}
use Rattle.std.specs.Prelude.{Ok}
use Rattle.grammar.specs.Limits.{names_after, WithinLimits}

pub record AcceptedReading (text : List ℕ) : Type 0 where
  pub count : ℕ
  pub end : ℕ
  pub read : (read_text text).reading.step ≡ Ok (count, end)

pub record TextAcceptable (text : List ℕ) : Type 0 where
  pub lines : List (Line Word Word)
  pub reads : Reads text lines
  pub within : WithinLimits text lines

pub record TextNumbered (text : List ℕ) (lines : List (Line Word Word)) (count end : ℕ) : Type 0 where
  pub counted : count ≡ length lines
  pub to_end : end ≡ length text
  pub numbers : ((read_text text).reading.names.lists Concepts).used ≡ (names_after lines).next
  pub roles : ((read_text text).reading.names.lists Roles).used ≡ length (names_after lines).roles
  pub line_rows : (read_text text).rows ≡ (number_lines lines no_names).line_rows
  pub definition_rows : definitions text (read_text text).reading.names ≡ (number_lines lines no_names).definitions
