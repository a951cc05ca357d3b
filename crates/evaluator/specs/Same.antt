-- What two sittings of one text have in common: a theorem cites this, and no contract does.
use Rattle.std.specs.Prelude.{ℕ, ◌≡◌, List, length, take}
use Rattle.semantics.specs.Closure.{Line, defeasible_of}
use Rattle.semantics.specs.Source.{Word, Reads}
use Rattle.buffers.specs.Buffers.{Buffers}
use Rattle.workspace.specs.declared.Counts.{Counts}
use Rattle.closure.specs.Same.{SameWritten}
use Rattle.compiler.specs.declared.Sizes.{Sizes}

-- Whatever was lent for them: the counts, the rows, and what settling writes: of the order as many
-- places as the text has defeasible lines.
pub record SameEvaluation (text deck deck' : List ℕ) (here there : Buffers) (s s' : Sizes) (c c' : Counts) : Type 0 where
  pub same_sizes : s ≡ s'
  pub same_counts : c ≡ c'
  pub first_rows : take s.rows deck ≡ take s.rows deck'
  pub lines : List (Line Word Word)
  pub reads : Reads text lines
  pub written : SameWritten s.numbers s.rows (length (defeasible_of lines)) here there
