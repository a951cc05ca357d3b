-- What two markings have in common: the theorems cite this, and no contract does.
--     SameLengths   as much is lent for both
--     SameMarking   what both write, whatever was lent
use Rattle.std.specs.Prelude.{ℕ, ◌*◌, ◌≡◌, List, length, take}
use Rattle.semantics.specs.Limits.{score_size}
use Rattle.buffers.specs.Buffers.{Buffers}
use Rattle.workspace.specs.declared.Counts.{Counts}
use Rattle.compiler.specs.declared.Sizes.{Sizes}
use Rattle.evaluator.specs.Contract.{BookEvaluated}
use Rattle.evaluator.specs.Same.{SameEvaluation}
use Rattle.sheets.specs.Sheets.{sheets_of}
use Rattle.sheets.specs.declared.Totals.{Totals}

pub record SameLengths (deck deck' : List ℕ) (lent lent' : Buffers) (report report' : List ℕ) : Type 0 where
  pub decks : length deck ≡ length deck'
  pub tables : length lent.table ≡ length lent'.table
  pub results : length lent.results ≡ length lent'.results
  pub orders : length lent.order ≡ length lent'.order
  pub reports : length report ≡ length report'

-- The totals, the score of each sheet, and what the two sittings write: they have the same counts.
pub record SameMarking (text sheets deck₀ deck deck₁ deck' : List ℕ) (before here before' there : Buffers) (report report' : List ℕ) (t t' : Totals) : Type 0 where
  pub same_totals : t ≡ t'
  pub first_scores : take (score_size * length (sheets_of sheets)) report ≡ take (score_size * length (sheets_of sheets)) report'
  pub sizes : Sizes
  pub counts : Counts
  pub sitting : BookEvaluated text deck₀ deck before here sizes counts
  pub sitting' : BookEvaluated text deck₁ deck' before' there sizes counts
  pub same_sitting : SameEvaluation text deck deck' here there sizes sizes counts counts
