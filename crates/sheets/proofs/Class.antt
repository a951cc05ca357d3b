-- Scoring a class along its text.
--     Scanning     the first sheets are scored, and the text goes on behind them: none, one more
-- Assumes nothing.
use Prim.Native.Nat.{ℕ, ◌+◌, ◌-◌, ◌*◌, ◌<◌, ◌≤◌}
use native.Mathlib.Omega.{arith}
use mathlib.Core.Path.{◌≡◌, ◌∙◌, ap, subst}
use mathlib.Core.List.{List}
use lib.ListN.{length, take, drop}
use Rattle.semantics.specs.Limits.{row_limit, sheet_limit, score_size}
use Rattle.sheets.specs.Sheets.{sheet_at, sheets_of, Filled}
use Rattle.sheets.specs.Steps.{SheetScored, Scorable}
use Rattle.sheets.proofs.Sheets.{Walk, walk_none, Step, walk_more}
use Rattle.sheets.proofs.Scores.{Scoring, scoring_none, scoring_more}

pub record Scanning (key text : List ℕ) (i : ℕ) (rest report₀ report : List ℕ) (right wrong : ℕ) : Type 0 where
  pub walk : Walk text i rest
  pub scoring : Scoring key (sheets_of text) i report₀ report right wrong

pub scanning_none : (key text report : List ℕ) → Scanning key text 0 text report report 0 0
scanning_none key text report = record { walk = walk_none text; scoring = scoring_none key (sheets_of text) report }

module _ {key text rest report₀ report : List ℕ} {count i right wrong : ℕ} (s : Scorable key text count report₀) (n : Scanning key text i rest report₀ report right wrong) (lt : i < count) where
  filled : Filled (length key) (sheet_at (sheets_of text) i)
  filled = s.acceptable.filled i (omega (arith, s.counted))

  pub few_sheets : i < sheet_limit
  few_sheets = omega (arith, s.counted, s.acceptable.fits.few)

  -- sheet i is inside the text
  pub sheet_step : Step (length key) text i rest
  sheet_step = walk_more n.walk filled

  pub scoring_asks :
      (0 < length key) × (length key ≤ row_limit) × (length (take (length key) rest) ≡ length key) × (score_size * i + score_size ≤ length report)
  scoring_asks = (
    s.acceptable.some_question,
    s.few,
    ap length sheet_step.own ∙ filled.one_each,
    omega (arith, s.counted, s.acceptable.fits.roomy, n.scoring.written.length_kept),
  )

  pub scanning_more : {report' : List ℕ} {found : ℕ} → SheetScored key (take (length key) rest) (score_size * i) report report' found →
      Scanning key text (i + 1) (drop (length key + 1) rest) report₀ report' (right + found) (wrong + (length key - found))
  scanning_more {report'} {found} f = record {
    walk = sheet_step.next;
    scoring =
        scoring_more s.few n.scoring (omega (arith, s.counted)) filled.one_each
        (subst (λ l. SheetScored key l (score_size * i) report report' found) sheet_step.own f);
  }
