-- A class of sheets is accepted or refused, and in one way.
-- Assumes nothing.
use Prim.Native.Nat.{ℕ, zero, suc, ◌+◌, ◌*◌}
use native.Mathlib.Omega.{arith}
use native.Mathlib.Decide.{dec_le, dec_lt}
use mathlib.Core.Path.{◌≡◌, refl}
use mathlib.Core.List.{List}
use mathlib.Core.Logic.{◌⊎◌, inl, inr}
use lib.ListN.{length, drop}
use Rattle.semantics.specs.Limits.{sheet_limit, score_size}
use Rattle.semantics.proofs.Tests.{cases}
use Rattle.refusal.specs.declared.Refusal.{Refusal}
use Rattle.refusal.specs.declared.Refusal.TheVariants.{NoQuestion, TooManySheets, WrongSheet}
use Rattle.sheets.specs.Sheets.{Sheet, sheets_of}
use Rattle.sheets.specs.Refused.{Fits, ClassAcceptable, ClassRefused, no_question, too_many, wrong_sheet}
use Rattle.sheets.specs.Steps.{opens_filled, AllFilled, LowestWrong}
use Rattle.sheets.proofs.Sheets.{Passing, passing_none, passing_more, passing_wrong}

module _ {questions room : ℕ} {sheets : List Sheet} where
  -- what is accepted is not refused
  pub class_exclusive : ClassAcceptable questions sheets room → {p : ℕ} {why : Refusal} → ClassRefused questions sheets room p why → ⊥
  class_exclusive a (no_question z k) = omega (arith, a.some_question)
  class_exclusive a (too_many s n k) = n a.fits
  class_exclusive a {p} (wrong_sheet s f lt n before) = n (a.filled p lt)

  -- there is one refusal
  pub class_one : {p q : ℕ} {why how : Refusal} → ClassRefused questions sheets room p why → ClassRefused questions sheets room q how → (why ≡ how) × (p ≡ q)
  class_one (no_question z k) (no_question z' k') = (refl, omega arith)
  class_one (no_question z k) (too_many s n k') = absurd (omega arith)
  class_one (no_question z k) (wrong_sheet s f lt n before) = absurd (omega arith)
  class_one (too_many s n k) (no_question z k') = absurd (omega arith)
  class_one (too_many s n k) (too_many s' n' k') = (refl, omega arith)
  class_one (too_many s n k) (wrong_sheet s' f lt n' before) = absurd (n f)
  class_one (wrong_sheet s f lt n before) (no_question z k) = absurd (omega arith)
  class_one (wrong_sheet s f lt n before) (too_many s' n' k) = absurd (n' f)
  class_one {p} {q} (wrong_sheet s f lt n before) (wrong_sheet s' f' lt' n' before') = elim (dec_lt p q) [
    | yes h ↦ absurd (n (before' p h))
    | no h ↦ elim (dec_lt q p) [ yes g ↦ absurd (n' (before q g)) | no g ↦ (refl, omega arith) ]
  ]

-- ---- one or the other

module _ (q : ℕ) (text : List ℕ) where
  -- from sheet i on, of which k are left
  lowest_from : (k i : ℕ) (rest : List ℕ) → k + i ≡ length (sheets_of text) → Passing q text i rest → AllFilled q (sheets_of text) ⊎ ((j : ℕ) × LowestWrong q (sheets_of text) j)
  lowest_from zero i rest e p = inl (λ j lt. p.before j (omega arith))
  lowest_from (suc k) i rest e p =
      cases (opens_filled q rest)
      (λ t. lowest_from k (i + 1) (drop (q + 1) rest) (omega arith) (passing_more p refl t))
      (λ f. inr (i, passing_wrong p refl f (omega arith)))

  lowest : AllFilled q (sheets_of text) ⊎ ((j : ℕ) × LowestWrong q (sheets_of text) j)
  lowest = lowest_from (length (sheets_of text)) 0 text (omega arith) (passing_none q text)

fits_dec : (sheets : List Sheet) (room : ℕ) → Dec (Fits sheets room)
fits_dec sheets room = elim (dec_le (length sheets) sheet_limit) [
  | yes few ↦ elim (dec_le (score_size * length sheets) room) [ yes roomy ↦ yes record { few = few; roomy = roomy } | no n ↦ no (λ f. n f.roomy) ]
  | no n ↦ no (λ f. n f.few)
]

pub class_either : (q : ℕ) (text : List ℕ) (room : ℕ) →
    ClassAcceptable q (sheets_of text) room ⊎ ((p : ℕ) × (why : Refusal) × ClassRefused q (sheets_of text) room p why)
class_either zero text room = inr (0, NoQuestion, no_question refl refl)
class_either (suc q) text room = elim (fits_dec (sheets_of text) room) [
  | yes fits ↦ elim (lowest (suc q) text) [
    | inl all ↦ inl record { some_question = omega arith; fits = fits; filled = all }
    | inr w ↦ inr (w.0, WrongSheet, wrong_sheet (omega arith) fits w.1.inside w.1.wrong w.1.before)
  ]
  | no n ↦ inr (0, TooManySheets, too_many (omega arith) n refl)
]
