-- No two refusals share a number, and none has 0.
-- Assumes nothing.
use mathlib.Core.Path.{◌≡◌, refl, sym, ap, ◌∙◌}
use mathlib.Core.List.{[], ◌∷◌}
use Prim.Native.Nat.{ℕ}
use native.Mathlib.Omega.{arith}
use lib.ListN.{get_or}
use Rattle.refusal.specs.Refusal.{refusal_number}
use Rattle.refusal.specs.declared.Refusal.{Refusal}
use Rattle.refusal.specs.declared.Refusal.TheVariants.{TextTooLong, BufferTooShort, SyntaxError, WordTooLong, TooDeep, TooManyNumbers, TooManyRoles, TooManyRows}
use Rattle.refusal.specs.declared.Refusal.TheVariants.{NumberCount, RoleCount, RowCount, BufferLength, UnknownKind, UnusedField, NumberOutOfRange, RoleOutOfRange}
use Rattle.refusal.specs.declared.Refusal.TheVariants.{NoQuestion, TooManySheets, WrongSheet, NoRun, BookRoom}

-- The refusal with a number. 0, 9, 10, 19 and 20 are no refusal's, and any stands there.
refusal_of_number : ℕ → Refusal
refusal_of_number n =
    get_or
    (TextTooLong ∷ TextTooLong ∷ BufferTooShort ∷ SyntaxError ∷ WordTooLong ∷ TooDeep ∷ TooManyNumbers ∷ TooManyRoles ∷ TooManyRows
    ∷ TextTooLong ∷ TextTooLong ∷ NumberCount ∷ RoleCount ∷ RowCount ∷ BufferLength ∷ UnknownKind ∷ UnusedField ∷ NumberOutOfRange ∷ RoleOutOfRange
    ∷ TextTooLong ∷ TextTooLong ∷ NoQuestion ∷ TooManySheets ∷ WrongSheet ∷ NoRun ∷ BookRoom ∷ [])
    n TextTooLong

numbered_number : (r : Refusal) → refusal_of_number (refusal_number r) ≡ r
unfolding refusal_of_number
numbered_number TextTooLong = refl
numbered_number BufferTooShort = refl
numbered_number SyntaxError = refl
numbered_number WordTooLong = refl
numbered_number TooDeep = refl
numbered_number TooManyNumbers = refl
numbered_number TooManyRoles = refl
numbered_number TooManyRows = refl
numbered_number NumberCount = refl
numbered_number RoleCount = refl
numbered_number RowCount = refl
numbered_number BufferLength = refl
numbered_number UnknownKind = refl
numbered_number UnusedField = refl
numbered_number NumberOutOfRange = refl
numbered_number RoleOutOfRange = refl
numbered_number NoQuestion = refl
numbered_number TooManySheets = refl
numbered_number WrongSheet = refl
numbered_number NoRun = refl
numbered_number BookRoom = refl

pub refusal_number_injective : (r s : Refusal) → refusal_number r ≡ refusal_number s → r ≡ s
refusal_number_injective r s e = sym (numbered_number r) ∙ ap refusal_of_number e ∙ numbered_number s

pub refusal_number_nonzero : (r : Refusal) → refusal_number r ≡ 0 → ⊥
unfolding refusal_of_number
refusal_number_nonzero r e =
    let first : refusal_number r ≡ 1 = ap refusal_number (sym (numbered_number r) ∙ ap refusal_of_number e) in
    omega arith
