-- The number of each refusal, as the scope gives it.
use Rattle.std.specs.Prelude.{ℕ}
use Rattle.refusal.specs.declared.Refusal.{Refusal}
use Rattle.refusal.specs.declared.Refusal.TheVariants.{TextTooLong, BufferTooShort, SyntaxError, WordTooLong, TooDeep, TooManyNumbers, TooManyRoles, TooManyRows}
use Rattle.refusal.specs.declared.Refusal.TheVariants.{NumberCount, RoleCount, RowCount, BufferLength, UnknownKind, UnusedField, NumberOutOfRange, RoleOutOfRange}
use Rattle.refusal.specs.declared.Refusal.TheVariants.{NoQuestion, TooManySheets, WrongSheet, NoRun, BookRoom}

abbrev pub refusal_number : Refusal → ℕ
refusal_number TextTooLong = 1
refusal_number BufferTooShort = 2
refusal_number SyntaxError = 3
refusal_number WordTooLong = 4
refusal_number TooDeep = 5
refusal_number TooManyNumbers = 6
refusal_number TooManyRoles = 7
refusal_number TooManyRows = 8
refusal_number NumberCount = 11
refusal_number RoleCount = 12
refusal_number RowCount = 13
refusal_number BufferLength = 14
refusal_number UnknownKind = 15
refusal_number UnusedField = 16
refusal_number NumberOutOfRange = 17
refusal_number RoleOutOfRange = 18
refusal_number NoQuestion = 21
refusal_number TooManySheets = 22
refusal_number WrongSheet = 23
refusal_number NoRun = 24
refusal_number BookRoom = 25
