-- What it is for a table of byte classes to agree with the formula `class_of`. Only inner functions cite it: nobody has to believe it.
--     byte_count    how many bytes there are
--     entry_class   the class that an entry stands for: 0 to 4 are those of a table, and any other would be Other
--     values_from   what a rule gives for so many numbers
--     ClassTable    the table has the class of each byte
use Rattle.std.specs.Prelude.{ℕ, zero, suc, ◌≡◌, cond, List, [], ◌∷◌, map, eqb}
use Rattle.words.specs.Bytes.{class_of}
use Rattle.words.specs.declared.ByteClass.{ByteClass}
use Rattle.words.specs.declared.ByteClass.TheVariants.{Word, Sign, Space, LineEnd, Other}

abbrev pub byte_count : ℕ
byte_count = 256

unfoldable pub entry_class : ℕ → ByteClass
entry_class entry = cond (eqb entry 0) Word (cond (eqb entry 1) Sign (cond (eqb entry 2) Space (cond (eqb entry 3) LineEnd Other)))

-- what a rule gives for so many numbers, from the first on
unfoldable pub values_from : {X : Type 0} → (ℕ → X) → ℕ → ℕ → List X
values_from rule first zero = []
values_from rule first (suc count) = rule first ∷ values_from rule (suc first) count

pub record ClassTable (table : List ℕ) : Type 0 where
  pub agrees : map entry_class table ≡ values_from class_of 0 byte_count
