-- `write_definition` meets its contract: the first row of a `/` says which role there is. Assumes nothing.
use mathlib.Core.Path.{refl}
use mathlib.Core.List.Memᴰ
use Rattle.definitions.proofs.write_definition.Goals as goal

pub write_existential-requires : goal.write_existential-requires
write_existential-requires c =
    let form = c.in-Some-Existential.is in
    let sign = rw form at c.in-Some-Existential.field-0-is in
    let w = rw (form, sign, ← c.left_at-left.ensures, ← c.right_at-right.ensures) at c.requires.1 in
    (w.room, w.roles _ _ _ (Memᴰ.head refl))
