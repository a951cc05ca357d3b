-- `slot_row` meets its contract: the row at the place of the slot.
-- Assumes nothing.
use native.Mathlib.Omega.{arith}
use Rattle.index.proofs.slot_row.Goals as goal

pub returns : goal.returns
returns c = rw c.slot_place.ensures

pub slot_place-requires : goal.slot_place-requires
slot_place-requires c = c.requires.0

pub offset_bounds-rows-slot_place : goal.offset_bounds-rows-slot_place
offset_bounds-rows-slot_place c = record { fits = omega (arith, c.slot_place.ensures, c.requires.1) }

pub bounds-rows-slot_place : goal.bounds-rows-slot_place
bounds-rows-slot_place c = omega (arith, c.slot_place.ensures, c.requires.1)
