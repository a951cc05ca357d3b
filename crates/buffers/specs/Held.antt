-- What the lent buffers hold, and that they stay those that were lent.
use Rattle.std.specs.Prelude.{◌≡◌}
use Rattle.buffers.specs.Buffers.{Buffers, buffers}
use Rattle.buffers.specs.declared.LentBuffers.{LentBuffers}

abbrev pub held : LentBuffers → Buffers
held lent = buffers lent.table.now lent.results.now lent.order.now

-- Nothing else was put in their place.
abbrev pub SameLent : LentBuffers → LentBuffers → Type 0
SameLent before after =
    (after.table.ghost_name ≡ before.table.ghost_name) × (after.results.ghost_name ≡ before.results.ghost_name) × (after.order.ghost_name ≡ before.order.ghost_name)
