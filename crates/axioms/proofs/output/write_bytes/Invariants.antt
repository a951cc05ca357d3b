-- `write_bytes` meets its contract. Invariant: what is not 0 before this byte is written. Assumes nothing.
use lib.ListN.{take}
use Rattle.axioms.specs.Track.{compact}
use Rattle.copying.specs.Written.{Appended}
use Rattle.axioms.proofs.output.write_bytes.Given as goal

abbrev pub invariant-loop-b : goal.invariant-loop-b
invariant-loop-b l = Appended (compact (take l.b-index l.written)) 0 l.initial.text l.text l.count
