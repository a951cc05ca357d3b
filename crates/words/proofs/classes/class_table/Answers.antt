-- `class_table` meets its contract: the checker computes the classes that the entries stand for, and those of the formula, as lists. Assumes nothing.
use mathlib.Core.Path.{refl}
use Rattle.words.specs.Bytes.{class_of}
use Rattle.words.specs.Table.{entry_class, values_from}
use Rattle.words.proofs.classes.class_table.Goals as goal

pub returns : goal.returns
unfolding class_of entry_class values_from
returns c = record { agrees = refl }
