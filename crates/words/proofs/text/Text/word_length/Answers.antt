-- `Text::word_length` meets its contract: the bytes from `at` on are what is left of the text. Assumes nothing.
use mathlib.Core.Path.{sym, ap, ◌∙◌}
use Prim.Native.Nat.{◌-◌, min}
use native.Mathlib.Omega.{arith}
use lib.ListN.{length, drop, length-drop}
use Rattle.std.proofs.lemmas.List.{drop_min, take_all}
use Rattle.words.specs.Bytes.{word_run}
use Rattle.words.proofs.Within.{run_prefix}
use Rattle.words.proofs.text.Text.word_length.Goals as goal

pub returns : goal.returns
returns c =
    let text = c.args.self.now.bytes.now in
    let at = min c.args.at (length text) in
    c.word_run.ensures ∙ sym (run_prefix _)
    ∙ ap word_run (rw c.min.ensures (take_all (length text - at) (drop at text) (omega (arith, length-drop at text)) ∙ drop_min c.args.at text))
