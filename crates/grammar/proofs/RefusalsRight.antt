-- Every refusal of a text's author is right about its place.
-- Assumes nothing.
use Prim.Native.Nat.{ℕ}
use mathlib.Core.Path.{◌≡◌}
use mathlib.Core.List.{List}
use Rattle.refusal.specs.declared.Refusal.{Refusal}
use Rattle.source.specs.Lines.{read_text}
use Rattle.std.specs.Prelude.{Err}
use Rattle.grammar.specs.Refused.{TextRefused, long, syntax, limit, rows}
use Rattle.grammar.proofs.JustifiedSteps.{syntax as syntax_fault, limit as limit_fault}
use Rattle.grammar.proofs.JustifiedText.{TextFault, long as too_long, many, placed, text_fault}
use Rattle.grammar.proofs.SyntaxPlace.{syntax_byte, syntax_end}

pub text_refused : (text : List ℕ) (p : ℕ) (why : Refusal) → (read_text text).reading.step ≡ Err record { why = why; place = p } → TextRefused text p why
text_refused text p why e = go (text_fault text p why e) e
  where
    go : {how : Refusal} → TextFault text p how → (read_text text).reading.step ≡ Err record { why = how; place = p } → TextRefused text p how
    go (too_long l z) e = long l z
    go (many s r) e = rows s r
    go (placed s (syntax_fault i b)) e = syntax s record { inside = i; before = b; byte = syntax_byte text e; end = syntax_end text e }
    go (placed s (limit_fault l)) e = limit s l
