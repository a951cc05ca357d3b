-- What a concept starts with stands within the text. Assumes nothing.
use Prim.Native.Nat.{ℕ, ◌<◌}
use mathlib.Core.Path.{◌≡◌, refl, ap, ◌∙◌}
use mathlib.Core.List.{List}
use mathlib.Core.Bool.{Bool, true, false}
use Rattle.std.specs.Prelude.{Option, Some, None}
use lib.ListN.{length}
use Rattle.words.specs.Bytes.{class_of}
use Rattle.words.proofs.Within.{inside}
use Rattle.forms.specs.Forms.{form_at, class_form}
use Rattle.forms.specs.declared.Form.{Form}

-- something starts so
abbrev pub is_start : Option Form → Bool
is_start (Some form) = true
is_start None = false

pub inside_form : {f : Option Form} (text : List ℕ) (at : ℕ) → form_at text at ≡ f → is_start f ≡ true → at < length text
unfolding class_of
inside_form text at e h = inside (λ b. is_start (class_form (class_of b) b)) text at refl (ap is_start e ∙ h)
