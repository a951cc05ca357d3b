-- What a concept starts with.
use Rattle.std.specs.Prelude.{ℕ, cond, List, eqb, Option, Some, None}
use Rattle.semantics.specs.Source.{star_byte, dash_byte, ampersand_byte}
use Rattle.words.specs.Bytes.{byte_at, class_of}
use Rattle.words.specs.declared.ByteClass.{ByteClass}
use Rattle.words.specs.declared.ByteClass.TheVariants.{Word, Sign, Space, LineEnd, Other}
use Rattle.forms.specs.declared.Form.{Form}
use Rattle.forms.specs.declared.Form.TheVariants.{Top, Bottom, Name, Conjunction, Existential}

-- what a concept that starts with a sign is
unfoldable pub sign_form : ℕ → Form
sign_form b = cond (eqb b star_byte) Top (cond (eqb b dash_byte) Bottom (cond (eqb b ampersand_byte) Conjunction Existential))

-- nothing where no concept starts so
abbrev pub class_form : ByteClass → ℕ → Option Form
class_form Word b = Some Name
class_form Sign b = Some (sign_form b)
class_form Space b = None
class_form LineEnd b = None
class_form Other b = None

-- what the concept at the offset is
abbrev pub form_at : List ℕ → ℕ → Option Form
form_at text at = class_form (class_of (byte_at text at)) (byte_at text at)
