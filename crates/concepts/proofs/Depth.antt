-- A concept where no depth is left, where some is, and where nothing can start one. Assumes nothing.
use Prim.Native.Nat.{ℕ, zero, suc, ◌-◌}
use native.Mathlib.Omega.{arith}
use mathlib.Core.Path.{◌≡◌, ap, ◌∙◌}
use mathlib.Core.List.{List}
use Rattle.std.specs.Prelude.{Option, Some, None}
use Rattle.refusal.specs.declared.Refusal.TheVariants.{SyntaxError, TooDeep}
use Rattle.names.specs.Names.{refuse}
use Rattle.names.specs.State.{State}
use Rattle.forms.specs.Forms.{form_at}
use Rattle.forms.specs.declared.Form.{Form}
use Rattle.concepts.specs.Reader.{read_form, read_concept}

module _ (text : List ℕ) (names : State) (at : ℕ) where
  pub missing : (a : ℕ) → form_at text at ≡ None → read_concept a text names at ≡ refuse names SyntaxError at
  unfolding read_concept read_form
  missing zero e = rw e
  missing (suc a) e = rw e

  pub deepest : {a : ℕ} {f : Form} → a ≡ 0 → form_at text at ≡ Some f → read_concept a text names at ≡ refuse names TooDeep at
  unfolding read_concept
  deepest none e = rw (none, e)

  pub deeper : {a : ℕ} {f : Option Form} → (a ≡ 0 → ⊥) → form_at text at ≡ f → read_concept a text names at ≡ read_form f (read_concept (a - 1) text) text names at
  unfolding read_concept
  deeper {a} some e =
      let h : a ≡ suc (a - 1) = omega arith in
      ap (λ (n : ℕ). read_concept n text names at) h ∙ ap (λ (f : Option Form). read_form f (read_concept (a - 1) text) text names at) e
