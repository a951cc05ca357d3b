-- What the reading of a concept leaves. Assumes nothing.
use Prim.Native.Nat.{ℕ, zero, suc, ◌+◌, ◌<◌, ◌≤◌}
use native.Mathlib.Omega.{arith}
use mathlib.Core.Path.{◌≡◌, refl, sym, ap, ◌∙◌}
use mathlib.Core.Bool.{Bool, true, false, cond}
use mathlib.Core.List.{List}
use lib.ListN.{length}
use lib.Dec.{eqb}
use Rattle.semantics.specs.Source.{star_byte, dash_byte, ampersand_byte}
use Rattle.semantics.specs.Limits.{number_limit}
use Rattle.refusal.specs.declared.Refusal.TheVariants.{SyntaxError}
use Rattle.words.specs.Bytes.{byte_at, class_of, is_word_class, word_length}
use Rattle.chains.specs.declared.Sort.TheVariants.{Concepts, Roles}
use Rattle.names.specs.Names.{with_left, read_word}
use Rattle.forms.specs.Forms.{sign_form, class_form, form_at}
use Rattle.forms.specs.Opened.{after_space, open_conjunction, open_existential}
use Rattle.concepts.specs.Reader.{read_sides, read_filler, read_form, read_concept}
use Rattle.words.specs.declared.ByteClass.{ByteClass}
use Rattle.words.specs.declared.ByteClass.TheVariants.{Word, Sign, Space, LineEnd, Other}
use Rattle.std.specs.Prelude.{Option, Some, None}
use Rattle.forms.specs.declared.Form.{Form}
use Rattle.forms.specs.declared.Form.TheVariants.{Top, Bottom, Name, Conjunction, Existential}
use Rattle.names.specs.State.{State, Ending, next_concept}
use Rattle.forms.proofs.Inside.{inside_form}
use Rattle.words.proofs.Within.{run_more, word_fits}
use Rattle.names.proofs.Ends.{Ends, EndsAt, Further, ends_mono, then_ends, refuse_ends, gap_ends, take_number_ends, word_ends}

module _ (P : ℕ → ℕ → Type 0) (names : State) (room : next_concept names ≤ number_limit) where
  pub space_ends :
      (text : List ℕ) (at : ℕ) (more : ℕ → Ending) → ((start : ℕ) → at < start → start ≤ length text → Ends P (more start)) →
      Ends P (after_space text names at more)
  unfolding after_space
  space_ends text at more f = then_ends P (Further text at) _ _ (gap_ends text names room at) λ names none start room h. f start h.0 h.1

-- ---- concepts

-- a concept that is a word starts with a word byte
is_name : Option Form → Bool
is_name (Some Top) = false
is_name (Some Bottom) = false
is_name (Some Name) = true
is_name (Some Conjunction) = false
is_name (Some Existential) = false
is_name None = false

no_sign_name : (b : ℕ) → is_name (Some (sign_form b)) ≡ false
unfolding sign_form is_name
no_sign_name b = go (eqb b star_byte) (eqb b dash_byte) (eqb b ampersand_byte)
  where
    go : (t u v : Bool) → is_name (Some (cond t Top (cond u Bottom (cond v Conjunction Existential)))) ≡ false
    go true u v = refl
    go false true v = refl
    go false false true = refl
    go false false false = refl

name_word : (class : ByteClass) (b : ℕ) → is_name (class_form class b) ≡ true → is_word_class class ≡ true
unfolding is_name
name_word Word b h = refl
name_word Sign b h = sym (no_sign_name b) ∙ h
name_word Space b h = h
name_word LineEnd b h = h
name_word Other b h = h

module _ (text : List ℕ) (names : State) (room : next_concept names ≤ number_limit) (at : ℕ) (inside : at < length text) where
  name_ends : form_at text at ≡ Some Name → Ends (Further text at) (read_word Concepts text names at)
  unfolding is_name
  name_ends e =
      let more = run_more text at (name_word (class_of (byte_at text at)) (byte_at text at) (ap is_name e)) in
      let fits = word_fits text at (omega arith) in
      ends_mono (Further text at) (EndsAt (at + word_length text at)) _ (λ number next h. (omega arith, omega arith)) (word_ends names room Concepts text at)

  conjunction_ends : Ends (Further text at) (open_conjunction text names at)
  unfolding open_conjunction
  conjunction_ends =
      then_ends (Further text at) (EndsAt (at + 1)) _ _ (take_number_ends names room at) λ names number next room e.
      space_ends (Further text at) names room text next _ λ start h k. record { room = room; read = (omega arith, k) }

  existential_ends : Ends (Further text at) (open_existential text names at)
  unfolding open_existential
  existential_ends =
      then_ends (Further text at) (EndsAt (at + 1)) _ _ (take_number_ends names room at) λ names number next room e.
      then_ends (Further text at) (EndsAt (next + word_length text next)) _ _ (word_ends names room Roles text next) λ names role end room f.
      space_ends (Further text at) names room text end _ λ start h k. record { room = room; read = (omega arith, k) }

-- what is within a concept, where every concept within it does so
module _ (text : List ℕ) (inner : State → ℕ → Ending)
    (each : (names : State) (at : ℕ) → next_concept names ≤ number_limit → Ends (Further text at) (inner names at)) where
  pub sides_ends : (names : State) (at number : ℕ) → next_concept names ≤ number_limit → Ends (Further text at) (read_sides inner text names at number)
  unfolding read_sides
  sides_ends names at number room =
      then_ends (Further text at) (Further text at) _ _ (each names at room) λ names left next room h.
      space_ends (Further text at) names room text next _ λ start k l.
      then_ends (Further text at) (Further text start) _ _ (each (with_left names number left) start room) λ names right end room m.
      record { room = room; read = (omega arith, m.1) }

  filler_ends : (names : State) (at number : ℕ) → next_concept names ≤ number_limit → Ends (Further text at) (read_filler inner names at number)
  unfolding read_filler
  filler_ends names at number room =
      then_ends (Further text at) (Further text at) _ _ (each names at room) λ names right end room h. record { room = room; read = h }

  form_ends :
      (f : Option Form) (names : State) (at : ℕ) → next_concept names ≤ number_limit → form_at text at ≡ f → Ends (Further text at) (read_form f inner text names at)
  unfolding read_form
  form_ends (Some Top) names at room e = record { room = room; read = (omega arith, omega (arith, inside_form text at e refl)) }
  form_ends (Some Bottom) names at room e = record { room = room; read = (omega arith, omega (arith, inside_form text at e refl)) }
  form_ends (Some Name) names at room e = name_ends text names room at (inside_form text at e refl) e
  form_ends (Some Conjunction) names at room e =
      then_ends (Further text at) (Further text at) _ _ (conjunction_ends text names room at (inside_form text at e refl)) λ names number next room h.
      ends_mono (Further text at) (Further text next) _ (λ n end k. (omega arith, k.1)) (sides_ends names next number room)
  form_ends (Some Existential) names at room e =
      then_ends (Further text at) (Further text at) _ _ (existential_ends text names room at (inside_form text at e refl)) λ names number next room h.
      ends_mono (Further text at) (Further text next) _ (λ n end k. (omega arith, k.1)) (filler_ends names next number room)
  form_ends None names at room e = refuse_ends (Further text at) names room SyntaxError at

pub concept_ends : (allowance : ℕ) (text : List ℕ) (names : State) (at : ℕ) → next_concept names ≤ number_limit → Ends (Further text at) (read_concept allowance text names at)
unfolding read_concept
concept_ends zero text names at room = record { room = room; read = tt }
concept_ends (suc allowance) text names at room =
    form_ends text (read_concept allowance text) (concept_ends allowance text) (form_at text at) names at room refl
