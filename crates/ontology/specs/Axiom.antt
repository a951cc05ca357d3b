-- SubClassOf axioms (the fragment of OWL 2 that is converted), and what they mean, read directly. An axiom here is OWL's word for a rule; nothing is assumed.
--     Class      class expressions; an intersection has two or more parts
--     InClass    an element is in a class: in an intersection where it is in all parts
--     ModelOf    the interpretation is a model of the axioms that are not usual
use Rattle.std.specs.Prelude.{ℕ, ◌<◌, ◌≡◌, Bool, true, false}
use mathlib.Core.List.{List, Memᴰ}
use Rattle.semantics.specs.Concept.{Interpretation}
use Rattle.semantics.specs.Source.{Word}

-- ---- axioms

mutual
  pub data Class : Type 0 where
    named : Word → Class  -- :name
    thing : Class  -- owl:Thing
    nothing : Class  -- owl:Nothing
    intersection : Class → Classes → Class  -- ObjectIntersectionOf: the first part, and the others
    some_values_from : Word → Class → Class  -- ObjectSomeValuesFrom: the role, and the filler

  -- one class or more, in order
  pub data Classes : Type 0 where
    one : Class → Classes
    more : Class → Classes → Classes

pub record Axiom : Type 0 where
  pub usual : Bool  -- annotated as usual
  pub sub : Class
  pub super : Class

-- ---- what they mean

unfoldable mutual
  -- the element x is in the class
  pub InClass : Interpretation Word Word → Class → ℕ → Type 0
  InClass I (named w) x = I.of_name w x ≡ true
  InClass I thing x = Unit {0}
  InClass I nothing x = ⊥
  InClass I (intersection C Cs) x = InClass I C x × InAll I Cs x
  InClass I (some_values_from r C) x = (y : ℕ) × (y < I.size) × (I.of_role r x y ≡ true) × InClass I C y

  -- it is in all of them
  pub InAll : Interpretation Word Word → Classes → ℕ → Type 0
  InAll I (one C) x = InClass I C x
  InAll I (more C Cs) x = InClass I C x × InAll I Cs x

-- Every element of the interpretation that is in the sub class of an axiom with no annotation is in its super class.
pub record ModelOf (axioms : List Axiom) (I : Interpretation Word Word) : Type 0 where
  pub holds : (a : Axiom) → Memᴰ a axioms → a.usual ≡ false → (x : ℕ) → x < I.size → InClass I a.sub x → InClass I a.super x
