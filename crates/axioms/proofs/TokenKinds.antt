-- The kinds of tokens, and their tokens' numbers. Assumes nothing.
--     other_code   the tokens of two kinds have two numbers
--     no_class     no class begins with other kinds
--     no_role      only a name is a role
use Prim.Native.Nat.{ℕ}
use mathlib.Core.Path.{◌≡◌, refl, sym, ◌∙◌, ap}
use mathlib.Core.Bool.{Bool, false}
use mathlib.Core.Option.{none}
use mathlib.Core.List.{List, [], ◌∷◌}
use lib.ListN.{get_or}
use lib.Dec.{eqb}
use borrow.Author.Tests.{ne_eqb}
use Rattle.semantics.specs.Source.{Word}
use Rattle.ontology.specs.Points.{token_of, code}
use Rattle.ontology.specs.declared.TokenKind.{TokenKind}
use Rattle.ontology.specs.declared.TokenKind.TheVariants.{SubClassOf, Annotation, Comment, Usual, Opening, Closing, Thing, Nothing, Intersection, SomeValues, Name}
use Rattle.axioms.specs.Track.{begin_track, role_track}

abbrev kind_at : ℕ → TokenKind
kind_at n = get_or (SubClassOf ∷ Annotation ∷ Comment ∷ Usual ∷ Opening ∷ Closing ∷ Thing ∷ Nothing ∷ Intersection ∷ SomeValues ∷ []) n Name

kind_at_code : (k : TokenKind) (w : Word) → kind_at (code (token_of k w)) ≡ k
kind_at_code SubClassOf w = refl
kind_at_code Annotation w = refl
kind_at_code Comment w = refl
kind_at_code Usual w = refl
kind_at_code Opening w = refl
kind_at_code Closing w = refl
kind_at_code Thing w = refl
kind_at_code Nothing w = refl
kind_at_code Intersection w = refl
kind_at_code SomeValues w = refl
kind_at_code Name w = refl

pub other_code : (e k : TokenKind) (v w : Word) → (k ≡ e → ⊥) → eqb (code (token_of e v)) (code (token_of k w)) ≡ false
other_code e k v w n = ne_eqb (code (token_of e v)) (code (token_of k w)) (λ q. n (sym (kind_at_code k w) ∙ ap kind_at (sym q) ∙ kind_at_code e v))

module _ (r : Bool) (st o : List ℕ) where
  pub no_class : (k : TokenKind) (w : Word) → (k ≡ Thing → ⊥) → (k ≡ Nothing → ⊥) → (k ≡ Intersection → ⊥) → (k ≡ SomeValues → ⊥) → (k ≡ Name → ⊥) →
      begin_track r st o (token_of k w) ≡ none
  no_class Thing w a b c d e = absurd (a refl)
  no_class Nothing w a b c d e = absurd (b refl)
  no_class Intersection w a b c d e = absurd (c refl)
  no_class SomeValues w a b c d e = absurd (d refl)
  no_class Name w a b c d e = absurd (e refl)
  no_class SubClassOf w a b c d e = refl
  no_class Annotation w a b c d e = refl
  no_class Comment w a b c d e = refl
  no_class Usual w a b c d e = refl
  no_class Opening w a b c d e = refl
  no_class Closing w a b c d e = refl

  pub no_role : (k : TokenKind) (w : Word) → (k ≡ Name → ⊥) → role_track r st o (token_of k w) ≡ none
  no_role Name w n = absurd (n refl)
  no_role SubClassOf w n = refl
  no_role Annotation w n = refl
  no_role Comment w n = refl
  no_role Usual w n = refl
  no_role Opening w n = refl
  no_role Closing w n = refl
  no_role Thing w n = refl
  no_role Nothing w n = refl
  no_role Intersection w n = refl
  no_role SomeValues w n = refl
