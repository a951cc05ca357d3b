-- Where in a token, or between two, a reading is. The readers and the contracts of inner functions cite it; nobody has to believe it.
--     token_of       the token of a kind
--     code           tokens by number
--     Point          where the reading is
--     behind_token   what stands behind a token
use Rattle.std.specs.Prelude.{ℕ, List, [], ◌∷◌}
use Rattle.semantics.specs.Source.{Word}
use Rattle.ontology.specs.Text.{Token, sub_class_of, annotation, comment, usual, opening, closing, owl_thing, owl_nothing, intersection_of, some_values, name}
use Rattle.ontology.specs.declared.TokenKind.{TokenKind}
use Rattle.ontology.specs.declared.TokenKind.TheVariants.{SubClassOf, Annotation, Comment, Usual, Opening, Closing, Thing, Nothing, Intersection, SomeValues, Name}

-- the name's bytes are w
abbrev pub token_of : TokenKind → Word → Token
token_of SubClassOf w = sub_class_of
token_of Annotation w = annotation
token_of Comment w = comment
token_of Usual w = usual
token_of Opening w = opening
token_of Closing w = closing
token_of Thing w = owl_thing
token_of Nothing w = owl_nothing
token_of Intersection w = intersection_of
token_of SomeValues w = some_values
token_of Name w = name w

-- every name has 10
abbrev pub code : Token → ℕ
code sub_class_of = 0
code annotation = 1
code comment = 2
code usual = 3
code opening = 4
code closing = 5
code owl_thing = 6
code owl_nothing = 7
code intersection_of = 8
code some_values = 9
code (name w) = 10

-- two tokens that begin alike: owl:Thing and owl:Nothing, or ObjectIntersectionOf and ObjectSomeValuesFrom
pub data Fork : Type 0 where
  owl : Fork
  object : Fork

pub data Point : Type 0 where
  between : Point  -- between tokens
  touching : Point  -- just behind a name or an owl: class
  word : List ℕ → Token → Point  -- in the token, before these bytes
  fork : List ℕ → Fork → Point  -- in one of the two tokens, before these bytes that both have
  naming : Word → Point  -- in a name, behind these bytes

-- what stands behind a token
abbrev pub behind_token : Token → Point
behind_token sub_class_of = between
behind_token annotation = between
behind_token comment = between
behind_token usual = between
behind_token opening = between
behind_token closing = between
behind_token owl_thing = touching
behind_token owl_nothing = touching
behind_token intersection_of = between
behind_token some_values = between
behind_token (name w) = touching

abbrev pub tail : List ℕ → List ℕ
tail [] = []
tail (b ∷ bs) = bs
