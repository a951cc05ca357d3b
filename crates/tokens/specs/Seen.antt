-- The token that bytes begin with.
--     gap_length   how many gap bytes stand in a row
--     common       how many first bytes two lists have in common
--     seen_at      the token at the front of the bytes, whole or cut
use Rattle.std.specs.Prelude.{ℕ, suc, ◌+◌, cond, List, [], ◌∷◌, length, get_or, eqb, ltb, Option, Some, None}
use Rattle.semantics.specs.Limits.{word_limit}
use Rattle.words.specs.Bytes.{word_run}
use Rattle.ontology.specs.Text.{sub_class_of, annotation, comment, usual, owl_thing, owl_nothing, intersection_of, some_values, token_bytes, gap_byte}
use Rattle.ontology.specs.Points.{tail}
use Rattle.ontology.specs.declared.TokenKind.{TokenKind}
use Rattle.ontology.specs.declared.TokenKind.TheVariants.{SubClassOf, Annotation, Comment, Usual, Opening, Closing, Thing, Nothing, Intersection, SomeValues, Name}
use Rattle.tokens.specs.declared.Seen.{Seen}
use Rattle.tokens.specs.declared.Seen.TheVariants.{Whole, Cut}

-- how many gap bytes stand in a row at the front
unfoldable pub gap_length : List ℕ → ℕ
gap_length [] = 0
gap_length (b ∷ bs) = cond (gap_byte b) (suc (gap_length bs)) 0

-- how many first bytes two lists have in common
unfoldable pub common : List ℕ → List ℕ → ℕ
common [] w = 0
common (b ∷ bs) [] = 0
common (b ∷ bs) (c ∷ cs) = cond (eqb b c) (suc (common bs cs)) 0

-- the token of this kind, which is written so
unfoldable pub seen_as : TokenKind → List ℕ → List ℕ → Seen
seen_as k word bytes = cond (eqb (common bytes word) (length word)) (Whole k (common bytes word)) (Cut k (common bytes word))

-- one of two tokens that begin alike: the one that goes on further
unfoldable pub seen_either : TokenKind → List ℕ → TokenKind → List ℕ → List ℕ → Seen
seen_either k word k' word' bytes = cond (ltb (common bytes word) (common bytes word')) (seen_as k' word' bytes) (seen_as k word bytes)

abbrev pub seen_object : List ℕ → Seen
seen_object bytes = seen_either Intersection (token_bytes intersection_of) SomeValues (token_bytes some_values) bytes

abbrev pub seen_owl : List ℕ → Seen
seen_owl bytes = seen_either Thing (token_bytes owl_thing) Nothing (token_bytes owl_nothing) bytes

-- a colon and so many word bytes
unfoldable pub seen_size : ℕ → Seen
seen_size n = cond (eqb n 0) (Cut Name 1) (cond (ltb word_limit n) (Whole Name (word_limit + 1)) (Whole Name (n + 1)))

abbrev pub seen_name : List ℕ → Seen
seen_name bytes = seen_size (word_run (tail bytes))

unfoldable pub seen_by : ℕ → List ℕ → Option Seen
seen_by b bytes =
    cond (eqb b 40) (Some (Whole Opening 1))
    (cond (eqb b 41) (Some (Whole Closing 1))
    (cond (eqb b 58) (Some (seen_name bytes))
    (cond (eqb b 83) (Some (seen_as SubClassOf (token_bytes sub_class_of) bytes))
    (cond (eqb b 79) (Some (seen_object bytes))
    (cond (eqb b 111) (Some (seen_owl bytes))
    (cond (eqb b 65) (Some (seen_as Annotation (token_bytes annotation) bytes))
    (cond (eqb b 114) (Some (seen_as Comment (token_bytes comment) bytes))
    (cond (eqb b 34) (Some (seen_as Usual (token_bytes usual) bytes)) None))))))))

-- the token by its first byte; past the end there is none
abbrev pub seen_at : List ℕ → Option Seen
seen_at bytes = seen_by (get_or bytes 0 0) bytes
