-- Worked examples: runs with their books, and inputs that are no runs, each at its place (refusal 24). Assumes nothing.
--     book_examples     an input, and the book of its axioms
--     place_examples    an input, and the first byte that no run could have there
--     no_left_nesting   parts do not nest to the left
use Prim.Native.Nat.{ℕ}
use Prim.Native.String.{String}
use native.Mathlib.Omega.{arith}
use mathlib.Core.Path.{◌≡◌, refl, sym, ◌∙◌, ap}
use mathlib.Core.Option.{Option, none, some, some-injective}
use lib.ListN.{get_or}
use mathlib.Core.List.{List, [], ◌∷◌, map, Memᴰ}
use Rattle.semantics.specs.Examples.{bytes}
use Rattle.ontology.specs.Axiom.{Axiom}
use Rattle.ontology.specs.Book.{class_text, book}
use Rattle.ontology.specs.Text.{token_bytes, RunOf}
use Rattle.ontology.specs.Refused.{NoRunAt}
use Rattle.ontology.proofs.Reader.{preceded, close_behind, next_behind, take_due, begin_token, step_touching, step_at, Outcome, accepted, stopped, run, read_axioms}
use Rattle.ontology.proofs.Deciding.{accepted_reads, stops_decides, axioms_unique}

-- The input is a text of axioms that have this book.
pub record HasBook (input text : List ℕ) : Type 0 where
  pub axioms : List Axiom
  pub reads : RunOf input axioms
  pub written : book axioms ≡ text

abbrev book_of : Outcome → Option (List ℕ)
book_of (accepted axioms) = some (book axioms)
book_of (stopped p) = none

has_book : (input text : List ℕ) → book_of (read_axioms input) ≡ some text → HasBook input text
has_book input text e = go (read_axioms input) refl e
  where
    go : (o : Outcome) → read_axioms input ≡ o → book_of o ≡ some text → HasBook input text
    go (accepted axioms) r h = record { axioms = axioms; reads = accepted_reads input axioms r; written = some-injective (book axioms) text h }
    go (stopped p) r h = absurd cc

-- ---- runs

abbrev runs : List (String × String)
runs =
    ("", "")
    ∷ (" \n  \n", "")
    ∷ ("SubClassOf(:clone :set)", "S clone set\n")
    ∷ (" \nSubClassOf \n( \n:clone\n:set ) \n", "S clone set\n")
    ∷ ("SubClassOf( Annotation( rdfs:comment \"usual\" ) :set :shown )", "U set shown\n")
    ∷ ("SubClassOf(Annotation(rdfs:comment\"usual\"):set :shown)", "U set shown\n")
    ∷ ("SubClassOf(:a :b)SubClassOf(Annotation(rdfs:comment \"usual\"):c :d)", "S a b\nU c d\n")
    ∷ ("SubClassOf( ObjectIntersectionOf( :shown :hidden ) owl:Nothing )", "S & shown hidden -\n")
    ∷ ("SubClassOf(ObjectIntersectionOf(:a :b :c :d)owl:Thing)", "S & a & b & c d *\n")
    ∷ ("SubClassOf(ObjectIntersectionOf(:a ObjectIntersectionOf(:b :c)) ObjectIntersectionOf(ObjectIntersectionOf(:a :b) :c))", "S & a & b c & & a b c\n")
    ∷ ("SubClassOf(:a ObjectSomeValuesFrom(:part ObjectIntersectionOf(:b ObjectSomeValuesFrom(:of owl:Thing))))", "S a /part & b /of *\n")
    ∷ ("SubClassOf(ObjectIntersectionOf(:a :b):a)", "S & a b a\n")
    ∷ ("SubClassOf(:abcdefghijkl :b)", "S abcdefghijkl b\n")
    ∷ []

abbrev computed_book : String × String → Option (List ℕ)
computed_book e = book_of (read_axioms (bytes e.0))

abbrev given_book : String × String → Option (List ℕ)
given_book e = some (bytes e.1)

-- ---- no runs

abbrev places : List (String × ℕ)
places =
    -- a name of 13 bytes, at its 13th; one of 12 and one of 13 where the input ends
    ("SubClassOf(:abcdefghijklmno :b)", 24) ∷ ("SubClassOf(:abcdefghijkl", 24) ∷ ("SubClassOf(:abcdefghijklm", 24)
    -- an intersection of one part, and of none
    ∷ ("SubClassOf(ObjectIntersectionOf(:a) :b)", 34) ∷ ("SubClassOf(ObjectIntersectionOf(:a ) :b)", 35) ∷ ("SubClassOf(ObjectIntersectionOf() :b)", 32)
    -- a second annotation, one of another value, one behind a class, a value with a type
    ∷ ("SubClassOf(Annotation(rdfs:comment \"usual\") :a Annotation(rdfs:comment \"usual\") :b)", 47)
    ∷ ("SubClassOf(Annotation(rdfs:comment \"usual\") Annotation(rdfs:comment \"usual\") :a :b)", 44)
    ∷ ("SubClassOf(Annotation(rdfs:comment \"never\") :a :b)", 36)
    ∷ ("SubClassOf(:a Annotation(rdfs:comment \"usual\") :b)", 14)
    ∷ ("SubClassOf(Annotation(rdfs:comment \"usual\"^^xsd:string) :a :b)", 42)
    -- no gap behind a name or an owl: class
    ∷ ("SubClassOf(:a:b)", 13) ∷ ("SubClassOf(owl:Thing:b)", 20) ∷ ("SubClassOf(owl:Things :b)", 20) ∷ ("SubClassOf(ObjectSomeValuesFrom(:r:a) :b)", 34)
    -- another token than those that may stand there
    ∷ ("SubClassOf(owl:Thing)", 20) ∷ ("SubClassOf(owl:thing :b)", 15) ∷ ("SubClassOf(ObjectUnionOf(:a :b) :c)", 17) ∷ ("SubclassOf(:a :b)", 3)
    ∷ ("SubClassOf(:a :b))", 17) ∷ ("SubClassOf(:a :b :c)", 17) ∷ ("SubClassOf(:a)", 13) ∷ ("SubClassOf(ObjectSomeValuesFrom(owl:Thing :a) :b)", 32)
    ∷ ("EquivalentClasses(:a :b)", 0)
    -- no word, a capital in one, a tab
    ∷ ("SubClassOf(:", 12) ∷ ("SubClassOf(: a :b)", 12) ∷ ("SubClassOf(:A :b)", 12) ∷ ("SubClassOf(:a\t:b)", 13)
    -- an end where none may be
    ∷ ("SubClassOf(:a :b", 16) ∷ ("SubClassOf", 10)
    ∷ []

abbrev computed_place : String × ℕ → Outcome
computed_place e = read_axioms (bytes e.0)

abbrev given_place : String × ℕ → Outcome
given_place e = stopped e.1

places_compute : map computed_place places ≡ map given_place places
unfolding run step_at step_touching begin_token take_due next_behind close_behind preceded token_bytes
places_compute = refl

-- ---- as facts

cons_injective : {Y : Type 0} {a b : Y} {l m : List Y} → a ∷ l ≡ b ∷ m → (a ≡ b) × (l ≡ m)
cons_injective e = (cc, cc)

each : {X Y : Type 0} (f g : X → Y) (l : List X) → map f l ≡ map g l → (x : X) → Memᴰ x l → f x ≡ g x
each f g (y ∷ l) e x (Memᴰ.head h) = ap f h ∙ (cons_injective e).0 ∙ sym (ap g h)
each f g (y ∷ l) e x (Memᴰ.tail m) = each f g l (cons_injective e).1 x m
each {X = X} {Y = Y} f g [] e x x4 = elim x4 [ ]

pub book_examples : (e : String × String) → Memᴰ e runs → HasBook (bytes e.0) (bytes e.1)
unfolding run step_at step_touching begin_token take_due next_behind close_behind preceded token_bytes book class_text
book_examples e m =
    let computed : map computed_book runs ≡ map given_book runs = refl in
    has_book (bytes e.0) (bytes e.1) (each computed_book given_book runs computed e m)

pub place_examples : (e : String × ℕ) → Memᴰ e places → NoRunAt (bytes e.0) e.1
place_examples e m = (stops_decides (bytes e.0) e.1).0 (each computed_place given_place places places_compute e m)

-- ---- parts nested to the left, refuted

book_unique : {input text text' : List ℕ} → HasBook input text → HasBook input text' → text ≡ text'
book_unique a b = sym a.written ∙ ap book (axioms_unique a.reads b.reads) ∙ b.written

pub no_left_nesting : HasBook (bytes "SubClassOf(ObjectIntersectionOf(:a :b :c)owl:Thing)") (bytes "S & & a b c *\n") → ⊥
unfolding run step_at step_touching begin_token take_due next_behind close_behind preceded token_bytes book class_text
no_left_nesting left =
    let right : HasBook (bytes "SubClassOf(ObjectIntersectionOf(:a :b :c)owl:Thing)") (bytes "S & a & b c *\n") = has_book _ _ refl in
    let same : ◌≡◌ {A = ℕ} 97 38 = ap (λ l. get_or l 4 0) (book_unique right left) in
    omega arith
