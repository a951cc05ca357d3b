-- The book of axioms that have a text is a text of their lines: their names are words. Assumes nothing.
use Prim.Native.Nat.{ℕ}
use mathlib.Core.Path.{◌≡◌, refl, sym, ◌∙◌, ap, ap₂, subst}
use mathlib.Core.List.Memᴰ
use mathlib.Core.List.{List, [], ◌∷◌, ◌++◌, append_assoc, Memᴰ}
use Rattle.semantics.specs.Closure.{Line}
use Rattle.semantics.specs.Source.{Word, LineSyntax, line_bytes, lines_bytes, line_meant, lines_meant, Reads}
use Rattle.semantics.specs.PlainText.{concept_text, line_text, source_text, Words, LineWords}
use Rattle.semantics.proofs.Plain.{plain_reads}
use Rattle.ontology.specs.Axiom.{Class, named, thing, nothing, intersection, some_values_from, Classes, one, more, Axiom}
use Rattle.ontology.specs.Book.{class_text, parts_text, book, concept_of, concept_of_all, axiom_line, lines_of}
use Rattle.ontology.specs.Text.{Token, closing, name, class_tokens, classes_tokens, annotation_tokens, axiom_tokens, axioms_tokens, WellNamed, Spaced, gap, token, RunOf}

abbrev Named : List Token → Type 0
Named ts = (t : Token) → Memᴰ t ts → WellNamed t

spaced_named : {ts : List Token} {bytes : List ℕ} → Spaced ts bytes → Named ts
spaced_named (gap g s e) t m = spaced_named s t m
spaced_named (token n p s e) t (Memᴰ.head h) = subst WellNamed (sym h) n
spaced_named (token n p s e) t (Memᴰ.tail m) = spaced_named s t m
spaced_named Rattle.ontology.specs.Text.end t m = elim m [ ]

named_left : (ts us : List Token) → Named (ts ++ us) → Named ts
named_left ts us n t m = n t (Memᴰ.append_left us m)

named_right : (ts us : List Token) → Named (ts ++ us) → Named us
named_right ts us n t m = n t (Memᴰ.append_right ts m)

named_tail : {t : Token} {ts : List Token} → Named (t ∷ ts) → Named ts
named_tail n t m = n t (Memᴰ.tail m)

mutual
  unfolding class_tokens concept_of WellNamed

  class_words : (C : Class) → Named (class_tokens C) → Words (concept_of C)
  class_words (named w) n = (n (name w) (Memᴰ.head refl)).word
  class_words thing n = tt
  class_words nothing n = tt
  class_words (intersection C Cs) n =
      let inner = named_tail (named_tail n) in (
        class_words C (named_left (class_tokens C) (classes_tokens Cs ++ (closing ∷ [])) inner),
        classes_words Cs (named_left (classes_tokens Cs) (closing ∷ []) (named_right (class_tokens C) (classes_tokens Cs ++ (closing ∷ [])) inner)),
      )
  class_words (some_values_from r C) n = (
    (n (name r) (Memᴰ.tail (Memᴰ.tail (Memᴰ.head refl)))).word,
    class_words C (named_left (class_tokens C) (closing ∷ []) (named_tail (named_tail (named_tail n)))),
  )

  classes_words : (Cs : Classes) → Named (classes_tokens Cs) → Words (concept_of_all Cs)
  classes_words (one C) n = class_words C n
  classes_words (more C Cs) n = (class_words C (named_left (class_tokens C) (classes_tokens Cs) n), classes_words Cs (named_right (class_tokens C) (classes_tokens Cs) n))

axiom_words : (a : Axiom) → Named (axiom_tokens a) → LineWords (axiom_line a)
axiom_words a n =
    let last = class_tokens a.super ++ (closing ∷ []) in
    let sides = named_right (annotation_tokens a.usual) (class_tokens a.sub ++ last) (named_tail (named_tail n)) in (
      class_words a.sub (named_left (class_tokens a.sub) last sides),
      class_words a.super (named_left (class_tokens a.super) (closing ∷ []) (named_right (class_tokens a.sub) last sides)),
    )

axioms_words : (axioms : List Axiom) → Named (axioms_tokens axioms) → (l : Line Word Word) → Memᴰ l (lines_of axioms) → LineWords l
unfolding axioms_tokens
axioms_words (a ∷ axioms) n l (Memᴰ.head h) = subst LineWords (sym h) (axiom_words a (named_left (axiom_tokens a) (axioms_tokens axioms) n))
axioms_words (a ∷ axioms) n l (Memᴰ.tail m) = axioms_words axioms (named_right (axiom_tokens a) (axioms_tokens axioms) n) l m
axioms_words [] n l x'' = elim x'' [ ]

-- ---- the book is the plainest text of its lines

mutual
  unfolding class_text concept_of concept_text

  class_plain : (C : Class) → concept_text (concept_of C) ≡ class_text C
  class_plain (named w) = refl
  class_plain thing = refl
  class_plain nothing = refl
  class_plain (intersection C Cs) = rw (class_plain C, parts_plain Cs)
  class_plain (some_values_from r C) = rw (class_plain C)

  parts_plain : (Cs : Classes) → concept_text (concept_of_all Cs) ≡ parts_text Cs
  parts_plain (one C) = class_plain C
  parts_plain (more C Cs) = rw (class_plain C, parts_plain Cs)

book_plain : (axioms : List Axiom) → source_text (lines_of axioms) ≡ book axioms
unfolding book source_text line_text
book_plain [] = refl
book_plain (a ∷ axioms) = rw (class_plain a.sub, class_plain a.super, book_plain axioms)

pub book_reads : {input : List ℕ} {axioms : List Axiom} → RunOf input axioms → Reads (book axioms) (lines_of axioms)
book_reads {axioms = axioms} a = plain_reads record { words = axioms_words axioms (spaced_named a.spaced); spelled = book_plain axioms }

-- ---- with a text of other lines behind it

bytes_append : (es fs : List LineSyntax) → lines_bytes (es ++ fs) ≡ lines_bytes es ++ lines_bytes fs
unfolding lines_bytes
bytes_append [] fs = refl
bytes_append (e ∷ es) fs = rw (bytes_append es fs) (sym (append_assoc (line_bytes e) (lines_bytes es) (lines_bytes fs)))

meant_append : (es fs : List LineSyntax) → lines_meant (es ++ fs) ≡ lines_meant es ++ lines_meant fs
meant_append [] fs = refl
meant_append (e ∷ es) fs = ap (line_meant e ∷◌) (meant_append es fs)

each_part : {P : LineSyntax → Type 0} (es fs : List LineSyntax) → ((e : LineSyntax) → Memᴰ e es → P e) → ((e : LineSyntax) → Memᴰ e fs → P e) →
    (e : LineSyntax) → Memᴰ e (es ++ fs) → P e
each_part [] fs p q e m = q e m
each_part (x ∷ es) fs p q e (Memᴰ.head h) = p e (Memᴰ.head h)
each_part (x ∷ es) fs p q e (Memᴰ.tail m) = each_part es fs (λ y i. p y (Memᴰ.tail i)) q e m

reads_append : {text more : List ℕ} {ls ms : List (Line Word Word)} → Reads text ls → Reads more ms → Reads (text ++ more) (ls ++ ms)
reads_append {text} {more} {ls} {ms} a b = record {
  syntax = a.syntax ++ b.syntax;
  writes = record {
    well_formed = each_part a.syntax b.syntax a.writes.well_formed b.writes.well_formed;
    spelled = bytes_append a.syntax b.syntax ∙ ap₂ ◌++◌ a.writes.spelled b.writes.spelled;
  };
  means = meant_append a.syntax b.syntax ∙ ap₂ ◌++◌ a.means b.means;
}

pub book_behind : {input more : List ℕ} {axioms : List Axiom} {behind : List (Line Word Word)} → RunOf input axioms → Reads more behind → Reads (book axioms ++ more) (lines_of axioms ++ behind)
book_behind a r = reads_append (book_reads a) r
