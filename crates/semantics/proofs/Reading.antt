-- A text is written in one way at most, and so has one list of lines. From the laws of the parts alone.
-- Assumes nothing.
use Prim.Native.Nat.{ℕ, ◌<◌}
use native.Mathlib.Omega.{arith}
use mathlib.Core.Path.{◌≡◌, refl, sym, ◌∙◌, ap, ap₂, subst}
use mathlib.Core.Bool.{true, cond}
use mathlib.Core.List.{List, [], ◌∷◌, ◌++◌, append_assoc, Memᴰ}
use lib.ListN.{length, length-append}
use lib.Dec.{eqb}
use borrow.Author.Tests.{eqb-true}
use Rattle.semantics.specs.Closure.{Line, RationalClosure}
use Rattle.semantics.specs.Source.{star_byte, dash_byte, ampersand_byte, slash_byte, space_byte, line_feed, Word, word_byte, Spelled, ConceptSyntax, star, dash, word, ampersand, slash}
use Rattle.semantics.specs.Source.{LineSyntax, lines_meant, concept_bytes, line_bytes, lines_bytes, WellFormed, WellFormedLine, Writes, Reads}
use Rattle.semantics.proofs.Tests.{cases}
use Rattle.semantics.proofs.Unique.{closure_unique}
use Rattle.semantics.proofs.Spelling.{Stops, spelled_end, spelled_starts, spelled_long}
use Rattle.semantics.proofs.Gaps.{Unspaced, gap_end, gap_stops}
use Rattle.semantics.proofs.Letters.{letter_end}

-- ---- what a concept begins with

-- which of the five a text begins, by its first byte
abbrev kind : List ℕ → ℕ
kind [] = 5
kind (b ∷ s) = cond (word_byte b) 2 b

syntax_kind : ConceptSyntax → ℕ
syntax_kind star = star_byte
syntax_kind dash = dash_byte
syntax_kind (word w b) = 2
syntax_kind (ampersand g C h D) = ampersand_byte
syntax_kind (slash r b g C) = slash_byte

word_kind : {w : Word} {b : List ℕ} (s : List ℕ) → Spelled w b → (l : List ℕ) → b ++ s ≡ l → kind l ≡ 2
word_kind {b} s h [] e = absurd (omega (arith, spelled_long h, length-append b s, ap length e))
word_kind s h (c ∷ l) e = rw (spelled_starts s h e)

kind_of : (C : ConceptSyntax) (s : List ℕ) → WellFormed C → kind (concept_bytes C ++ s) ≡ syntax_kind C
unfolding concept_bytes syntax_kind
kind_of star s h = refl
kind_of dash s h = refl
kind_of (word w b) s h = word_kind s h (b ++ s) refl
kind_of (ampersand g C h' D) s h = refl
kind_of (slash r b g C) s h = refl

same_kind : (C D : ConceptSyntax) (s t : List ℕ) → WellFormed C → WellFormed D → concept_bytes C ++ s ≡ concept_bytes D ++ t → syntax_kind C ≡ syntax_kind D
same_kind C D s t hC hD e = sym (kind_of C s hC) ∙ ap kind e ∙ kind_of D t hD

-- no gap goes on where a concept starts
kind_fresh : (l : List ℕ) → (kind l ≡ space_byte → ⊥) → Unspaced l
kind_fresh [] h = tt
kind_fresh (b ∷ s) h = cases (eqb b space_byte) (λ e. absurd (h (go e))) (λ e. e)
  where
    go : eqb b space_byte ≡ true → kind (b ∷ s) ≡ space_byte
    go e = rw (eqb-true b space_byte e) refl

pub concept_fresh : (C : ConceptSyntax) (s : List ℕ) → WellFormed C → Unspaced (concept_bytes C ++ s)
unfolding syntax_kind
concept_fresh C s h = kind_fresh (concept_bytes C ++ s) (λ e. go C (sym (kind_of C s h) ∙ e))
  where
    go : (C : ConceptSyntax) → syntax_kind C ≡ space_byte → ⊥
    go star e = omega arith
    go dash e = omega arith
    go (word w b) e = omega arith
    go (ampersand g C h D) e = omega arith
    go (slash r b g C) e = omega arith

pub concept_long : (C : ConceptSyntax) → WellFormed C → 0 < length (concept_bytes C)
unfolding concept_bytes
concept_long star w = omega arith
concept_long dash w = omega arith
concept_long (word w b) h = spelled_long h
concept_long (ampersand g C h D) w = omega arith
concept_long (slash r b g C) w = omega arith

-- ---- concepts

regroup : (a b s c d t : List ℕ) → (a ++ b) ++ s ≡ (c ++ d) ++ t → a ++ (b ++ s) ≡ c ++ (d ++ t)
regroup a b s c d t e = sym (append_assoc a b s) ∙ e ∙ append_assoc c d t

tails : {a b : ℕ} {s t : List ℕ} → a ∷ s ≡ b ∷ t → s ≡ t
tails e = cc

concept_end : (C D : ConceptSyntax) (s t : List ℕ) → WellFormed C → WellFormed D → Stops s → Stops t →
    concept_bytes C ++ s ≡ concept_bytes D ++ t → syntax_kind C ≡ syntax_kind D → (C ≡ D) × (s ≡ t)
unfolding concept_bytes syntax_kind
concept_end star star s t hC hD hs ht e k = (refl, tails e)
concept_end star dash s t hC hD hs ht e k = absurd (omega arith)
concept_end star (word v c) s t hC hD hs ht e k = absurd (omega arith)
concept_end star (ampersand g D h D') s t hC hD hs ht e k = absurd (omega arith)
concept_end star (slash q c g D) s t hC hD hs ht e k = absurd (omega arith)
concept_end dash star s t hC hD hs ht e k = absurd (omega arith)
concept_end dash dash s t hC hD hs ht e k = (refl, tails e)
concept_end dash (word v c) s t hC hD hs ht e k = absurd (omega arith)
concept_end dash (ampersand g D h D') s t hC hD hs ht e k = absurd (omega arith)
concept_end dash (slash q c g D) s t hC hD hs ht e k = absurd (omega arith)
concept_end (word w b) star s t hC hD hs ht e k = absurd (omega arith)
concept_end (word w b) dash s t hC hD hs ht e k = absurd (omega arith)
concept_end (word w b) (word v c) s t hC hD hs ht e k = let (m, n, r) = spelled_end hC hD hs ht e in (ap₂ word m n, r)
concept_end (word w b) (ampersand g D h D') s t hC hD hs ht e k = absurd (omega arith)
concept_end (word w b) (slash q c g D) s t hC hD hs ht e k = absurd (omega arith)
concept_end (ampersand g C h C') star s t hC hD hs ht e k = absurd (omega arith)
concept_end (ampersand g C h C') dash s t hC hD hs ht e k = absurd (omega arith)
concept_end (ampersand g C h C') (word v c) s t hC hD hs ht e k = absurd (omega arith)
concept_end (ampersand g C h C') (ampersand i D j D') s t hC hD hs ht e k =
    let p : g ++ (concept_bytes C ++ (h ++ (concept_bytes C' ++ s))) ≡ i ++ (concept_bytes D ++ (j ++ (concept_bytes D' ++ t))) = simp append_assoc at (tails e) in
    let (m0, n0) = gap_end hC.0 hD.0 (concept_fresh C (h ++ (concept_bytes C' ++ s)) hC.1) (concept_fresh D (j ++ (concept_bytes D' ++ t)) hD.1) p in
    let (m1, n1) = concept_end C D (h ++ (concept_bytes C' ++ s)) (j ++ (concept_bytes D' ++ t)) hC.1 hD.1 (gap_stops hC.2 (concept_bytes C' ++ s)) (gap_stops hD.2 (concept_bytes D' ++ t)) n0
    (same_kind C D (h ++ (concept_bytes C' ++ s)) (j ++ (concept_bytes D' ++ t)) hC.1 hD.1 n0) in
    let (m2, n2) = gap_end hC.2 hD.2 (concept_fresh C' s hC.3) (concept_fresh D' t hD.3) n1 in
    let (m3, n3) = concept_end C' D' s t hC.3 hD.3 hs ht n2 (same_kind C' D' s t hC.3 hD.3 n2) in
    ((λ i. ampersand (m0 i) (m1 i) (m2 i) (m3 i)), n3)
concept_end (ampersand g C h C') (slash q c i D) s t hC hD hs ht e k = absurd (omega arith)
concept_end (slash r b g C) star s t hC hD hs ht e k = absurd (omega arith)
concept_end (slash r b g C) dash s t hC hD hs ht e k = absurd (omega arith)
concept_end (slash r b g C) (word v c) s t hC hD hs ht e k = absurd (omega arith)
concept_end (slash r b g C) (ampersand i D j D') s t hC hD hs ht e k = absurd (omega arith)
concept_end (slash r b g C) (slash q c i D) s t hC hD hs ht e k =
    let p : b ++ (g ++ (concept_bytes C ++ s)) ≡ c ++ (i ++ (concept_bytes D ++ t)) = simp append_assoc at (tails e) in
    let (m0, n0, r0) = spelled_end hC.0 hD.0 (gap_stops hC.1 (concept_bytes C ++ s)) (gap_stops hD.1 (concept_bytes D ++ t)) p in
    let (m1, n1) = gap_end hC.1 hD.1 (concept_fresh C s hC.2) (concept_fresh D t hD.2) r0 in
    let (m2, n2) = concept_end C D s t hC.2 hD.2 hs ht n1 (same_kind C D s t hC.2 hD.2 n1) in
    ((λ i. slash (m0 i) (n0 i) (m1 i) (m2 i)), n2)

pub concept_unique : (C D : ConceptSyntax) (s t : List ℕ) → WellFormed C → WellFormed D → Stops s → Stops t → concept_bytes C ++ s ≡ concept_bytes D ++ t → (C ≡ D) × (s ≡ t)
concept_unique C D s t hC hD hs ht e = concept_end C D s t hC hD hs ht e (same_kind C D s t hC hD e)

-- ---- lines

-- a line's bytes, one after the other
pub line_spread : (e : LineSyntax) (s : List ℕ) →
    line_bytes e ++ s ≡ e.letter ++ (e.front ++ (concept_bytes e.left ++ (e.middle ++ (concept_bytes e.right ++ (line_feed ∷ s)))))
unfolding line_bytes
line_spread e s = simp append_assoc

pub line_unique : (d e : LineSyntax) (s t : List ℕ) → WellFormedLine d → WellFormedLine e → line_bytes d ++ s ≡ line_bytes e ++ t → (d ≡ e) × (s ≡ t)
line_unique d e s t hd he q =
    let x = concept_bytes d.right ++ (line_feed ∷ s) in
    let y = concept_bytes e.right ++ (line_feed ∷ t) in
    let (k, l, r0) = letter_end hd.letter he.letter (sym (line_spread d s) ∙ q ∙ line_spread e t) in
    let (g, r1) = gap_end hd.front he.front (concept_fresh d.left (d.middle ++ x) hd.left) (concept_fresh e.left (e.middle ++ y) he.left) r0 in
    let (c, r2) = concept_unique d.left e.left (d.middle ++ x) (e.middle ++ y) hd.left he.left (gap_stops hd.middle x) (gap_stops he.middle y) r1 in
    let (h, r3) = gap_end hd.middle he.middle (concept_fresh d.right (line_feed ∷ s) hd.right) (concept_fresh e.right (line_feed ∷ t) he.right) r2 in
    let (c', r4) = concept_unique d.right e.right (line_feed ∷ s) (line_feed ∷ t) hd.right he.right refl refl r3 in
    ((λ i. record { kind = k i; letter = l i; front = g i; left = c i; middle = h i; right = c' i }), tails r4)

pub line_long : (e : LineSyntax) → 0 < length (line_bytes e)
unfolding line_bytes
line_long e = simp length-append (omega arith)

lines_unique : (ds es : List LineSyntax) → ((d : LineSyntax) → Memᴰ d ds → WellFormedLine d) → ((e : LineSyntax) → Memᴰ e es → WellFormedLine e) →
    lines_bytes ds ≡ lines_bytes es → ds ≡ es
unfolding lines_bytes
lines_unique [] [] hd he q = refl
lines_unique [] (e ∷ es) hd he q = absurd (omega (arith, line_long e, length-append (line_bytes e) (lines_bytes es), ap length q))
lines_unique (d ∷ ds) [] hd he q = absurd (omega (arith, line_long d, length-append (line_bytes d) (lines_bytes ds), ap length q))
lines_unique (d ∷ ds) (e ∷ es) hd he q =
    let (p, r) = line_unique d e (lines_bytes ds) (lines_bytes es) (hd d (Memᴰ.head refl)) (he e (Memᴰ.head refl)) q in
    ap₂ ◌∷◌ p (lines_unique ds es (λ k i. hd k (Memᴰ.tail i)) (λ k i. he k (Memᴰ.tail i)) r)

-- A text is written in one way.
pub writes_unique : {text : List ℕ} {ds es : List LineSyntax} → Writes ds text → Writes es text → ds ≡ es
writes_unique {ds} {es} d e = lines_unique ds es d.well_formed e.well_formed (d.spelled ∙ sym e.spelled)

-- A text has one list of lines at most.
pub reads_unique : {text : List ℕ} {ls ms : List (Line Word Word)} → Reads text ls → Reads text ms → ls ≡ ms
reads_unique l m = sym l.means ∙ ap lines_meant (writes_unique l.writes m.writes) ∙ m.means

-- So a text has one report at most.
pub report_unique : {text : List ℕ} {ls ms : List (Line Word Word)} {levels levels' passes passes' : ℕ} {results results' : List ℕ} →
    Reads text ls → Reads text ms → RationalClosure ls levels passes results → RationalClosure ms levels' passes' results' →
    (levels ≡ levels') × (passes ≡ passes') × (results ≡ results')
report_unique {levels'} {passes'} {results'} l m r s =
    closure_unique r (subst (λ ks. RationalClosure ks levels' passes' results') (reads_unique m l) s)
