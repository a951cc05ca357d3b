-- A text that stops where a part of it is due: what stands before the part, and what may follow it.
--     Part       a kind of part: the lines of a text, the two sides of an &, a concept, a role
--     Context    a part of one kind within a part of another: the bytes before it, the names read before it, the depth left for it
--     within     a context in a context
-- Assumes nothing.
use Prim.Native.Nat.{ℕ, ◌+◌, ◌<◌, ◌≤◌, max}
use native.Mathlib.Omega.{arith}
use mathlib.Core.Path.{◌≡◌, refl, sym, ◌∙◌, ap, subst, subst₂}
use mathlib.Core.Bool.{true, ◌||◌}
use mathlib.Core.List.{List, [], ◌∷◌, ◌++◌, append_assoc, append-nil}
use lib.ListN.{length, length-append}
use lib.Dec.{eqb}
use Rattle.semantics.specs.Limits.{word_limit}
use Rattle.semantics.specs.Numbering.{Names, number_role, place_of, number_lines}
use Rattle.semantics.specs.Source.{space_byte, line_feed, Word, Spelled, Gap, ConceptSyntax, LineSyntax, concept_bytes, lines_bytes, WellFormed, WellFormedLine, lines_meant}
use Rattle.semantics.proofs.Gaps.{gap_starts}
use Rattle.grammar.proofs.SyntaxMeasures.{number_syntax, syntax_depth, ShortSyntax, ShortLine}
use Rattle.grammar.specs.ViablePrefix.{StartsAt, StartsIn, end_byte}

-- ---- parts of a text

pub record Part : Type 1 where
  pub Tree : Type 0
  pub spell : Tree → List ℕ
  pub Worded : Tree → Type 0
  pub Short : Tree → Type 0
  pub depth : Tree → ℕ
  pub Starts : Tree → ℕ → ℕ → Type 0
  pub Ends : List ℕ → Type 0  -- what can follow the part
  pub after : Tree → Names → Names

-- each of the list has P
abbrev pub AllOf : {A : Type 0} → (A → Type 0) → List A → Type 0
AllOf P [] = Unit {0}
AllOf P (x ∷ l) = P x × AllOf P l

abbrev pub line_depth : LineSyntax → ℕ
line_depth l = max (syntax_depth l.left) (syntax_depth l.right)

abbrev pub lines_depth : List LineSyntax → ℕ
lines_depth [] = 0
lines_depth (l ∷ ls) = max (line_depth l) (lines_depth ls)

-- a field ends here: a space or a line feed
abbrev pub FieldEnds : List ℕ → Type 0
FieldEnds [] = ⊥
FieldEnds (b ∷ s) = (eqb b space_byte || eqb b line_feed) ≡ true

abbrev pub lines : Part
lines = record {
  Tree = List LineSyntax;
  spell = lines_bytes;
  Worded = AllOf WellFormedLine;
  Short = AllOf ShortLine;
  depth = lines_depth;
  Starts = StartsIn;
  Ends = λ t. t ≡ [];
  after = λ ls n. (number_lines (lines_meant ls) n).after;
}

abbrev pub concept : Part
concept = record {
  Tree = ConceptSyntax;
  spell = concept_bytes;
  Worded = WellFormed;
  Short = ShortSyntax;
  depth = syntax_depth;
  Starts = StartsAt;
  Ends = FieldEnds;
  after = λ C n. (number_syntax C n).after;
}

-- two sides, and the gap between them
abbrev pub Sides : Type 0
Sides = ConceptSyntax × List ℕ × ConceptSyntax

-- k bytes into two sides starts a concept, at depth m
pub data SidesStart (S : Sides) : ℕ → ℕ → Type 0 where
  in_left : {k m : ℕ} → StartsAt S.0 k m → SidesStart S k m
  in_right : {j k m : ℕ} → StartsAt S.2 j m → k ≡ length (concept_bytes S.0) + length S.1 + j → SidesStart S k m

abbrev pub sides : Part
sides = record {
  Tree = Sides;
  spell = λ S. concept_bytes S.0 ++ (S.1 ++ concept_bytes S.2);
  Worded = λ S. WellFormed S.0 × Gap S.1 × WellFormed S.2;
  Short = λ S. ShortSyntax S.0 × ShortSyntax S.2;
  depth = λ S. max (syntax_depth S.0) (syntax_depth S.2);
  Starts = SidesStart;
  Ends = FieldEnds;
  after = λ S n. (number_syntax S.2 (number_syntax S.0 n).after).after;
}

-- a role and its spelling; its side is a *
abbrev pub role : Part
role = record {
  Tree = Word × List ℕ;
  spell = λ r. r.1;
  Worded = λ r. Spelled r.0 r.1;
  Short = λ r. length r.0 ≤ word_limit;
  depth = λ r. 1;
  Starts = λ r k m. ⊥;
  Ends = FieldEnds;
  after = λ r n. (number_role r.0 n (place_of r.0 n.roles)).1;
}

-- a field ends where a gap starts
pub gap_field : {g : List ℕ} → Gap g → (s : List ℕ) → FieldEnds (g ++ s)
gap_field h s = rw (gap_starts h).first refl

-- ---- contexts

-- What starts before the offset j is within depth a.
pub record Before (P : Part) (a : ℕ) (X : P.Tree) (j : ℕ) : Type 0 where
  pub each : (q m : ℕ) → q < j → P.Starts X q m → m ≤ a

pub before_none : (P : Part) (a : ℕ) (X : P.Tree) → Before P a X 0
before_none P a X = record { each = λ q m h s. absurd (omega arith) }

pub before_less : {P : Part} {a : ℕ} {X : P.Tree} {i j : ℕ} → i ≤ j → Before P a X j → Before P a X i
before_less l b = record { each = λ q m h s. b.each q m (omega arith) s }

abbrev pub EndByte : ℕ → Type 0
EndByte b = end_byte b ≡ true

-- A Q within a P, behind the bytes w: with n read before the P and m before the Q, depth a left for the P and b for the Q.
pub record Context (P Q : Part) (w : List ℕ) (n m : Names) (a b : ℕ) : Type 0 where
  pub fill : Q.Tree → P.Tree
  pub rest : List ℕ
  pub deeper : ℕ
  pub spelled : (X : Q.Tree) → P.spell (fill X) ≡ w ++ (Q.spell X ++ rest)
  pub plain : AllOf EndByte rest
  pub worded : (X : Q.Tree) → Q.Worded X → P.Worded (fill X)
  pub short : (X : Q.Tree) → Q.Short X → P.Short (fill X)
  pub shallow : (X : Q.Tree) → Q.depth X ≤ b + 1 → P.depth (fill X) ≤ a + 1
  pub left : a ≡ b + deeper
  pub starts : (X : Q.Tree) (k i : ℕ) → Q.Starts X k i → P.Starts (fill X) (length w + k) (i + deeper)
  pub before : (X : Q.Tree) (j : ℕ) → j ≤ length (Q.spell X) → Before Q b X j → Before P a (fill X) (length w + j)
  pub after : (X : Q.Tree) → P.after (fill X) n ≡ Q.after X m

pub regroup : (v w x r s : List ℕ) → v ++ ((w ++ (x ++ r)) ++ s) ≡ (v ++ w) ++ (x ++ (r ++ s))
regroup v w x r s = simp append_assoc

pub each_both : {A : Type 0} (P : A → Type 0) (l k : List A) → AllOf P l → AllOf P k → AllOf P (l ++ k)
each_both P [] k h g = g
each_both P (x ∷ l) k h g = (h.0, each_both P l k h.1 g)

pub within : {P Q R : Part} {v w : List ℕ} {n m k : Names} {a b c : ℕ} → Context P Q v n m a b → Context Q R w m k b c → Context P R (v ++ w) n k a c
within {P} {R} {v} {w} {a} p q = record {
  fill = λ X. p.fill (q.fill X);
  rest = q.rest ++ p.rest;
  deeper = q.deeper + p.deeper;
  spelled = λ X. p.spelled (q.fill X) ∙ ap (λ x. v ++ (x ++ p.rest)) (q.spelled X) ∙ regroup v w (R.spell X) q.rest p.rest;
  plain = each_both EndByte q.rest p.rest q.plain p.plain;
  worded = λ X h. p.worded (q.fill X) (q.worded X h);
  short = λ X h. p.short (q.fill X) (q.short X h);
  shallow = λ X h. p.shallow (q.fill X) (q.shallow X h);
  left = omega (arith, p.left, q.left);
  starts = λ X k i h. subst₂ (P.Starts (p.fill (q.fill X))) (simp length-append (omega arith)) (omega arith)
      (p.starts (q.fill X) (length w + k) (i + q.deeper) (q.starts X k i h));
  before = λ X j h b. subst (Before P a (p.fill (q.fill X))) (simp length-append (omega arith))
      (p.before (q.fill X) (length w + j) (rw (q.spelled X) (simp length-append (omega arith))) (q.before X j h b));
  after = λ X. p.after (q.fill X) ∙ q.after X;
}

pub within_fill : {P Q R : Part} {v w : List ℕ} {n m k : Names} {a b c : ℕ} (p : Context P Q v n m a b) (q : Context Q R w m k b c) (X : R.Tree) →
    (within p q).fill X ≡ p.fill (q.fill X)
unfolding within
within_fill p q X = refl

pub whole : (P : Part) (n : Names) (a : ℕ) → Context P P [] n n a a
whole P n a = record {
  fill = λ X. X;
  rest = [];
  deeper = 0;
  spelled = λ X. sym (append-nil (P.spell X));
  plain = tt;
  worded = λ X h. h;
  short = λ X h. h;
  shallow = λ X h. h;
  left = omega arith;
  starts = λ X k i h. subst₂ (P.Starts X) (omega arith) (omega arith) h;
  before = λ X j h b. subst (Before P a X) (omega arith) b;
  after = λ X. refl;
}
