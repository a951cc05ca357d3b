-- Where a concept starts, every text that begins in the same way has one.
--     Reach        a concept that starts at an offset of a part, with what stands before it
--     reach_in     a part within a part
--     reach_lines  for each offset at which a concept of lines starts
-- Assumes nothing.
use Prim.Native.Nat.{ℕ, ◌+◌}
use native.Mathlib.Omega.{arith}
use mathlib.Core.Path.{◌≡◌, refl, sym, ◌∙◌, ap, subst, subst₂}
use mathlib.Core.Bool.{true, false, false≢true}
use mathlib.Core.List.Memᴰ
use mathlib.Core.List.{List, [], ◌∷◌, ◌++◌, append_assoc, append-nil}
use lib.ListN.{length, length-append}
use lib.Dec.{eqb}
use borrow.Author.Tests.{eqb-true}
use Rattle.semantics.proofs.Tests.{cases}
use Rattle.semantics.proofs.Reading.{line_spread}
use Rattle.semantics.specs.Numbering.{Names, number_taken, number_concept, number_role, place_of, number_lines}
use Rattle.semantics.specs.Closure.{Kind}
use Rattle.semantics.specs.Source.{Word, word_byte, Spelled, Gap, letter_byte, ConceptSyntax, star, dash, word, ampersand, slash}
use Rattle.semantics.specs.Source.{LineSyntax, concept_bytes, line_bytes, lines_bytes, WellFormed, WellFormedLine, star_byte, space_byte, line_feed}
use Rattle.semantics.proofs.Spelling.{spelled_bytes, spelled_long}
use Rattle.semantics.proofs.Letters.{letter_starts, each_letter}
use Rattle.grammar.proofs.SyntaxMeasures.{number_syntax, line_after}
use Rattle.grammar.specs.ViablePrefix.{end_byte, StartsAt, whole, left, right, filler, StartsIn, left_side, right_side, later}
use Rattle.grammar.proofs.Contexts.{Part, AllOf, regroup, EndByte, lines, concept, sides}
use Rattle.grammar.proofs.SamePrefix.{Splits, split_whole, split_within, split_conjunction, split_filler, split_left, split_right, split_line, split_lines}

-- ---- bytes of the shortest end

pub each_apart : {A : Type 0} (P : A → Type 0) (l k : List A) → AllOf P (l ++ k) → AllOf P l × AllOf P k
each_apart P [] k h = (tt, h)
each_apart P (x ∷ l) k h = let (a, b) = each_apart P l k h.1 in ((h.0, a), b)

pub end_no_word : (b : ℕ) → end_byte b ≡ true → word_byte b ≡ false
end_no_word b h =
    cases (eqb b star_byte) (λ e. rw (eqb-true b star_byte e) refl) λ e.
    cases (eqb b space_byte) (λ f. rw (eqb-true b space_byte f) refl) λ f.
    cases (eqb b line_feed) (λ g. rw (eqb-true b line_feed g) refl) λ g.
    absurd (false≢true (rw (e, f, g) at h))

-- a concept of such bytes is a *
blank_top : (C : ConceptSyntax) → WellFormed C → AllOf EndByte (concept_bytes C) → C ≡ star
unfolding concept_bytes
blank_top star w h = refl
blank_top dash w h = absurd (false≢true h.0)
blank_top (word v []) w h = absurd (omega (arith, spelled_long w))
blank_top (word v (b ∷ c)) w h = absurd (false≢true (sym (end_no_word b h.0) ∙ spelled_bytes w b (Memᴰ.head refl)))
blank_top (ampersand g C j D) w h = absurd (false≢true h.0)
blank_top (slash r b g C) w h = absurd (false≢true h.0)

letter_full : (k : Kind) → end_byte (letter_byte k) ≡ false
letter_full k = each_letter (λ b. end_byte b ≡ false) refl refl refl refl k

blank_none : (ls : List LineSyntax) → AllOf WellFormedLine ls → AllOf EndByte (lines_bytes ls) → ls ≡ []
unfolding lines_bytes
blank_none [] w h = refl
blank_none (l ∷ ls) w h =
    let g : AllOf EndByte (l.letter ++ _) = subst (AllOf EndByte) (line_spread l (lines_bytes ls)) h in
    let f = (each_apart EndByte l.letter _ g).0 in
    absurd (false≢true (sym (letter_full l.kind) ∙ (subst (AllOf EndByte) (letter_starts w.0.letter).first f).0))

pub blank_after : (C : ConceptSyntax) (n : Names) → WellFormed C → AllOf EndByte (concept_bytes C) → (number_syntax C n).after ≡ n
unfolding number_concept
blank_after C n w h = rw (blank_top C w h)

-- ---- a concept in a part

pub record Reach (P : Part) (D : P.Tree) (k m : ℕ) (n : Names) : Type 0 where
  pub front : List ℕ
  pub long : length front ≡ k
  pub tree : ConceptSyntax
  pub worded : WellFormed tree
  pub back : List ℕ
  pub spelled : P.spell D ≡ front ++ (concept_bytes tree ++ back)
  pub names : Names
  pub deeper : ℕ
  pub depth : m ≡ 1 + deeper
  pub splits : Splits P concept front n names deeper
  pub after : AllOf EndByte back → P.after D n ≡ (number_syntax tree names).after

reach_in : {P Q : Part} {D : P.Tree} {X : Q.Tree} {w : List ℕ} {n m : Names} {d k i : ℕ} (rest : List ℕ) → Splits P Q w n m d →
    P.spell D ≡ w ++ (Q.spell X ++ rest) → (AllOf EndByte rest → P.after D n ≡ Q.after X m) → Reach Q X k i m → Reach P D (length w + k) (i + d) n
reach_in {w} {d} rest s e after r = record {
  front = w ++ r.front;
  long = simp length-append (omega (arith, r.long));
  tree = r.tree;
  worded = r.worded;
  back = r.back ++ rest;
  spelled = e ∙ ap (λ x. w ++ (x ++ rest)) r.spelled ∙ regroup w r.front (concept_bytes r.tree) r.back rest;
  names = r.names;
  deeper = r.deeper + d;
  depth = omega (arith, r.depth);
  splits = split_within s r.splits;
  after = λ b. let (x, y) = each_apart EndByte r.back rest b in after y ∙ r.after x;
}

reach_whole : (C : ConceptSyntax) (n : Names) → WellFormed C → Reach concept C 0 1 n
reach_whole C n w = record {
  front = [];
  long = refl;
  tree = C;
  worded = w;
  back = [];
  spelled = sym (append-nil (concept_bytes C));
  names = n;
  deeper = 0;
  depth = refl;
  splits = split_whole concept n;
  after = λ b. refl;
}

module _ (C : ConceptSyntax) (g : List ℕ) (D : ConceptSyntax) (n : Names) (w : WellFormed C × Gap g × WellFormed D) {k m : ℕ} where
  reach_left : Reach concept C k m n → Reach sides (C, g, D) k m n
  reach_left r = subst₂ (λ k m. Reach sides (C, g, D) k m n) (omega arith) (omega arith)
      (reach_in {P = sides} {D = (C, g, D)} {X = C} (g ++ concept_bytes D) (split_left n) refl (λ b. blank_after D _ w.2 (each_apart EndByte g (concept_bytes D) b).1) r)

  reach_right : Reach concept D k m (number_syntax C n).after → Reach sides (C, g, D) (length (concept_bytes C) + length g + k) m n
  reach_right r = subst₂ (λ k m. Reach sides (C, g, D) k m n) (simp length-append (omega arith)) (omega arith)
      (reach_in {P = sides} {D = (C, g, D)} {X = D} [] (split_right n C g w.0 w.1) (simp (append_assoc, append-nil)) (λ b. refl) r)

reach_conj : (g : List ℕ) (C : ConceptSyntax) (h : List ℕ) (D : ConceptSyntax) (n : Names) → Gap g → {k m : ℕ} → Reach sides (C, h, D) k m (number_taken n) →
    Reach concept (ampersand g C h D) (1 + length g + k) (m + 1) n
unfolding concept_bytes number_concept
reach_conj g C h D n w {k} {m} r = subst (λ j. Reach concept (ampersand g C h D) j (m + 1) n) (omega arith)
    (reach_in {P = concept} {D = ampersand g C h D} {X = (C, h, D)} [] (split_conjunction n g w) (simp append-nil) (λ b. refl) r)

module _ (g : List ℕ) (C : ConceptSyntax) (h : List ℕ) (D : ConceptSyntax) (n : Names) (w : Gap g × WellFormed C × Gap h × WellFormed D) {j k m i : ℕ} where
  reach_first : k ≡ 1 + length g + j → m ≡ i + 1 → Reach concept C j i (number_taken n) → Reach concept (ampersand g C h D) k m n
  reach_first e f r = rw (e, f) (reach_conj g C h D n w.0 (reach_left C h D (number_taken n) (w.1, w.2, w.3) r))

  reach_second : k ≡ 1 + length g + length (concept_bytes C) + length h + j → m ≡ i + 1 → Reach concept D j i (number_syntax C (number_taken n)).after →
      Reach concept (ampersand g C h D) k m n
  reach_second e f r = subst₂ (λ k m. Reach concept (ampersand g C h D) k m n) (omega arith) (sym f)
      (reach_conj g C h D n w.0 (reach_right C h D (number_taken n) (w.1, w.2, w.3) r))

reach_filler : (v : Word) (b g : List ℕ) (C : ConceptSyntax) (n : Names) → Spelled v b → Gap g → {j k m i : ℕ} → k ≡ 1 + length b + length g + j → m ≡ i + 1 →
    Reach concept C j i (number_role v (number_taken n) (place_of v n.roles)).1 → Reach concept (slash v b g C) k m n
unfolding concept_bytes number_concept
reach_filler v b g C n w gap e f r = subst₂ (λ k m. Reach concept (slash v b g C) k m n) (simp length-append (omega arith)) (sym f)
    (reach_in {P = concept} {D = slash v b g C} {X = C} [] (split_filler n v b g w gap) (simp (append_assoc, append-nil)) (λ b. refl) r)

pub reach_concept : {C : ConceptSyntax} {k m : ℕ} (n : Names) → WellFormed C → StartsAt C k m → Reach concept C k m n
reach_concept {C} n w (whole e f) = rw (e, f) (reach_whole C n w)
reach_concept n w (left {g} {h} {C} {D} s e f) = reach_first g C h D n w e f (reach_concept (number_taken n) w.1 s)
reach_concept n w (right {g} {h} {C} {D} s e f) = reach_second g C h D n w e f (reach_concept (number_syntax C (number_taken n)).after w.3 s)
reach_concept n w (filler {r} {b} {g} {C} s e f) = reach_filler r b g C n w.0 w.1 e f (reach_concept (number_role r (number_taken n) (place_of r n.roles)).1 w.2 s)

-- ---- a concept in lines

module _ (l : LineSyntax) (ls : List LineSyntax) (n : Names) (w : WellFormedLine l) where
  reach_line : {k m : ℕ} → AllOf WellFormedLine ls → Reach sides (l.left, l.middle, l.right) k m n → Reach lines (l ∷ ls) (length l.letter + length l.front + k) m n
  unfolding lines_bytes line_bytes number_lines
  reach_line {k} {m} ws r = subst₂ (λ k m. Reach lines (l ∷ ls) k m n) (simp length-append (omega arith)) (omega arith)
      (reach_in {P = lines} {D = l ∷ ls} {X = (l.left, l.middle, l.right)} (line_feed ∷ lines_bytes ls) (split_line n w.letter w.front)
      (simp append_assoc) (λ b. rw (blank_none ls ws b.1)) r)

  reach_later : {k m : ℕ} → Reach lines ls k m (line_after l n) → Reach lines (l ∷ ls) (length (line_bytes l) + k) m n
  unfolding lines_bytes number_lines
  reach_later {k} {m} r = subst₂ (λ k m. Reach lines (l ∷ ls) k m n) refl (omega arith)
      (reach_in {P = lines} {D = l ∷ ls} {X = ls} [] (split_lines l w n) (simp append-nil) (λ b. refl) r)

module _ (l : LineSyntax) (ls : List LineSyntax) (n : Names) (w : WellFormedLine l) {j k m : ℕ} where
  reach_left_side : AllOf WellFormedLine ls → k ≡ length l.letter + length l.front + j → StartsAt l.left j m → Reach lines (l ∷ ls) k m n
  reach_left_side ws e h = rw e (reach_line l ls n w ws (reach_left l.left l.middle l.right n (w.left, w.middle, w.right) (reach_concept n w.left h)))

  reach_right_side : AllOf WellFormedLine ls → k ≡ length l.letter + length l.front + length (concept_bytes l.left) + length l.middle + j →
      StartsAt l.right j m → Reach lines (l ∷ ls) k m n
  reach_right_side ws e h = subst (λ k. Reach lines (l ∷ ls) k m n) (omega arith)
      (reach_line l ls n w ws (reach_right l.left l.middle l.right n (w.left, w.middle, w.right) (reach_concept (number_syntax l.left n).after w.right h)))

  reach_behind : k ≡ length (line_bytes l) + j → Reach lines ls j m (line_after l n) → Reach lines (l ∷ ls) k m n
  reach_behind e r = rw e (reach_later l ls n w r)

pub reach_lines : {ls : List LineSyntax} {k m : ℕ} (n : Names) → AllOf WellFormedLine ls → StartsIn ls k m → Reach lines ls k m n
reach_lines n w (left_side {e = l} {es = ls} h e) = reach_left_side l ls n w.0 w.1 e h
reach_lines n w (right_side {e = l} {es = ls} h e) = reach_right_side l ls n w.0 w.1 e h
reach_lines n w (later {e = l} {es = ls} h e) = reach_behind l ls n w.0 e (reach_lines (line_after l n) w.1 h)
