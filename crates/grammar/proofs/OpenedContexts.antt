-- The contexts that a reading opens one within the other: a line, the sides of a line or of an &, the role and the side of a /.
-- Each concept that is not read yet is a *.
-- Assumes nothing.
use Prim.Native.Nat.{ℕ, suc, ◌+◌, ◌<◌, ◌≤◌}
use native.Mathlib.Nat.{add-zero, zero-add}
use native.Mathlib.Omega.{arith}
use mathlib.Core.Path.{◌≡◌, refl}
use mathlib.Core.List.{List, [], ◌∷◌, ◌++◌, append_assoc, append-nil}
use lib.ListN.{length, length-append}
use Rattle.semantics.specs.Limits.{word_limit}
use Rattle.semantics.specs.Numbering.{Names, number_taken, number_concept, number_role, place_of, number_lines}
use Rattle.semantics.specs.Closure.{Kind}
use Rattle.semantics.specs.Source.{star_byte, ampersand_byte, slash_byte, line_feed, Word, Spelled, Gap, Letter, ConceptSyntax, star, dash, word, ampersand, slash}
use Rattle.semantics.specs.Source.{LineSyntax, concept_bytes, line_bytes, lines_bytes, WellFormed, WellFormedLine}
use Rattle.semantics.proofs.Gaps.{plain_gap, gap_plain}
use Rattle.grammar.proofs.SyntaxMeasures.{number_syntax, syntax_depth, ShortSyntax, line_after, ShortLine}
use Rattle.grammar.specs.Limits.{depth}
use Rattle.grammar.specs.ViablePrefix.{StartsAt, whole, left, right, filler, StartsIn, left_side, right_side, later}
use Rattle.grammar.proofs.Contexts.{Part, Context, AllOf, EndByte, Before, lines, concept, Sides, sides, SidesStart, in_left, in_right, role, line_depth}

depth_some : (C : ConceptSyntax) → 1 ≤ syntax_depth C
unfolding depth
depth_some star = omega arith
depth_some dash = omega arith
depth_some (word w b) = omega arith
depth_some (ampersand g C h D) = omega arith
depth_some (slash r b g C) = omega arith

-- no part starts below the concept's depth
pub starts_shallow : {C : ConceptSyntax} {k m : ℕ} → StartsAt C k m → m ≤ syntax_depth C
unfolding depth
starts_shallow {C} (whole e f) = omega (arith, depth_some C)
starts_shallow (left h e f) = omega (arith, starts_shallow h)
starts_shallow (right h e f) = omega (arith, starts_shallow h)
starts_shallow (filler h e f) = omega (arith, starts_shallow h)

-- ---- parts that are not read yet

-- A part with the bytes of the shortest end, which takes no number.
pub record Unread (P : Part) : Type 0 where
  pub tree : P.Tree
  pub worded : P.Worded tree
  pub short : P.Short tree
  pub shallow : P.depth tree ≤ 1
  pub plain : AllOf EndByte (P.spell tree)
  pub after : (n : Names) → P.after tree n ≡ n

pub blank_lines : Unread lines
unfolding lines_bytes number_lines
blank_lines = record { tree = []; worded = tt; short = tt; shallow = omega arith; plain = tt; after = λ n. refl }

pub blank_concept : Unread concept
unfolding concept_bytes depth number_concept
blank_concept = record { tree = star; worded = tt; short = tt; shallow = omega arith; plain = (refl, tt); after = λ n. refl }

pub blank_sides : Unread sides
unfolding concept_bytes depth number_concept
blank_sides = record {
  tree = (star, plain_gap, star);
  worded = (tt, gap_plain, tt);
  short = (tt, tt);
  shallow = omega arith;
  plain = (refl, (refl, (refl, tt)));
  after = λ n. refl;
}

-- ---- an & and a /

module _ {g h : List ℕ} {C D : ConceptSyntax} where
  pub conj_starts : {k q m : ℕ} → SidesStart (C, h, D) k m → q ≡ 1 + length g + k → StartsAt (ampersand g C h D) q (m + 1)
  conj_starts (in_left s) p = left s p refl
  conj_starts {q} (in_right {j} s e) p = let f : q ≡ 1 + length g + length (concept_bytes C) + length h + j = omega arith in right s f refl

  conj_before : {a j q m : ℕ} → Before sides a (C, h, D) j → q < 1 + length g + j → StartsAt (ampersand g C h D) q m → m ≤ suc a
  conj_before b l (whole e f) = omega arith
  conj_before b l (left {j} {n} s e f) = omega (arith, b.each j n (omega arith) (in_left s))
  conj_before b l (right {j} {n} s e f) = omega (arith, b.each (length (concept_bytes C) + length h + j) n (omega arith) (in_right s refl))

pub in_conjunction : (n : Names) (a : ℕ) (g : List ℕ) → Gap g → Context concept sides (ampersand_byte ∷ g) n (number_taken n) (suc a) a
unfolding concept_bytes depth number_concept
in_conjunction n a g gap = record {
  fill = λ S. ampersand g S.0 S.1 S.2;
  rest = [];
  deeper = 1;
  spelled = λ S. simp append-nil;
  plain = tt;
  worded = λ S h. (gap, h.0, h.1, h.2);
  short = λ S h. h;
  shallow = λ S h. omega arith;
  left = omega arith;
  starts = λ S k i h. let e : length (ampersand_byte ∷ g) + k ≡ 1 + length g + k = omega arith in conj_starts h e;
  before = λ S j h b. record { each = λ q m l s. conj_before b (omega arith) s };
  after = λ S. refl;
}

exist_before : {r : Word} {b g : List ℕ} {C : ConceptSyntax} {a j q m : ℕ} → ((i k : ℕ) → 1 + length b + length g + i < j → StartsAt C i k → k ≤ a) → q < j →
    StartsAt (slash r b g C) q m → m ≤ suc a
exist_before b l (whole e f) = omega arith
exist_before b l (filler {j} {n} h e f) = omega (arith, b j n (omega arith) h)

-- the role, before a *
pub in_role : (n : Names) (a : ℕ) → Context concept role (slash_byte ∷ []) n (number_taken n) (suc a) a
unfolding concept_bytes depth number_concept
in_role n a = record {
  fill = λ r. slash r.0 r.1 plain_gap star;
  rest = plain_gap ++ (star_byte ∷ []);
  deeper = 1;
  spelled = λ r. refl;
  plain = (refl, (refl, tt));
  worded = λ r h. (h, gap_plain, tt);
  short = λ r h. (h, tt);
  shallow = λ r h. omega arith;
  left = omega arith;
  starts = λ r k i h. absurd h;
  before = λ r j h b. record { each = λ q m l s. exist_before (λ i k g t. absurd (omega arith)) l s };
  after = λ r. refl;
}

pub in_role_fill : (n : Names) (a : ℕ) (r : Word × List ℕ) → (in_role n a).fill r ≡ slash r.0 r.1 plain_gap star
unfolding in_role
in_role_fill n a r = refl

-- the side, behind a role that has been read
pub in_filler : (n : Names) (a : ℕ) (r : Word) (b g : List ℕ) → Spelled r b → Gap g → length r ≤ word_limit →
    Context concept concept (slash_byte ∷ (b ++ g)) n (number_role r (number_taken n) (place_of r n.roles)).1 (suc a) a
unfolding concept_bytes depth number_concept
in_filler n a r b g w gap s = record {
  fill = λ X. slash r b g X;
  rest = [];
  deeper = 1;
  spelled = λ X. simp (append_assoc, append-nil);
  plain = tt;
  worded = λ X h. (w, gap, h);
  short = λ X h. (s, h);
  shallow = λ X h. omega arith;
  left = omega arith;
  starts = λ X k i h. let e : length (slash_byte ∷ (b ++ g)) + k ≡ 1 + length b + length g + k = simp length-append (omega arith) in filler h e refl;
  before = λ X j h d. record { each = λ q m l s. exist_before (λ i k p t. d.each i k (omega (arith, length-append b g)) t) l s };
  after = λ X. refl;
}

-- ---- two sides

pub in_left_lem : (n : Names) (a : ℕ) → Context sides concept [] n n a a
unfolding concept_bytes depth number_concept
in_left_lem n a = record {
  fill = λ X. (X, plain_gap, star);
  rest = plain_gap ++ (star_byte ∷ []);
  deeper = 0;
  spelled = λ X. refl;
  plain = (refl, (refl, tt));
  worded = λ X h. (h, gap_plain, tt);
  short = λ X h. (h, tt);
  shallow = λ X h. omega arith;
  left = omega arith;
  starts = λ X k i h. rw (add-zero i, zero-add k) (in_left h);
  before = λ X j h b. record { each = λ q m l s. go h b l s };
  after = λ X. refl;
}
  where
    go : {X : ConceptSyntax} {j q m : ℕ} → j ≤ length (concept_bytes X) → Before concept a X j → q < 0 + j → SidesStart (X, plain_gap, star) q m → m ≤ a
    go {q} {m} h b l (in_left s) = b.each q m (omega arith) s
    go h b l (in_right s e) = absurd (omega arith)

-- the right, behind a left that has been read
pub in_right_lem : (n : Names) (a : ℕ) (C : ConceptSyntax) (g : List ℕ) → WellFormed C → Gap g → ShortSyntax C → syntax_depth C ≤ a →
    Context sides concept (concept_bytes C ++ g) n (number_syntax C n).after a a
in_right_lem n a C g w gap s d = record {
  fill = λ X. (C, g, X);
  rest = [];
  deeper = 0;
  spelled = λ X. simp (append_assoc, append-nil);
  plain = tt;
  worded = λ X h. (w, gap, h);
  short = λ X h. (s, h);
  shallow = λ X h. omega arith;
  left = omega arith;
  starts = λ X k i h.
      let e : length (concept_bytes C ++ g) + k ≡ length (concept_bytes C) + length g + k = simp length-append (omega arith) in
      rw (add-zero i) (in_right h e);
  before = λ X j h b. record { each = λ q m l s. go b (omega (arith, length-append (concept_bytes C) g)) s };
  after = λ X. refl;
}
  where
    go : {X : ConceptSyntax} {j q m : ℕ} → Before concept a X j → q < length (concept_bytes C) + length g + j → SidesStart (C, g, X) q m → m ≤ a
    go b l (in_left h) = omega (arith, starts_shallow h)
    go {m} b l (in_right {j} h e) = b.each j m (omega arith) h

-- sides that have been read
pub sides_before : {C D : ConceptSyntax} {g : List ℕ} {a : ℕ} (j : ℕ) → syntax_depth C ≤ a → syntax_depth D ≤ a → Before sides a (C, g, D) j
sides_before {C} {D} {g} {a} j c d = record { each = λ q m l s. go s }
  where
    go : {q m : ℕ} → SidesStart (C, g, D) q m → m ≤ a
    go (in_left h) = omega (arith, starts_shallow h)
    go (in_right h e) = omega (arith, starts_shallow h)

-- ---- lines

abbrev pub line_with : Kind → List ℕ → List ℕ → Sides → LineSyntax
line_with k b g S = record { kind = k; letter = b; front = g; left = S.0; middle = S.1; right = S.2 }

-- the sides of a line that ends the lines
pub in_line : {k : Kind} {b g : List ℕ} (n : Names) (a : ℕ) → Letter k b → Gap g → Context lines sides (b ++ g) n n a a
unfolding lines_bytes line_bytes number_lines
in_line {k} {b} {g} n a letter gap = record {
  fill = λ S. line_with k b g S ∷ [];
  rest = line_feed ∷ [];
  deeper = 0;
  spelled = λ S. simp (append_assoc, append-nil);
  plain = (refl, tt);
  worded = λ S h. (record { letter = letter; front = gap; left = h.0; middle = h.1; right = h.2 }, tt);
  short = λ S h. (h, tt);
  shallow = λ S h. omega arith;
  left = omega arith;
  starts = λ S k i h. rw (add-zero i) (forth h);
  before = λ S j h b. record { each = λ q m g s. back b g s };
  after = λ S. refl;
}
  where
    forth : {S : Sides} {j i : ℕ} → SidesStart S j i → StartsIn (line_with k b g S ∷ []) (length (b ++ g) + j) i
    forth {j} (in_left h) = let e : length (b ++ g) + j ≡ length b + length g + j = simp length-append (omega arith) in left_side h e
    forth {S} {j} (in_right {j = q} h p) =
        let e : length (b ++ g) + j ≡ length b + length g + length (concept_bytes S.0) + length S.1 + q = simp length-append (omega arith) in
        right_side h e

    back : {S : Sides} {j q m : ℕ} → Before sides a S j → q < length (b ++ g) + j → StartsIn (line_with k b g S ∷ []) q m → m ≤ a
    back {m} d l (left_side {j} h e) = d.each j m (omega (arith, length-append b g)) (in_left h)
    back {S} {m} d l (right_side {j} h e) = d.each (length (concept_bytes S.0) + length S.1 + j) m (omega (arith, length-append b g)) (in_right h refl)
    back d l (later h e) = elim h [ ]

-- the lines behind one that has been read
pub in_lines : (n : Names) (a : ℕ) (l : LineSyntax) → WellFormedLine l → ShortLine l → line_depth l ≤ a → Context lines lines (line_bytes l) n (line_after l n) a a
unfolding lines_bytes number_lines
in_lines n a l w s d = record {
  fill = λ ls. l ∷ ls;
  rest = [];
  deeper = 0;
  spelled = λ ls. simp append-nil;
  plain = tt;
  worded = λ ls h. (w, h);
  short = λ ls h. (s, h);
  shallow = λ ls h. omega arith;
  left = omega arith;
  starts = λ ls k i h. rw (add-zero i) (later h refl);
  before = λ ls j h b. record { each = λ q m g s. go b g s };
  after = λ ls. refl;
}
  where
    go : {ls : List LineSyntax} {j q m : ℕ} → Before lines a ls j → q < length (line_bytes l) + j → StartsIn (l ∷ ls) q m → m ≤ a
    go b g (left_side h e) = omega (arith, starts_shallow h)
    go b g (right_side h e) = omega (arith, starts_shallow h)
    go {m} b g (later {j} h e) = b.each j m (omega arith) h
