-- What a part of a text has where another begins with the same bytes.
--     Split    a Q that stands in a P behind the bytes w, and what follows it
--     Splits   every P that begins with w has a Q there
-- For each of the contexts that a reading opens. So two texts that are the same up to a place have the same part due there.
-- Assumes nothing.
use Prim.Native.Nat.{ℕ, ◌+◌}
use native.Mathlib.Nat.{add-zero, zero-add}
use native.Mathlib.Omega.{arith}
use mathlib.Core.Path.{◌≡◌, refl, sym, ◌∙◌, ap, subst, subst₂}
use mathlib.Core.List.{List, [], ◌∷◌, ◌++◌, append_assoc}
use lib.ListN.{length, length-append}
use lib.Dec.{eqb}
use borrow.Author.Tests.{eqb-true}
use Rattle.semantics.proofs.Reading.{concept_fresh, concept_unique, line_spread, line_unique, line_long}
use Rattle.semantics.proofs.Tests.{cases}
use Rattle.semantics.specs.Numbering.{Names, number_taken, number_concept, number_role, place_of, number_lines}
use Rattle.semantics.specs.Closure.{Kind}
use Rattle.semantics.specs.Source.{ampersand_byte, slash_byte, space_byte, line_feed, Word, Spelled, Gap, Letter, ConceptSyntax, star, dash, word, ampersand, slash}
use Rattle.semantics.specs.Source.{LineSyntax, concept_bytes, line_bytes, lines_bytes, WellFormed, WellFormedLine, lines_meant}
use Rattle.semantics.proofs.Spelling.{Stops, spelled_end}
use Rattle.semantics.proofs.Gaps.{Unspaced, gap_stops, gap_end}
use Rattle.semantics.proofs.Letters.{letter_some, letter_fresh, letter_end}
use Rattle.grammar.proofs.SyntaxMeasures.{number_syntax, syntax_grows, line_after}
use Rattle.words.specs.Bytes.{class_of}
use Rattle.forms.specs.Forms.{sign_form}
use Rattle.std.specs.Prelude.{Some}
use Rattle.forms.specs.declared.Form.TheVariants.{Conjunction, Existential}
use Rattle.grammar.specs.ViablePrefix.{filler, StartsIn, left_side, right_side, later}
use Rattle.grammar.proofs.BytesAhead.{form_of, ahead_form}
use Rattle.grammar.proofs.Contexts.{Part, lines, concept, sides, SidesStart, in_left, in_right, role, FieldEnds, gap_field}
use Rattle.grammar.proofs.OpenedContexts.{line_with, conj_starts}
use Rattle.grammar.proofs.NumberingGrows.{Grows, grows_refl, grows_trans, lines_grow}

pub record Split (P Q : Part) (w : List ℕ) (n m : Names) (d : ℕ) (D : P.Tree) (t u : List ℕ) : Type 0 where
  pub tree : Q.Tree
  pub tail : List ℕ
  pub worded : Q.Worded tree
  pub ends : Q.Ends tail
  pub spelled : u ≡ Q.spell tree ++ tail
  pub short : P.Short D → Q.Short tree
  pub starts : (k i : ℕ) → Q.Starts tree k i → P.Starts D (length w + k) (i + d)
  pub grows : Grows (Q.after tree m) (P.after D n)
  -- another Q in its place
  pub fill : Q.Tree → P.Tree
  pub filled_worded : (X : Q.Tree) → Q.Worded X → P.Worded (fill X)
  pub filled : (X : Q.Tree) → P.spell (fill X) ++ t ≡ w ++ (Q.spell X ++ tail)

pub record Splits (P Q : Part) (w : List ℕ) (n m : Names) (d : ℕ) : Type 0 where
  pub split : (D : P.Tree) (t u : List ℕ) → Unspaced u → P.Worded D → P.Ends t → P.spell D ++ t ≡ w ++ u → Split P Q w n m d D t u
  pub fresh : (u : List ℕ) → Unspaced u → Unspaced (w ++ u)

pub split_whole : (P : Part) (n : Names) → Splits P P [] n n 0
split_whole P n = record {
  fresh = λ u f. f;
  split = λ D t u f h g e. record {
    tree = D;
    tail = t;
    worded = h;
    ends = g;
    spelled = sym e;
    short = λ s. s;
    starts = λ k i s. subst₂ (P.Starts D) (omega arith) (omega arith) s;
    grows = grows_refl (P.after D n);
    fill = λ X. X;
    filled_worded = λ X h. h;
    filled = λ X. refl;
  };
}

pub split_within : {P Q R : Part} {v w : List ℕ} {n m k : Names} {d e : ℕ} → Splits P Q v n m d → Splits Q R w m k e → Splits P R (v ++ w) n k (e + d)
split_within {P} {v} {w} p q = record {
  fresh = λ u f. subst Unspaced (sym (append_assoc v w u)) (p.fresh (w ++ u) (q.fresh u f));
  split = λ D t u f h g e.
      let a = p.split D t (w ++ u) (q.fresh u f) h g (e ∙ append_assoc v w u) in
      let b = q.split a.tree a.tail u f a.worded a.ends (sym a.spelled) in
      record {
        tree = b.tree;
        tail = b.tail;
        worded = b.worded;
        ends = b.ends;
        spelled = b.spelled;
        short = λ s. b.short (a.short s);
        starts = λ k i s. subst₂ (P.Starts D) (simp length-append (omega arith)) (omega arith) (a.starts _ _ (b.starts k i s));
        grows = grows_trans b.grows a.grows;
        fill = λ X. a.fill (b.fill X);
        filled_worded = λ X h. a.filled_worded (b.fill X) (b.filled_worded X h);
        filled = λ X. a.filled (b.fill X) ∙ ap (λ l. v ++ l) (b.filled X) ∙ sym (append_assoc v w _);
      };
}

-- ---- an & and a /

form_sign : (D : ConceptSyntax) (t u : List ℕ) → WellFormed D → concept_bytes D ++ t ≡ ampersand_byte ∷ u → form_of D ≡ Some Conjunction
unfolding class_of sign_form
form_sign D t u h e = sym (ahead_form (ampersand_byte ∷ u) 0 D t h (sym e))

pub form_slash : (D : ConceptSyntax) (t u : List ℕ) → WellFormed D → concept_bytes D ++ t ≡ slash_byte ∷ u → form_of D ≡ Some Existential
unfolding class_of sign_form
form_slash D t u h e = sym (ahead_form (slash_byte ∷ u) 0 D t h (sym e))

pub tails : {a b : ℕ} {s t : List ℕ} → a ∷ s ≡ b ∷ t → s ≡ t
tails e = cc

pub split_conjunction : (n : Names) (g : List ℕ) → Gap g → Splits concept sides (ampersand_byte ∷ g) n (number_taken n) 1
unfolding concept_bytes number_concept
split_conjunction n g gap = record { fresh = λ u f. refl; split = λ D t u f h q e. go D t u f h q e (form_sign D t (g ++ u) h e) }
  where
    go : (D : ConceptSyntax) (t u : List ℕ) → Unspaced u → WellFormed D → FieldEnds t → concept_bytes D ++ t ≡ ampersand_byte ∷ (g ++ u) → form_of D ≡ Some Conjunction →
        Split concept sides (ampersand_byte ∷ g) n (number_taken n) 1 D t u
    go star t u p h q e f = absurd cc
    go dash t u p h q e f = absurd cc
    go (word w b) t u p h q e f = absurd cc
    go (slash r b i C) t u p h q e f = absurd cc
    go (ampersand i C j D) t u p h q e f =
        let d : i ++ (concept_bytes C ++ (j ++ (concept_bytes D ++ t))) ≡ g ++ u = simp append_assoc at (tails e) in
        let (same, rest) = gap_end h.0 gap (concept_fresh C (j ++ (concept_bytes D ++ t)) h.1) p d in
        record {
          tree = (C, j, D);
          tail = t;
          worded = (h.1, h.2, h.3);
          ends = q;
          spelled = sym rest ∙ simp append_assoc;
          short = λ s. s;
          starts = λ k m s. let k' : length (ampersand_byte ∷ g) + k ≡ 1 + length i + k = omega (arith, ap length same) in conj_starts s k';
          grows = grows_refl _;
          fill = λ S. ampersand g S.0 S.1 S.2;
          filled_worded = λ S h. (gap, h.0, h.1, h.2);
          filled = λ S. ap (λ l. ampersand_byte ∷ l) (append_assoc g (concept_bytes S.0 ++ (S.1 ++ concept_bytes S.2)) t);
        }

pub split_role : (n : Names) → Splits concept role (slash_byte ∷ []) n (number_taken n) 1
unfolding concept_bytes number_concept
split_role n = record { fresh = λ u f. refl; split = λ D t u f h g e. go D t u h g e (form_slash D t u h e) }
  where
    regroups : (b g c t : List ℕ) → (b ++ (g ++ c)) ++ t ≡ b ++ (g ++ (c ++ t))
    regroups b g c t = simp append_assoc

    go : (D : ConceptSyntax) (t u : List ℕ) → WellFormed D → FieldEnds t → concept_bytes D ++ t ≡ slash_byte ∷ u → form_of D ≡ Some Existential →
        Split concept role (slash_byte ∷ []) n (number_taken n) 1 D t u
    go star t u h q e f = absurd cc
    go dash t u h q e f = absurd cc
    go (word w b) t u h q e f = absurd cc
    go (ampersand i C j D) t u h q e f = absurd cc
    go (slash r b g C) t u h q e f = record {
      tree = (r, b);
      tail = g ++ (concept_bytes C ++ t);
      worded = h.0;
      ends = gap_field h.1 (concept_bytes C ++ t);
      spelled = sym (tails e) ∙ regroups b g (concept_bytes C) t;
      short = λ s. s.0;
      starts = λ k i s. absurd s;
      grows = syntax_grows C _;
      fill = λ w. slash w.0 w.1 g C;
      filled_worded = λ w k. (k, h.1, h.2);
      filled = λ w. ap (λ l. slash_byte ∷ l) (regroups w.1 g (concept_bytes C) t);
    }

pub split_filler : (n : Names) (r : Word) (b g : List ℕ) → Spelled r b → Gap g →
    Splits concept concept (slash_byte ∷ (b ++ g)) n (number_role r (number_taken n) (place_of r n.roles)).1 1
unfolding concept_bytes number_concept
split_filler n r b g w gap = record { fresh = λ u f. refl; split = λ D t u f h q e. go D t u f h q e (form_slash D t ((b ++ g) ++ u) h e) }
  where
    go : (D : ConceptSyntax) (t u : List ℕ) → Unspaced u → WellFormed D → FieldEnds t → concept_bytes D ++ t ≡ slash_byte ∷ ((b ++ g) ++ u) → form_of D ≡ Some Existential →
        Split concept concept (slash_byte ∷ (b ++ g)) n (number_role r (number_taken n) (place_of r n.roles)).1 1 D t u
    go star t u p h q e f = absurd cc
    go dash t u p h q e f = absurd cc
    go (word v c) t u p h q e f = absurd cc
    go (ampersand i C j D) t u p h q e f = absurd cc
    go (slash v c i C) t u p h q e f =
        let d : c ++ (i ++ (concept_bytes C ++ t)) ≡ b ++ (g ++ u) = simp append_assoc at (tails e) in
        let (same, spelling, more) = spelled_end h.0 w (gap_stops h.1 (concept_bytes C ++ t)) (gap_stops gap u) d in
        let (gaps, rest) = gap_end h.1 gap (concept_fresh C t h.2) p more in
        record {
          tree = C;
          tail = t;
          worded = h.2;
          ends = q;
          spelled = sym rest;
          short = λ s. s.1;
          starts = λ k m s.
              let k' : length (slash_byte ∷ (b ++ g)) + k ≡ 1 + length c + length i + k = simp length-append (omega (arith, ap length spelling, ap length gaps)) in
              filler s k' refl;
          grows = subst (λ x. Grows (number_syntax C (number_role x (number_taken n) (place_of x n.roles)).1).after (number_syntax (slash v c i C) n).after) same (grows_refl _);
          fill = λ X. slash r b g X;
          filled_worded = λ X k. (w, gap, k);
          filled = λ X. simp append_assoc;
        }

-- ---- two sides

pub split_left : (n : Names) → Splits sides concept [] n n 0
split_left n = record {
  fresh = λ u f. f;
  split = λ S t u f h g e. record {
    tree = S.0;
    tail = S.1 ++ (concept_bytes S.2 ++ t);
    worded = h.0;
    ends = gap_field h.1 (concept_bytes S.2 ++ t);
    spelled = sym e ∙ regroups (concept_bytes S.0) S.1 (concept_bytes S.2) t;
    short = λ s. s.0;
    starts = λ k i s. rw (add-zero i, zero-add k) (in_left s);
    grows = syntax_grows S.2 _;
    fill = λ X. (X, S.1, S.2);
    filled_worded = λ X k. (k, h.1, h.2);
    filled = λ X. regroups (concept_bytes X) S.1 (concept_bytes S.2) t;
  };
}
  where
    regroups : (b g c t : List ℕ) → (b ++ (g ++ c)) ++ t ≡ b ++ (g ++ (c ++ t))
    regroups b g c t = simp append_assoc

pub field_stops : (t : List ℕ) → FieldEnds t → Stops t
field_stops [] h = absurd h
field_stops (b ∷ s) h = cases (eqb b space_byte) (λ e. rw (eqb-true b space_byte e) refl) λ e. cases (eqb b line_feed) (λ f. rw (eqb-true b line_feed f) refl) λ f.
    absurd (cc (rw (e, f) at h))

pub split_right : (n : Names) (C : ConceptSyntax) (g : List ℕ) → WellFormed C → Gap g → Splits sides concept (concept_bytes C ++ g) n (number_syntax C n).after 0
split_right n C g w gap = record {
  fresh = λ u f. subst Unspaced (sym (append_assoc (concept_bytes C) g u)) (concept_fresh C (g ++ u) w);
  split = λ S t u f h q e.
      let d : concept_bytes S.0 ++ (S.1 ++ (concept_bytes S.2 ++ t)) ≡ concept_bytes C ++ (g ++ u) = simp append_assoc at e in
      let (same, more) = concept_unique S.0 C (S.1 ++ (concept_bytes S.2 ++ t)) (g ++ u) h.0 w (gap_stops h.1 (concept_bytes S.2 ++ t)) (gap_stops gap u) d in
      let (gaps, rest) = gap_end h.1 gap (concept_fresh S.2 t h.2) f more in
      record {
        tree = S.2;
        tail = t;
        worded = h.2;
        ends = q;
        spelled = sym rest;
        short = λ s. s.1;
        starts = λ k i s.
            let k' : length (concept_bytes C ++ g) + k ≡ length (concept_bytes S.0) + length S.1 + k =
            simp length-append (omega (arith, ap (λ D. length (concept_bytes D)) same, ap length gaps)) in
            rw (add-zero i) (in_right s k');
        grows = subst (λ D. Grows (number_syntax S.2 (number_syntax D n).after).after (number_syntax S.2 (number_syntax S.0 n).after).after) same (grows_refl _);
        fill = λ X. (C, g, X);
        filled_worded = λ X k. (w, gap, k);
        filled = λ X. simp append_assoc;
      };
}

-- ---- lines

line_regroup : (l : LineSyntax) (x t : List ℕ) →
    (line_bytes l ++ x) ++ t ≡ l.letter ++ (l.front ++ ((concept_bytes l.left ++ (l.middle ++ concept_bytes l.right)) ++ (line_feed ∷ (x ++ t))))
unfolding line_bytes
line_regroup l x t = simp append_assoc

side_starts : {l : LineSyntax} {ls : List LineSyntax} {k q i : ℕ} → SidesStart (l.left, l.middle, l.right) k i → q ≡ length l.letter + length l.front + k → StartsIn (l ∷ ls) q i
side_starts (in_left h) p = left_side h p
side_starts {l} {q} (in_right {j} h e) p =
    let f : q ≡ length l.letter + length l.front + length (concept_bytes l.left) + length l.middle + j = omega arith in right_side h f

no_text : {A : Type 0} {t : List ℕ} (l : LineSyntax) (u : List ℕ) → t ≡ [] → t ≡ line_bytes l ++ u → A
no_text l u g e = absurd (omega (arith, line_long l, length-append (line_bytes l) u, ap length g, ap length e))

no_letter : {A : Type 0} {k : Kind} {b : List ℕ} {t : List ℕ} (u : List ℕ) → Letter k b → t ≡ [] → t ≡ b ++ u → A
no_letter {b} u h g e = absurd (omega (arith, letter_some h, length-append b u, ap length g, ap length e))

pub split_line : {k : Kind} {b g : List ℕ} (n : Names) → Letter k b → Gap g → Splits lines sides (b ++ g) n n 0
unfolding lines_bytes number_lines
split_line {k} {b} {g} n letter gap = record {
  fresh = λ u f. subst Unspaced (sym (append_assoc b g u)) (letter_fresh letter (g ++ u));
  split = λ D t u f h q e. go D t u f h q (e ∙ append_assoc b g u);
}
  where
    go : (D : List LineSyntax) (t u : List ℕ) → Unspaced u → lines.Worded D → t ≡ [] → lines_bytes D ++ t ≡ b ++ (g ++ u) → Split lines sides (b ++ g) n n 0 D t u
    go [] t u f h q e = no_letter (g ++ u) letter q e
    go (l ∷ ls) t u f h q e =
        let (kinds, letters, more) = letter_end h.0.letter letter (sym (line_regroup l (lines_bytes ls) t) ∙ e) in
        let x = (l.middle ++ concept_bytes l.right) ++ (line_feed ∷ (lines_bytes ls ++ t)) in
        let starts = subst Unspaced (sym (append_assoc (concept_bytes l.left) (l.middle ++ concept_bytes l.right) (line_feed ∷ (lines_bytes ls ++ t)))) (concept_fresh l.left x h.0.left) in
        let (gaps, rest) = gap_end h.0.front gap starts f more in
        record {
          tree = (l.left, l.middle, l.right);
          tail = line_feed ∷ (lines_bytes ls ++ t);
          worded = (h.0.left, h.0.middle, h.0.right);
          ends = refl;
          spelled = sym rest;
          short = λ s. s.0;
          starts = λ j i s.
              let j' : length (b ++ g) + j ≡ length l.letter + length l.front + j = simp length-append (omega (arith, ap length letters, ap length gaps)) in
              rw (add-zero i) (side_starts s j');
          grows = lines_grow (lines_meant ls) _;
          fill = λ S. line_with k b g S ∷ ls;
          filled_worded = λ S w. (record { letter = letter; front = gap; left = w.0; middle = w.1; right = w.2 }, h.1);
          filled = λ S. line_regroup (line_with k b g S) (lines_bytes ls) t ∙ sym (append_assoc b g _);
        }

pub split_lines : (l : LineSyntax) → WellFormedLine l → (n : Names) → Splits lines lines (line_bytes l) n (line_after l n) 0
unfolding lines_bytes number_lines
split_lines l w n = record {
  fresh = λ u f. subst Unspaced (sym (line_spread l u)) (letter_fresh w.letter _);
  split = λ D t u f h g e. go D t u h g e;
}
  where
    go : (D : List LineSyntax) (t u : List ℕ) → lines.Worded D → t ≡ [] → lines_bytes D ++ t ≡ line_bytes l ++ u → Split lines lines (line_bytes l) n (line_after l n) 0 D t u
    go [] t u h g e = no_text l u g e
    go (k ∷ ls) t u h g e =
        let (same, rest) = line_unique k l (lines_bytes ls ++ t) u h.0 w (sym (append_assoc (line_bytes k) (lines_bytes ls) t) ∙ e) in
        record {
          tree = ls;
          tail = t;
          worded = h.1;
          ends = g;
          spelled = sym rest;
          short = λ s. s.1;
          starts = λ j i s.
              let j' : length (line_bytes l) + j ≡ length (line_bytes k) + j = omega (arith, ap (λ m. length (line_bytes m)) same) in rw (add-zero i) (later s j');
          grows = subst (λ m. Grows (number_lines (lines_meant ls) (line_after m n)).after (number_lines (lines_meant (k ∷ ls)) n).after) same (grows_refl _);
          fill = λ ms. l ∷ ms;
          filled_worded = λ ms v. (w, v);
          filled = λ ms. append_assoc (line_bytes l) (lines_bytes ms) t;
        }
