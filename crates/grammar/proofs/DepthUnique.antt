-- A concept that starts at an offset does so at one depth.
-- Assumes nothing.
use Prim.Native.Nat.{ℕ, ◌+◌, ◌<◌, ◌≤◌}
use native.Mathlib.Omega.{arith}
use mathlib.Core.Path.{◌≡◌}
use mathlib.Core.List.{List}
use lib.ListN.{length, length-append}
use Rattle.semantics.specs.Limits.{depth_limit}
use Rattle.semantics.specs.Source.{Word, ConceptSyntax, ampersand, slash, LineSyntax, concept_bytes, line_bytes, WellFormed, WellFormedLine}
use Rattle.grammar.proofs.SyntaxMeasures.{ShallowLine}
use Rattle.grammar.specs.ViablePrefix.{StartsAt, whole, left, right, filler, StartsIn, left_side, right_side, later}
use Rattle.grammar.proofs.Contexts.{AllOf}
use Rattle.grammar.proofs.OpenedContexts.{starts_shallow}
use Rattle.semantics.proofs.Reading.{concept_long}

conj_length : (g : List ℕ) (C : ConceptSyntax) (h : List ℕ) (D : ConceptSyntax) →
    length (concept_bytes (ampersand g C h D)) ≡ 1 + length g + length (concept_bytes C) + length h + length (concept_bytes D)
unfolding concept_bytes
conj_length g C h D = simp length-append (omega arith)

exist_length : (r : Word) (b g : List ℕ) (C : ConceptSyntax) → length (concept_bytes (slash r b g C)) ≡ 1 + length b + length g + length (concept_bytes C)
unfolding concept_bytes
exist_length r b g C = simp length-append (omega arith)

starts_inside : {C : ConceptSyntax} {k m : ℕ} → WellFormed C → StartsAt C k m → k < length (concept_bytes C)
starts_inside {C} w (whole e f) = omega (arith, concept_long C w)
starts_inside w (left {g} {h} {C} {D} s e f) = omega (arith, starts_inside w.1 s, conj_length g C h D)
starts_inside w (right {g} {h} {C} {D} s e f) = omega (arith, starts_inside w.3 s, conj_length g C h D)
starts_inside w (filler {r} {b} {g} {C} s e f) = omega (arith, starts_inside w.2 s, exist_length r b g C)

depth_unique : {C : ConceptSyntax} {k l m i : ℕ} → WellFormed C → k ≡ l → StartsAt C k m → StartsAt C l i → m ≡ i
depth_unique w q (whole e f) (whole g h) = omega arith
depth_unique w q (whole e f) (left b g h) = absurd (omega arith)
depth_unique w q (whole e f) (right b g h) = absurd (omega arith)
depth_unique w q (whole e f) (filler b g h) = absurd (omega arith)
depth_unique w q (left a e f) (whole g h) = absurd (omega arith)
depth_unique w q (right a e f) (whole g h) = absurd (omega arith)
depth_unique w q (filler a e f) (whole g h) = absurd (omega arith)
depth_unique w q (left a e f) (left b g h) = omega (arith, depth_unique w.1 (omega arith) a b)
depth_unique w q (left a e f) (right b g h) = absurd (omega (arith, starts_inside w.1 a))
depth_unique w q (right a e f) (left b g h) = absurd (omega (arith, starts_inside w.1 b))
depth_unique w q (right a e f) (right b g h) = omega (arith, depth_unique w.3 (omega arith) a b)
depth_unique w q (filler a e f) (filler b g h) = omega (arith, depth_unique w.2 (omega arith) a b)

line_length : (l : LineSyntax) →
    length (line_bytes l) ≡ length l.letter + length l.front + length (concept_bytes l.left) + length l.middle + length (concept_bytes l.right) + 1
unfolding line_bytes
line_length l = simp length-append (omega arith)

pub depth_same : {ls : List LineSyntax} {k j m i : ℕ} → AllOf WellFormedLine ls → k ≡ j → StartsIn ls k m → StartsIn ls j i → m ≡ i
depth_same w q (left_side a e) (left_side b f) = depth_unique w.0.left (omega arith) a b
depth_same w q (left_side a e) (right_side b f) = absurd (omega (arith, starts_inside w.0.left a))
depth_same w q (left_side {e = l} a e) (later b f) = absurd (omega (arith, starts_inside w.0.left a, line_length l))
depth_same w q (right_side a e) (left_side b f) = absurd (omega (arith, starts_inside w.0.left b))
depth_same w q (right_side a e) (right_side b f) = depth_unique w.0.right (omega arith) a b
depth_same w q (right_side {e = l} a e) (later b f) = absurd (omega (arith, starts_inside w.0.right a, line_length l))
depth_same w q (later a e) (left_side {e = l} b f) = absurd (omega (arith, starts_inside w.0.left b, line_length l))
depth_same w q (later a e) (right_side {e = l} b f) = absurd (omega (arith, starts_inside w.0.right b, line_length l))
depth_same w q (later a e) (later b f) = depth_same w.1 (omega arith) a b

pub depth_within : {ls : List LineSyntax} {k m : ℕ} → AllOf ShallowLine ls → StartsIn ls k m → m ≤ depth_limit
depth_within w (left_side a e) = omega (arith, starts_shallow a, w.0.0)
depth_within w (right_side a e) = omega (arith, starts_shallow a, w.0.1)
depth_within w (later a e) = depth_within w.1 a
