-- The lines of a text, by a reader that nobody has to believe: what it returns is used only where its text is found to be the given one.
-- It skips each space and line feed unseen.
-- Assumes nothing.
use Prim.Native.Nat.{ℕ, zero, suc}
use mathlib.Core.Bool.{cond}
use mathlib.Core.List.{List, [], ◌∷◌}
use lib.ListN.{length, drop}
use lib.Dec.{eqb}
use Rattle.semantics.specs.Concept.{Concept, top, bottom, name, conj, exist}
use Rattle.semantics.specs.Closure.{Line, line}
use Rattle.semantics.specs.Source.{star_byte, dash_byte, ampersand_byte, slash_byte, Word, word_byte}
use Rattle.semantics.proofs.Letters.{kind_with}

-- the longest run of word bytes, and what follows it
unfoldable pub parse_word : List ℕ → Word × List ℕ
parse_word [] = ([], [])
parse_word (b ∷ s) = cond (word_byte b) (let r = parse_word s in (b ∷ r.0, r.1)) ([], b ∷ s)

abbrev Parsed : Type 0
Parsed = Concept Word Word × List ℕ

-- n bounds the depth
unfoldable pub parse_concept : ℕ → List ℕ → Parsed
parse_concept zero s = (top, s)
parse_concept (suc n) [] = (top, [])
parse_concept (suc n) (b ∷ s) =
    cond (eqb b star_byte) (top, s)
    (cond (eqb b dash_byte) (bottom, s)
    (cond (eqb b ampersand_byte)
    (let c = parse_concept n (drop 1 s) in let d = parse_concept n (drop 1 c.1) in (conj c.0 d.0, d.1))
    (cond (eqb b slash_byte)
    (let r = parse_word s in let c = parse_concept n (drop 1 r.1) in (exist r.0 c.0, c.1))
    (let w = parse_word (b ∷ s) in (name w.0, w.1)))))

-- n bounds the lines and their depth
unfoldable pub parse_lines : ℕ → List ℕ → List (Line Word Word)
parse_lines zero s = []
parse_lines (suc n) [] = []
parse_lines (suc n) (letter ∷ s) =
    let c = parse_concept n (drop 1 s) in
    let d = parse_concept n (drop 1 c.1) in
    line (kind_with letter) c.0 d.0 ∷ parse_lines n (drop 1 d.1)

abbrev pub parse : List ℕ → List (Line Word Word)
parse text = parse_lines (length text) text
