-- What the defeasible inclusions (the scope's usual rules) add to an element of a concept: the rights of those that fire at it.
--     Fires          an inclusion fires at C
--     rights         the conjunction of all rights
--     Defeasibly     in a closure, "an X is usually a Y"
--     RankedHabits   inclusions whose rights tell all that X usually is
use Rattle.std.specs.Prelude.{ℕ, ◌↔◌}
use mathlib.Core.List.{List, [], ◌∷◌, Memᴰ}
use Rattle.semantics.specs.Concept.{Concept, top, conj, Inclusion, Within}
use Rattle.semantics.specs.Closure.{Line, line, query, strict_of, defeasible_of, RationalClosure}
use Rattle.semantics.specs.Replies.{AnsweredYes}

-- In every model of T, every element of C that obeys E is in the inclusion's left.
abbrev pub Fires : {A R : Type 0} → List (Inclusion A R) → List (Inclusion A R) → Concept A R → Inclusion A R → Type 0
Fires T E C ρ = Within T E C ρ.left

-- what is in the right of each inclusion
unfoldable pub rights : {A R : Type 0} → List (Inclusion A R) → Concept A R
rights [] = top
rights (ρ ∷ E) = conj ρ.right (rights E)

module _ {A R : Type 0} {lines : List (Line A R)} {levels passes : ℕ} {results : List ℕ} (s : RationalClosure lines levels passes results) where
  -- The reply to the query X Y is yes, whether it stands in the lines or not.
  abbrev pub Defeasibly : Concept A R → Concept A R → Type 0
  Defeasibly X Y = AnsweredYes (strict_of lines) s.T* s.sets (line query X Y)

  -- F is defeasible lines whose left X usually is, and X is usually just what X with their rights is within, by the strict inclusions T alone.
  pub record RankedHabits (T : List (Inclusion A R)) (X : Concept A R) (F : List (Inclusion A R)) : Type 0 where
    pub lines_only : (ρ : Inclusion A R) → Memᴰ ρ F → Memᴰ ρ (defeasible_of lines)
    pub lefts_defeasible : (ρ : Inclusion A R) → Memᴰ ρ F → Defeasibly X ρ.left
    pub decides : (Y : Concept A R) → (Defeasibly X Y ↔ Within T [] (conj X (rights F)) Y)
