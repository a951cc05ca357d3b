-- What `find_root` is given and gives. No reader has to believe it.
--     strict_of        T: the inclusions of the strict rows, with what stuck rows have added
--     rules_from       E: those of the rules of level k or above
--     Exact            the table is that of T
--     found_set        what was found of the set
--     is_exceptional   whether the number is exceptional
use Rattle.std.specs.Prelude.{ℕ, Bool, true, false, List, [], map, Option, Some, None}
use Rattle.semantics.specs.Concept.{Inclusion}
use Rattle.semantics.specs.Outputs.{StrictTable}
use Rattle.semantics.specs.Saturated.{strict_rows, between}
use Rattle.normal.specs.Rules.{active, grown}
use Rattle.roots.specs.declared.settling.Settling.{Settling}
use Rattle.sets.specs.declared.concept_set.ConceptSet.{ConceptSet}

abbrev pub strict_of : Settling → List (Inclusion ℕ ℕ)
strict_of s = strict_rows (grown s.index.rows.now s.levels.now)

abbrev pub rules_from : Settling → ℕ → List (Inclusion ℕ ℕ)
rules_from s k = map between (active k s.index.rows.now s.levels.now)

abbrev pub Exact : Settling → Type 0
Exact s = StrictTable s.index.n (strict_of s) s.table.now

abbrev pub found_set : Option ConceptSet → List ℕ
found_set None = []
found_set (Some set) = set.words

abbrev pub is_exceptional : Option ConceptSet → Bool
is_exceptional None = true
is_exceptional (Some set) = false
