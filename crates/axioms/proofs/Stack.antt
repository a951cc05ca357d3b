-- The stack of an array: what it is after a store. Assumes nothing.
--     entries_more   the innermost is the last
--     pushed         one more around
--     replaced       the innermost changed
--     mark_set       a mark is that of before, or the new one
use Prim.Native.Nat.{ℕ, zero, suc, ◌+◌, ◌-◌, ◌<◌, ◌≤◌}
use native.Mathlib.Omega.{arith}
use native.Mathlib.Numerals.{add-one}
use mathlib.Core.Path.{◌≡◌, refl, ◌∙◌}
use mathlib.Core.List.{List, ◌∷◌}
use lib.ListN.{length, get_or, set}
use lib.Seq.{get_or-set_same, get_or-set_other}
use lib.Dec.{eqb}
use borrow.Author.Tests.{eqb-true, eqb-false}
use Rattle.semantics.proofs.Tests.{cases}
use Rattle.axioms.specs.Steps.{entries}

pub entries_more : (d : ℕ) (stack : List ℕ) → 0 < d → entries d stack ≡ get_or stack (d - 1) 0 ∷ entries (d - 1) stack
unfolding entries
entries_more zero stack h = absurd (omega arith)
entries_more (suc d) stack h = let e : suc d - 1 ≡ d = omega arith in rw e

entries_set : (d n v : ℕ) (stack : List ℕ) → d ≤ n → entries d (set stack n v) ≡ entries d stack
unfolding entries
entries_set zero n v stack h = refl
entries_set (suc d) n v stack h =
    let e : get_or (set stack n v) d 0 ≡ get_or stack d 0 = get_or-set_other stack n d v 0 (λ q. omega arith) in
    rw (e, entries_set d n v stack (omega arith))

pub pushed : (d v : ℕ) (stack : List ℕ) → d < length stack → entries (d + 1) (set stack d v) ≡ v ∷ entries d stack
unfolding entries
pushed d v stack h = rw (add-one, get_or-set_same stack d v 0 h, entries_set d d v stack (omega arith))

pub replaced : (d v : ℕ) (stack : List ℕ) → 0 < d → d ≤ length stack → entries d (set stack (d - 1) v) ≡ v ∷ entries (d - 1) stack
replaced d v stack h l =
    entries_more d (set stack (d - 1) v) h ∙
    rw (get_or-set_same stack (d - 1) v 0 (omega arith), entries_set (d - 1) (d - 1) v stack (omega arith))

pub mark_set : (n v size : ℕ) (stack : List ℕ) (d : ℕ) → n < length stack → v ≤ size → ((d ≡ n → ⊥) → get_or stack d 0 ≤ size) → get_or (set stack n v) d 0 ≤ size
mark_set n v size stack d l a b = cases (eqb d n)
    (λ q. let e = eqb-true d n q in rw (e, get_or-set_same stack n v 0 l) a)
    (λ q. rw (get_or-set_other stack n d v 0 (eqb-false d n q)) (b (eqb-false d n q)))
