-- The visit of the slots with key x, downwards: `for i in index.readers(x)`. It stands at s (`Visit`), its field `slot`, which falls (`visit_less`).
--     Met      P holds of every slot with key x from s on
--     ToCome   row i has a slot with key x below s
-- Each has its laws at the start (-none), after a turn (-more) and at the end (-all). P may change from turn to turn, as it does where it
-- speaks of state. An invariant that is broken for a row until it is visited says "or `ToCome`".
-- Assumes nothing.
use Prim.Native.Nat.{ℕ, ◌-◌, ◌/◌, ◌≤◌, ◌<◌}
use native.Mathlib.Decide.{dec_lt, ℕ_discrete}
use native.Mathlib.Omega.{arith}
use mathlib.Core.Logic.{◌⊎◌, inl, inr}
use mathlib.Core.Path.{◌≡◌, sym, ◌∙◌, ap}
use mathlib.Core.List.{List}
use lib.ListN.{length, get_or}
use Rattle.index.specs.Index.{Latest, Linked, Visit}

pub record Met (key : ℕ → ℕ) (x k : ℕ) (P : ℕ → Type 0) (s : ℕ) : Type 0 where
  pub each : (t : ℕ) → s ≤ t → t < k → key t ≡ x → P t

pub record ToCome (key : ℕ → ℕ) (x s i : ℕ) : Type 0 where
  pub slot : ℕ
  pub below : slot < s
  pub of_row : slot / 2 ≡ i
  pub keyed : key slot ≡ x

module _ {key : ℕ → ℕ} {keys k : ℕ} {heads links : List ℕ} (l : Linked key keys k heads links) where
  -- ---- where s stands

  pub visit_none : {x : ℕ} → x < keys → Visit key x k (get_or heads x 0)
  visit_none {x} h = record { within = (l.head x h).within; keyed = (l.head x h).keyed }

  module _ {x s : ℕ} (v : Visit key x k s) (h : 0 < s) where
    before : Latest key x (s - 1) (get_or links (s - 1) 0)
    before = rw (v.keyed h) at (l.link (s - 1) (omega (arith, v.within)))

    -- what `next_slot` asks for
    pub visit_linked : (0 < s) × (s ≤ length links)
    visit_linked = (h, omega (arith, v.within, l.links_room))

    pub visit_less : get_or links (s - 1) 0 < s
    visit_less = omega (arith, before.within)

    pub visit_more : Visit key x k (get_or links (s - 1) 0)
    visit_more = record { within = omega (arith, before.within, v.within); keyed = before.keyed }

  -- ---- what has been visited

  pub met_none : {x : ℕ} (P : ℕ → Type 0) → x < keys → Met key x k P (get_or heads x 0)
  met_none {x} P h = record { each = λ t m n e. absurd (omega (arith, (l.head x h).last t n e)) }

  pub met_more : {x s : ℕ} {P : ℕ → Type 0} (Q : ℕ → Type 0) → Visit key x k s → 0 < s → ((t : ℕ) → P t → Q t) → Q (s - 1) → Met key x k P s
      → Met key x k Q (get_or links (s - 1) 0)
  met_more {s} Q v h kept this m = record {
    each = λ t a n e. elim (ℕ_discrete t (s - 1)) [
      | yes q ↦ rw q this
      | no q ↦ elim (dec_lt t (s - 1)) [
        | yes b ↦ absurd (omega (arith, (before v h).last t b e))
        | no b ↦ kept t (m.each t (omega arith) n e)
      ]
    ];
  }

  -- ---- what is still to come

  pub come_none : {x i : ℕ} → x < keys → ToCome key x k i → ToCome key x (get_or heads x 0) i
  come_none {x} h c = record { slot = c.slot; below = (l.head x h).last c.slot c.below c.keyed; of_row = c.of_row; keyed = c.keyed }

  -- Row i is the one visited, or still to come.
  pub come_more : {x s i : ℕ} → Visit key x k s → 0 < s → ToCome key x s i → (i ≡ (s - 1) / 2) ⊎ ToCome key x (get_or links (s - 1) 0) i
  come_more {s} v h c = elim (ℕ_discrete c.slot (s - 1)) [
    | yes q ↦ inl (sym c.of_row ∙ ap (λ t. t / 2) q)
    | no q ↦ inr (record { slot = c.slot; below = (before v h).last c.slot (omega (arith, c.below)) c.keyed; of_row = c.of_row; keyed = c.keyed })
  ]

-- ---- at the end, where 0 < s is false

pub met_all : {key : ℕ → ℕ} {x k s : ℕ} {P : ℕ → Type 0} → s ≤ 0 → Met key x k P s → (t : ℕ) → t < k → key t ≡ x → P t
met_all h m t = m.each t (omega arith)

pub come_all : {key : ℕ → ℕ} {x s i : ℕ} → s ≤ 0 → ToCome key x s i → ⊥
come_all h c = omega (arith, c.below)
