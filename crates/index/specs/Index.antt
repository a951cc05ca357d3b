-- The rows of a deck by what they read. Row i has two slots, 2 * i and 2 * i + 1, each with a key. No reader has to believe it.
--     key_of    the key of a slot
--     Latest    one more than the last slot below k with this key
--     Linked    for each key its last slot, for each slot the one before it with its key
--     Indexed   this for all slots of the rows
--     Visit     where a visit of the slots with one key stands
--     AnyDeck   an accepted deck, over some count of numbers
use Rattle.std.specs.Prelude.{ℕ, ◌+◌, ◌-◌, ◌*◌, ◌/◌, ◌%◌, ◌≤◌, ◌<◌, ◌≡◌, cond, List, length, get_or, eqb}
use Rattle.semantics.specs.Limits.{number_limit, role_limit}
use Rattle.semantics.specs.Row.{kind_of, role_of, a_of, b_of, in_exist_kind, exist_in_kind}
use Rattle.normal.specs.Rules.{Deck}

pub record AnyDeck (rows : List ℕ) : Type 0 where
  pub numbers : ℕ
  pub deck : Deck numbers rows

-- a key for each number, and two for each role
abbrev pub key_count : ℕ
key_count = number_limit + 2 * role_limit

-- the key of the rows of kind 3 with the role r, and of those of kind 4
abbrev pub in_exist_key : ℕ → ℕ
in_exist_key r = number_limit + r

abbrev pub exist_in_key : ℕ → ℕ
exist_in_key r = number_limit + role_limit + r

-- the key of the rows that a row of kind 3 or 4 makes a pair with
unfoldable pub pair_key : ℕ → ℕ
pair_key w = cond (eqb (kind_of w) in_exist_kind) (exist_in_key (role_of w)) (in_exist_key (role_of w))

-- The even slot has the left; the odd one has the role's key in kinds 3 and 4, the second left otherwise.
unfoldable pub key_of : ℕ → ℕ → ℕ
key_of w odd =
    cond (eqb odd 0) (a_of w)
    (cond (eqb (kind_of w) in_exist_kind) (in_exist_key (role_of w))
    (cond (eqb (kind_of w) exist_in_kind) (exist_in_key (role_of w)) (b_of w)))

abbrev pub slot_key : List ℕ → ℕ → ℕ
slot_key rows s = key_of (get_or rows (s / 2) 0) (s % 2)

-- v is one more than the last slot below k with key x, 0 where there is none.
pub record Latest (key : ℕ → ℕ) (x k v : ℕ) : Type 0 where
  pub within : v ≤ k
  pub keyed : 0 < v → key (v - 1) ≡ x
  pub last : (t : ℕ) → t < k → key t ≡ x → t < v

-- The slots below k, by their keys.
pub record Linked (key : ℕ → ℕ) (keys k : ℕ) (heads links : List ℕ) : Type 0 where
  pub heads_room : keys ≤ length heads
  pub links_room : k ≤ length links
  pub head : (x : ℕ) → x < keys → Latest key x k (get_or heads x 0)
  pub link : (s : ℕ) → s < k → Latest key (key s) s (get_or links s 0)

abbrev pub Indexed : List ℕ → List ℕ → List ℕ → Type 0
Indexed rows heads links = Linked (slot_key rows) key_count (2 * length rows) heads links

-- ---- a visit of the slots with one key, downwards

-- It stands at s: s - 1 is a slot with key x, or s is 0.
pub record Visit (key : ℕ → ℕ) (x k s : ℕ) : Type 0 where
  pub within : s ≤ k
  pub keyed : 0 < s → key (s - 1) ≡ x

-- the place of the slot's row
abbrev pub slot_place : ℕ → ℕ
slot_place s = (s - 1) / 2

-- one more than the slot before it
abbrev pub next_slot : List ℕ → ℕ → ℕ
next_slot links s = get_or links (s - 1) 0
