-- Steps of emptying. Only functions inside this crate cite these definitions.
--     ColumnOrder      a deck, and columns that are an order of its numbers, as exact ones are
--     EmptiedNumber    a number that is nothing once the stuck rows' lefts are
--     EmptiedSet       exactly these
--     GrowingEmptied   a set of such numbers
--     StuckIn          it has the stuck rows' lefts
--     Followed         it has grown along the roles
use Rattle.std.specs.Prelude.{ℕ, ◌*◌, ◌<◌, ◌≤◌, ◌≡◌, Bool, true, false, ◌&&◌, not, List, eqb, length, get_or}
use Rattle.semantics.specs.Closure.{Replies}
use Rattle.semantics.specs.Limits.{set_words}
use Rattle.semantics.specs.Row.{in_exist_kind, kind_of, a_of, c_of}
use Rattle.semantics.specs.Set.{has, cell}
use Rattle.sets.specs.Members.{Included}
use Rattle.normal.specs.Rules.{Deck, is_stuck}

-- Everything is within itself, and what is within a number is within whatever that is within; bits from N on are 0.
pub record ColumnOrder (N : ℕ) (words columns : List ℕ) : Type 0 where
  pub deck : Deck N words
  pub room : set_words * N ≤ length columns
  pub own : (a : ℕ) → a < N → cell set_words columns a a ≡ true
  pub trans : (a b c : ℕ) → a < N → b < N → c < N → cell set_words columns b a ≡ true → cell set_words columns c b ≡ true → cell set_words columns c a ≡ true
  pub zeros : (a b : ℕ) → N ≤ a → a < 64 * set_words → b < N → cell set_words columns b a ≡ false

-- ---- what is nothing

-- x is within 1, within the left of a stuck row, or within the left of a row of kind 3 whose right is nothing.
pub data EmptiedNumber (words levels columns : List ℕ) : ℕ → Type 0 where
  was : {x : ℕ} → cell set_words columns 1 x ≡ true → EmptiedNumber words levels columns x
  at_stuck : {x : ℕ} (i : ℕ) → i < length words → is_stuck (get_or words i 0) (get_or levels i 0) ≡ true → cell set_words columns (a_of (get_or words i 0)) x ≡ true →
      EmptiedNumber words levels columns x
  by_role : {x : ℕ} (i : ℕ) → i < length words → kind_of (get_or words i 0) ≡ in_exist_kind → EmptiedNumber words levels columns (c_of (get_or words i 0)) →
      cell set_words columns (a_of (get_or words i 0)) x ≡ true → EmptiedNumber words levels columns x

-- The set has exactly these numbers.
pub record EmptiedSet (N : ℕ) (words levels columns set : List ℕ) : Type 0 where
  pub below : (x : ℕ) → has set x ≡ true → x < N
  pub each : (x : ℕ) → x < N → Replies (has set x) (EmptiedNumber words levels columns x)

-- ---- a set that grows to it

-- Every member is nothing, and the set has what is within a member.
pub record GrowingEmptied (N : ℕ) (words levels columns set : List ℕ) : Type 0 where
  pub below : (x : ℕ) → has set x ≡ true → x < N
  pub sound : (x : ℕ) → has set x ≡ true → EmptiedNumber words levels columns x
  pub down : (a x : ℕ) → x < N → has set a ≡ true → cell set_words columns a x ≡ true → has set x ≡ true

-- It has 1, and the left of each stuck row before i.
pub record StuckIn (N : ℕ) (words levels columns : List ℕ) (i : ℕ) (set : List ℕ) : Type 0 where
  pub growing : GrowingEmptied N words levels columns set
  pub bottom : has set 1 ≡ true
  pub stuck : (k : ℕ) → k < i → is_stuck (get_or words k 0) (get_or levels k 0) ≡ true → has set (a_of (get_or words k 0)) ≡ true

-- w is of kind 3, its right is in the set, and its left is not.
abbrev pub leads : ℕ → List ℕ → Bool
leads w set = eqb (kind_of w) in_exist_kind && (has set (c_of w) && not (has set (a_of w)))

-- From the old set to the new by the rows of kind 3 before i.
pub record Followed (N : ℕ) (words columns : List ℕ) (i : ℕ) (old new : List ℕ) : Type 0 where
  pub growing : (levels : List ℕ) → GrowingEmptied N words levels columns old → GrowingEmptied N words levels columns new
  pub included : Included old new
  pub followed : (k : ℕ) → k < i → kind_of (get_or words k 0) ≡ in_exist_kind → has old (c_of (get_or words k 0)) ≡ true → has new (a_of (get_or words k 0)) ≡ true
