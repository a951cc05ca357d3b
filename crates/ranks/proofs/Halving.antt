-- The rank of a number: the first level at which it is not exceptional, found by halves.
--     levelled_below     what is known of the levels below one
--     Halving            where the search stands
--     halving_none, ..   at the start; where it is exceptional at mid, and where not; at the end, where there is a level, and where there is none
--     Searching          where it stands, and what is found so far; searching_all: at the end
-- Assumes nothing.
use Prim.Native.Nat.{ℕ, ◌+◌, ◌<◌, ◌≤◌}
use native.Mathlib.Omega.{arith}
use mathlib.Core.Path.{◌≡◌, refl}
use mathlib.Core.Bool.{true, false}
use mathlib.Core.Option.{none, some}
use mathlib.Core.List.{List}
use Rattle.std.proofs.Common.{Option, Some, None}
use lib.ListN.{length}
use borrow.Author.Tests.{ne_eqb}
use Rattle.semantics.specs.Concept.{Inclusion, Exceptional}
use Rattle.semantics.specs.Closure.{level}
use Rattle.semantics.specs.Row.{numbered}
use Rattle.semantics.specs.Saturated.{strict_rows}
use Rattle.semantics.proofs.Consequence.{exceptional_grows}
use Rattle.normal.specs.Rules.{infinite, active, grown}
use Rattle.roots.specs.Root.{Root}
use Rattle.pass.specs.Levels.{at_level, Levelled, sets_to}
use Rattle.pass.proofs.Active.{level_part}
use Rattle.pass.proofs.Sets.{level_is, sets_length}
use Rattle.results.specs.declared.ranked_root.RankedRoot.{RankedRoot}
use Rattle.results.specs.Found.{found_rank, found_root}
use Rattle.ranks.specs.Rank.{RankFound}

-- levels that are found up to k are so up to each level below it
pub levelled_below : {T : List (Inclusion ℕ ℕ)} {words levels : List ℕ} {k j : ℕ} → Levelled T words levels k → j ≤ k → Levelled T words levels j
levelled_below v le = record { long = v.long; risen = v.risen; stayed = λ i h lt. v.stayed i h (omega arith) }

-- a is exceptional at each level below low, and not at high, where that is one of the levels up to k
pub record Halving (N : ℕ) (words levels : List ℕ) (k a low high : ℕ) (root : List ℕ) : Type 0 where
  pub within : high ≤ k + 1
  pub below : (i : ℕ) → i < low → Exceptional (strict_rows (grown words levels)) (at_level words levels i) (numbered a)
  pub found : high ≤ k → Root N (strict_rows (grown words levels)) (at_level words levels high) a root false

module _ {N : ℕ} {words levels : List ℕ} {k a : ℕ} where
  pub halving_none : (root : List ℕ) → Halving N words levels k a 0 (k + 1) root
  halving_none root = record { within = omega arith; below = λ i h. absurd (omega arith); found = λ le. absurd (omega arith) }

  module _ {low high : ℕ} {root : List ℕ} (h : Halving N words levels k a low high root) (mid : ℕ) {found : List ℕ} where
    -- the rules of a level are among those of each level below it
    pub halving_above : length words ≤ length levels → Root N (strict_rows (grown words levels)) (at_level words levels mid) a found true → Halving N words levels k a (mid + 1) high root
    halving_above long r = record {
      within = h.within;
      below = λ i lt. exceptional_grows (λ ρ m. m) (level_part words levels long i mid (omega arith)) r.replies;
      found = h.found;
    }

    pub halving_below : mid < high → Root N (strict_rows (grown words levels)) (at_level words levels mid) a found false → Halving N words levels k a low mid found
    halving_below lt r = record { within = omega (arith, h.within); below = h.below; found = λ le. r }

-- no row is left at level k
module _ (words levels : List ℕ) {k : ℕ} (none_left : length (active k words levels) ≡ 0) where
  -- E(i) as the levels of the last pass have it
  at_level_lem : (i : ℕ) → i ≤ k → level (sets_to words levels k) i ≡ at_level words levels i
  at_level_lem i le = level_is words levels k i none_left le

  module _ {N a low high : ℕ} {root : List ℕ} (h : Halving N words levels k a low high root) (done : high ≤ low) where
    pub halving_all : k < infinite → high ≤ k → RankFound N words levels k a high root
    halving_all few le =
        let r = h.found le in
        record {
          rank = some high;
          is = refl;
          small = omega arith;
          ranks = (
            omega (arith, sets_length words levels k),
            λ x. r.replies (rw (at_level_lem high le) at x),
            λ i lt. rw (at_level_lem i (omega arith)) (h.below i (omega arith)),
          );
          decides = λ d lt. rw (ne_eqb high infinite (λ q. omega arith), at_level_lem high le) (r.decides refl d lt);
        }

    pub halving_infinite : k < high → RankFound N words levels k a infinite root
    halving_infinite lt = record {
      rank = none;
      is = refl;
      small = omega arith;
      ranks = λ i le. rw (at_level_lem i (omega (arith, sets_length words levels k))) (h.below i (omega (arith, sets_length words levels k)));
      decides = λ d l. tt;
    }

-- ---- what is found so far

-- nothing where each level that was tried is one at which a is exceptional, else `high` as the rank, and the root there
abbrev pub FoundAt : ℕ → ℕ → Option RankedRoot → Type 0
FoundAt k high None = k < high
FoundAt k high (Some found) = (found.rank ≡ high) × (high ≤ k)

pub record Searching (N : ℕ) (words levels : List ℕ) (k a low high : ℕ) (found : Option RankedRoot) : Type 0 where
  pub halving : Halving N words levels k a low high (found_root found)
  pub found_at : FoundAt k high found

pub searching_all : {N k a low high : ℕ} (words levels : List ℕ) → length (active k words levels) ≡ 0 → k < infinite → high ≤ low → (found : Option RankedRoot) →
    Searching N words levels k a low high found → RankFound N words levels k a (found_rank found) (found_root found)
searching_all words levels none_left few done None s = halving_infinite words levels none_left s.halving done s.found_at
searching_all words levels none_left few done (Some found) s = rw s.found_at.0 (halving_all words levels none_left s.halving done few s.found_at.1)
