-- How many members a set has, and how many numbers it lacks: the measures of a loop that takes members out, and of one that adds some. No reader has to believe it.
use Rattle.std.specs.Prelude.{ℕ, zero, suc, ◌+◌, Bool, true, false, not, List}
use Rattle.semantics.specs.Set.{has}

-- one where the test holds
unfoldable pub counts : Bool → ℕ
counts true = 1
counts false = 0

-- how many of the numbers below k are members
unfoldable pub size : List ℕ → ℕ → ℕ
size words zero = 0
size words (suc k) = counts (has words k) + size words k

-- how many of the numbers below k fail the test
unfoldable pub failing : (ℕ → Bool) → ℕ → ℕ
failing p zero = 0
failing p (suc k) = counts (not (p k)) + failing p k

-- how many of them are no members
abbrev pub missing : List ℕ → ℕ → ℕ
missing words = failing (has words)
