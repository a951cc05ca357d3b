-- The rank of a number, at the levels that the last pass leaves. No reader has to believe it.
--     Askable     what a rank is found from
--     RankFound   the rank, and what replies are read from
use Rattle.std.specs.Prelude.{ℕ, ◌<◌, ◌≤◌, ◌≡◌, ◌||◌, List, length, eqb}
use Rattle.std.proofs.Math.Option.{Option}
use Rattle.semantics.specs.Closure.{RankIs, DefeasiblyAt, Replies, rank_code}
use Rattle.semantics.specs.Row.{numbered}
use Rattle.semantics.specs.Saturated.{strict_rows}
use Rattle.semantics.specs.Set.{has}
use Rattle.normal.specs.Rules.{infinite, active, grown}
use Rattle.roots.specs.declared.settling.Settling.{Settling}
use Rattle.roots.specs.Found.{strict_of, Exact}
use Rattle.pass.specs.Levels.{Levelled, sets_to}

pub record Askable (s : Settling) (k : ℕ) : Type 0 where
  pub exact : Exact s
  pub levelled : Levelled (strict_of s) s.index.rows.now s.levels.now k
  pub none_left : length (active k s.index.rows.now s.levels.now) ≡ 0
  pub few : k < infinite

-- The code of a's rank, and, where that is finite, a set that has exactly the rights with which a query over a gets a yes.
pub record RankFound (N : ℕ) (words levels : List ℕ) (k a code : ℕ) (root : List ℕ) : Type 0 where
  pub rank : Option ℕ
  pub is : code ≡ rank_code rank
  pub small : code ≤ infinite
  pub ranks : RankIs (strict_rows (grown words levels)) (sets_to words levels k) (numbered a) rank
  pub decides : (d : ℕ) → d < N → Replies (eqb code infinite || has root d) (DefeasiblyAt (strict_rows (grown words levels)) (sets_to words levels k) rank (numbered a) (numbered d))
