-- What the functions of this crate cite, and of the layers above only inner ones. No reader has to believe it.
--     Replied           the results of the queries with one left, from its rank and its root
--     QueryReply        a query's reply
--     QueriesAnswered   every query has its own
use Rattle.std.specs.Prelude.{ℕ, ◌+◌, ◌<◌, ◌≡◌, Bool, true, false, List, length, get_or, eqb}
use Rattle.std.proofs.Math.Option.{Option}
use Rattle.semantics.specs.Closure.{RankIs, DefeasiblyAt, Replies, rank_code, yes_bit}
use Rattle.semantics.specs.Row.{query_kind, numbered, kind_of, a_of, c_of}
use Rattle.semantics.specs.Saturated.{strict_rows}
use Rattle.normal.specs.Rules.{grown}
use Rattle.results.specs.Results.{is_query_of, query_result}
use Rattle.pass.specs.Levels.{sets_to}

pub record Replied (words : List ℕ) (a rank : ℕ) (root old new : List ℕ) : Type 0 where
  pub length_kept : length new ≡ length old
  pub query : (i : ℕ) → i < length words → is_query_of a (get_or words i 0) ≡ true → get_or new i 0 ≡ query_result rank root (c_of (get_or words i 0))
  pub others : (i : ℕ) → i < length words → is_query_of a (get_or words i 0) ≡ false → get_or new i 0 ≡ get_or old i 0

pub record QueryReply (words levels : List ℕ) (k w result : ℕ) : Type 0 where
  pub rank : Option ℕ
  pub reply : Bool
  pub ranks : RankIs (strict_rows (grown words levels)) (sets_to words levels k) (numbered (a_of w)) rank
  pub replies : Replies reply (DefeasiblyAt (strict_rows (grown words levels)) (sets_to words levels k) rank (numbered (a_of w)) (numbered (c_of w)))
  pub is : result ≡ yes_bit reply + rank_code rank

pub record QueriesAnswered (words levels : List ℕ) (k : ℕ) (old new : List ℕ) : Type 0 where
  pub length_kept : length new ≡ length old
  pub query : (i : ℕ) → i < length words → kind_of (get_or words i 0) ≡ query_kind → QueryReply words levels k (get_or words i 0) (get_or new i 0)
  pub others : (i : ℕ) → i < length words → eqb (kind_of (get_or words i 0)) query_kind ≡ false → get_or new i 0 ≡ get_or old i 0
