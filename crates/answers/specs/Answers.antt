-- The results of the rows, as they are found one kind after the other.
--     StrictReady      what strict queries are answered from: an accepted deck, and the exact table of its written strict rows
--     StrictAnswered   the strict queries have theirs, all other rows 0
--     RankedReady      what the other rows are answered from: the levels and the table that the last pass leaves, and the index of the rows
--     Answered         every row has its own
use Rattle.std.specs.Prelude.{ℕ, ◌+◌, ◌*◌, ◌<◌, ◌≤◌, ◌≡◌, Bool, true, false, List, [], map, length, take, get_or, eqb}
use Rattle.semantics.specs.Concept.{Within}
use Rattle.semantics.specs.Closure.{Replies, yes_bit, Results}
use Rattle.semantics.specs.Limits.{set_words}
use Rattle.semantics.specs.Outputs.{StrictTable}
use Rattle.semantics.specs.Row.{defeasible_kind, strict_query_kind, numbered, line_of, kind_of, a_of, c_of}
use Rattle.normal.specs.Rules.{Deck, row_of}
use Rattle.roots.specs.declared.settling.Settling.{Settling}
use Rattle.roots.specs.Found.{Exact}
use Rattle.pass.specs.Levels.{sets_to}
use Rattle.pass.specs.Passes.{strict_of_words, Bounded, Ranked}

pub record StrictReady (N : ℕ) (words table : List ℕ) : Type 0 where
  pub deck : Deck N words
  pub room : set_words * N ≤ length table
  pub exact : StrictTable N (strict_of_words words) table

-- a strict query's reply, over the written strict rows
pub record StrictReply (words : List ℕ) (w result : ℕ) : Type 0 where
  pub reply : Bool
  pub replies : Replies reply (Within (strict_of_words words) [] (numbered (a_of w)) (numbered (c_of w)))
  pub is : result ≡ yes_bit reply

pub record StrictAnswered (words results : List ℕ) : Type 0 where
  pub strict_query : (i : ℕ) → i < length words → kind_of (get_or words i 0) ≡ strict_query_kind → StrictReply words (get_or words i 0) (get_or results i 0)
  pub others : (i : ℕ) → i < length words → eqb (kind_of (get_or words i 0)) strict_query_kind ≡ false → get_or results i 0 ≡ 0

-- (`Bounded` is not among the facts of `Ranked`.)
pub record RankedReady (s : Settling) (k passes : ℕ) : Type 0 where
  pub exact : Exact s
  pub ranked : Ranked s.index.n s.index.rows.now s.levels.now s.table.now k passes
  pub bounded : Bounded s.index.rows.now s.levels.now

pub record Answered (N : ℕ) (words levels table : List ℕ) (k passes : ℕ) (results : List ℕ) : Type 0 where
  pub ranked : Ranked N words levels table k passes
  pub answers : Results (strict_of_words words) ranked.T* (sets_to words levels k) (map line_of (map row_of words)) (take (length words) results)
  pub by_level : (i : ℕ) → i < length words → kind_of (get_or words i 0) ≡ defeasible_kind → get_or results i 0 ≡ yes_bit true + get_or levels i 0
