-- What the reader and the automaton make of a gap. This is the one place that knows that a gap is one space (`gap_only`).
--     GapHere     a gap stands between two offsets
--     gap_cases   where a gap is due, it is skipped, or the reading is refused
--     gap_ahead   a gap that stands ahead is skipped
--     gap_taken   the automaton takes it too
-- Assumes nothing.
use Prim.Native.Nat.{ℕ, ◌+◌, ◌<◌, ◌≤◌}
use native.Mathlib.Omega.{arith}
use mathlib.Core.Path.{◌≡◌, ◌∙◌, ap}
use mathlib.Core.List.{List, ◌∷◌, ◌++◌}
use lib.ListN.{length, drop}
use Rattle.semantics.specs.Source.{space_byte, Gap}
use Rattle.semantics.proofs.Gaps.{Unspaced, plain_gap, gap_plain, gap_only}
use Rattle.refusal.specs.declared.Refusal.TheVariants.{SyntaxError}
use Rattle.words.specs.Bytes.{byte_at, class_of}
use Rattle.names.specs.Names.{refuse, past_space}
use Rattle.forms.specs.Opened.{after_space}
use Rattle.names.specs.State.{State, Ending}
use Rattle.std.specs.Prelude.{Ok}
use Rattle.grammar.proofs.BytesAhead.{ahead_byte}
use Rattle.grammar.proofs.BytesAt.{byte_inside, byte_here, space_class, space_past}
use Rattle.grammar.proofs.ReaderCases.{after_space_cases}
use Rattle.grammar.proofs.FirstOccurrences.{ends_at}
use Rattle.grammar.proofs.Automaton.{Due, space, step, dies}

pub record GapHere (text : List ℕ) (at next : ℕ) : Type 0 where
  pub gap : List ℕ
  pub is : Gap gap
  pub spelled : drop at text ≡ gap ++ drop next text
  pub later : at < next
  pub inside : next ≤ length text

pub gap_next : {text : List ℕ} {at next : ℕ} (g : GapHere text at next) → next ≡ at + length g.gap
gap_next {text} {at} {next} g = ends_at text at next g.gap g.later g.inside g.spelled

gap_read : (text : List ℕ) (at : ℕ) → byte_at text at ≡ space_byte → GapHere text at (at + 1)
gap_read text at e =
    let inside = byte_inside text at (omega arith) in
    record {
      gap = plain_gap;
      is = gap_plain;
      spelled = byte_here text at inside ∙ ap (λ b. b ∷ drop (at + 1) text) e;
      later = omega arith;
      inside = omega arith;
    }

pub gap_cases : (P : Ending → Type 0) (text : List ℕ) (names : State) (at : ℕ) (more : ℕ → Ending) →
    ((next : ℕ) → GapHere text at next → P (more next)) → P (refuse names SyntaxError at) → P (after_space text names at more)
gap_cases P text names at more read refused = after_space_cases P text names at more
    (λ e. read (at + 1) (gap_read text at (space_class (byte_at text at) e)))
    (λ e. refused)

pub gap_ahead : (text : List ℕ) (at : ℕ) (g rest : List ℕ) → Gap g → Unspaced rest → drop at text ≡ g ++ rest → past_space text at ≡ Ok (0, at + length g)
gap_ahead text at g rest h f e = rw (gap_only h) (space_past text at (ahead_byte text at space_byte rest (rw (gap_only h) at e)))

-- the automaton takes a gap
pub gap_taken : {g : List ℕ} (s : List ℕ) (st : List Due) → Gap g → Unspaced s → dies (g ++ s) (space ∷ st) ≡ dies s st
unfolding dies step class_of
gap_taken s st h f = rw (gap_only h)
