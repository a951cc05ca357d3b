-- What is known of the run while it is read: what was reached comes to what the whole does. Assumes nothing.
--     reached_none, reached_more   at the start, and behind one step
--     reached_ready                there is room for the next
--     reached_stop, reached_whole, reached_cut   the run stops; the input ends, where a run may end and where not
use Prim.Native.Nat.{ℕ, ◌+◌, ◌-◌, ◌*◌, ◌<◌, ◌≤◌}
use native.Mathlib.Omega.{arith}
use mathlib.Core.Path.{◌≡◌, refl, ◌∙◌, subst}
use mathlib.Core.Bool.{true, false}
use mathlib.Core.List.{List, []}
use lib.ListN.{length, get_or, drop, drop_of_length-le}
use Rattle.std.specs.Prelude.{Result, Ok, Err}
use Rattle.axioms.specs.Steps.{Kept, kept, entries}
use Rattle.axioms.specs.TrackReader.{may_end, halted, track_run, TrackOutcome, track_axioms}
use Rattle.axioms.specs.declared.Due.TheVariants.{NextAxiom}
use Rattle.runs.specs.Steps.{levels_read, Ready, Room, run_from, GoesOn, on, stop, RunAs, read, stopped}

-- the stack and the output have these lengths
pub record Reached (input : List ℕ) (deep long : ℕ) (p : Kept) (at : ℕ) (stack out : List ℕ) : Type 0 where
  pub same : track_axioms input ≡ run_from input at p stack out
  pub inside : at ≤ length input
  pub levels : levels_read p ≤ at
  pub size : p.size ≤ 3 * at
  pub marks : (d : ℕ) → d < p.depth → get_or stack d 0 ≤ p.size
  pub stack_long : length stack ≡ deep
  pub out_long : length out ≡ long

pub reached_none : (input stack out : List ℕ) → Reached input (length stack) (length out) (kept NextAxiom false 0 0) 0 stack out
unfolding entries
reached_none input stack out = record {
  same = refl;
  inside = omega arith;
  levels = omega arith;
  size = omega arith;
  marks = λ d l. absurd (omega arith);
  stack_long = refl;
  out_long = refl;
}

-- where a step leads, and that it stops
record Led (input : List ℕ) (at : ℕ) (p : Kept) (before : TrackOutcome) (stack out : List ℕ) (q : Kept) (next : ℕ) : Type 0 where
  same : before ≡ run_from input next q stack out
  ahead : at < next
  inside : next ≤ length input
  levels : levels_read q ≤ levels_read p + (next - at)
  size : q.size ≤ p.size + 3 * (next - at)
  marks : (d : ℕ) → d < q.depth → get_or stack d 0 ≤ q.size

goes_on : {input : List ℕ} {at : ℕ} {p q : Kept} {before : TrackOutcome} {stack out : List ℕ} {next : ℕ} → GoesOn input at p q before stack out (Ok next) → Led input at p before stack out q next
goes_on (on h a i d z m) = record { same = h; ahead = a; inside = i; levels = d; size = z; marks = m }

goes_stop : {input : List ℕ} {at : ℕ} {p q : Kept} {before : TrackOutcome} {stack out : List ℕ} {place : ℕ} → GoesOn input at p q before stack out (Err place) → before ≡ halted place
goes_stop (stop h) = h

module _ {input : List ℕ} {deep long : ℕ} {p : Kept} {at : ℕ} {stack out : List ℕ} (r : Reached input deep long p at stack out) where
  pub reached_ready : Room (length input) deep long → at < length input → Ready input at p stack out
  reached_ready room h = record {
    inside = h;
    fits = record {
      deep = omega (arith, r.levels, r.stack_long, room.deep);
      long = omega (arith, r.size, r.out_long, room.long);
      small = omega (arith, r.out_long, room.small);
      marks = r.marks;
    };
  }

  module _ {q : Kept} {stack' out' : List ℕ} {s : Result ℕ ℕ} (g : GoesOn input at p q (run_from input at p stack out) stack' out' s) where
    pub reached_ahead : {next : ℕ} → s ≡ Ok next → (at < next) × (next ≤ length input)
    reached_ahead e = let l = goes_on (subst (GoesOn input at p q (run_from input at p stack out) stack' out') e g) in (l.ahead, l.inside)

    pub reached_more : {next : ℕ} → s ≡ Ok next → length stack' ≡ length stack → length out' ≡ length out → Reached input deep long q next stack' out'
    reached_more e same_stack same_out =
        let l = goes_on (subst (GoesOn input at p q (run_from input at p stack out) stack' out') e g) in
        record {
          same = r.same ∙ l.same;
          inside = l.inside;
          levels = omega (arith, l.levels, r.levels, l.ahead);
          size = omega (arith, l.size, r.size, l.ahead);
          marks = l.marks;
          stack_long = same_stack ∙ r.stack_long;
          out_long = same_out ∙ r.out_long;
        }

    pub reached_stop : {place : ℕ} → s ≡ Err place → RunAs (track_axioms input) out' (Err place)
    reached_stop e = stopped (r.same ∙ goes_stop (subst (GoesOn input at p q (run_from input at p stack out) stack' out') e g))

  module _ (end : at < length input → ⊥) where
    ended : drop at input ≡ []
    ended = drop_of_length-le input {i = at} (omega (arith, end))

    pub reached_whole : Room (length input) deep long → may_end p.due ≡ true → RunAs (track_axioms input) out (Ok p.size)
    unfolding track_run
    reached_whole room h = read {size = p.size} (r.same ∙ rw (ended, h)) (omega (arith, r.size, r.out_long, room.long, r.inside))

    pub reached_cut : may_end p.due ≡ false → RunAs (track_axioms input) out (Err at)
    unfolding track_run
    reached_cut h = stopped {place = at} (r.same ∙ rw (ended, h))
