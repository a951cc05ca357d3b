-- How a reading ends: with what it read, or with a refusal that the text justifies.
--     Fault           what the text has before the place of a refusal, and at it
--     EndsJustified   where the reading is not refused it has Q, and where it is, a fault
--     Justified       where the reading is refused, a fault
--     ends_then       one reading after another
-- Assumes nothing.
use Prim.Native.Nat.{ℕ, ◌≤◌}
use mathlib.Core.Path.{◌≡◌, refl}
use mathlib.Core.List.{List, ◌++◌}
use lib.ListN.{length}
use Rattle.semantics.specs.Numbering.{Names}
use Rattle.refusal.specs.declared.Refusal.{Refusal}
use Rattle.refusal.specs.declared.Refusal.TheVariants.{SyntaxError}
use Rattle.names.specs.Names.{read_to, refuse, and_then}
use Rattle.forms.specs.Opened.{after_space}
use Rattle.names.specs.State.{State, Ending, Step}
use Rattle.std.specs.Prelude.{Ok, Err}
use Rattle.grammar.specs.ViablePrefix.{UpTo, LimitAt}
use Rattle.grammar.proofs.Contexts.{Part, Context}
use Rattle.grammar.proofs.SoundSteps.{Gives}
use Rattle.semantics.specs.Source.{Gap}
use Rattle.semantics.proofs.Gaps.{plain_gap, gap_plain}
use Rattle.grammar.proofs.GapReading.{GapHere, gap_cases}
use Rattle.grammar.proofs.ReaderCases.{and_then_cases}
use Rattle.grammar.proofs.OpenedContexts.{Unread}
use Rattle.grammar.specs.StateNames.{state_names}
use Rattle.grammar.proofs.ReachedPlaces.{Past, DueAt, past_gap, gap_to}

pub data Fault (text : List ℕ) (p : ℕ) : Refusal → Type 0 where
  syntax : p ≤ length text → UpTo text p → Fault text p SyntaxError
  limit : {why : Refusal} → LimitAt text p why → Fault text p why

abbrev pub StepJustified : List ℕ → (State → ℕ → ℕ → Type 0) → State → Step → Type 0
StepJustified text Q s (Ok (x, next)) = Q s x next
StepJustified text Q s (Err r) = Fault text r.place r.why

pub record EndsJustified (text : List ℕ) (Q : State → ℕ → ℕ → Type 0) (r : Ending) : Type 0 where
  pub outcome : StepJustified text Q r.names r.step

abbrev pub Justified : List ℕ → Ending → Type 0
Justified text = EndsJustified text (λ s x next. Unit {0})

module _ {text : List ℕ} {Q : State → ℕ → ℕ → Type 0} where
  pub done : {s : State} {x next : ℕ} → Q s x next → EndsJustified text Q (read_to s x next)
  done q = record { outcome = q }

  pub refused : {s : State} {why : Refusal} {p : ℕ} → Fault text p why → EndsJustified text Q (refuse s why p)
  refused f = record { outcome = f }

  pub ends_then : {R : State → ℕ → ℕ → Type 0} {r : Ending} (more : State → ℕ → ℕ → Ending) → EndsJustified text Q r →
      ((s : State) (x next : ℕ) → Q s x next → EndsJustified text R (more s x next)) → EndsJustified text R (and_then r more)
  ends_then {R} {r} more h go = and_then_cases (EndsJustified text R) r more
      (λ x next e. go r.names x next (rw e at h.outcome))
      (λ why p e. record { outcome = rw e (rw e at h.outcome) })

  -- what was read has more to it
  pub ends_read : {R : State → ℕ → ℕ → Type 0} {r : Ending} → EndsJustified text Q r → Gives R r → EndsJustified text R r
  ends_read {R} {r} h more = record { outcome = go r.step refl h.outcome }
    where
      go : (s : Step) → r.step ≡ s → StepJustified text Q r.names s → StepJustified text R r.names s
      go (Ok (x, next)) e h = more.holds x next e
      go (Err f) e h = h

-- where a gap is due, and behind it a part
pub ends_gap : {text w : List ℕ} {P Q : Part} {a b x y at next : ℕ} {m : Names} {s t : State} {R : State → ℕ → ℕ → Type 0} →
    DueAt text P a s x at → Past text at w m t y next → (more : ℕ → Ending) → ((g : List ℕ) → Gap g → Context P Q (w ++ g) (state_names text s) m a b) → Unread Q →
    ((start : ℕ) (g : GapHere text next start) → Past text at (w ++ g.gap) m t y start → EndsJustified text R (more start)) → EndsJustified text R (after_space text t next more)
ends_gap {text} {next} {t} {R} r p more c blank go = gap_cases (EndsJustified text R) text t next more
    (λ start g. go start g (past_gap p g))
    (refused (syntax p.inside (gap_to r p (c plain_gap gap_plain) blank)))
