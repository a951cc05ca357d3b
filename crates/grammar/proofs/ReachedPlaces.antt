-- Places of a text that is being read.
--     Past     a later place, with the bytes and the names up to it
--     DueAt    a place where a part is due
-- Assumes nothing.
use Prim.Native.Nat.{ℕ, ◌+◌, ◌<◌, ◌≤◌}
use native.Mathlib.Numerals.{add-one}
use native.Mathlib.Omega.{arith}
use mathlib.Core.Path.{◌≡◌, refl, sym, ◌∙◌, ap, subst}
use mathlib.Core.List.{List, [], ◌∷◌, ◌++◌, append_assoc, append-nil}
use lib.ListN.{length, take, drop, length-append, length-take, length-drop, take-append-drop}
use lib.Seq.{take-suc, take_at, length-take-le}
use Rattle.semantics.specs.Limits.{number_limit, role_limit}
use Rattle.semantics.specs.Numbering.{Names}
use Rattle.words.specs.Bytes.{byte_at}
use Rattle.chains.specs.declared.Sort.TheVariants.{Roles}
use Rattle.names.specs.State.{State}
use Rattle.grammar.specs.ViablePrefix.{UpTo}
use Rattle.grammar.proofs.CompletedPrefix.{Open, blank_to}
use Rattle.grammar.proofs.Contexts.{Part, Context, within}
use Rattle.grammar.proofs.FoundNumbers.{roles_length}
use Rattle.grammar.proofs.OpenedContexts.{Unread}
use Rattle.grammar.specs.StateNames.{state_names}
use Rattle.grammar.proofs.StateNames.{Valid}
use Rattle.semantics.proofs.Gaps.{plain_gap}
use Rattle.grammar.proofs.BytesAt.{byte_inside}
use Rattle.grammar.proofs.GapReading.{GapHere}

-- ---- bytes

-- the place behind a byte
module _ (text : List ℕ) (at : ℕ) {b : ℕ} (e : byte_at text at ≡ b) (h : 0 < b) where
  pub byte_later : at + 1 ≤ length text
  byte_later = omega (arith, byte_inside text at (omega arith))

  pub take_byte : take (at + 1) text ≡ take at text ++ (b ∷ [])
  take_byte = rw (add-one, take-suc text at 0 (byte_inside text at (omega arith)), e)

pub take_spelled : (text w : List ℕ) (at next : ℕ) → at ≤ length text → next ≤ length text → drop at text ≡ w ++ drop next text → take next text ≡ take at text ++ w
take_spelled text w at next h k e =
    let whole : text ≡ (take at text ++ w) ++ drop next text = sym (take-append-drop at text) ∙ ap (λ l. take at text ++ l) e ∙ sym (append_assoc (take at text) w (drop next text)) in
    let l : length (take at text ++ w) ≡ next = simp (length-append, length-take) (omega (arith, simp (length-append, length-drop) at (ap length e))) in
    ap (take next) whole ∙ take_at (take at text ++ w) (drop next text) next l

-- ---- from a place to a later one

-- The place `next` is behind the bytes w at `at`, with the names m. (It has the form of what a reading ends with; the number x says nothing.)
pub record Past (text : List ℕ) (at : ℕ) (w : List ℕ) (m : Names) (t : State) (x next : ℕ) : Type 0 where
  pub valid : Valid text t
  pub inside : next ≤ length text
  pub names : state_names text t ≡ m
  pub bytes : take next text ≡ take at text ++ w

-- A part is due at the place.
pub record DueAt (text : List ℕ) (P : Part) (a : ℕ) (s : State) (x at : ℕ) : Type 0 where
  pub valid : Valid text s
  pub inside : at ≤ length text
  pub opened : Open P (take at text) (state_names text s) a

pub past_gap : {text w : List ℕ} {at x next start : ℕ} {m : Names} {t : State} → Past text at w m t x next → (g : GapHere text next start) →
    Past text at (w ++ g.gap) m t x start
past_gap {text} {next} {start} p g = record {
  valid = p.valid;
  inside = g.inside;
  names = p.names;
  bytes = rw (take_spelled text g.gap next start p.inside g.inside g.spelled, p.bytes, append_assoc);
}

pub past_then : {text v w : List ℕ} {at x next y end : ℕ} {m k : Names} {t u : State} → Past text at v m t x next → Past text next w k u y end → Past text at (v ++ w) k u y end
past_then p q = record { valid = q.valid; inside = q.inside; names = q.names; bytes = rw (q.bytes, p.bytes, append_assoc) }

pub past_place : {text w : List ℕ} {at x next : ℕ} {m : Names} {t : State} → at ≤ length text → Past text at w m t x next → next ≡ at + length w
past_place {text} {w} {at} {next} h p =
    omega (arith, length-take-le next text p.inside, length-take-le at text h, simp length-append at (ap length p.bytes))

pub roles_few : {text : List ℕ} {s : State} → Valid text s → length (state_names text s).roles ≤ role_limit
roles_few {text} {s} v = rw (roles_length text (s.lists Roles) (s.lists Roles).used) v.roles.most

module _ {text : List ℕ} {P : Part} {a x at : ℕ} {s : State} (r : DueAt text P a s x at) where
  pub past_none : Past text at [] (state_names text s) s x at
  past_none = record { valid = r.valid; inside = r.inside; names = refl; bytes = sym (append-nil (take at text)) }

  module _ {w : List ℕ} {m : Names} {t : State} {y next : ℕ} (p : Past text at w m t y next) where
    pub ready_past : {Q : Part} {b : ℕ} → Context P Q w (state_names text s) m a b → DueAt text Q b t y next
    ready_past c = record { valid = p.valid; inside = p.inside; opened = rw (p.bytes, p.names) (within r.opened c) }

    -- what is due behind a gap that is missing
    pub gap_to : {Q : Part} {b : ℕ} → Context P Q (w ++ plain_gap) (state_names text s) m a b → Unread Q → UpTo text next
    gap_to {Q} {b} c blank =
        let o : Open Q (take next text ++ plain_gap) m b = rw (p.bytes, append_assoc) (within r.opened c) in
        blank_to text next plain_gap o blank (refl, tt) p.inside
        (subst (λ n. n.next ≤ number_limit) p.names p.valid.concepts.most)
        (subst (λ n. length n.roles ≤ role_limit) p.names (roles_few p.valid))
