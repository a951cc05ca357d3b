-- The start and the length that the state of an accepted text has for a number are the span of its word.
-- Assumes nothing.
use Prim.Native.Nat.{ℕ, ◌+◌, ◌<◌, ◌≤◌}
use native.Mathlib.Omega.{arith}
use mathlib.Core.Path.{◌≡◌, sym, ◌∙◌, ap, subst}
use mathlib.Core.List.{List, Memᴰ}
use lib.ListN.{length, get_or}
use lib.Dec.{leb}
use borrow.Author.Tests.{leb-true, leb-false}
use Rattle.semantics.specs.Limits.{number_limit}
use Rattle.semantics.proofs.Tests.{cases}
use Rattle.source.specs.Lines.{read_text}
use Rattle.chains.specs.declared.Sort.TheVariants.{Concepts}
use Rattle.names.specs.State.{Ending}
use Rattle.std.specs.Prelude.{Ok, Err}
use Rattle.refusal.specs.declared.Refused.{Refused}
use Rattle.grammar.specs.Accepted.{TextAcceptable}
use Rattle.grammar.specs.Limits.{names_after}
use Rattle.grammar.specs.Occurrences.{lines_occurrences}
use Rattle.grammar.proofs.FirstOccurrences.{Placed}
use Rattle.grammar.proofs.AcceptsDecides.{accepts_decides, accepted_names, accepted_placed, accepted_valid}
use Rattle.grammar.proofs.StateWords.{word_size, word_member, member_word}
use Rattle.grammar.specs.StateNames.{word_of, state_names}
use Rattle.grammar.proofs.StateNames.{Valid}
use Rattle.finder.specs.Contract.{NameSpan, named, unnamed, refused}

-- the reading of an accepted text
module _ (text : List ℕ) {r : Ending} {count end : ℕ} (e : r ≡ (read_text text).reading) (a : r.step ≡ Ok (count, end)) where
  accepted : (read_text text).reading.step ≡ Ok (count, end)
  accepted = ap (λ q. q.step) (sym e) ∙ a

  lines_of : TextAcceptable text
  lines_of = (accepts_decides text).0 record { count = count; end = end; read = accepted }

  valid : Valid text r.names
  valid = rw e (accepted_valid lines_of.reads accepted)

  names_of : state_names text r.names ≡ names_after lines_of.lines
  names_of = ap (λ q. state_names text q.names) e ∙ accepted_names lines_of.reads accepted

  -- a number that has bytes is in use
  used : (n : ℕ) → 0 < get_or (r.names.lists Concepts).lengths n 0 → n < (r.names.lists Concepts).used
  used n h = cases (leb (r.names.lists Concepts).used n)
      (λ t. absurd (omega (arith, valid.concepts.no_word n (leb-true (r.names.lists Concepts).used n t))))
      (λ t. leb-false (r.names.lists Concepts).used n t)

  pub span_named : (n : ℕ) → 0 < get_or (r.names.lists Concepts).lengths n 0 → NameSpan text n (get_or (r.names.lists Concepts).starts n 0) (get_or (r.names.lists Concepts).lengths n 0)
  span_named n h =
      let s = r.names in
      let placed = subst (λ q. Placed text q.names (lines_occurrences 0 lines_of.reads.syntax)) (sym e) (accepted_placed lines_of.reads accepted) in
      subst (λ size. NameSpan text n (get_or (s.lists Concepts).starts n 0) size) (word_size text (get_or (s.lists Concepts).starts n 0) (get_or (s.lists Concepts).lengths n 0))
      (named lines_of.reads lines_of.within (subst (λ m. Memᴰ (word_of text (s.lists Concepts) n, n) m.words) names_of
      (word_member text (s.lists Concepts) n (s.lists Concepts).used (used n h) h))
      (placed.first n (used n h) h))

  pub span_none : (n : ℕ) → get_or (r.names.lists Concepts).lengths n 0 ≡ 0 → NameSpan text n 0 0
  span_none n h = unnamed lines_of.reads lines_of.within λ w i.
      let m = member_word text (r.names.lists Concepts) (r.names.lists Concepts).used (subst (λ m. Memᴰ (w, n) m.words) (sym names_of) i) in
      omega (arith, m.long)

  pub span_inside : (n : ℕ) → get_or (r.names.lists Concepts).starts n 0 + get_or (r.names.lists Concepts).lengths n 0 ≤ length text
  span_inside n = valid.concepts.words_inside n

  -- a number from the limit on has no bytes
  pub beyond : (n : ℕ) → number_limit ≤ n → get_or (r.names.lists Concepts).lengths n 0 ≡ 0
  beyond n h = valid.concepts.no_word n (omega (arith, valid.concepts.most))

-- a refused text has no lines within the limits
pub span_refused : (text : List ℕ) (n : ℕ) {r : Ending} {refusal : Refused} → r ≡ (read_text text).reading → r.step ≡ Err refusal → NameSpan text n 0 0
span_refused text n e f = refused λ lines reads w.
    let a = (accepts_decides text).1 record { lines = lines; reads = reads; within = w } in
    absurd (cc (a.read, ap (λ q. q.step) e, f))
