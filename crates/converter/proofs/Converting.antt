-- What reading and writing come to is what converting promises. Assumes nothing.
--     room_for                                         any input within the limit has room
--     converted_long, converted_stop, converted_book   an input that is too long, one that is no run, and a run
use Prim.Native.Nat.{ℕ, ◌*◌, ◌+◌, ◌/◌, ◌<◌, ◌≤◌}
use native.Mathlib.Omega.{arith}
use mathlib.Core.Path.{◌≡◌, refl, sym, ◌∙◌, ap, subst}
use mathlib.Core.List.{List}
use lib.ListN.{length, take}
use Rattle.semantics.specs.Limits.{text_limit}
use Rattle.std.specs.Prelude.{Result, Ok, Err, MatchResult, IsErrAnd}
use Rattle.refusal.specs.declared.Refusal.TheVariants.{NoRun}
use Rattle.refusal.specs.declared.Refused.{Refused}
use Rattle.ontology.specs.Axiom.{Axiom}
use Rattle.ontology.specs.Book.{book}
use Rattle.ontology.specs.Text.{RunOf}
use Rattle.ontology.proofs.Reader.{Outcome, accepted, stopped}
use Rattle.ontology.proofs.Places.{stopped_place}
use Rattle.ontology.proofs.Deciding.{accepted_reads}
use Rattle.axioms.specs.Steps.{token_room}
use Rattle.axioms.specs.Track.{compact}
use Rattle.axioms.specs.TrackReader.{TrackOutcome, output, halted, track_axioms}
use Rattle.axioms.proofs.TrackRuns.{SameOutcome, same_stop, same_book, tracks_same}
use Rattle.runs.specs.Steps.{level_bytes, Room, RunAs, read, stopped as runStopped}
use Rattle.converter.specs.Contract.{too_long, no_run, no_room, Converted, refused, written}
use Rattle.converter.specs.Steps.{BookOut, no_room as no_room_for, written as book_out}

-- ---- the outcomes of the two readers

same_stop_lem : {o : Outcome} {t : TrackOutcome} {p : ℕ} → SameOutcome o t → t ≡ halted p → o ≡ stopped p
same_stop_lem same_stop e = ap stopped cc
same_stop_lem (same_book h) e = absurd cc

record Read (o : Outcome) (out : List ℕ) : Type 0 where
  pub axioms : List Axiom
  pub outcome : o ≡ accepted axioms
  pub same : compact out ≡ book axioms

same_book_lem : {o : Outcome} {t : TrackOutcome} {out : List ℕ} → SameOutcome o t → t ≡ output out → Read o out
same_book_lem same_stop e = absurd cc
same_book_lem {out = out} (same_book {axioms = axioms} {out = out'} h) e = let z : out ≡ out' = cc in record { axioms = axioms; outcome = refl; same = rw z h }

-- any input within the limit has room
pub room_for : (n : ℕ) → n ≤ text_limit → Room n (text_limit / level_bytes) (3 * text_limit + token_room)
room_for n h = record { deep = omega arith; long = omega arith; small = omega arith }

-- ---- converting

module _ (input text₀ : List ℕ) where
  pub converted_long : text_limit < length input → Converted input text₀ text₀ (Err (record { why = NoRun; place = text_limit }))
  converted_long h = refused (too_long h refl) refl

  module _ (within : length input ≤ text_limit) {out : List ℕ} where
    pub converted_stop : (run : Result ℕ ℕ) (mapped : Result ℕ Refused) {e : Refused} {Q : ℕ → Refused → Type 0} → RunAs (track_axioms input) out run →
        MatchResult run (λ x. mapped ≡ Ok x) (λ p. IsErrAnd mapped (Q p)) → ((p : ℕ) (x : Refused) → Q p x → x ≡ record { why = NoRun; place = p }) →
        mapped ≡ Err e → Converted input text₀ text₀ (Err e)
    converted_stop (Ok x) mapped r m q h = absurd (cc (m, h))
    converted_stop (Err p) (Ok x) r m q h = absurd m
    converted_stop (Err p) (Err e') (runStopped e) m q h =
        rw (sym h ∙ ap Err (q p e' m)) (refused (no_run within (stopped_place input p (same_stop_lem (tracks_same input) e))) refl)

    pub converted_book : (run : Result ℕ ℕ) (mapped : Result ℕ Refused) (Q : ℕ → Refused → Type 0) {size : ℕ} {text : List ℕ} {a : Result ℕ Refused} →
        RunAs (track_axioms input) out run → MatchResult run (λ x. mapped ≡ Ok x) (λ p. IsErrAnd mapped (Q p)) → mapped ≡ Ok size →
        BookOut (compact (take size out)) text₀ text a → Converted input text₀ text a
    converted_book (Err p) (Ok x) Q r m h b = absurd m
    converted_book (Err p) (Err x) Q r m h b = absurd (cc h)
    converted_book (Ok x) mapped Q {size} {text = text} {a = a} (read e l) m h b' =
        let same : x ≡ size = cc (m, h) in
        let b : BookOut (compact (take x out)) text₀ text a = rw same b' in
        let found = same_book_lem (tracks_same input) e in
        go found.axioms (accepted_reads input found.axioms found.outcome) (subst (λ l. BookOut l text₀ text a) found.same b)
      where
        go : (axioms : List Axiom) → RunOf input axioms → {text : List ℕ} {a : Result ℕ Refused} → BookOut (book axioms) text₀ text a → Converted input text₀ text a
        go axioms reads (no_room_for l e) = refused (no_room axioms within reads l refl) e
        go axioms reads (book_out l w) = written record { axioms = axioms; within = within; reads = reads; fits = l } record {
          axioms = axioms;
          reads = reads;
          counted = w.ends ∙ omega arith;
          written = w.written;
          rest_kept = w.rest_kept;
          length_kept = w.length_kept;
        }
