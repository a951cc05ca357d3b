-- What a step of reading leaves. Assumes nothing.
--     Ends      no number too many was given out, and what was read has a property
--     EndsAt    what was read ends at an offset
--     Further   what was read ends behind its start and within the text
use Prim.Native.Nat.{ℕ, ◌+◌, ◌<◌, ◌≤◌}
use native.Mathlib.Omega.{arith}
use mathlib.Core.Path.{◌≡◌, refl, sym, ap, subst}
use mathlib.Core.Bool.{Bool, true, false, cond}
use mathlib.Core.List.{List}
use lib.ListN.{length}
use lib.Dec.{leb, ltb, eqb}
use Rattle.std.specs.Prelude.{Option, Some, None, Ok, Err}
use borrow.Author.Tests.{leb-false}
use Rattle.semantics.specs.Limits.{number_limit, word_limit}
use Rattle.refusal.specs.declared.Refusal.{Refusal}
use Rattle.refusal.specs.declared.Refusal.TheVariants.{SyntaxError, WordTooLong, TooManyNumbers}
use Rattle.semantics.proofs.Tests.{cases}
use Rattle.words.specs.Bytes.{byte_at, class_of, is_space_class, word_length}
use Rattle.words.proofs.Within.{inside_space}
use Rattle.chains.specs.Sorts.{limit_of, full_of}
use Rattle.chains.specs.WordList.{sought_by, seek}
use Rattle.chains.specs.declared.Sort.{Sort}
use Rattle.chains.specs.declared.Sort.TheVariants.{Concepts, Roles}
use Rattle.names.specs.Names.{ended, refuse, read_to, onward, and_then, past_space, sign_taken, word_taken, take_number, after_seek, read_word}
use Rattle.names.specs.State.{State, Step, Ending, next_concept}

-- where a number was read, it and where it ended have the property
abbrev pub ReadWith : (ℕ → ℕ → Type 0) → Step → Type 0
ReadWith P (Ok read) = P read.0 read.1
ReadWith P (Err refused) = Unit {0}

pub record Ends (P : ℕ → ℕ → Type 0) (r : Ending) : Type 0 where
  pub room : (r.names.lists Concepts).used ≤ number_limit
  pub read : ReadWith P r.step

abbrev pub EndsAt : ℕ → ℕ → ℕ → Type 0
EndsAt end number next = next ≡ end

abbrev pub Further : List ℕ → ℕ → ℕ → ℕ → Type 0
Further text at number next = (at < next) × (next ≤ length text)

-- ---- one step after another

module _ (P Q : ℕ → ℕ → Type 0) where
  pub ends_mono : (r : Ending) → ((number next : ℕ) → Q number next → P number next) → Ends Q r → Ends P r
  ends_mono r f e = record { room = e.room; read = go r.step e.read }
    where
      go : (s : Step) → ReadWith Q s → ReadWith P s
      go (Ok read) h = f read.0 read.1 h
      go (Err refused) h = tt

  pub then_ends :
      (r : Ending) (more : State → ℕ → ℕ → Ending) → Ends Q r →
      ((names : State) (number next : ℕ) → next_concept names ≤ number_limit → Q number next → Ends P (more names number next)) →
      Ends P (and_then r more)
  unfolding onward
  then_ends r more e f = go r.step refl e.read
    where
      go : (s : Step) → r.step ≡ s → ReadWith Q s → Ends P (onward s r more)
      go (Ok read) x h = f r.names read.0 read.1 e.room h
      go (Err refused) x h = record { room = e.room; read = subst (ReadWith P) (sym x) tt }

module _ (P : ℕ → ℕ → Type 0) (names : State) (room : next_concept names ≤ number_limit) where
  pub refuse_ends : (why : Refusal) (place : ℕ) → Ends P (refuse names why place)
  refuse_ends why place = record { room = room; read = tt }

-- ---- the space between two fields

pub gap_ends : (text : List ℕ) (names : State) → next_concept names ≤ number_limit → (at : ℕ) → Ends (Further text at) (ended names (past_space text at))
unfolding past_space
gap_ends text names room at = cases (is_space_class (class_of (byte_at text at)))
    (λ e. rw e record { room = room; read = (omega arith, omega (arith, inside_space text at e)) })
    (λ e. rw e (refuse_ends (Further text at) names room SyntaxError at))

-- ---- numbers and words

-- where a number was taken, the step ends behind the sign
pub take_next : (names : State) (at : ℕ) {number end : ℕ} → (take_number names at).step ≡ Ok (number, end) → end ≡ at + 1
unfolding take_number
take_next names at {number} {end} = go (leb number_limit (next_concept names))
  where
    go : (t : Bool) → (cond t (refuse names TooManyNumbers at) (read_to (sign_taken names at) (next_concept names) (at + 1))).step ≡ Ok (number, end) → end ≡ at + 1
    go true e = absurd cc
    go false e = let same : (next_concept names, at + 1) ≡ (number, end) = cc in sym (ap (λ (read : ℕ × ℕ). read.1) same)

module _ (names : State) (room : next_concept names ≤ number_limit) where
  pub take_number_ends : (at : ℕ) → Ends (EndsAt (at + 1)) (take_number names at)
  unfolding take_number
  take_number_ends at = cases (leb number_limit (next_concept names))
      (λ e. rw e (refuse_ends (EndsAt (at + 1)) names room TooManyNumbers at))
      (λ e. rw e record { room = omega (arith, leb-false number_limit (next_concept names) e); read = refl })

  -- a new word of concepts has a number below the limit
  taken_room : (sort : Sort) (text : List ℕ) (at size : ℕ) → (names.lists sort).used < limit_of sort → next_concept (word_taken sort text names at size) ≤ number_limit
  taken_room Concepts text at size h = omega arith
  taken_room Roles text at size h = room

  found_ends : (sort : Sort) (text : List ℕ) (at size : ℕ) (found : Option ℕ) →
      Ends (EndsAt (at + size)) (after_seek (sought_by found (limit_of sort) (full_of sort) (names.lists sort) at size) sort text names at)
  unfolding sought_by after_seek
  found_ends sort text at size (Some n) = record { room = room; read = refl }
  found_ends sort text at size None = cases (leb (limit_of sort) (names.lists sort).used)
      (λ e. rw e (refuse_ends (EndsAt (at + size)) names room (full_of sort) at))
      (λ e. rw e record { room = taken_room sort text at size (leb-false (limit_of sort) (names.lists sort).used e); read = refl })

  -- a word ends behind its bytes
  pub word_ends : (sort : Sort) (text : List ℕ) (at : ℕ) → Ends (EndsAt (at + word_length text at)) (read_word sort text names at)
  unfolding read_word seek after_seek
  word_ends sort text at =
      let size = word_length text at in
      cases (eqb size 0) (λ e. rw e (refuse_ends (EndsAt (at + size)) names room SyntaxError at)) λ e.
      cases (ltb word_limit size) (λ f. rw (e, f) (refuse_ends (EndsAt (at + size)) names room WordTooLong at)) λ f.
      rw (e, f) (found_ends sort text at size _)
