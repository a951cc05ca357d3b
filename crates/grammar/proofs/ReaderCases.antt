-- How a reading goes on, by cases: what holds of each way that it can go holds of it.
--     and_then_cases, onward_lines_cases             one step after another, and one line
--     after_space_cases                              where a gap is due, what stands there
--     take_number_cases                              the number of an & or a /
--     word_cases                                     a word of any sort
-- Assumes nothing.
use Prim.Native.Nat.{ℕ, ◌+◌, ◌<◌, ◌≤◌}
use native.Mathlib.Omega.{arith}
use mathlib.Core.Path.{◌≡◌, refl}
use mathlib.Core.Bool.{true, false}
use mathlib.Core.List.{List, []}
use lib.Dec.{leb, ltb, eqb}
use borrow.Author.Tests.{ltb-true, ltb-false, leb-true, leb-false, eqb-true, eqb-false}
use Rattle.semantics.proofs.Tests.{cases}
use Rattle.semantics.specs.Limits.{word_limit, number_limit}
use Rattle.refusal.specs.declared.Refusal.{Refusal}
use Rattle.refusal.specs.declared.Refusal.TheVariants.{SyntaxError, WordTooLong, TooManyNumbers}
use Rattle.words.specs.Bytes.{byte_at, class_of, is_space_class, word_length}
use Rattle.source.specs.Lines.{RowsRead, one_more, line_row, onward_lines}
use Rattle.chains.specs.Sorts.{limit_of, full_of}
use Rattle.chains.specs.WordList.{find_word, sought_by, seek}
use Rattle.names.specs.Names.{refuse, read_to, onward, and_then, past_space, sign_taken, word_taken, take_number, after_seek, read_word}
use Rattle.forms.specs.Opened.{after_space}
use Rattle.std.specs.Prelude.{Option, Some, None}
use Rattle.chains.specs.declared.Sort.{Sort}
use Rattle.names.specs.State.{State, Ending, next_concept, Step}
use Rattle.std.specs.Prelude.{Ok, Err}

pub and_then_cases : (P : Ending → Type 0) (r : Ending) (more : State → ℕ → ℕ → Ending) →
    ((x next : ℕ) → r.step ≡ Ok (x, next) → P (more r.names x next)) →
    ((why : Refusal) (p : ℕ) → r.step ≡ Err record { why = why; place = p } → P r) →
    P (and_then r more)
unfolding onward
and_then_cases P r more read refused = go r.step refl
  where
    go : (s : Step) → r.step ≡ s → P (onward s r more)
    go (Ok (x, next)) e = read x next e
    go (Err f) e = refused f.why f.place e

pub onward_lines_cases : (P : RowsRead → Type 0) (r : Ending) (more : State → ℕ → ℕ → RowsRead) →
    ((kind next : ℕ) → r.step ≡ Ok (kind, next) → P (one_more (line_row r.names kind) (more r.names kind next))) →
    ((why : Refusal) (p : ℕ) → r.step ≡ Err record { why = why; place = p } → P (record { rows = []; reading = r })) →
    P (onward_lines r.step r more)
unfolding onward_lines
onward_lines_cases P r more read refused = go r.step refl
  where
    go : (s : Step) → r.step ≡ s → P (onward_lines s r more)
    go (Ok (kind, next)) e = read kind next e
    go (Err f) e = refused f.why f.place e

pub after_space_cases : (P : Ending → Type 0) (text : List ℕ) (names : State) (at : ℕ) (more : ℕ → Ending) →
    (is_space_class (class_of (byte_at text at)) ≡ true → P (more (at + 1))) →
    (is_space_class (class_of (byte_at text at)) ≡ false → P (refuse names SyntaxError at)) →
    P (after_space text names at more)
unfolding after_space past_space onward
after_space_cases P text names at more read refused = cases (is_space_class (class_of (byte_at text at))) (λ e. rw e (read e)) (λ e. rw e (refused e))

-- ---- numbers and words

pub take_number_cases : (P : Ending → Type 0) (names : State) (at : ℕ) →
    (next_concept names < number_limit → P (read_to (sign_taken names at) (next_concept names) (at + 1))) →
    (number_limit ≤ next_concept names → P (refuse names TooManyNumbers at)) →
    P (take_number names at)
unfolding take_number
take_number_cases P names at read full = cases (leb number_limit (next_concept names))
    (λ e. rw e (full (leb-true number_limit (next_concept names) e)))
    (λ e. rw e (read (leb-false number_limit (next_concept names) e)))

module _ (P : Ending → Type 0) (sort : Sort) (text : List ℕ) (names : State) (at : ℕ) where
  -- the next number of the sort, or one too many
  abbrev NewCases : ℕ → Type 0
  NewCases size =
      let used = (names.lists sort).used in
      (used < limit_of sort → P (read_to (word_taken sort text names at size) used (at + size))) × (limit_of sort ≤ used → P (refuse names (full_of sort) at))

  found_cases : (size : ℕ) (found : Option ℕ) →
      ((n : ℕ) → found ≡ Some n → P (read_to names n (at + size))) →
      (found ≡ None → NewCases size) →
      P (after_seek (sought_by found (limit_of sort) (full_of sort) (names.lists sort) at size) sort text names at)
  unfolding sought_by after_seek
  found_cases size (Some n) old new = old n refl
  found_cases size None old new = let used = (names.lists sort).used in cases (leb (limit_of sort) used)
      (λ e. rw e ((new refl).1 (leb-true (limit_of sort) used e)))
      (λ e. rw e ((new refl).0 (leb-false (limit_of sort) used e)))

  -- none, one that is too long, an old one, a new one, or one too many
  pub word_cases :
      let size = word_length text at in
      let list = names.lists sort in
      (size ≡ 0 → P (refuse names SyntaxError at)) →
      (word_limit < size → P (refuse names WordTooLong at)) →
      (0 < size → size ≤ word_limit → (n : ℕ) → find_word text list at size (limit_of sort) ≡ Some n → P (read_to names n (at + size))) →
      (0 < size → size ≤ word_limit → find_word text list at size (limit_of sort) ≡ None → NewCases size) →
      P (read_word sort text names at)
  unfolding read_word seek after_seek
  word_cases missing long old new =
      let size = word_length text at in
      cases (eqb size 0) (λ z. rw z (missing (eqb-true size 0 z))) λ z.
      cases (ltb word_limit size) (λ e. rw (z, e) (long (ltb-true word_limit size e))) λ e.
      let some : 0 < size = omega (arith, eqb-false size 0 z) in
      let short = ltb-false word_limit size e in
      rw (z, e) (found_cases size (find_word text (names.lists sort) at size (limit_of sort)) (old some short) (new some short))
