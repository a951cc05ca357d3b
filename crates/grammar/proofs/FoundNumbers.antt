-- What the reader finds for a word is its number among the names that have been read.
-- A word that stood before has the same hash, so that the search down the chain passes over no number that has it; a number that is not given out has no
-- bytes, so it is never found; a concept's word is found at the last number of that word, as in the names; and no role's word stands twice, so the last
-- place of a word is its first.
--     find_among   the search over all numbers, with no chain
-- Assumes nothing.
use Prim.Native.Nat.{ℕ, zero, suc, ◌+◌, ◌-◌, ◌<◌, ◌≤◌}
use native.Mathlib.Nat.{add-zero, add-suc}
use native.Mathlib.Omega.{arith}
use mathlib.Core.Path.{◌≡◌, refl, sym, ◌∙◌, ap}
use mathlib.Core.Bool.{Bool, true, false, cond, ◌&&◌}
use mathlib.Core.Option.{Option, none, some}
use mathlib.Core.List.{List, [], ◌∷◌, ◌++◌}
use lib.ListN.{length, get_or, length-append}
use lib.Dec.{eqb, ltb, leb, eqb-suc-suc, eqb-zero-suc, eqb-suc-zero}
use borrow.Author.Tests.{eqb-true, eqb-false, eq-eqb, ne_eqb, ltb-true, ltb-false, leb-true, leb-false}
use Rattle.semantics.specs.Limits.{number_limit, role_limit}
use Rattle.semantics.specs.Source.{Word}
use Rattle.semantics.specs.Numbering.{same_word, lookup, place_of}
use Rattle.semantics.proofs.Tests.{cases}
use Rattle.semantics.proofs.Lookup.{same_word_lem, place_new}
use Rattle.words.specs.Bytes.{byte_at, same_bytes, same_word_at, word_hash}
use Rattle.words.proofs.Within.{hash_below, same_hash}
use Rattle.chains.specs.WordList.{find_below, find_word, WordList}
use Rattle.chains.proofs.Search.{find_end}
use Rattle.names.specs.State.{State, next_concept}
use Rattle.std.specs.Prelude.{Option as Found, Some, None}
use Rattle.chains.specs.declared.Sort.TheVariants.{Concepts, Roles}
use Rattle.grammar.specs.StateNames.{word_at, word_of, words_to, roles_to, state_names}
use Rattle.grammar.proofs.StateNames.{ValidList, Valid, LastOf, Chains}

-- the number that was found, if one was
abbrev pub found_number : Found ℕ → Option ℕ
found_number (Some n) = some n
found_number None = none

eqb_comm : (a b : ℕ) → eqb a b ≡ eqb b a
eqb_comm a b = cases (eqb a b)
    (λ t. rw (t, eq-eqb b a (sym (eqb-true a b t))))
    (λ t. rw (t, ne_eqb b a (λ e. eqb-false a b t (sym e))))

-- ---- words of a text

pub same_words : (text : List ℕ) (start long at size : ℕ) → same_word (word_at text at size) (word_at text start long) ≡ same_word_at text start long at size
unfolding same_word same_word_at word_at same_bytes
same_words text start zero at zero = refl
same_words text start zero at (suc size) = rw eqb-zero-suc
same_words text start (suc long) at zero = rw eqb-suc-zero
same_words text start (suc long) at (suc size) =
    rw (eqb-suc-suc, eqb_comm (byte_at text at)) (go (eqb (byte_at text start) (byte_at text at)) (eqb long size) (same_bytes text (suc start) (suc at) size)
    (same_words text (suc start) long (suc at) size))
  where
    go : (e l y : Bool) {x : Bool} → x ≡ cond l y false → (e && x) ≡ cond l (cond e y false) false
    go true true y h = h
    go true false y h = h
    go false true y h = refl
    go false false y h = refl

unused_differs : (text : List ℕ) (start at size : ℕ) → 0 < size → same_word_at text start 0 at size ≡ false
unfolding same_word_at
unused_differs text start at size h = rw (ne_eqb 0 size (λ e. omega arith))

-- ---- a list

-- the last of the first n numbers whose word is that of `size` bytes at `at`
find_among : List ℕ → WordList → ℕ → ℕ → ℕ → Found ℕ
find_among text l at size zero = None
find_among text l at size (suc n) =
    cond (same_word_at text (get_or l.starts n 0) (get_or l.lengths n 0) at size) (Some n) (find_among text l at size n)

-- what is found among n numbers is found among more, if no later one has the word
find_earlier : (text : List ℕ) (l : WordList) (at size n k : ℕ) →
    ((m : ℕ) → n ≤ m → m < n + k → same_word_at text (get_or l.starts m 0) (get_or l.lengths m 0) at size ≡ false) →
    find_among text l at size (n + k) ≡ find_among text l at size n
unfolding find_among
find_earlier text l at size n zero other = rw add-zero
find_earlier text l at size n (suc k) other =
    rw (add-suc, other (n + k) (omega arith) (omega arith)) (find_earlier text l at size n k (λ m h i. other m h (omega arith)))

-- where every word is in the chain of its hash, the search down a chain passes over no number that has the word
module _ (text : List ℕ) {limit : ℕ} (l : WordList) (at size : ℕ) (chains : Chains text limit l) (long : 0 < size) where
  chain_found : (steps bound n : ℕ) → bound ≤ steps → LastOf text l (word_hash text at size) bound n →
      find_below text l.starts l.lengths l.nexts at size steps bound n ≡ find_among text l at size bound
  unfolding find_below find_among
  chain_found zero bound n h last = let z : bound ≡ 0 = omega arith in rw z
  chain_found (suc steps) bound n h last = cases (ltb n bound)
      (λ t.
      let below = ltb-true n bound t in
      rw (t, passed below) (ap (cond (same n) (Some n)) (onward (chain_found steps n (get_or l.nexts n 0) (omega arith)))))
      (λ t. rw (t, none (ltb-false n bound t)))
    where
      same : ℕ → Bool
      same m = same_word_at text (get_or l.starts m 0) (get_or l.lengths m 0) at size

      -- no number between has the word
      passed : n < bound → find_among text l at size bound ≡ find_among text l at size (suc n)
      passed below =
          let all : suc n + (bound - suc n) ≡ bound = omega arith in
          rw (← all) (find_earlier text l at size (suc n) (bound - suc n) λ m behind before. cases (same m)
          (λ t.
          let (as_long, hash) = same_hash text (get_or l.starts m 0) (get_or l.lengths m 0) at size t in
          absurd (omega (arith, last.no_later m (omega arith) (omega arith) hash)))
          (λ t. t))

      onward : (LastOf text l (word_hash text at size) n (get_or l.nexts n 0) → find_below text l.starts l.lengths l.nexts at size steps n (get_or l.nexts n 0) ≡ find_among text l at size n) →
          find_below text l.starts l.lengths l.nexts at size steps n (get_or l.nexts n 0) ≡ find_among text l at size n
      onward rec = cases (eqb n 0)
          (λ t. let z = eqb-true n 0 t in rw z (find_end text l.starts l.lengths l.nexts at size steps 0 (get_or l.nexts 0 0) (omega arith)))
          (λ t. let (below, bytes, hash) = last.word (omega (arith, eqb-false n 0 t)) in rec (rw hash at (chains.nexts n bytes)))

      none : bound ≤ n → find_among text l at size bound ≡ None
      none over = cases (eqb n 0)
          (λ t. let z : bound ≡ 0 = omega (arith, eqb-true n 0 t) in rw z)
          (λ t. let (below, bytes, hash) = last.word (omega (arith, eqb-false n 0 t)) in absurd (omega arith))

-- no number from those in use on has a word
head_last : (text : List ℕ) {limit : ℕ} (l : WordList) (hash last : ℕ) → ValidList text limit l → LastOf text l hash l.used last → LastOf text l hash limit last
head_last text {limit} l hash last v h = record {
  word = λ first. let (below, bytes, e) = h.word first in (omega (arith, v.most), bytes, e);
  no_later = λ m below bytes. cases (leb l.used m)
      (λ t. absurd (omega (arith, v.no_word m (leb-true l.used m t))))
      (λ t. h.no_later m (leb-false l.used m t) bytes);
}

-- a word is looked for in the chain of its hash, and found among the numbers in use
find_used : (text : List ℕ) {limit : ℕ} (l : WordList) (at size : ℕ) → ValidList text limit l → 0 < size →
    find_word text l at size limit ≡ find_among text l at size l.used
unfolding find_word
find_used text {limit} l at size v h =
    let hash = word_hash text at size in
    let head = get_or l.heads hash 0 in
    let all : l.used + (limit - l.used) ≡ limit = omega (arith, v.most) in
    chain_found text l at size v.chains h limit limit head (omega arith) (head_last text l hash head v (v.chains.heads hash (hash_below text at size)))
    ∙ rw (← all) (find_earlier text l at size l.used (limit - l.used) λ m behind before.
    rw (v.no_word m behind) (unused_differs text (get_or l.starts m 0) at size h))

-- ---- concept names

words_found : (text : List ℕ) (l : WordList) (at size n : ℕ) → 0 < size → lookup (word_at text at size) (words_to text l n) ≡ found_number (find_among text l at size n)
unfolding words_to find_among lookup
words_found text l at size zero h = refl
words_found text l at size (suc n) h = cases (eqb (get_or l.lengths n 0) 0)
    (λ t. rw (t, eqb-true (get_or l.lengths n 0) 0 t, unused_differs text (get_or l.starts n 0) at size h) (words_found text l at size n h))
    (λ t. rw (t, same_words text (get_or l.starts n 0) (get_or l.lengths n 0) at size)
    (go (same_word_at text (get_or l.starts n 0) (get_or l.lengths n 0) at size) (find_among text l at size n) (words_found text l at size n h)))
  where
    go : (b : Bool) (f : Found ℕ) {o : Option ℕ} → o ≡ found_number f → cond b (some n) o ≡ found_number (cond b (Some n) f)
    go true f e = refl
    go false f e = e

-- What the reader finds for a word of concepts.
pub word_found : (text : List ℕ) (s : State) (at size : ℕ) → Valid text s → 0 < size →
    lookup (word_at text at size) (state_names text s).words ≡ found_number (find_word text (s.lists Concepts) at size number_limit)
word_found text s at size v h = rw (find_used text (s.lists Concepts) at size v.concepts h) (words_found text (s.lists Concepts) at size (next_concept s) h)

-- ---- roles

place_other : (w v : Word) (l : List Word) → same_word w v ≡ false → place_of w (l ++ v ∷ []) ≡ place_of w l
unfolding place_of
place_other w v [] h = rw h
place_other w v (u ∷ l) h = rw (place_other w v l h)

pub roles_length : (text : List ℕ) (l : WordList) (n : ℕ) → length (roles_to text l n) ≡ n
unfolding roles_to
roles_length text l zero = refl
roles_length text l (suc n) = omega (arith, length-append (roles_to text l n) (word_of text l n ∷ []), roles_length text l n)

roles_found : (text : List ℕ) (l : WordList) (at size n : ℕ) → ((k : ℕ) → k < n → place_of (word_of text l k) (roles_to text l k) ≡ none) →
    place_of (word_at text at size) (roles_to text l n) ≡ found_number (find_among text l at size n)
unfolding roles_to find_among place_of
roles_found text l at size zero new = refl
roles_found text l at size (suc n) new =
    let w = word_at text at size in
    let u = word_of text l n in
    let same = same_words text (get_or l.starts n 0) (get_or l.lengths n 0) at size in
    cases (same_word w u)
    (λ t. rw (sym same ∙ t, same_word_lem w u t) (place_new u (roles_to text l n) (new n (omega arith)) ∙ ap some (roles_length text l n)))
    (λ t. rw (sym same ∙ t) (place_other w u (roles_to text l n) t ∙ roles_found text l at size n (λ k h. new k (omega arith))))

-- What the reader finds for a role's word.
pub role_found : (text : List ℕ) (s : State) (at size : ℕ) → Valid text s → 0 < size →
    place_of (word_at text at size) (state_names text s).roles ≡ found_number (find_word text (s.lists Roles) at size role_limit)
role_found text s at size v h = rw (find_used text (s.lists Roles) at size v.roles h) (roles_found text (s.lists Roles) at size (s.lists Roles).used v.new_roles)
