-- The search for a word that stood before, a step at a time down its chain. Assumes nothing.
--     find_end, find_here, looked_at, turn_looks   a step of the search
--     seek_none, seek_long, seek_found  what is known of a word
--     sought_known, _full, _new         by what the search found
use Prim.Native.Nat.{ℕ, zero, suc, ◌+◌, ◌<◌, ◌≤◌}
use native.Mathlib.Omega.{arith}
use mathlib.Core.Path.{◌≡◌, refl, sym, ap, ◌∙◌}
use mathlib.Core.Bool.{Bool, true, false, cond}
use mathlib.Core.List.{List}
use lib.ListN.{get_or}
use lib.Dec.{ltb}
use Rattle.std.specs.Prelude.{Option, Some, None, Result, Ok, Err}
use borrow.Author.Tests.{eq-eqb, ne_eqb, lt-ltb, le-ltb, ltb-true, le-leb, lt-leb}
use Rattle.semantics.proofs.Tests.{cases}
use Rattle.semantics.specs.Limits.{word_limit}
use Rattle.refusal.specs.declared.Refusal.{Refusal}
use Rattle.refusal.specs.declared.Refusal.TheVariants.{SyntaxError, WordTooLong}
use Rattle.words.specs.Bytes.{word_length, same_word_at, hashes, word_hash}
use Rattle.words.proofs.Within.{hash_below}
use Rattle.chains.specs.Sorts.{limit_of}
use Rattle.chains.specs.WordList.{WordList, find_below, find_word, sought_by, seek}
use Rattle.chains.specs.Chains.{heads_at, nexts_at, part, list_in}
use Rattle.chains.specs.declared.Sought.{Sought}
use Rattle.chains.specs.declared.Sought.TheVariants.{Known, New}
use Rattle.chains.specs.declared.Sort.{Sort}
use Rattle.chains.proofs.Parts.{part_get, first_get}

module _ (text starts lengths nexts : List ℕ) (at size : ℕ) where
  -- from the bound on a chain ends
  pub find_end : (steps bound n : ℕ) → bound ≤ n → find_below text starts lengths nexts at size steps bound n ≡ None
  unfolding find_below
  find_end zero bound n over = refl
  find_end (suc steps) bound n over = rw (le-ltb n bound over)

  -- steps that are enough find the same
  enough : (s t bound n : ℕ) → bound ≤ s → bound ≤ t → find_below text starts lengths nexts at size s bound n ≡ find_below text starts lengths nexts at size t bound n
  unfolding find_below
  enough zero t bound n h i = sym (find_end t bound n (omega arith))
  enough (suc s) zero bound n h i = find_end (suc s) bound n (omega arith)
  enough (suc s) (suc t) bound n h i = cases (ltb n bound)
      (λ e. let less = ltb-true n bound e in rw e (ap (cond (same n) (Some n)) (enough s t n (get_or nexts n 0) (omega arith) (omega arith))))
      (λ e. rw e)
    where
      same : ℕ → Bool
      same m = same_word_at text (get_or starts m 0) (get_or lengths m 0) at size

  -- below the bound the number's own word is looked at, and then what its chain leads to
  pub find_here : (steps bound n : ℕ) → bound ≤ steps → n < bound →
      find_below text starts lengths nexts at size steps bound n ≡
      cond (same_word_at text (get_or starts n 0) (get_or lengths n 0) at size) (Some n) (find_below text starts lengths nexts at size n n (get_or nexts n 0))
  unfolding find_below
  find_here zero bound n h below = absurd (omega arith)
  find_here (suc steps) bound n h below = rw (lt-ltb n bound below, enough steps n n (get_or nexts n 0) (omega arith) (omega arith))

-- a search among the sort's parts of the arrays, from n on below the bound
abbrev pub search_from : List ℕ → List ℕ → List ℕ → List ℕ → ℕ → ℕ → ℕ → ℕ → ℕ → ℕ → Option ℕ
search_from text starts lengths links nexts limit at size bound n =
    find_below text (part 0 limit starts) (part 0 limit lengths) (part nexts limit links) at size bound bound n

-- a word's start and its length were read
pub looked_at : (text starts lengths : List ℕ) (i j at size : ℕ) {start long : ℕ} {r : Bool} → start ≡ get_or starts i 0 → long ≡ get_or lengths j 0 →
    r ≡ same_word_at text start long at size → r ≡ same_word_at text (get_or starts i 0) (get_or lengths j 0) at size
looked_at text starts lengths i j at size e f g = rw (g, e, f)

-- a turn looks at the number's word, and then at what its chain leads to
pub turn_looks : (text starts lengths links : List ℕ) (nexts limit at size bound n : ℕ) {start long : ℕ} {r : Bool} → bound ≤ limit → n < bound →
    start ≡ get_or starts n 0 → long ≡ get_or lengths n 0 → r ≡ same_word_at text start long at size →
    search_from text starts lengths links nexts limit at size bound n ≡
    cond r (Some n) (search_from text starts lengths links nexts limit at size n (get_or links (nexts + n) 0))
turn_looks text starts lengths links nexts limit at size bound n h b e f g =
    let less : n < limit = omega arith in
    find_here text (part 0 limit starts) (part 0 limit lengths) (part nexts limit links) at size bound bound n (omega arith) b
    ∙ rw (first_get limit starts n less, first_get limit lengths n less, part_get nexts limit links n less, g, e, f)

-- it is the word, or the search goes on
pub found_here : {t : Bool} (r s : Option ℕ) → t ≡ true → cond t r s ≡ r
found_here r s e = rw e

pub goes_on : {t : Bool} (r s : Option ℕ) → t ≡ false → cond t r s ≡ s
goes_on r s e = rw e

-- ---- what is known of a word

module _ (limit : ℕ) (full : Refusal) (text : List ℕ) (list : WordList) (at : ℕ) {size : ℕ} (is : size ≡ word_length text at) where
  pub seek_none : size ≡ 0 → Err SyntaxError ≡ seek limit full text list at
  unfolding seek
  seek_none e = rw (← is, eq-eqb size 0 e)

  pub seek_long : (size ≡ 0 → ⊥) → word_limit < size → Err WordTooLong ≡ seek limit full text list at
  unfolding seek
  seek_long some long = rw (← is, ne_eqb size 0 some, lt-ltb word_limit size long)

  -- a word that can be read is looked for, and what was found says the rest
  pub seek_found : {found : Option ℕ} {r : Result Sought Refusal} → (size ≡ 0 → ⊥) → size ≤ word_limit → found ≡ find_word text list at size limit → r ≡ sought_by found limit full list at size →
      r ≡ seek limit full text list at
  unfolding seek
  seek_found some short e f = rw (f, e, ← is, ne_eqb size 0 some, le-ltb word_limit size short)

-- what was found, by cases
module _ (limit : ℕ) (full : Refusal) (list : WordList) (at size : ℕ) {found : Option ℕ} where
  pub sought_known : {n : ℕ} → found ≡ Some n → Ok (Known n (at + size)) ≡ sought_by found limit full list at size
  unfolding sought_by
  sought_known e = rw e

  pub sought_full : found ≡ None → limit ≤ list.used → Err full ≡ sought_by found limit full list at size
  unfolding sought_by
  sought_full e over = rw (e, le-leb limit list.used over)

  pub sought_new : found ≡ None → list.used < limit → Ok (New list.used size (at + size)) ≡ sought_by found limit full list at size
  unfolding sought_by
  sought_new e under = rw (e, lt-leb limit list.used under)

-- a search from the head of the word's chain, where the chains are among the links
module _ (sort : Sort) (text starts lengths links : List ℕ) (at size : ℕ) {heads hash head : ℕ} {found : Option ℕ}
    (y : heads ≡ heads_at sort) (h : hash ≡ word_hash text at size) (e : head ≡ get_or links (heads + hash) 0) where
  pub find_listed : found ≡ find_below text (part 0 (limit_of sort) starts) (part 0 (limit_of sort) lengths) (part (nexts_at sort) (limit_of sort) links) at size (limit_of sort) (limit_of sort) head →
      found ≡ find_word text (list_in sort starts lengths links) at size (limit_of sort)
  unfolding find_word
  find_listed g = rw (g, e, h, y, part_get (heads_at sort) hashes links (word_hash text at size) (hash_below text at size))
