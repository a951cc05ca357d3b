-- The names of a state, and its validity, at the start and after each change of it. What the sides are is read for no name.
-- Assumes nothing.
use Prim.Native.Nat.{ℕ, zero, suc, ◌+◌, ◌<◌, ◌≤◌}
use native.Mathlib.Numerals.{add-one}
use native.Mathlib.Omega.{arith}
use mathlib.Core.Path.{◌≡◌, refl, sym, ◌∙◌, ap}
use mathlib.Core.Bool.{cond}
use mathlib.Core.Option.{none}
use mathlib.Core.List.{List, [], ◌∷◌, ◌++◌}
use lib.ListN.{length, get_or, set, replicate, length-replicate, length-set}
use lib.Seq.{get_or-set_same, get_or-set_other}
use lib.Dec.{eqb, leb}
use borrow.Author.Tests.{eqb-true, eqb-false, ne_eqb, leb-true, leb-false}
use Rattle.semantics.specs.Limits.{number_limit, role_limit}
use Rattle.semantics.specs.Numbering.{no_names, place_of, number_taken}
use Rattle.semantics.proofs.Tests.{cases}
use Rattle.words.specs.Bytes.{hashes, word_hash}
use Rattle.words.proofs.Within.{hash_below}
use Rattle.chains.specs.WordList.{no_words, listed, word_listed, WordList}
use Rattle.chains.specs.declared.Sort.TheVariants.{Concepts, Roles}
use Rattle.names.specs.Names.{no_numbers, with_left, with_right, sign_taken, word_taken}
use Rattle.names.specs.State.{State, next_concept}
use Rattle.grammar.specs.StateNames.{word_at, word_of, words_to, roles_to, state_names}
use Rattle.grammar.proofs.StateNames.{ValidList, Valid, hash_of, LastOf, Chains}

-- ---- two lists with the same words

words_same : (text : List ℕ) (l m : WordList) (n : ℕ) → ((k : ℕ) → k < n → get_or m.starts k 0 ≡ get_or l.starts k 0) →
    ((k : ℕ) → k < n → get_or m.lengths k 0 ≡ get_or l.lengths k 0) → words_to text m n ≡ words_to text l n
unfolding words_to
words_same text l m zero p q = refl
words_same text l m (suc n) p q =
    rw (p n (omega arith), q n (omega arith), words_same text l m n (λ k h. p k (omega arith)) (λ k h. q k (omega arith)))

roles_same : (text : List ℕ) (l m : WordList) (n : ℕ) → ((k : ℕ) → k < n → word_of text m k ≡ word_of text l k) → roles_to text m n ≡ roles_to text l n
unfolding roles_to
roles_same text l m zero p = refl
roles_same text l m (suc n) p = rw (p n (omega arith), roles_same text l m n (λ k h. p k (omega arith)))

last_same : (text : List ℕ) {l : WordList} (m : WordList) {hash n last : ℕ} →
    ((k : ℕ) → k < n → (get_or m.starts k 0 ≡ get_or l.starts k 0) × (get_or m.lengths k 0 ≡ get_or l.lengths k 0)) →
    LastOf text l hash n last → LastOf text m hash n last
last_same text m {hash} {n} {last} same h = record {
  word = λ first.
      let (below, long, e) = h.word first in
      let (a, b) = same last below in
      (below, rw b long, rw (a, b) e);
  no_later = λ k below long e. let (a, b) = same k below in h.no_later k below (rw b at long) (rw (a, b) at e);
}

-- a number more, which is no word of the hash
last_more : (text : List ℕ) (l : WordList) {hash n last : ℕ} → (0 < get_or l.lengths n 0 → hash_of text l n ≡ hash → ⊥) →
    LastOf text l hash n last → LastOf text l hash (n + 1) last
last_more text l {hash} {n} {last} other h = record {
  word = λ first. let (below, long, e) = h.word first in (omega arith, long, e);
  no_later = λ k below long e. cases (eqb k n)
      (λ t. let same = eqb-true k n t in absurd (other (rw same at long) (rw same at e)))
      (λ t. h.no_later k (omega (arith, eqb-false k n t)) long e);
}

-- ---- at the start

zeros : (n k : ℕ) → ◌≡◌ {A = ℕ} (get_or (replicate n 0) k 0) 0
zeros zero k = refl
zeros (suc n) zero = refl
zeros (suc n) (suc k) = zeros n k

valid_no_words : (text : List ℕ) (limit used : ℕ) → used ≤ limit → ValidList text limit (no_words limit used)
valid_no_words text limit used h = record {
  starts_size = length-replicate limit 0;
  lengths_size = length-replicate limit 0;
  most = h;
  no_word = λ n h. zeros limit n;
  words_inside = λ n. omega (arith, zeros limit n);
  chains = record {
    heads_size = refl;
    nexts_size = length-replicate limit 0;
    heads = λ h less. record { word = λ first. absurd (omega (arith, zeros hashes h)); no_later = λ m below long. absurd (omega (arith, zeros limit m)) };
    nexts = λ n long. absurd (omega (arith, zeros limit n));
  };
}

pub names_none : (text : List ℕ) → state_names text no_numbers ≡ no_names
unfolding no_numbers words_to roles_to
names_none text = refl

pub valid_none : (text : List ℕ) → Valid text no_numbers
unfolding no_numbers
valid_none text = record {
  concepts = valid_no_words text _ _ (omega arith);
  roles = valid_no_words text _ _ (omega arith);
  lefts_size = refl;
  rights_size = refl;
  least = omega arith;
  new_roles = λ n h. absurd (omega arith);
}

-- ---- a number of a list is taken

-- the next number goes to the `size` bytes at `at`, with whatever chains
abbrev listed_in : WordList → List ℕ → List ℕ → ℕ → ℕ → WordList
listed_in l heads nexts at size = record {
  used = l.used + 1;
  starts = set l.starts l.used at;
  lengths = set l.lengths l.used size;
  heads = heads;
  nexts = nexts;
}

module _ (l : WordList) (at size : ℕ) where
  -- the other numbers keep their words
  pub listed_other : (n : ℕ) → (n ≡ l.used → ⊥) →
      (get_or (listed l at size).starts n 0 ≡ get_or l.starts n 0) × (get_or (listed l at size).lengths n 0 ≡ get_or l.lengths n 0)
  listed_other n h = (get_or-set_other l.starts l.used n at 0 h, get_or-set_other l.lengths l.used n size 0 h)

  listed_roles : (heads nexts text : List ℕ) (n : ℕ) → n ≤ l.used → roles_to text (listed_in l heads nexts at size) n ≡ roles_to text l n
  listed_roles heads nexts text n h =
      roles_same text l (listed_in l heads nexts at size) n (λ k i. let (a, b) = listed_other k (λ e. omega arith) in rw (a, b))

  module _ {text : List ℕ} {limit : ℕ} (v : ValidList text limit l) (room : l.used < limit) where
    pub listed_start : get_or (listed l at size).starts l.used 0 ≡ at
    listed_start = get_or-set_same l.starts l.used at 0 (omega (arith, v.starts_size))

    pub listed_length : get_or (listed l at size).lengths l.used 0 ≡ size
    listed_length = get_or-set_same l.lengths l.used size 0 (omega (arith, v.lengths_size))

    -- a number that has bytes, and is not the one taken, is an earlier one
    earlier : (n : ℕ) → (n ≡ l.used → ⊥) → 0 < get_or (listed l at size).lengths n 0 → (n < l.used) × (0 < get_or l.lengths n 0)
    earlier n other long =
        let old : 0 < get_or l.lengths n 0 = rw (listed_other n other).1 at long in
        cases (leb l.used n)
        (λ t. absurd (omega (arith, v.no_word n (leb-true l.used n t))))
        (λ t. (leb-false l.used n t, old))

    module _ (heads nexts : List ℕ) where
      listed_words : words_to text (listed_in l heads nexts at size) (l.used + 1) ≡
          cond (eqb size 0) (words_to text l l.used) ((word_at text at size, l.used) ∷ words_to text l l.used)
      unfolding words_to
      listed_words =
          let m = listed_in l heads nexts at size in
          let same = words_same text l m l.used (λ k h. (listed_other k (λ e. omega arith)).0) (λ k h. (listed_other k (λ e. omega arith)).1) in
          ap (words_to text m) (add-one l.used) ∙ rw (listed_length, listed_start, same)

      -- the last words of the earlier numbers stay, and so does the next one of each
      listed_last : {hash n last : ℕ} → n ≤ l.used → LastOf text l hash n last → LastOf text (listed_in l heads nexts at size) hash n last
      listed_last h = last_same text (listed_in l heads nexts at size) (λ k i. listed_other k (λ e. omega arith))

      listed_next : (n : ℕ) → (n ≡ l.used → ⊥) → 0 < get_or (listed l at size).lengths n 0 →
          LastOf text (listed_in l heads nexts at size) (hash_of text (listed_in l heads nexts at size) n) n (get_or l.nexts n 0)
      listed_next n other long =
          let (below, old) = earlier n other long in
          let (a, b) = listed_other n other in
          rw (a, b) (listed_last (omega arith) (v.chains.nexts n old))

      valid_listed : at + size ≤ length text → Chains text limit (listed_in l heads nexts at size) →
          ValidList text limit (listed_in l heads nexts at size)
      valid_listed inside chains = record {
        starts_size = length-set l.starts l.used at ∙ v.starts_size;
        lengths_size = length-set l.lengths l.used size ∙ v.lengths_size;
        most = omega arith;
        no_word = λ n h. (listed_other n (λ e. omega arith)).1 ∙ v.no_word n (omega arith);
        words_inside = λ n. cases (eqb n l.used)
            (λ e. rw (eqb-true n l.used e, listed_start, listed_length) inside)
            (λ e. let (a, b) = listed_other n (eqb-false n l.used e) in rw (a, b) (v.words_inside n));
        chains = chains;
      }

    -- a sign is in no chain
    valid_signed : size ≡ 0 → at + size ≤ length text → ValidList text limit (listed l at size)
    valid_signed empty inside = valid_listed l.heads l.nexts inside record {
      heads_size = v.chains.heads_size;
      nexts_size = v.chains.nexts_size;
      heads = λ h below.
          last_more text (listed l at size) (λ long e. omega (arith, listed_length)) (listed_last l.heads l.nexts (omega arith) (v.chains.heads h below));
      nexts = λ n long. listed_next l.heads l.nexts n (λ e. omega (arith, rw (e, listed_length) at long)) long;
    }

    -- a word is the head of the chain of its hash
    valid_worded : 0 < size → at + size ≤ length text → ValidList text limit (word_listed text l at size)
    valid_worded some inside =
        let hash = word_hash text at size in
        let m = word_listed text l at size in
        let head = get_or l.heads hash 0 in
        let inside-heads = hash_below text at size in
        let own : hash_of text m l.used ≡ hash = rw (listed_start, listed_length) in
        let old : (h : ℕ) → h < hashes → LastOf text m h l.used (get_or l.heads h 0) =
        λ h below. listed_last m.heads m.nexts (omega arith) (v.chains.heads h below) in
        valid_listed m.heads m.nexts inside record {
          heads_size = length-set l.heads hash l.used ∙ v.chains.heads_size;
          nexts_size = length-set l.nexts l.used head ∙ v.chains.nexts_size;
          heads = λ h below. cases (eqb h hash)
              (λ t. rw (eqb-true h hash t, get_or-set_same l.heads hash l.used 0 (omega (arith, v.chains.heads_size)))
              record { word = λ first. (omega arith, rw listed_length some, own); no_later = λ k least long e. omega arith })
              (λ t.
              let other = eqb-false h hash t in
              rw (get_or-set_other l.heads hash h l.used 0 other) (last_more text m (λ long e. other (sym e ∙ own)) (old h below)));
          nexts = λ n long. cases (eqb n l.used)
              (λ t. rw (eqb-true n l.used t, own, get_or-set_same l.nexts l.used head 0 (omega (arith, v.chains.nexts_size))) (old hash inside-heads))
              (λ t.
              let other = eqb-false n l.used t in
              rw (get_or-set_other l.nexts l.used n head 0 other) (listed_next m.heads m.nexts n other long));
        }

-- ---- a number is taken

module _ (text : List ℕ) (s : State) (at size : ℕ) (v : Valid text s) (room : next_concept s < number_limit) where
  -- a word takes the next number
  pub names_word : 0 < size →
      state_names text (word_taken Concepts text s at size) ≡
      record { next = next_concept s + 1; words = (word_at text at size, next_concept s) ∷ (state_names text s).words; roles = (state_names text s).roles }
  names_word long =
      let l = (word_taken Concepts text s at size).lists Concepts in
      let words = rw (ne_eqb size 0 (λ e. omega arith)) at (listed_words (s.lists Concepts) at size v.concepts room l.heads l.nexts) in
      λ i. record { next = next_concept s + 1; words = words i; roles = (state_names text s).roles }

  pub valid_word : 0 < size → at + size ≤ length text → Valid text (word_taken Concepts text s at size)
  valid_word long inside = record {
    concepts = valid_worded (s.lists Concepts) at size v.concepts room long inside;
    roles = v.roles;
    lefts_size = v.lefts_size;
    rights_size = v.rights_size;
    least = omega (arith, v.least);
    new_roles = v.new_roles;
  }

-- an & or a / takes the next number
module _ (text : List ℕ) (s : State) (at : ℕ) (v : Valid text s) (room : next_concept s < number_limit) where
  pub names_sign : state_names text (sign_taken s at) ≡ number_taken (state_names text s)
  names_sign =
      let words = listed_words (s.lists Concepts) at 0 v.concepts room (s.lists Concepts).heads (s.lists Concepts).nexts in
      λ i. record { next = next_concept s + 1; words = words i; roles = (state_names text s).roles }

  pub valid_sign : at ≤ length text → Valid text (sign_taken s at)
  valid_sign inside = record {
    concepts = valid_signed (s.lists Concepts) at 0 v.concepts room refl (omega arith);
    roles = v.roles;
    lefts_size = v.lefts_size;
    rights_size = v.rights_size;
    least = omega (arith, v.least);
    new_roles = v.new_roles;
  }

-- ---- a role is taken

module _ (text : List ℕ) (s : State) (at size : ℕ) (v : Valid text s) (room : (s.lists Roles).used < role_limit) where
  role_word : word_of text ((word_taken Roles text s at size).lists Roles) (s.lists Roles).used ≡ word_at text at size
  role_word = rw (listed_start (s.lists Roles) at size v.roles room, listed_length (s.lists Roles) at size v.roles room)

  earlier_roles : (n : ℕ) → n ≤ (s.lists Roles).used → roles_to text ((word_taken Roles text s at size).lists Roles) n ≡ roles_to text (s.lists Roles) n
  earlier_roles = let l = (word_taken Roles text s at size).lists Roles in listed_roles (s.lists Roles) at size l.heads l.nexts text

  role_last : roles_to text ((word_taken Roles text s at size).lists Roles) ((s.lists Roles).used + 1) ≡ roles_to text (s.lists Roles) (s.lists Roles).used ++ word_at text at size ∷ []
  unfolding roles_to
  role_last = ap (roles_to text ((word_taken Roles text s at size).lists Roles)) (add-one (s.lists Roles).used) ∙ rw (role_word, earlier_roles (s.lists Roles).used (omega arith))

  -- a role's word takes the next place
  pub names_role : state_names text (word_taken Roles text s at size) ≡
      record { next = next_concept s; words = (state_names text s).words; roles = (state_names text s).roles ++ word_at text at size ∷ [] }
  names_role = λ i. record { next = next_concept s; words = (state_names text s).words; roles = role_last i }

  pub valid_role : 0 < size → at + size ≤ length text → place_of (word_at text at size) (state_names text s).roles ≡ none → Valid text (word_taken Roles text s at size)
  valid_role long inside new = record {
    concepts = v.concepts;
    roles = valid_worded (s.lists Roles) at size v.roles room long inside;
    lefts_size = v.lefts_size;
    rights_size = v.rights_size;
    least = v.least;
    new_roles = λ n h. cases (eqb n (s.lists Roles).used)
        (λ e. rw (eqb-true n (s.lists Roles).used e, role_word, earlier_roles (s.lists Roles).used (omega arith)) new)
        (λ e.
        let (a, b) = listed_other (s.lists Roles) at size n (eqb-false n (s.lists Roles).used e) in
        let less : n < (s.lists Roles).used = omega (arith, eqb-false n (s.lists Roles).used e) in
        rw (a, b, earlier_roles n (omega arith)) (v.new_roles n less));
  }

-- ---- a side of a number

module _ {text : List ℕ} {s : State} (number side : ℕ) (v : Valid text s) where
  pub valid_left : Valid text (with_left s number side)
  valid_left = record {
    concepts = v.concepts;
    roles = v.roles;
    lefts_size = length-set s.lefts number side ∙ v.lefts_size;
    rights_size = v.rights_size;
    least = v.least;
    new_roles = v.new_roles;
  }

  pub valid_right : Valid text (with_right s number side)
  valid_right = record {
    concepts = v.concepts;
    roles = v.roles;
    lefts_size = v.lefts_size;
    rights_size = length-set s.rights number side ∙ v.rights_size;
    least = v.least;
    new_roles = v.new_roles;
  }
