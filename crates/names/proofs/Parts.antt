-- The state when something of what is lent is put, and when a number was taken or a word was read. Assumes nothing.
--     state_none, none_long       state before the first number, and its links
--     state_lent, state_back      state when it is lent, and when it goes by value again
--     over_concepts               what a step does to the concepts' state, it does to that of concepts and roles
--     left_link, right_link       the link that is a number's left, or right
--     state_left, state_right     when it is put
--     number_taken, numbers_full  when a number was taken, or none was left
--     word_old, word_new          when a word was read
use Prim.Native.Nat.{ℕ, zero, suc, ◌+◌, ◌<◌, ◌≤◌}
use native.Mathlib.Omega.{arith}
use borrow.Author.Tests.{le-leb, lt-leb}
use mathlib.Core.Path.{◌≡◌, refl, sym, ap, ◌∙◌}
use mathlib.Core.Bool.{false}
use mathlib.Core.List.{List, ◌∷◌}
use Rattle.std.specs.Prelude.{Result, Ok, Err}
use lib.ListN.{length, get_or, set, take, replicate, length-set, length-replicate}
use Rattle.semantics.specs.Limits.{number_limit}
use Rattle.refusal.specs.declared.Refusal.{Refusal}
use Rattle.refusal.specs.declared.Refusal.TheVariants.{TooManyNumbers}
use Rattle.words.specs.Bytes.{hashes, word_hash}
use Rattle.words.proofs.Within.{hash_below}
use Rattle.chains.specs.Sorts.{limit_of, least_of, full_of, same_sort, with_sort}
use Rattle.chains.specs.WordList.{WordList, no_words, listed, word_listed, seek}
use Rattle.chains.specs.Chains.{no_starts, links_at, heads_at, nexts_at, word_links, part, list_of, used_in, list_in, chained_in, Given}
use Rattle.chains.specs.declared.Sort.{Sort}
use Rattle.chains.specs.declared.Sort.TheVariants.{Concepts, Roles}
use Rattle.chains.specs.declared.Sought.{Sought}
use Rattle.chains.specs.declared.Sought.TheVariants.{Known, New}
use Rattle.chains.proofs.Parts.{part_get, part_here, part_kept, with_here, sort_cases, sort_room, list_of_elsewhere, list_in_elsewhere, list_counted, used_chained}
use Rattle.chains.proofs.Parts.{list_chained, list_given, other_chained, other_given, behind_chained, behind_given}
use Rattle.names.specs.Names.{no_numbers, with_list, with_left, with_right, ended, refuse, read_to, sought_step, after_seek, take_number, read_word}
use Rattle.names.specs.Lent.{link_count, no_links, new_reader, lefts_in, rights_in, words_of, state_of, with_step, ending_of, SortArrays, arrays, lists_by, state_by, state_with, words_in, state_in, ending_in}
use Rattle.names.specs.State.{State, Step, Ending}
use Rattle.names.specs.declared.ReaderState.{ReaderState}

-- the lists of each sort, lefts and rights are all of a state
same_state : (s t : State) → ((sort : Sort) → s.lists sort ≡ t.lists sort) → s.lefts ≡ t.lefts → s.rights ≡ t.rights → s ≡ t
same_state s t lists lefts rights = λ i. record { lists = λ sort. lists sort i; lefts = lefts i; rights = rights i }

-- ---- before the first number

zeros : ℕ → List ℕ
zeros count = replicate count 0

take_zeros : (size count : ℕ) → size ≤ count → take size (zeros count) ≡ zeros size
unfolding zeros
take_zeros zero count h = refl
take_zeros (suc size) zero h = absurd (omega arith)
take_zeros (suc size) (suc count) h = ap (λ l. 0 ∷ l) (take_zeros size count (omega arith))

part_none : (at size count : ℕ) → at + size ≤ count → part at size (replicate count 0) ≡ replicate size 0
unfolding part zeros
part_none zero size count h = take_zeros size count (omega arith)
part_none (suc at) size zero h = absurd (omega arith)
part_none (suc at) size (suc count) h = part_none at size count (omega arith)

pub state_none : state_of new_reader no_links ≡ no_numbers
unfolding no_numbers
state_none = same_state _ _ lists (part_none word_links number_limit link_count (omega arith)) (part_none (word_links + number_limit) number_limit link_count (omega arith))
  where
    none : (sort : Sort) → list_of sort (no_starts sort) no_links ≡ no_words (limit_of sort) (least_of sort)
    none sort = rw (
      part_none 0 (limit_of sort) number_limit (omega (arith, sort_room sort)),
      part_none (heads_at sort) hashes link_count (omega (arith, sort_room sort)),
      part_none (nexts_at sort) (limit_of sort) link_count (omega (arith, sort_room sort)),
    )

    lists : (sort : Sort) → list_of sort (words_of new_reader sort) no_links ≡ no_words (limit_of sort) (least_of sort)
    lists Concepts = none Concepts
    lists Roles = none Roles

-- the words' links are among the links
pub none_long : word_links ≤ length no_links
none_long = omega (arith, length-replicate {A = ℕ} link_count 0)

-- ---- what goes by value is lent, and goes by value again

module _ (rest : Sort → SortArrays) (starts lengths rolestarts rolelengths links : List ℕ) (used roles : ℕ) where
  abbrev reader : ReaderState
  reader = record { concepts = record { used = used; starts = starts; lengths = lengths }; roles = record { used = roles; starts = rolestarts; lengths = rolelengths } }

  -- how many there are becomes a link of each sort
  pub state_lent : {one two : List ℕ} → word_links ≤ length links → one ≡ set links (links_at Concepts) used → two ≡ set one (links_at Roles) roles →
      state_in rest starts lengths rolestarts rolelengths two ≡ state_of reader links
  state_lent {one} {two} long e f = rw (f, e) (same_state _ _ lists (kept word_links (omega arith)) (kept (word_links + number_limit) (omega arith)))
    where
      counted : List ℕ
      counted = set links (links_at Concepts) used

      lists : (sort : Sort) → lists_by (words_in rest starts lengths rolestarts rolelengths) (set counted (links_at Roles) roles) sort ≡ list_of sort (words_of reader sort) links
      lists Concepts =
          list_in_elsewhere Concepts counted starts lengths (links_at Roles) roles (λ h. omega arith)
          ∙ list_counted Concepts links reader.concepts long
      lists Roles =
          list_counted Roles counted reader.roles (omega (arith, long, length-set links (links_at Concepts) used))
          ∙ list_of_elsewhere Roles links reader.roles (links_at Concepts) used (λ h. omega arith)

      kept : (at : ℕ) → word_links ≤ at → part at number_limit (set counted (links_at Roles) roles) ≡ part at number_limit links
      kept at h =
          part_kept at number_limit counted (links_at Roles) roles (λ k. omega arith)
          ∙ part_kept at number_limit links (links_at Concepts) used (λ k. omega arith)

  pub state_back : (step : Step) → used ≡ used_in Concepts links → roles ≡ used_in Roles links → ending_of (with_step reader step) links ≡ ending_in rest starts lengths rolestarts rolelengths links step
  state_back step e f = ap (λ s. ended s step) (same_state _ _ lists refl refl)
    where
      lists : (sort : Sort) → list_of sort (words_of reader sort) links ≡ lists_by (words_in rest starts lengths rolestarts rolelengths) links sort
      lists Concepts = ap (λ n. list_of Concepts record { used = n; starts = starts; lengths = lengths } links) e
      lists Roles = ap (λ n. list_of Roles record { used = n; starts = rolestarts; lengths = rolelengths } links) f

-- ---- one sort

-- what is lent of concepts and of roles, in either order
concepts_last : (rest : Sort → SortArrays) (concepts roles : SortArrays) → with_sort (with_sort rest Concepts concepts) Roles roles ≡ with_sort (with_sort rest Roles roles) Concepts concepts
concepts_last rest concepts roles = λ i other. go other i
  where
    go : (other : Sort) → with_sort (with_sort rest Concepts concepts) Roles roles other ≡ with_sort (with_sort rest Roles roles) Concepts concepts other
    go Concepts = refl
    go Roles = refl

-- what a step does to the concepts' state it does to that of concepts and roles
pub over_concepts : (starts lengths links starts' lengths' links' : List ℕ) (step : Step) (does : State → Ending) →
    ((rest : Sort → SortArrays) → ended (state_with rest Concepts starts' lengths' links') step ≡ does (state_with rest Concepts starts lengths links)) →
    (rolestarts rolelengths : List ℕ) (rest : Sort → SortArrays) →
    ending_in rest starts' lengths' rolestarts rolelengths links' step ≡ does (state_in rest starts lengths rolestarts rolelengths links)
over_concepts starts lengths links starts' lengths' links' step does h rolestarts rolelengths rest =
    let roles = arrays rolestarts rolelengths in
    ap (λ words. ended (state_by words links') step) (concepts_last rest (arrays starts' lengths') roles)
    ∙ h (with_sort rest Roles roles)
    ∙ sym (ap (λ words. does (state_by words links)) (concepts_last rest (arrays starts lengths) roles))

module _ (rest : Sort → SortArrays) (sort : Sort) where
  -- the list of the sort is another, and all else is kept
  state_list : (old new : SortArrays) (links links' : List ℕ) (list : WordList) → list_in sort new.starts new.lengths links' ≡ list →
      ((other : Sort) → same_sort sort other ≡ false → (starts lengths : List ℕ) → list_in other starts lengths links' ≡ list_in other starts lengths links) →
      ((at : ℕ) → word_links ≤ at → part at number_limit links' ≡ part at number_limit links) →
      state_by (with_sort rest sort new) links' ≡ with_list (state_by (with_sort rest sort old) links) sort list
  state_list old new links links' list here elsewhere behind = same_state _ _
      (sort_cases (lists_by (with_sort rest sort new) links') (lists_by (with_sort rest sort old) links) sort list
      (ap (λ (w : SortArrays). list_in sort w.starts w.lengths links') (with_here rest sort new) ∙ here)
      (λ t d. rw d (elsewhere t d (rest t).starts (rest t).lengths)))
      (behind word_links (omega arith))
      (behind (word_links + number_limit) (omega arith))

-- ---- lefts and rights

pub left_link : (links : List ℕ) (n : ℕ) → n < number_limit → get_or (lefts_in links) n 0 ≡ get_or links (word_links + n) 0
left_link = part_get word_links number_limit

pub right_link : (links : List ℕ) (n : ℕ) → n < number_limit → get_or (rights_in links) n 0 ≡ get_or links (word_links + number_limit + n) 0
right_link = part_get (word_links + number_limit) number_limit

module _ (words : Sort → SortArrays) (links : List ℕ) where
  -- a link that is put behind those of the words
  lists_kept : (i v : ℕ) → word_links ≤ i → (sort : Sort) → lists_by words (set links i v) sort ≡ lists_by words links sort
  lists_kept i v h sort = list_in_elsewhere sort links (words sort).starts (words sort).lengths i v (λ k. omega (arith, sort_room sort))

  pub state_left : (n v : ℕ) → n < number_limit → state_by words (set links (word_links + n) v) ≡ with_left (state_by words links) n v
  state_left n v h =
      let at = word_links + n in
      same_state _ _ (lists_kept at v (omega arith)) (part_here word_links number_limit links n v h) (part_kept (word_links + number_limit) number_limit links at v (λ k. omega arith))

  pub state_right : (n v : ℕ) → n < number_limit → state_by words (set links (word_links + number_limit + n) v) ≡ with_right (state_by words links) n v
  state_right n v h =
      let at = word_links + number_limit + n in
      same_state _ _ (lists_kept at v (omega arith)) (part_kept word_links number_limit links at v (λ k. omega arith)) (part_here (word_links + number_limit) number_limit links n v h)

-- ---- numbers and words

-- an & or a /: no number is left, or it takes the next
module _ (starts lengths links : List ℕ) (at : ℕ) (rest : Sort → SortArrays) where
  pub numbers_full : number_limit ≤ used_in Concepts links →
      refuse (state_with rest Concepts starts lengths links) TooManyNumbers at ≡ take_number (state_with rest Concepts starts lengths links) at
  unfolding take_number
  numbers_full h = rw (le-leb _ _ h)

  pub number_taken : {starts' lengths' links' : List ℕ} {number : ℕ} → number ≡ used_in Concepts links → used_in Concepts links < number_limit → word_links ≤ length links →
      Given Concepts at 0 starts starts' lengths lengths' links links' →
      read_to (state_with rest Concepts starts' lengths' links') number (at + 1) ≡ take_number (state_with rest Concepts starts lengths links) at
  unfolding take_number
  number_taken {starts'} {lengths'} {links'} e h long g = rw (e, lt-leb _ _ h) (ap (λ t. read_to t (used_in Concepts links) (at + 1))
      (state_list rest Concepts (arrays starts lengths) (arrays starts' lengths') links links' _
      (list_given Concepts at 0 g h long)
      (λ t d s l. other_given Concepts at 0 g s l t d)
      (λ from h. behind_given Concepts at 0 g from number_limit h)))

-- a number's place in a chain changes no number of links
chained_length : (sort : Sort) (hash : ℕ) (links : List ℕ) → length (chained_in sort hash links) ≡ length links
chained_length sort hash links =
    let n = used_in sort links in
    let old = get_or links (heads_at sort + hash) 0 in
    length-set (set links (nexts_at sort + n) old) (heads_at sort + hash) n ∙ length-set links (nexts_at sort + n) old

module _ (sort : Sort) (text starts lengths links : List ℕ) (at : ℕ) (s : Result Sought Refusal) (is : s ≡ seek (limit_of sort) (full_of sort) text (list_in sort starts lengths links) at)
    (rest : Sort → SortArrays) where
  -- the state's list of the sort
  abbrev list_there : WordList
  list_there = lists_by (with_sort rest sort (arrays starts lengths)) links sort

  -- is the one that is searched
  there : list_there ≡ list_in sort starts lengths links
  there = ap (λ (w : SortArrays). list_in sort w.starts w.lengths links) (with_here rest sort (arrays starts lengths))

  searched : s ≡ seek (limit_of sort) (full_of sort) text list_there at
  searched = is ∙ ap (λ l. seek (limit_of sort) (full_of sort) text l at) (sym there)

  -- a word that is not new changes nothing
  pub word_old : ((n size end : ℕ) → s ≡ Ok (New n size end) → ⊥) →
      ended (state_with rest sort starts lengths links) (sought_step s at) ≡ read_word sort text (state_with rest sort starts lengths links) at
  unfolding read_word after_seek
  word_old h = rw (← searched) (go s h)
    where
      go : (s : Result Sought Refusal) → ((n size end : ℕ) → s ≡ Ok (New n size end) → ⊥) →
          ended (state_with rest sort starts lengths links) (sought_step s at) ≡ after_seek s sort text (state_with rest sort starts lengths links) at
      go (Ok (Known n end)) h = refl
      go (Ok (New n size end)) h = absurd (h n size end refl)
      go (Err why) h = refl

  -- a new one has its place in a chain, and then its number
  pub word_new : {n size end : ℕ} {middle starts' lengths' links' : List ℕ} → s ≡ Ok (New n size end) → used_in sort links < limit_of sort → word_links ≤ length links →
      middle ≡ chained_in sort (word_hash text at size) links → Given sort at size starts starts' lengths lengths' middle links' →
      ended (state_with rest sort starts' lengths' links') (sought_step s at) ≡ read_word sort text (state_with rest sort starts lengths links) at
  unfolding read_word after_seek
  word_new {n} {size} {end} {middle} {starts'} {lengths'} {links'} e room long m g = rw (← searched, e)
      (ap (λ t. read_to t n end) (state_list rest sort (arrays starts lengths) (arrays starts' lengths') links links' _ here elsewhere behind))
    where
      hash : ℕ
      hash = word_hash text at size

      inside : hash < hashes
      inside = hash_below text at size

      here : list_in sort starts' lengths' links' ≡ word_listed text list_there at size
      here =
          list_given sort at size g (omega (arith, room, ap (used_in sort) m, used_chained sort hash links)) (omega (arith, long, ap length m, chained_length sort hash links))
          ∙ ap (λ l. listed l at size) (ap (list_in sort starts lengths) m ∙ list_chained sort hash links inside room starts lengths)
          ∙ ap (λ l. word_listed text l at size) (sym there)

      elsewhere : (other : Sort) → same_sort sort other ≡ false → (s l : List ℕ) → list_in other s l links' ≡ list_in other s l links
      elsewhere other d s l = other_given sort at size g s l other d ∙ ap (list_in other s l) m ∙ other_chained sort hash links inside room s l other d

      behind : (from : ℕ) → word_links ≤ from → part from number_limit links' ≡ part from number_limit links
      behind from h = behind_given sort at size g from number_limit h ∙ ap (part from number_limit) m ∙ behind_chained sort hash links inside room from number_limit h
