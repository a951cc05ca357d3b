-- Parts of what reading remembers, and the lists of words in them. Assumes nothing.
--     part_get                    something in a part
--     part_here, part_kept        a part when something is put in it, and elsewhere
--     first_get, first_here       the same of a list's first part
--     sort_room                   the limit and the number of a sort are below those of all
--     with_here, sort_cases       a family of the sorts, where one has another member
--     end_of, sorts_apart         where the links of a sort end: they are no other sort's
--     listOf-, list_in_elsewhere  a list when a link is put elsewhere
--     list_counted                when it is how many numbers are given out
--     used_chained                how many numbers are given out, when one has its place in a chain
--     list_chained, list_given    the list of the sort, when a number has its place in a chain, and its word
--     other_chained, other_given  the list of another sort then
--     behind_chained, ..          what lies behind the words' links then
use Prim.Native.Nat.{ℕ, zero, suc, ◌+◌, ◌-◌, ◌<◌, ◌≤◌}
use native.Mathlib.Omega.{arith}
use mathlib.Core.Path.{◌≡◌, refl, sym, ap, ◌∙◌}
use mathlib.Core.Bool.{true, false}
use mathlib.Core.List.{List}
use lib.ListN.{length, get_or, set, take, drop}
use lib.Dec.{leb}
use lib.Seq.{take-set-le, take-set-lt, drop-set-lt, drop-set-add, get_or-take, get_or-drop, get_or-set_same, get_or-set_other}
use borrow.Author.Tests.{leb-true, leb-false, eqb-true, eqb-false, eq-eqb}
use Rattle.semantics.specs.Limits.{number_limit}
use Rattle.semantics.proofs.Tests.{cases}
use Rattle.words.specs.Bytes.{hashes}
use Rattle.chains.specs.Sorts.{sort_number, sort_count, limit_of, same_sort, with_sort}
use Rattle.chains.specs.WordList.{listed, chained}
use Rattle.chains.specs.Chains.{sort_links, links_at, heads_at, nexts_at, word_links, part, list_of, used_in, list_in, chained_in, Given}
use Rattle.chains.specs.declared.WordStarts.{WordStarts}
use Rattle.chains.specs.declared.Sort.{Sort}
use Rattle.chains.specs.declared.Sort.TheVariants.{Concepts, Roles}

module _ (at size : ℕ) (list : List ℕ) where
  pub part_get : (i : ℕ) → i < size → get_or (part at size list) i 0 ≡ get_or list (at + i) 0
  unfolding part
  part_get i h = get_or-take size (drop at list) i 0 h ∙ get_or-drop at list i 0

  pub part_here : (i v : ℕ) → i < size → part at size (set list (at + i) v) ≡ set (part at size list) i v
  unfolding part
  part_here i v h = ap (take size) (drop-set-add at list i v) ∙ take-set-lt size (drop at list) i v h

  -- something that is put elsewhere
  pub part_kept : (i v : ℕ) → (at ≤ i → at + size ≤ i) → part at size (set list i v) ≡ part at size list
  unfolding part
  part_kept i v h = cases (leb at i)
      (λ t.
      let behind = h (leb-true at i t) in
      let e : i ≡ at + (i - at) = omega (arith, leb-true at i t) in
      ap (λ k. take size (drop at (set list k v))) e
      ∙ ap (take size) (drop-set-add at list (i - at) v)
      ∙ take-set-le size (drop at list) (i - at) v (omega arith))
      (λ t. ap (take size) (drop-set-lt at list i v (leb-false at i t)))

-- the first places of a list
pub first_get : (size : ℕ) (list : List ℕ) (i : ℕ) → i < size → get_or (part 0 size list) i 0 ≡ get_or list i 0
first_get size list i h = part_get 0 size list i h ∙ ap (λ k. get_or list k 0) (omega arith)

first_here : (size i v : ℕ) (list : List ℕ) → i < size → part 0 size (set list i v) ≡ set (part 0 size list) i v
first_here size i v list h = ap (λ k. part 0 size (set list k v)) (omega arith) ∙ part_here 0 size list i v h

-- ---- sorts

-- the sort with a number
sort_numbered : ℕ → Sort
sort_numbered zero = Concepts
sort_numbered (suc n) = Roles

number_back : (sort : Sort) → sort_numbered (sort_number sort) ≡ sort
unfolding sort_numbered
number_back Concepts = refl
number_back Roles = refl

same_sort_lem : (sort other : Sort) → same_sort sort other ≡ true → sort ≡ other
same_sort_lem sort other e = sym (number_back sort) ∙ ap sort_numbered (eqb-true (sort_number sort) (sort_number other) e) ∙ number_back other

pub sort_room : (sort : Sort) → (limit_of sort ≤ number_limit) × (sort_number sort < sort_count)
sort_room Concepts = omega arith
sort_room Roles = omega arith

-- the new member of a family
pub with_here : {A : Type 0} (f : Sort → A) (sort : Sort) (new : A) → with_sort f sort new sort ≡ new
with_here f sort new = rw (eq-eqb (sort_number sort) (sort_number sort) refl)

-- a family of the sorts is another with one new member
pub sort_cases : {A : Type 0} (f g : Sort → A) (sort : Sort) (new : A) → f sort ≡ new → ((other : Sort) → same_sort sort other ≡ false → f other ≡ g other) →
    (other : Sort) → f other ≡ with_sort g sort new other
sort_cases f g sort new here elsewhere other = cases (same_sort sort other)
    (λ e. rw e (ap f (sym (same_sort_lem sort other e)) ∙ here))
    (λ e. rw e (elsewhere other e))

-- where the links of a sort end
abbrev pub end_of : Sort → ℕ
end_of sort = links_at sort + sort_links

-- a link of a sort is none of another
sorts_apart : (sort other : Sort) → same_sort sort other ≡ false → (i : ℕ) → links_at sort ≤ i → i < end_of sort → links_at other ≤ i → end_of other ≤ i
sorts_apart sort other d i a b c = omega (arith, eqb-false (sort_number sort) (sort_number other) d)

-- ---- the lists

module _ (sort : Sort) (links : List ℕ) where
  -- a link that is put elsewhere than among those of the sort
  pub list_of_elsewhere : (words : WordStarts) (i v : ℕ) → (links_at sort ≤ i → end_of sort ≤ i) → list_of sort words (set links i v) ≡ list_of sort words links
  list_of_elsewhere words i v h = rw (
    part_kept (heads_at sort) hashes links i v (λ k. omega (arith, h (omega arith), sort_room sort)),
    part_kept (nexts_at sort) (limit_of sort) links i v (λ k. omega (arith, h (omega arith), sort_room sort)),
  )

  pub list_in_elsewhere : (starts lengths : List ℕ) (i v : ℕ) → (links_at sort ≤ i → end_of sort ≤ i) → list_in sort starts lengths (set links i v) ≡ list_in sort starts lengths links
  list_in_elsewhere starts lengths i v h =
      rw (get_or-set_other links i (links_at sort) v 0 (λ e. omega (arith, h (omega arith), sort_room sort)))
      (list_of_elsewhere record { used = used_in sort links; starts = starts; lengths = lengths } i v h)

  -- how many numbers are given out is put
  pub list_counted : (words : WordStarts) → word_links ≤ length links → list_in sort words.starts words.lengths (set links (links_at sort) words.used) ≡ list_of sort words links
  list_counted words long = rw (
    get_or-set_same links (links_at sort) words.used 0 (omega (arith, sort_room sort)),
    part_kept (heads_at sort) hashes links (links_at sort) words.used (λ k. omega arith),
    part_kept (nexts_at sort) (limit_of sort) links (links_at sort) words.used (λ k. omega arith),
  )

-- a number's place in a chain is no number given out
pub used_chained : (sort : Sort) (hash : ℕ) (links : List ℕ) → used_in sort (chained_in sort hash links) ≡ used_in sort links
used_chained sort hash links =
    let n = used_in sort links in
    let old = get_or links (heads_at sort + hash) 0 in
    get_or-set_other (set links (nexts_at sort + n) old) (heads_at sort + hash) (links_at sort) n 0 (λ e. omega arith)
    ∙ get_or-set_other links (nexts_at sort + n) (links_at sort) old 0 (λ e. omega arith)

module _ (sort : Sort) (hash : ℕ) (links : List ℕ) (inside : hash < hashes) (room : used_in sort links < limit_of sort) where
  heads_chained : part (heads_at sort) hashes (chained_in sort hash links) ≡ set (part (heads_at sort) hashes links) hash (used_in sort links)
  heads_chained =
      let n = used_in sort links in
      let old = get_or links (heads_at sort + hash) 0 in
      part_here (heads_at sort) hashes (set links (nexts_at sort + n) old) hash n inside
      ∙ ap (λ l. set l hash n) (part_kept (heads_at sort) hashes links (nexts_at sort + n) old (λ k. omega arith))

  nexts_chained : part (nexts_at sort) (limit_of sort) (chained_in sort hash links) ≡
      set (part (nexts_at sort) (limit_of sort) links) (used_in sort links) (get_or (part (heads_at sort) hashes links) hash 0)
  nexts_chained =
      let n = used_in sort links in
      let old = get_or links (heads_at sort + hash) 0 in
      rw (
        part_kept (nexts_at sort) (limit_of sort) (set links (nexts_at sort + n) old) (heads_at sort + hash) n (λ k. omega arith),
        part_here (nexts_at sort) (limit_of sort) links n old room,
        part_get (heads_at sort) hashes links hash inside,
      )

  -- the next number becomes the head of the hash's chain
  pub list_chained : (starts lengths : List ℕ) → list_in sort starts lengths (chained_in sort hash links) ≡ chained (list_in sort starts lengths links) hash
  list_chained starts lengths = rw (used_chained sort hash links, heads_chained, nexts_chained)

  pub other_chained : (starts lengths : List ℕ) (other : Sort) → same_sort sort other ≡ false →
      list_in other starts lengths (chained_in sort hash links) ≡ list_in other starts lengths links
  other_chained starts lengths other d =
      list_in_elsewhere other _ starts lengths (heads_at sort + hash) _ (sorts_apart sort other d _ (omega arith) (omega (arith, sort_room sort)))
      ∙ list_in_elsewhere other links starts lengths (nexts_at sort + used_in sort links) _ (sorts_apart sort other d _ (omega arith) (omega (arith, sort_room sort)))

  pub behind_chained : (at size : ℕ) → word_links ≤ at → part at size (chained_in sort hash links) ≡ part at size links
  behind_chained at size h =
      part_kept at size _ (heads_at sort + hash) _ (λ k. omega (arith, sort_room sort))
      ∙ part_kept at size links (nexts_at sort + used_in sort links) _ (λ k. omega (arith, sort_room sort))

module _ (sort : Sort) (at size : ℕ) {starts₀ starts lengths₀ lengths links₀ links : List ℕ} (given : Given sort at size starts₀ starts lengths₀ lengths links₀ links) where
  -- the next number has its word
  pub list_given : used_in sort links₀ < limit_of sort → word_links ≤ length links₀ → list_in sort starts lengths links ≡ listed (list_in sort starts₀ lengths₀ links₀) at size
  list_given room long =
      let n = used_in sort links₀ in
      rw (
        given.start,
        given.long,
        given.counted,
        list_counted sort links₀ record { used = n + 1; starts = set starts₀ n at; lengths = set lengths₀ n size } long,
        first_here (limit_of sort) n at starts₀ room,
        first_here (limit_of sort) n size lengths₀ room,
      )

  pub other_given : (starts₁ lengths₁ : List ℕ) (other : Sort) → same_sort sort other ≡ false → list_in other starts₁ lengths₁ links ≡ list_in other starts₁ lengths₁ links₀
  other_given starts₁ lengths₁ other d = rw given.counted
      (list_in_elsewhere other links₀ starts₁ lengths₁ (links_at sort) _ (sorts_apart sort other d _ (omega arith) (omega (arith, sort_room sort))))

  pub behind_given : (from count : ℕ) → word_links ≤ from → part from count links ≡ part from count links₀
  behind_given from count h = rw given.counted (part_kept from count links₀ (links_at sort) _ (λ k. omega (arith, sort_room sort)))
