-- Bytes, spaces and words within a text. Assumes nothing.
use Prim.Native.Nat.{ℕ, zero, suc, ◌+◌, ◌-◌, ◌*◌, ◌%◌, ◌<◌, ◌≤◌, zero-le, suc-le-suc}
use native.Mathlib.Omega.{arith}
use native.Mathlib.Numerals.{add-one}
use mathlib.Core.Path.{◌≡◌, refl, sym, ap, ◌∙◌}
use mathlib.Core.List.{List, [], ◌∷◌}
use mathlib.Core.Bool.{Bool, true, false, cond, true≢false}
use lib.ListN.{length, get_or, take, drop, length-drop}
use Rattle.std.proofs.lemmas.List.{get_or-take, get_or-drop, length-take-le}
use lib.Dec.{eqb}
use Rattle.std.specs.List.{prefix_len}
use borrow.Author.Tests.{eq-eqb, ne_eqb, eqb-true}
use Rattle.semantics.proofs.Tests.{cases}
use Rattle.words.specs.Bytes.{byte_at, class_of, is_word_byte, is_space_class, is_line_end, word_run, word_length, same_bytes, same_word_at, hashes, hash_from, word_hash}

-- a byte that passes a test that 0 fails stands within the text
pub inside : (test : ℕ → Bool) (text : List ℕ) (at : ℕ) → test 0 ≡ false → test (byte_at text at) ≡ true → at < length text
inside test [] at fails passes = absurd (true≢false (sym passes ∙ fails))
inside test (b ∷ bs) zero fails passes = suc-le-suc zero-le
inside test (b ∷ bs) (suc at) fails passes = suc-le-suc (inside test bs at fails passes)

pub inside_space : (text : List ℕ) (at : ℕ) → is_space_class (class_of (byte_at text at)) ≡ true → at < length text
unfolding class_of
inside_space text at = inside (λ b. is_space_class (class_of b)) text at refl

pub inside_line_end : (text : List ℕ) (at : ℕ) → is_line_end (byte_at text at) ≡ true → at < length text
unfolding class_of
inside_line_end text at = inside is_line_end text at refl

-- ---- words

-- the run is what the library's `take_while` takes
pub run_prefix : (l : List ℕ) → word_run l ≡ prefix_len (λ b. is_word_byte b) l
unfolding word_run
run_prefix [] = refl
run_prefix (b ∷ bs) = rw (run_prefix bs) (ap (λ n. cond (is_word_byte b) n 0) (omega arith))

-- a word byte makes the run one longer
pub run_more : (text : List ℕ) (at : ℕ) → is_word_byte (byte_at text at) ≡ true → word_length text at ≡ suc (word_length text (at + 1))
unfolding word_run class_of
run_more [] at h = absurd (true≢false (sym h))
run_more (b ∷ bs) zero h = rw h
run_more (b ∷ bs) (suc at) h = run_more bs at h ∙ rw (add-one, add-one)

run_le : (l : List ℕ) → word_run l ≤ length l
unfolding word_run
run_le [] = zero-le
run_le (b ∷ bs) = go (is_word_byte b) (run_le bs)
  where
    go : (t : Bool) → word_run bs ≤ length bs → cond t (suc (word_run bs)) 0 ≤ suc (length bs)
    go true h = suc-le-suc h
    go false h = zero-le

-- a word ends within the text
pub word_fits : (text : List ℕ) (at : ℕ) → at ≤ length text → at + word_length text at ≤ length text
word_fits text at h = omega (arith, run_le (drop at text), length-drop at text)

-- the bytes of a word as a slice
module _ (text : List ℕ) (at size : ℕ) where
  pub slice_size : at + size ≤ length text → length (take (at + size - at) (drop at text)) ≡ size
  slice_size h = length-take-le (at + size - at) (drop at text) (omega (arith, length-drop at text)) ∙ omega arith

  pub slice_byte : (i : ℕ) → i < size → get_or (take (at + size - at) (drop at text)) i 0 ≡ byte_at text (at + i)
  slice_byte i h = get_or-take (at + size - at) (drop at text) i 0 (omega arith) ∙ get_or-drop at text i 0

-- ---- equal bytes

-- two runs of bytes that agree at their first i bytes agree as far as the rest does
module _ (text : List ℕ) (a b size i : ℕ) (more : i < size) where
  pub same_more :
      byte_at text (a + i) ≡ byte_at text (b + i) →
      same_bytes text (a + i) (b + i) (size - i) ≡ same_bytes text (a + (i + 1)) (b + (i + 1)) (size - (i + 1))
  unfolding same_bytes
  same_more h =
      let e : size - i ≡ suc (size - (i + 1)) = omega arith in
      let x : a + (i + 1) ≡ suc (a + i) = omega arith in
      let y : b + (i + 1) ≡ suc (b + i) = omega arith in
      rw (e, x, y, eq-eqb _ _ h)

  pub same_none : (byte_at text (a + i) ≡ byte_at text (b + i) → ⊥) → same_bytes text (a + i) (b + i) (size - i) ≡ false
  unfolding same_bytes
  same_none h =
      let e : size - i ≡ suc (size - (i + 1)) = omega arith in
      rw (e, ne_eqb _ _ h)

-- ---- hashes

-- a byte more
pub hash_more : (text : List ℕ) (at size h i : ℕ) → i < size →
    hash_from h text (at + i) (size - i) ≡ hash_from ((9 * h + byte_at text (at + i)) % hashes) text (at + (i + 1)) (size - (i + 1))
unfolding hash_from
hash_more text at size h i more =
    let e : size - i ≡ suc (size - (i + 1)) = omega arith in
    let x : at + (i + 1) ≡ suc (at + i) = omega arith in
    rw (e, x)

hash_below_from : (text : List ℕ) (at size h : ℕ) → h < hashes → hash_from h text at size < hashes
unfolding hash_from
hash_below_from text at zero h less = less
hash_below_from text at (suc size) h less = hash_below_from text (suc at) size ((9 * h + byte_at text at) % hashes) (omega arith)

pub hash_below : (text : List ℕ) (at size : ℕ) → word_hash text at size < hashes
hash_below text at size = hash_below_from text at size 0 (omega arith)

-- the same bytes go on to the same hash
same_hash_from : (text : List ℕ) (a b size h : ℕ) → same_bytes text a b size ≡ true → hash_from h text a size ≡ hash_from h text b size
unfolding same_bytes hash_from
same_hash_from text a b zero h same = refl
same_hash_from text a b (suc size) h same = cases (eqb (byte_at text a) (byte_at text b))
    (λ t. rw (eqb-true (byte_at text a) (byte_at text b) t) (same_hash_from text (suc a) (suc b) size ((9 * h + byte_at text b) % hashes) (rw t at same)))
    (λ t. absurd (true≢false (sym (rw t at same))))

-- words that are the same are as long, and have one hash
pub same_hash : (text : List ℕ) (start long at size : ℕ) → same_word_at text start long at size ≡ true → (long ≡ size) × (word_hash text start long ≡ word_hash text at size)
unfolding same_word_at
same_hash text start long at size same = cases (eqb long size)
    (λ t. let e = eqb-true long size t in (e, rw e (same_hash_from text start at size 0 (rw t at same))))
    (λ t. absurd (true≢false (sym (rw t at same))))
