-- Lists that are written in place: copied, and appended.
--     whole                                    the first elements and the rest make the list
--     rest_kept, same_long                     more behind both of two lists changes nothing
--     copied_none, copied_more, copied_all     before the first element, after one more, and after the last
--     leading                                  the whole list that was copied to
--     appended_none, appended_one              nothing written, and one element
--     appended_append                          one list after another
--     appended_first                           the whole list that was appended to from its start
-- Assumes nothing.
use Prim.Native.Nat.{ℕ, ◌+◌, ◌-◌, ◌<◌, ◌≤◌}
use native.Mathlib.Numerals.{add-one}
use native.Mathlib.Omega.{arith}
use mathlib.Core.Path.{◌≡◌, refl, sym, ◌∙◌, ap, ap₂}
use mathlib.Core.List.{List, [], ◌∷◌, ◌++◌, append-nil, append_assoc}
use lib.ListN.{length, get_or, set, take, drop, length-set, length-append, take-append-drop}
use lib.Seq.{take-suc, take-suc-set, drop-set-lt, drop-drop, drop-append-le, length-take-le}
use Rattle.copying.specs.Written.{Copied, Appended}

-- lists with the same first n elements and the same rest are the same
pub whole : (n : ℕ) (l m : List ℕ) → take n l ≡ take n m → drop n l ≡ drop n m → l ≡ m
whole n l m t d = sym (take-append-drop n l) ∙ ap₂ ◌++◌ t d ∙ take-append-drop n m

-- what is kept from a on is kept from any later b on
drop_later : {A : Type 0} (l m : List A) (a b : ℕ) → a ≤ b → drop a l ≡ drop a m → drop b l ≡ drop b m
drop_later l m a b le e =
    let s : b ≡ a + (b - a) = omega arith in
    rw (s, ← drop-drop (b - a) a l, ← drop-drop (b - a) a m, e)

-- what is kept is kept with more behind it, and so is the length
pub rest_kept : (n : ℕ) (l m t : List ℕ) → n ≤ length l → n ≤ length m → drop n l ≡ drop n m → drop n (l ++ t) ≡ drop n (m ++ t)
rest_kept n l m t le le' e = drop-append-le n l t le ∙ ap (λ k. k ++ t) e ∙ sym (drop-append-le n m t le')

pub same_long : (l m t : List ℕ) → length l ≡ length m → length (l ++ t) ≡ length (m ++ t)
same_long l m t e = length-append l t ∙ ap (λ n. n + length t) e ∙ sym (length-append m t)

-- ---- copies

pub copied_none : {A : Type 0} (source old : List A) → Copied 0 source old old
copied_none source old = record { written = refl; rest_kept = refl; length_kept = refl }

pub copied_more : {A : Type 0} {source old new : List A} {i : ℕ} (x : A) → i < length source → i < length new → x ≡ get_or source i x → Copied i source old new →
    Copied (i + 1) source old (set new i x)
copied_more {source = source} {old} {new} {i} x h lt e c = record {
  written = rw (add-one, take-suc-set new i x lt, take-suc source i x h, c.written) (ap (λ y. take i source ++ (y ∷ [])) e);
  rest_kept = drop-set-lt (i + 1) new i x (omega arith) ∙ drop_later new old i (i + 1) (omega arith) c.rest_kept;
  length_kept = length-set new i x ∙ c.length_kept;
}

pub copied_all : {A : Type 0} {source old new : List A} {i n : ℕ} → n ≤ i → i ≤ n → Copied i source old new → Copied n source old new
copied_all {i = i} {n} h le c = let e : i ≡ n = omega arith in rw e at c

-- a list that begins with the first elements of another, and goes on as it was
pub leading : {n : ℕ} {source old new : List ℕ} → n ≤ length source → Copied n source old new → new ≡ take n source ++ drop (length (take n source)) old
leading {n} {source} {old} {new} h c =
    sym (take-append-drop n new) ∙ ap₂ ◌++◌ c.written (c.rest_kept ∙ ap (λ k. drop k old) (sym (length-take-le n source h)))

-- ---- appended lists

pub appended_none : (start : ℕ) (old : List ℕ) → Appended [] start old old start
appended_none start old = record { ends = omega arith; written = sym (append-nil (take start old)); rest_kept = refl; length_kept = refl }

pub appended_one : {at : ℕ} {old : List ℕ} (v : ℕ) → at < length old → Appended (v ∷ []) at old (set old at v) (at + 1)
appended_one {at} {old} v lt = record {
  ends = refl;
  written = rw (add-one, take-suc-set old at v lt);
  rest_kept = drop-set-lt (at + 1) old at v (omega arith);
  length_kept = length-set old at v;
}

pub appended_append : {xs ys old mid new : List ℕ} {start at end : ℕ} → Appended xs start old mid at → Appended ys at mid new end → Appended (xs ++ ys) start old new end
appended_append {xs} {ys} {old} {mid} {new} {start} {at} {end} a b = record {
  ends = omega (arith, a.ends, b.ends, length-append xs ys);
  written = b.written ∙ ap (λ l. l ++ ys) a.written ∙ append_assoc (take start old) xs ys;
  rest_kept = b.rest_kept ∙ drop_later mid old at end (omega (arith, b.ends)) a.rest_kept;
  length_kept = b.length_kept ∙ a.length_kept;
}

-- a list that is appended from the start on is the list's first part
pub appended_first : {xs old new : List ℕ} {end : ℕ} → Appended xs 0 old new end → new ≡ xs ++ drop (length xs) old
appended_first {xs} {old} {new} {end} a =
    let e : end ≡ length xs = omega (arith, a.ends) in
    sym (take-append-drop end new) ∙ ap₂ ◌++◌ a.written (a.rest_kept ∙ ap (λ n. drop n old) e)
