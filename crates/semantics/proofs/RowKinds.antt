-- The kinds of lines and rows: each has its own number, and a number tells the kind.
--     each_number   what holds of four numbers holds of each kind's
--     each_kind     what holds of each kind's number and of 2, 3 and 4 holds of all from 1 to 7
-- Assumes nothing.
use Prim.Native.Nat.{ℕ, zero, suc, ◌≤◌}
use native.Mathlib.Omega.{arith}
use mathlib.Core.Path.{◌≡◌, refl, sym, ap, ◌∙◌}
use mathlib.Core.Bool.{true, ◌||◌, false≢true}
use lib.Dec.{eqb}
use borrow.Author.Tests.{eqb-true}
use Rattle.semantics.specs.Closure.{Kind, strict, defeasible, query, strict_query, is_strict, is_defeasible, is_question, kind_of_line}
use Rattle.semantics.specs.Row.{simple, strict_kind, conj_subsumed_kind, in_exist_kind, exist_in_kind, defeasible_kind, query_kind, strict_query_kind, kind_number, line_of}
use Rattle.semantics.specs.Decoding.{kind_numbered, row_with}
use Rattle.semantics.proofs.Tests.{cases}

pub strict_kind_lem : (k : Kind) → is_strict k ≡ true → strict ≡ k
strict_kind_lem strict e = refl
strict_kind_lem defeasible e = absurd (false≢true e)
strict_kind_lem query e = absurd (false≢true e)
strict_kind_lem strict_query e = absurd (false≢true e)

-- ---- numbers

pub each_number : (X : ℕ → Type 0) → X strict_kind → X defeasible_kind → X query_kind → X strict_query_kind → (k : Kind) → X (kind_number k)
each_number X s d q t strict = s
each_number X s d q t defeasible = d
each_number X s d q t query = q
each_number X s d q t strict_query = t

pub each_kind : (X : ℕ → Type 0) → ((k : Kind) → X (kind_number k)) → X conj_subsumed_kind → X in_exist_kind → X exist_in_kind → (n : ℕ) → strict_kind ≤ n → n ≤ strict_query_kind → X n
each_kind X f b c d zero l h = absurd (omega arith)
each_kind X f b c d (suc zero) l h = f strict
each_kind X f b c d (suc (suc zero)) l h = b
each_kind X f b c d (suc (suc (suc zero))) l h = c
each_kind X f b c d (suc (suc (suc (suc zero)))) l h = d
each_kind X f b c d (suc (suc (suc (suc (suc zero))))) l h = f defeasible
each_kind X f b c d (suc (suc (suc (suc (suc (suc zero)))))) l h = f query
each_kind X f b c d (suc (suc (suc (suc (suc (suc (suc zero))))))) l h = f strict_query
each_kind X f b c d (suc (suc (suc (suc (suc (suc (suc (suc n)))))))) l h = absurd (omega arith)

pub kind_numbered_lem : (k : Kind) → kind_numbered (kind_number k) ≡ k
unfolding kind_numbered
kind_numbered_lem strict = refl
kind_numbered_lem defeasible = refl
kind_numbered_lem query = refl
kind_numbered_lem strict_query = refl

pub with_simple : (k : Kind) (r a b c : ℕ) → row_with (kind_number k) r a b c ≡ simple k a c
unfolding row_with
with_simple k r a b c = each_number (λ n. row_with n r a b c ≡ simple (kind_numbered n) a c) refl refl refl refl k ∙ ap (λ j. simple j a c) (kind_numbered_lem k)

-- ---- what a number tells, whatever number it is

pub numbered_defeasible : (n : ℕ) → is_defeasible (kind_numbered n) ≡ eqb n defeasible_kind
unfolding kind_numbered
numbered_defeasible n =
    cases (eqb n defeasible_kind) (λ d. rw d) λ d. cases (eqb n query_kind) (λ q. rw (d, q)) λ q. cases (eqb n strict_query_kind) (λ t. rw (d, q, t)) λ t. rw (d, q, t)

pub numbered_question : (n : ℕ) → is_question (kind_numbered n) ≡ (eqb n query_kind || eqb n strict_query_kind)
unfolding kind_numbered
numbered_question n =
    cases (eqb n defeasible_kind) (λ d. rw (eqb-true n defeasible_kind d) refl) λ d. cases (eqb n query_kind) (λ q. rw (d, q)) λ q. cases (eqb n strict_query_kind) (λ t. rw (d, q, t)) λ t. rw (d, q, t)

pub defeasible_number : (k : Kind) → is_defeasible k ≡ eqb (kind_number k) defeasible_kind
defeasible_number k = ap is_defeasible (sym (kind_numbered_lem k)) ∙ numbered_defeasible (kind_number k)

-- the kind of a row's line is its number's
pub with_kind : (n r a b c : ℕ) → kind_of_line (line_of (row_with n r a b c)) ≡ kind_numbered n
unfolding row_with kind_numbered
with_kind n r a b c =
    cases (eqb n conj_subsumed_kind) (λ e. rw (eqb-true n conj_subsumed_kind e)) λ e.
    cases (eqb n in_exist_kind) (λ f. rw (eqb-true n in_exist_kind f)) λ f.
    cases (eqb n exist_in_kind) (λ g. rw (eqb-true n exist_in_kind g)) λ g.
    rw (e, f, g)
