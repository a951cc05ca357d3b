-- What the theorems say of calls that refuse.
--     CallRefused   the number that is returned, and the place in the slice
--     Decided       a call is accepted or refused, and which
use Rattle.std.specs.Prelude.{ℕ, ◌<◌, ◌≤◌, ◌≡◌, List, ◌∷◌, ◌↔◌, ◌⊎◌, length, get_or, drop}
use Rattle.semantics.specs.Limits.{answer_limit}
use Rattle.refusal.specs.Refusal.{refusal_number}
use Rattle.refusal.specs.declared.Refusal.{Refusal}

-- The call returns the refusal's number, and its last slice begins with the place; the rest of the slice is as at entry.
pub record CallRefused (why : Refusal) (p : ℕ) (answer₀ answer : List ℕ) (result : ℕ) : Type 0 where
  pub returned : result ≡ refusal_number why
  pub written : answer ≡ p ∷ drop 1 answer₀

-- `Free` says that what the call was given is accepted, `By p why` that it is refused by this refusal at p, `Kept` that the lent buffers are as at entry.
-- With a last slice that is too short the call returns 2, and everything is as at entry. With a longer one it returns 0 exactly where it is accepted; where it is
-- refused it returns the refusal's number and writes its place, and all else is as at entry; where it returns a refusal's number, it is refused so, at the place
-- that the slice begins with. It returns nothing else.
pub record Decided (Free : Type 0) (By : ℕ → Refusal → Type 0) (Kept : Type 0) (answer₀ answer : List ℕ) (result : ℕ) : Type 0 where
  pub short : length answer₀ < answer_limit → (result ≡ 2) × (answer ≡ answer₀) × Kept
  pub accepts : answer_limit ≤ length answer₀ → ((result ≡ 0) ↔ Free)
  pub refuses : answer_limit ≤ length answer₀ → (p : ℕ) (why : Refusal) → By p why → CallRefused why p answer₀ answer result × Kept
  pub refused : answer_limit ≤ length answer₀ → (why : Refusal) → result ≡ refusal_number why → By (get_or answer 0 0) why
  pub either : (result ≡ 0) ⊎ ((why : Refusal) × (result ≡ refusal_number why))
