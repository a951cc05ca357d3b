-- The theorems on converting, in reading order. Those on axioms and their book are in crates/ontology/proofs/Theorems.antt.
--     convert_either, convert_exclusive, convert_one   an input is converted, or refused by one refusal at one place
--     convert_unique                                   what `convert` promises has one outcome
--     convert_outcome, convert_follows                 the answer follows from the input and the length of what is lent, the book from the input alone
-- Assumes nothing.
use Prim.Native.Nat.{ℕ}
use mathlib.Core.Path.{◌≡◌}
use mathlib.Core.List.{List}
use mathlib.Core.Logic.{◌⊎◌}
use lib.ListN.{length, take}
use Rattle.std.specs.Prelude.{Result, Ok}
use Rattle.refusal.specs.declared.Refusal.{Refusal}
use Rattle.refusal.specs.declared.Refused.{Refused}
use Rattle.converter.specs.Contract.{Convertible, ConvertRefused, Converted}
use Rattle.converter.proofs.Deciding as deciding
use Rattle.converter.proofs.Unique as unique

-- Everything that is not refused by one of the two refusals is convertible, and so it is converted (`demand_1_convert` of crate engine).
pub convert_either : (input : List ℕ) (room : ℕ) → Convertible input room ⊎ ((p : ℕ) × (why : Refusal) × ConvertRefused input room p why)
convert_either = deciding.convert_either

-- Nothing is both, and nothing is refused by two refusals or at two places.
pub convert_exclusive : {input : List ℕ} {room : ℕ} → Convertible input room → {p : ℕ} {why : Refusal} → ConvertRefused input room p why → ⊥
convert_exclusive = deciding.convert_exclusive

pub convert_one : {input : List ℕ} {room p q : ℕ} {why how : Refusal} → ConvertRefused input room p why → ConvertRefused input room q how → (why ≡ how) × (p ≡ q)
convert_one = deciding.convert_one

-- The input and the lent text determine the answer and every byte of the text.
pub convert_unique : {input text₀ text text' : List ℕ} {a a' : Result ℕ Refused} → Converted input text₀ text a → Converted input text₀ text' a' → (a ≡ a') × (text ≡ text')
convert_unique = unique.convert_unique

pub convert_outcome : {input text₀ text text₁ text' : List ℕ} {a a' : Result ℕ Refused} → length text₀ ≡ length text₁ →
    Converted input text₀ text a → Converted input text₁ text' a' → a ≡ a'
convert_outcome = unique.convert_outcome

pub convert_follows : {input text₀ text text₁ text' : List ℕ} {m n : ℕ} → Converted input text₀ text (Ok m) → Converted input text₁ text' (Ok n) →
    (m ≡ n) × (take m text ≡ take n text')
convert_follows = unique.convert_follows
