-- The sorts of words that have numbers, each with numbers of its own.
--     sort_number, sort_count   a number for each sort, and how many sorts there are
--     limit_of                  how many numbers there may be
--     least_of                  how many of them are for no word
--     full_of                   how one too many is refused
--     with_sort                 a family of the sorts with another member for one
use Rattle.std.specs.Prelude.{ℕ, Bool, cond, eqb}
use Rattle.semantics.specs.Limits.{number_limit, number_least, role_limit}
use Rattle.refusal.specs.declared.Refusal.{Refusal}
use Rattle.refusal.specs.declared.Refusal.TheVariants.{TooManyNumbers, TooManyRoles}
use Rattle.chains.specs.declared.Sort.{Sort}
use Rattle.chains.specs.declared.Sort.TheVariants.{Concepts, Roles}

abbrev pub sort_number : Sort → ℕ
sort_number Concepts = 0
sort_number Roles = 1

abbrev pub sort_count : ℕ
sort_count = 2

abbrev pub limit_of : Sort → ℕ
limit_of Concepts = number_limit
limit_of Roles = role_limit

-- numbers 0 and 1 are everything and nothing
abbrev pub least_of : Sort → ℕ
least_of Concepts = number_least
least_of Roles = 0

abbrev pub full_of : Sort → Refusal
full_of Concepts = TooManyNumbers
full_of Roles = TooManyRoles

abbrev pub same_sort : Sort → Sort → Bool
same_sort sort other = eqb (sort_number sort) (sort_number other)

abbrev pub with_sort : {A : Type 0} → (Sort → A) → Sort → A → Sort → A
with_sort family sort new other = cond (same_sort sort other) new (family other)
