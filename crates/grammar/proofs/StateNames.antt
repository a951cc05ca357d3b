-- What holds of every state that a reading comes to (`Valid`), and of each of its lists of words (`ValidList`).
--     Chains   every word is in the chain of its hash
-- Assumes nothing.
use Prim.Native.Nat.{ℕ, ◌+◌, ◌<◌, ◌≤◌}
use mathlib.Core.Path.{◌≡◌}
use mathlib.Core.Option.{none}
use mathlib.Core.List.{List}
use lib.ListN.{length, get_or}
use Rattle.semantics.specs.Limits.{number_limit, number_least, role_limit}
use Rattle.semantics.specs.Numbering.{place_of}
use Rattle.words.specs.Bytes.{hashes, word_hash}
use Rattle.names.specs.State.{State, next_concept}
use Rattle.chains.specs.WordList.{WordList}
use Rattle.chains.specs.declared.Sort.TheVariants.{Concepts, Roles}
use Rattle.grammar.specs.StateNames.{word_of, roles_to}

abbrev pub hash_of : List ℕ → WordList → ℕ → ℕ
hash_of text l n = word_hash text (get_or l.starts n 0) (get_or l.lengths n 0)

-- of the numbers below n, the last one whose word has the hash, or 0
pub record LastOf (text : List ℕ) (l : WordList) (hash n last : ℕ) : Type 0 where
  pub word : 0 < last → (last < n) × (0 < get_or l.lengths last 0) × (hash_of text l last ≡ hash)
  pub no_later : (m : ℕ) → m < n → 0 < get_or l.lengths m 0 → hash_of text l m ≡ hash → m ≤ last

-- a hash's chain starts at the last word that has it, and goes on from a word to the last one before it
pub record Chains (text : List ℕ) (limit : ℕ) (l : WordList) : Type 0 where
  pub heads_size : length l.heads ≡ hashes
  pub nexts_size : length l.nexts ≡ limit
  pub heads : (h : ℕ) → h < hashes → LastOf text l h l.used (get_or l.heads h 0)
  pub nexts : (n : ℕ) → 0 < get_or l.lengths n 0 → LastOf text l (hash_of text l n) n (get_or l.nexts n 0)

-- a list whose numbers are below a limit, with room for as many
pub record ValidList (text : List ℕ) (limit : ℕ) (l : WordList) : Type 0 where
  pub starts_size : length l.starts ≡ limit
  pub lengths_size : length l.lengths ≡ limit
  pub most : l.used ≤ limit
  pub no_word : (n : ℕ) → l.used ≤ n → get_or l.lengths n 0 ≡ 0
  pub words_inside : (n : ℕ) → get_or l.starts n 0 + get_or l.lengths n 0 ≤ length text
  pub chains : Chains text limit l

pub record Valid (text : List ℕ) (s : State) : Type 0 where
  pub concepts : ValidList text number_limit (s.lists Concepts)
  pub roles : ValidList text role_limit (s.lists Roles)
  pub lefts_size : length s.lefts ≡ number_limit
  pub rights_size : length s.rights ≡ number_limit
  pub least : number_least ≤ next_concept s
  -- no role word stands twice
  pub new_roles : (n : ℕ) → n < (s.lists Roles).used → place_of (word_of text (s.lists Roles) n) (roles_to text (s.lists Roles) n) ≡ none
