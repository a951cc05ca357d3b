-- The words of each sort as the code has them: where its numbers began, and its links, those of a sort one behind the other: inside a line how many numbers are
-- given out, the heads of its chains, what stands behind each number.
--     no_starts                 no number has a word
--     links_at, heads_at, ..    where the links of a sort start; each sort has as many
--     list_of, list_in          the list of a sort, of what goes by value, and of what is lent
--     Fitting                   a new word has room
--     chained_in                the links when the next number has its place in a chain
--     Given                     starts, lengths and links when it has its word
--     Held                      what is lent is still the same, and as long
use Rattle.std.specs.Prelude.{ℕ, ◌+◌, ◌*◌, ◌<◌, ◌≤◌, ◌≡◌, List, length, get_or, set, take, drop, replicate}
use Rattle.semantics.specs.Limits.{number_limit}
use Rattle.words.specs.Bytes.{hashes}
use Rattle.chains.specs.Sorts.{sort_number, sort_count, limit_of, least_of}
use Rattle.chains.specs.WordList.{WordList}
use Rattle.chains.specs.declared.WordStarts.{WordStarts}
use Rattle.chains.specs.declared.LentStarts.{LentStarts}
use Rattle.chains.specs.declared.Sought.{Sought}
use Rattle.chains.specs.declared.Sought.TheVariants.{Known, New}
use Rattle.chains.specs.declared.Sort.{Sort}

-- ---- where it lies

abbrev pub sort_links : ℕ
sort_links = 1 + hashes + number_limit

abbrev pub links_at : Sort → ℕ
links_at sort = sort_number sort * sort_links

-- the heads of a sort's chains, and what stands behind each number
abbrev pub heads_at : Sort → ℕ
heads_at sort = links_at sort + 1

abbrev pub nexts_at : Sort → ℕ
nexts_at sort = links_at sort + 1 + hashes

-- how many links the words of all sorts have
abbrev pub word_links : ℕ
word_links = sort_count * sort_links

-- so many of a list from the place on
unfoldable pub part : ℕ → ℕ → List ℕ → List ℕ
part at size list = take size (drop at list)

-- ---- the list of a sort

-- no number is given out but those for no word
abbrev pub no_starts : Sort → WordStarts
no_starts sort = record { used = least_of sort; starts = replicate number_limit 0; lengths = replicate number_limit 0 }

abbrev pub list_of : Sort → WordStarts → List ℕ → WordList
list_of sort words links = record {
  used = words.used;
  starts = part 0 (limit_of sort) words.starts;
  lengths = part 0 (limit_of sort) words.lengths;
  heads = part (heads_at sort) hashes links;
  nexts = part (nexts_at sort) (limit_of sort) links;
}

-- inside a line the first link says how many numbers are given out
abbrev pub used_in : Sort → List ℕ → ℕ
used_in sort links = get_or links (links_at sort) 0

abbrev pub list_in : Sort → List ℕ → List ℕ → List ℕ → WordList
list_in sort starts lengths links = list_of sort record { used = used_in sort links; starts = starts; lengths = lengths } links

-- a new word lies in the text, and its number is below the limit
abbrev pub Fitting : Sort → List ℕ → List ℕ → ℕ → Sought → Type 0
Fitting sort text links at (Known n end) = Unit {0}
Fitting sort text links at (New n size end) = (used_in sort links < limit_of sort) × (at + size ≤ length text)

-- the next number becomes the head of the hash's chain
abbrev pub chained_in : Sort → ℕ → List ℕ → List ℕ
chained_in sort hash links = set (set links (nexts_at sort + used_in sort links) (get_or links (heads_at sort + hash) 0)) (heads_at sort + hash) (used_in sort links)

-- the next number goes to the `size` bytes at `at`
pub record Given (sort : Sort) (at size : ℕ) (starts₀ starts lengths₀ lengths links₀ links : List ℕ) : Type 0 where
  pub start : starts ≡ set starts₀ (used_in sort links₀) at
  pub long : lengths ≡ set lengths₀ (used_in sort links₀) size
  pub counted : links ≡ set links₀ (links_at sort) (used_in sort links₀ + 1)

-- what is lent is still the same, and as long: whoever lent it sees there what was written
abbrev pub Held : LentStarts → LentStarts → Type 0
Held old new =
    (new.starts.ghost_name ≡ old.starts.ghost_name) × (length new.starts.now ≡ length old.starts.now) ×
    (new.lengths.ghost_name ≡ old.lengths.ghost_name) × (length new.lengths.now ≡ length old.lengths.now)
