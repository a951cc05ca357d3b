-- The theorems of the crate, in reading order: a sentence, the whole statement over specs/, one citation. The first file of this crate to open.
--     rational closure    closure_exists, rows_closure_exists, closure_unique, closure_sets, pass_first, pass_next, pass_falls, passes_last, closure_levels, closure_bound, closure_order,
--                         closure_rules, closure_part, closure_repeats
--     the count of yes    strict_uncounted, defeasible_uncounted, repeat_counted, yes_order, yes_renamed, normal_form_yes, compiled_yes
--     result words        query_says, defeasible_says, strict_query_says, yes_replies, levels_few, yes_accepted
--     the answer key      key_of_closure, key_unique, key_length, p1_key
--     own names           own_names, own_within, own_exceptional, closure_renamed, closure_own
--     texts and rows      writes_unique, reads_unique, plain_reads, reads_plain, unpacked_unique, accepted_decides, table_unique, order_unique, order_by_rank, by_rank_unique
--     the normal form     normal_form_keeps, normal_form_reads, normal_below, normal_accepted, compiled_reads
--     saturation          table_decides, root_exceptional, root_decides, and `holds_..`, `table_add`, `root_add`, a law for each step
--     loops, forwards     fallen_none, fallen_more, fallen_all over the levels of a pass; passed_none, passed_more, passed_all over the passes
--     examples            examples_hold (P1 to P9, one list), further_hold, p1_compiles, refusals_hold, smallest_table_strict, ties_as_they_stand, no_other_order,
--                         and the misreadings `no_..`
-- Assumes nothing.
use Prim.Native.Nat.{ℕ, suc, ◌+◌, ◌*◌, ◌/◌, ◌%◌, ◌<◌, ◌≤◌}
use mathlib.Core.Path.{◌≡◌}
use mathlib.Core.Bool.{Bool, true, false}
use mathlib.Core.Option.{Option, none, some}
use mathlib.Core.List.{List, [], ◌∷◌, ◌++◌, map, zip, Memᴰ, Permᴰ}
use mathlib.Core.Logic.{◌↔◌, ◌⊎◌}
use lib.ListN.{length, take, drop, get_or, replicate}
use Rattle.semantics.specs.Concept.{Concept, Interpretation, In, Inclusion, Witness, Within, Exceptional}
use Rattle.semantics.specs.Closure.{Line, line, strict, defeasible, query, strict_query, strict_of, defeasible_of, questions_of, Filtered, Next}
use Rattle.semantics.specs.Closure.{Pass, Passes, emptied, RankIs, DefeasiblyAt, rank_code, yes_bit, Result, RationalClosure, yes_of, yes_count, level}
use Rattle.semantics.specs.Replies.{TellsRank, YesCounted, AnswerKey, replies_in}
use Rattle.semantics.specs.OwnNames.{Agree, NamedBy, AllNamed, Own, line_names, line_roles, renamed_line, OwnName, plain_lines}
use Rattle.semantics.specs.Source.{Word, LineSyntax, Writes, Reads}
use Rattle.semantics.specs.PlainText.{PlainText}
use Rattle.semantics.specs.Row.{Row, simple, conj_subsumed, in_exist, exist_in, role_size, number_size, numbered, line_of, pack, Below, Unpacked}
use Rattle.semantics.specs.Numbering.{no_names, number_lines, normal_rows}
use Rattle.semantics.specs.Limits.{number_limit, role_limit, row_limit, set_words}
use Rattle.semantics.specs.Refusals.{refusal, DeckWithinLimits}
use Rattle.semantics.specs.Set.{cell}
use Rattle.semantics.specs.Outputs.{StrictTable, RankOrder, ByRank}
use Rattle.semantics.specs.Examples.{bytes, Example, ExampleHolds, Compiles, p1_text, p1_rows}
use Rattle.semantics.specs.Examples.{marked, further, p, tied, tied_order, RefusalExample, refusals, smallest_table}
use Rattle.semantics.specs.Saturated.{strict_rows, between, Holds, Table, SoundTable, ClosedTable, SoundRoot, ClosedRoot}
use Rattle.semantics.specs.Progress.{Fallen, Passed}
use Rattle.semantics.proofs.Existence as existence
use Rattle.semantics.proofs.Unique as unique
use Rattle.semantics.proofs.Levels as levelling
use Rattle.semantics.proofs.Stuck as stuck-sets
use Rattle.semantics.proofs.Replies as replying
use Rattle.semantics.proofs.Keys as keys
use Rattle.semantics.proofs.Order as ordering
use Rattle.semantics.proofs.Rules as rules
use Rattle.semantics.proofs.Counting as counting
use Rattle.semantics.proofs.Rename as renaming
use Rattle.semantics.proofs.OwnNames as owning
use Rattle.semantics.proofs.Reading as reading
use Rattle.semantics.proofs.Plain as plainly
use Rattle.semantics.proofs.Packing as packing
use Rattle.semantics.proofs.Accepting as accepting
use Rattle.semantics.proofs.Outputs as outputs
use Rattle.semantics.proofs.RankOrder as order
use Rattle.semantics.proofs.NormalForm as normal_form
use Rattle.semantics.proofs.Counts as counts
use Rattle.semantics.proofs.Compiling as compiling
use Rattle.semantics.proofs.Canonical as canonical
use Rattle.semantics.proofs.Steps as steps
use Rattle.semantics.proofs.Progress as progress
use Rattle.semantics.proofs.Examples as examples
use Rattle.semantics.proofs.Misreadings as misreadings

-- ---- rational closure

-- Every list of lines over words has a rational closure.
pub closure_exists : (lines : List (Line Word Word)) → (levels passes : ℕ) × (results : List ℕ) × RationalClosure lines levels passes results
closure_exists = existence.closure_exists

-- So has every list of rows within their bounds.
pub rows_closure_exists : (N R : ℕ) (rows : List Row) → 1 < N → Below N R rows →
    (levels passes : ℕ) × (results : List ℕ) × RationalClosure (map line_of rows) levels passes results
rows_closure_exists = existence.closure_of_rows

module _ {A R : Type 0} {lines : List (Line A R)} {levels passes : ℕ} {results : List ℕ} where
  -- Lines have one rational closure at most.
  pub closure_unique : {levels' passes' : ℕ} {results' : List ℕ} →
      RationalClosure lines levels passes results → RationalClosure lines levels' passes' results' →
      (levels ≡ levels') × (passes ≡ passes') × (results ≡ results')
  closure_unique = unique.closure_unique

  -- So T* and the levels' sets are determined too.
  pub closure_sets : {levels' passes' : ℕ} {results' : List ℕ} (s : RationalClosure lines levels passes results) (s' : RationalClosure lines levels' passes' results') →
      (s.T* ≡ s'.T*) × (s.sets ≡ s'.sets)
  closure_sets = unique.closure_sets

  -- `levels` is the least i at which E(i) of the last pass is empty.
  pub closure_levels : (s : RationalClosure lines levels passes results) →
      (length (level s.sets levels) ≡ 0) × ((i : ℕ) → i < levels → 0 < length (level s.sets i))
  closure_levels = levelling.closure_levels

  -- There are no more levels than defeasible lines, and at most one more pass.
  pub closure_bound : RationalClosure lines levels passes results → (levels ≤ length (defeasible_of lines)) × (passes ≤ length (defeasible_of lines) + 1)
  closure_bound = stuck-sets.closure_bound

  -- Lines in another order have the same closure, with the results in that order.
  pub closure_order : {lines' : List (Line A R)} → Permᴰ lines lines' → RationalClosure lines levels passes results →
      (results' : List ℕ) × RationalClosure lines' levels passes results' × Permᴰ (zip lines results) (zip lines' results')
  closure_order = ordering.closure_order

  -- Lines with the same strict and the same defeasible inclusions, in any order and however often, have the same levels and passes,
  -- and a line that stands in both has the same result.
  pub closure_rules : {lines' : List (Line A R)} {levels' passes' : ℕ} {results' : List ℕ} →
      ((ρ : Inclusion A R) → (Memᴰ ρ (strict_of lines) ↔ Memᴰ ρ (strict_of lines'))) →
      ((ρ : Inclusion A R) → (Memᴰ ρ (defeasible_of lines) ↔ Memᴰ ρ (defeasible_of lines'))) →
      RationalClosure lines levels passes results → RationalClosure lines' levels' passes' results' →
      (levels ≡ levels') × (passes ≡ passes') ×
      ((l : Line A R) (r r' : ℕ) → Memᴰ {A = Line A R × ℕ} (l, r) (zip lines results) → Memᴰ {A = Line A R × ℕ} (l, r') (zip lines' results') → r ≡ r')
  closure_rules = rules.closure_rules

  -- Of such lines, those that all stand among the others have a closure where the others have one.
  pub closure_part : (lines' : List (Line A R)) → ((l : Line A R) → Memᴰ l lines' → Memᴰ l lines) →
      ((ρ : Inclusion A R) → (Memᴰ ρ (strict_of lines) ↔ Memᴰ ρ (strict_of lines'))) →
      ((ρ : Inclusion A R) → (Memᴰ ρ (defeasible_of lines) ↔ Memᴰ ρ (defeasible_of lines'))) →
      RationalClosure lines levels passes results → (results' : List ℕ) × RationalClosure lines' levels passes results'
  closure_part = rules.closure_part

  -- A line of the list that is written once more (by `closure_order` anywhere) changes no level, pass or result, and its own result stands once more.
  pub closure_repeats : {l : Line A R} {r : ℕ} → Memᴰ {A = Line A R × ℕ} (l, r) (zip lines results) →
      (RationalClosure lines levels passes results ↔ RationalClosure (l ∷ lines) levels passes (r ∷ results))
  closure_repeats = rules.closure_repeats

-- A pass as the scope words it, where E(i) is `get_or sets i stuck`.
module _ {A R : Type 0} {T E stuck : List (Inclusion A R)} {sets : List (List (Inclusion A R))} where
  -- E(0) is the set that the pass starts from.
  pub pass_first : Pass T E sets stuck → get_or sets 0 stuck ≡ E
  pass_first = levelling.pass_first

  -- E(i+1) is the rules of E(i) with exceptional left, and the stuck set repeats.
  pub pass_next : Pass T E sets stuck → (i : ℕ) → Next T (get_or sets i stuck) (get_or sets (suc i) stuck)
  pass_next = levelling.pass_next

  -- No set before the stuck one repeats.
  pub pass_falls : Pass T E sets stuck → (i : ℕ) → i < length sets → length (get_or sets (suc i) stuck) < length (get_or sets i stuck)
  pass_falls = levelling.pass_falls

-- The last pass is over T*, ends with an empty stuck set, and has the sets by which ranks are told.
pub passes_last : {A R : Type 0} {T D T* : List (Inclusion A R)} {sets : List (List (Inclusion A R))} {n : ℕ} → Passes T D n T* sets →
    (D* : List (Inclusion A R)) × Pass T* D* sets []
passes_last = levelling.passes_last

-- ---- result words

module _ {A R : Type 0} {written T : List (Inclusion A R)} {sets : List (List (Inclusion A R))} {C D : Concept A R} {r : ℕ} where
  -- The low fifteen bits of a query's result tell the rank of its left, and the bit above them is the reply.
  pub query_says : Result written T sets (line query C D) r → length sets < rank_code none →
      TellsRank T sets C (r % yes_bit true) × ((rank : Option ℕ) → RankIs T sets C rank → ((r / yes_bit true ≡ 1) ↔ DefeasiblyAt T sets rank C D))
  query_says = replying.query_says

  -- Those of a defeasible line's result tell the rank of its left, and the bit above them is set.
  pub defeasible_says : Result written T sets (line defeasible C D) r → length sets < rank_code none → TellsRank T sets C (r % yes_bit true) × (r / yes_bit true ≡ 1)
  defeasible_says = replying.defeasible_says

  -- A strict query's result has the reply alone.
  pub strict_query_says : Result written T sets (line strict_query C D) r → (r % yes_bit true ≡ 0) × ((r / yes_bit true ≡ 1) ↔ Within written [] C D)
  strict_query_says = replying.strict_query_says

module _ {A R : Type 0} {lines : List (Line A R)} {levels passes : ℕ} {results : List ℕ} where
  -- The count of yes is the number of questions that are answered yes, where the levels are below 32,767.
  pub yes_replies : (s : RationalClosure lines levels passes results) → levels < rank_code none → YesCounted (strict_of lines) s.T* s.sets lines (yes_count lines results)
  yes_replies = replying.yes_replies

  -- So it is for at most as many lines as a deck has rows, and the levels are below 32,767: for every deck and every text that is accepted.
  pub levels_few : RationalClosure lines levels passes results → length lines ≤ row_limit → levels < rank_code none
  levels_few = replying.levels_few

  pub yes_accepted : (s : RationalClosure lines levels passes results) → length lines ≤ row_limit → YesCounted (strict_of lines) s.T* s.sets lines (yes_count lines results)
  yes_accepted = replying.yes_accepted

-- ---- the answer key

-- Lines have one: the yes bits of their questions' results, for as many lines as a deck has rows. It has a reply for each question.
pub key_of_closure : {A R : Type 0} {lines : List (Line A R)} {levels passes : ℕ} {results : List ℕ} (s : RationalClosure lines levels passes results) →
    length lines ≤ row_limit → AnswerKey (strict_of lines) s.T* s.sets lines (replies_in lines results)
key_of_closure = keys.key_of_closure

module _ {A R : Type 0} {written T : List (Inclusion A R)} {sets : List (List (Inclusion A R))} {lines : List (Line A R)} where
  pub key_unique : {key key' : List Bool} → AnswerKey written T sets lines key → AnswerKey written T sets lines key' → key ≡ key'
  key_unique = keys.key_unique

  pub key_length : {key : List Bool} → AnswerKey written T sets lines key → length key ≡ length (questions_of lines)
  key_length = keys.key_length

-- The four questions of P1 are answered no, no, yes and yes.
pub p1_key : (x : ExampleHolds (p 0)) → AnswerKey (strict_of x.lines) x.closure.T* x.closure.sets x.lines (false ∷ false ∷ true ∷ true ∷ [])
p1_key = examples.p1_key

-- ---- the count of yes, which is a function of the lines and their results

module _ {A R : Type 0} (C D : Concept A R) (r : ℕ) where
  -- Rules are not counted.
  pub strict_uncounted : yes_of (line strict C D) r ≡ 0
  strict_uncounted = counting.strict_uncounted C D r

  pub defeasible_uncounted : yes_of (line defeasible C D) r ≡ 0
  defeasible_uncounted = counting.defeasible_uncounted C D r

-- A line that is written once more counts once more.
pub repeat_counted : {A R : Type 0} (l : Line A R) (r : ℕ) (ls : List (Line A R)) (rs : List ℕ) → yes_count (l ∷ ls) (r ∷ rs) ≡ yes_of l r + yes_count ls rs
repeat_counted = counting.repeat_counted

-- Lines with their results in another order (`closure_order`) have the same count.
pub yes_order : {A R : Type 0} (lines lines' : List (Line A R)) (results results' : List ℕ) → Permᴰ (zip lines results) (zip lines' results') →
    yes_count lines results ≡ yes_count lines' results'
yes_order = counting.yes_order

-- So have renamed lines.
pub yes_renamed : {A R A' R' : Type 0} (f : A → A') (g : R → R') (lines : List (Line A R)) (results : List ℕ) → yes_count lines results ≡ yes_count (map (renamed_line f g) lines) results
yes_renamed = renaming.yes_renamed

-- The rows of the normal form have the count of the nested lines.
pub normal_form_yes : (lines : List (Line Word Word)) (all : List ℕ) → yes_count (map line_of (normal_rows lines)) all ≡ yes_count lines (take (length lines) all)
normal_form_yes = normal_form.normal_form_yes

-- And so do whatever rows its packed words are read as.
pub compiled_yes : (lines : List (Line Word Word)) {rows : List Row} (all : List ℕ) →
    (number_lines lines no_names).after.next ≤ number_size → length (number_lines lines no_names).after.roles ≤ role_size →
    Unpacked (number_lines lines no_names).after.next (length (number_lines lines no_names).after.roles) (map pack (normal_rows lines)) rows →
    yes_count (map line_of rows) all ≡ yes_count lines (take (length lines) all)
compiled_yes = compiling.compiled_yes

-- ---- own names

-- What stands not in a concept is not read: interpretations of one size that agree on what does say the same of it.
pub own_names : {A R : Type 0} (I J : Interpretation A R) → I.size ≡ J.size → (C : Concept A R) → Agree I J C → (x : ℕ) → x < I.size → (In I C x ↔ In J C x)
own_names = owning.own_names

module _ {A R : Type 0} (same_name? : (a b : A) → Dec (a ≡ b)) (same_role? : (r s : R) → Dec (r ≡ s)) (names : List A) (roles : List R)
    {T E : List (Inclusion A R)} {C : Concept A R} (t : AllNamed names roles T) (e : AllNamed names roles E) (c : NamedBy names roles C) where
  -- Where only these names stand in T, E, C and D, what is within over all finite interpretations is what is within over those that give nothing to any other name.
  pub own_within : {D : Concept A R} → NamedBy names roles D → (Within T E C D ↔ ((w : Witness T E C) → Own names roles w.world → In w.world D w.point))
  own_within = owning.own_within same_name? same_role? names roles t e c

  -- And what is exceptional is what has no witness among those.
  pub own_exceptional : Exceptional T E C ↔ ((w : Witness T E C) → Own names roles w.world → ⊥)
  own_exceptional = owning.own_exceptional same_name? same_role? names roles t e c

-- Lines whose names and roles are renamed, so that each can be told from its image, have the same closure.
pub closure_renamed : {A R A' R' : Type 0} (f : A → A') (g : R → R') (name_of : A' → Option A) (role_of : R' → Option R) →
    ((a : A) → name_of (f a) ≡ some a) → ((r : R) → role_of (g r) ≡ some r) → (lines : List (Line A R)) {levels passes : ℕ} {results : List ℕ} →
    (RationalClosure lines levels passes results ↔ RationalClosure (map (renamed_line f g) lines) levels passes results)
closure_renamed = renaming.closure_renamed

-- Lines over words have the closure, and the count of yes, that they have as lines over their own words, whose interpretations give sets and pairs to those words and to nothing else.
pub closure_own : (lines : List (Line Word Word)) →
    (own : List (Line (OwnName (line_names lines)) (OwnName (line_roles lines)))) × (plain_lines own ≡ lines) ×
    ((levels passes : ℕ) (results : List ℕ) → (RationalClosure own levels passes results ↔ RationalClosure lines levels passes results)) ×
    ((results : List ℕ) → yes_count own results ≡ yes_count lines results)
closure_own = owning.closure_own

-- ---- texts and rows

-- A text is written in one way at most.
pub writes_unique : {text : List ℕ} {ds es : List LineSyntax} → Writes ds text → Writes es text → ds ≡ es
writes_unique = reading.writes_unique

-- So it has one list of lines at most.
pub reads_unique : {text : List ℕ} {ls ms : List (Line Word Word)} → Reads text ls → Reads text ms → ls ≡ ms
reads_unique = reading.reads_unique

-- Lines whose words are words have a text, the plainest: one space wherever one is due, every word as it is.
pub plain_reads : {text : List ℕ} {ls : List (Line Word Word)} → PlainText text ls → Reads text ls
plain_reads = plainly.plain_reads

-- They have no other, as long as every part of a text is written in one way only: so a text is a text of the lines exactly where it is their plainest.
pub reads_plain : (text : List ℕ) (ls : List (Line Word Word)) → (Reads text ls ↔ PlainText text ls)
reads_plain = plainly.reads_plain

-- Words pack one list of rows at most, where numbers and roles fit their fields.
pub unpacked_unique : {N R : ℕ} {words : List ℕ} {rows rows' : List Row} → N ≤ number_size → R ≤ role_size → Unpacked N R words rows → Unpacked N R words rows' → rows ≡ rows'
unpacked_unique = packing.unpacked_unique

-- What `classify` refuses not by 11 to 18 is exactly what is within every limit and packs rows.
pub accepted_decides : (N R table results order : ℕ) (words : List ℕ) → ((refusal N R table results order words ≡ none) ↔ DeckWithinLimits N R table results order words)
accepted_decides = accepting.accepted_decides

-- Strict tables for the same T have the same bits.
pub table_unique : {N : ℕ} {T : List (Inclusion ℕ ℕ)} {table table' : List ℕ} → StrictTable N T table → StrictTable N T table' →
    (a b : ℕ) → a < N → b < 64 * set_words → cell set_words table a b ≡ cell set_words table' a b
table_unique = outputs.table_unique

-- Rank orders of the same lines and results are the same list.
pub order_unique : {A R : Type 0} {lines : List (Line A R)} {results order order' : List ℕ} → RankOrder lines results order → RankOrder lines results order' → order ≡ order'
order_unique = order.order_unique

-- Of at most `row_limit` lines, with the results of their closure, it is exactly the order of the ranks that they have in it: infinite last, and those of one rank as they stand.
pub order_by_rank : {A R : Type 0} {lines : List (Line A R)} {levels passes : ℕ} {results order : List ℕ} (s : RationalClosure lines levels passes results) →
    length lines ≤ row_limit → (RankOrder lines results order ↔ ByRank s.T* s.sets lines order)
order_by_rank s few = order.order_by_rank s few

-- And so it is one list.
pub by_rank_unique : {A R : Type 0} {lines : List (Line A R)} {levels passes : ℕ} {results order order' : List ℕ} (s : RationalClosure lines levels passes results) →
    length lines ≤ row_limit → ByRank s.T* s.sets lines order → ByRank s.T* s.sets lines order' → order ≡ order'
by_rank_unique s few = order.by_rank_unique s few

-- ---- the normal form, over the numbers that compiling gives

module _ (lines : List (Line Word Word)) where
  -- The rows of the normal form have the rational closure of the nested lines, with the result 0 for each definition.
  pub normal_form_keeps : {levels passes : ℕ} (results : List ℕ) →
      (RationalClosure lines levels passes results ↔
      RationalClosure (map line_of (normal_rows lines)) levels passes (results ++ replicate (length (number_lines lines no_names).definitions) 0))
  normal_form_keeps = normal_form.normal_form_keeps lines

  -- Whatever results the rows have, the lines' own stand first, and the definitions' are zeros.
  pub normal_form_reads : {levels passes : ℕ} {all : List ℕ} → RationalClosure (map line_of (normal_rows lines)) levels passes all →
      RationalClosure lines levels passes (take (length lines) all) ×
      (drop (length lines) all ≡ replicate (length (number_lines lines no_names).definitions) 0)
  normal_form_reads = normal_form.normal_form_reads lines

  -- Every number of the rows is below the count of numbers, and every role below the count of roles.
  pub normal_below : Below (number_lines lines no_names).after.next (length (number_lines lines no_names).after.roles) (normal_rows lines)
  normal_below = counts.normal_below lines

  -- Where those counts are within the limits and the lent buffers long enough, settling refuses nothing (`accepted_decides`).
  pub normal_accepted : (table results order : ℕ) →
      (number_lines lines no_names).after.next ≤ number_limit → length (number_lines lines no_names).after.roles ≤ role_limit → length (normal_rows lines) ≤ row_limit →
      set_words * (number_lines lines no_names).after.next ≤ table → length (normal_rows lines) ≤ results → length (normal_rows lines) ≤ order →
      DeckWithinLimits (number_lines lines no_names).after.next (length (number_lines lines no_names).after.roles) table results order (map pack (normal_rows lines))
  normal_accepted = compiling.normal_accepted lines

  -- Whatever rows the packed words of the normal form are read as, their rational closure is that of the nested lines.
  pub compiled_reads : {rows : List Row} {levels passes : ℕ} {all : List ℕ} →
      (number_lines lines no_names).after.next ≤ number_size → length (number_lines lines no_names).after.roles ≤ role_size →
      Unpacked (number_lines lines no_names).after.next (length (number_lines lines no_names).after.roles) (map pack (normal_rows lines)) rows →
      RationalClosure (map line_of rows) levels passes all →
      RationalClosure lines levels passes (take (length lines) all) ×
      (drop (length lines) all ≡ replicate (length (number_lines lines no_names).definitions) 0)
  compiled_reads = compiling.compiled_reads lines

-- ---- saturation decides

-- A sound and closed table has exactly the consequences of the rows, over every finite interpretation.
pub table_decides : {N R : ℕ} {rows : List Row} {S : Table} → Below N R rows → ClosedTable N rows S → SoundTable N rows S →
    (a b : ℕ) → a < N → b < N → (Within (strict_rows rows) [] (numbered a) (numbered b) ↔ (S a b ≡ true))
table_decides = canonical.table_decides

module _ {N R : ℕ} {rows : List Row} {S : Table} {E : List (ℕ × ℕ)} {P : ℕ → Bool} {s : ℕ}
    (lt : 1 < N) (below : Below N R rows) (closed : ClosedTable N rows S)
    (root : ClosedRoot N rows S E P) (start : P s ≡ true) (sound : SoundRoot N rows E s P) where
  -- A sound and closed root has 1 exactly where its start is exceptional.
  pub root_exceptional : Exceptional (strict_rows rows) (map between E) (numbered s) ↔ (P 1 ≡ true)
  root_exceptional = canonical.root_exceptional lt below closed root start sound

  -- One without 1 has exactly what its start, where it obeys E, is within.
  pub root_decides : P 1 ≡ false → (d : ℕ) → d < N → (Within (strict_rows rows) (map between E) (numbered s) (numbered d) ↔ (P d ≡ true))
  root_decides = canonical.root_decides lt below closed root start sound

-- ---- each step of saturation is sound

module _ {rows : List Row} {E : List (ℕ × ℕ)} {s : ℕ} where
  -- The start holds, and so does 0.
  pub holds_self : Holds rows E s s
  holds_self = steps.holds_self

  pub holds_top : Holds rows E s 0
  holds_top = steps.holds_top

  -- Where 1 holds, everything does.
  pub holds_rest : (b : ℕ) → Holds rows E s 1 → Holds rows E s b
  holds_rest = steps.holds_rest

  -- Rows of kinds 1 and 2.
  pub holds_strict : {a c : ℕ} → Memᴰ (simple strict a c) rows → Holds rows E s a → Holds rows E s c
  holds_strict = steps.holds_strict

  pub holds_conj : {a b c : ℕ} → Memᴰ (conj_subsumed a b c) rows → Holds rows E s a → Holds rows E s b → Holds rows E s c
  holds_conj = steps.holds_conj

  -- Rows of kinds 3 and 4 of one role, and a row of kind 3 whose target is nothing.
  pub holds_exist : {a r c a' c' : ℕ} → Memᴰ (in_exist a r c) rows → Memᴰ (exist_in r a' c') rows → Holds rows E s a → Holds rows [] c a' → Holds rows E s c'
  holds_exist = steps.holds_exist

  pub holds_bottom : {a r c : ℕ} → Memᴰ (in_exist a r c) rows → Holds rows E s a → Holds rows [] c 1 → Holds rows E s 1
  holds_bottom = steps.holds_bottom

  -- A whole row of the table, and a defeasible row that is to be obeyed.
  pub holds_table : {a b : ℕ} → Holds rows E s a → Holds rows [] a b → Holds rows E s b
  holds_table = steps.holds_table

  pub holds_defeasible : (p : ℕ × ℕ) → Memᴰ p E → Holds rows E s p.0 → Holds rows E s p.1
  holds_defeasible = steps.holds_defeasible

  -- One more bit that holds keeps a root, or a table, sound.
  pub root_add : {N : ℕ} {P P' : ℕ → Bool} (c : ℕ) → SoundRoot N rows E s P → Holds rows E s c →
      ((b : ℕ) → b < N → P' b ≡ true → (P b ≡ true) ⊎ (b ≡ c)) → SoundRoot N rows E s P'
  root_add = steps.root_add

pub table_add : {N : ℕ} {rows : List Row} {S S' : Table} (x c : ℕ) → SoundTable N rows S → Holds rows [] x c →
    ((a b : ℕ) → a < N → b < N → S' a b ≡ true → (S a b ≡ true) ⊎ ((a ≡ x) × (b ≡ c))) → SoundTable N rows S'
table_add = steps.table_add

-- ---- the loops over levels and passes, forwards

module _ {A R : Type 0} {T D : List (Inclusion A R)} where
  -- Levels: at the start, where the set falls, where it repeats.
  pub fallen_none : Fallen T D [] D
  fallen_none = progress.fallen_none

  pub fallen_more : {E E' : List (Inclusion A R)} (done : List (List (Inclusion A R))) → Fallen T D done E → Next T E E' → length E' < length E → Fallen T D (done ++ E ∷ []) E'
  fallen_more = progress.fallen_more

  pub fallen_all : {E : List (Inclusion A R)} (done : List (List (Inclusion A R))) → Fallen T D done E → Next T E E → Pass T D done E
  fallen_all = progress.fallen_all

  -- Passes: at the start, after a pass that is stuck, after one that is not.
  pub passed_none : Passed T D 0 T D
  passed_none = progress.passed_none

  pub passed_more : {n : ℕ} {T' D' D'' stuck : List (Inclusion A R)} {ρ : Inclusion A R} {sets : List (List (Inclusion A R))} → Passed T D n T' D' →
      Pass T' D' sets (ρ ∷ stuck) → Filtered (λ (σ : Inclusion A R). Exceptional T' (ρ ∷ stuck) σ.left → ⊥) D' D'' →
      Passed T D (suc n) (T' ++ emptied (ρ ∷ stuck)) D''
  passed_more = progress.passed_more

  pub passed_all : {n : ℕ} {T' D' : List (Inclusion A R)} {sets : List (List (Inclusion A R))} → Passed T D n T' D' → Pass T' D' sets [] → Passes T D (n + 1) T' sets
  passed_all = progress.passed_all

-- ---- the marked examples

-- P1 to P9: each text is read as lines, and their counts and their rational closure are the ones given.
pub examples_hold : (e : Example) → Memᴰ e marked → ExampleHolds e
examples_hold = examples.examples_hold

-- Further readings, K over the written lines among them.
pub further_hold : (e : Example) → Memᴰ e further → ExampleHolds e
further_hold = examples.further_hold

-- P1 compiles to its 23 rows.
pub p1_compiles : Compiles p1_text p1_rows
p1_compiles = examples.p1_compiles

-- Each refusal 11 to 18, and which of two comes first: each deck of the list is refused by its number at its place.
pub refusals_hold : (d : RefusalExample) → Memᴰ d refusals → refusal d.numbers d.roles d.table d.results d.order d.rows ≡ some (d.number, d.place)
refusals_hold = examples.refusals_hold

-- The strict table of the smallest deck.
pub smallest_table_strict : StrictTable 2 [] smallest_table
smallest_table_strict = outputs.smallest_table_strict

-- The order of a book with ties, each rank's rules as they stand in it; and no other list is one.
pub ties_as_they_stand : (x : ExampleHolds tied) → RankOrder x.lines tied.results tied_order
ties_as_they_stand = examples.ties_as_they_stand

pub no_other_order : {order : List ℕ} (x : ExampleHolds tied) → RankOrder x.lines tied.results order → order ≡ tied_order
no_other_order = examples.no_other_order

-- The misreadings that the scope warns of are none of its closure: `p i` is the example P(i+1).
module _ {lines : List (Line Word Word)} {levels passes : ℕ} {results : List ℕ} where
  pub no_single_pass : Reads (bytes (p 7).text) lines → RationalClosure lines levels passes results → passes ≡ 1 → ⊥
  no_single_pass = misreadings.no_single_pass

  pub no_rank_of_one_pass : Reads (bytes (p 7).text) lines → RationalClosure lines levels passes results → get_or results 4 0 ≡ 32768 → ⊥
  no_rank_of_one_pass = misreadings.no_rank_of_one_pass

  pub no_defeasible_filler : Reads (bytes (p 8).text) lines → RationalClosure lines levels passes results → get_or results 3 0 ≡ 32768 → ⊥
  no_defeasible_filler = misreadings.no_defeasible_filler

  pub no_kept_layer : Reads (bytes (p 0).text) lines → RationalClosure lines levels passes results → get_or results 7 0 ≡ 32769 → ⊥
  no_kept_layer = misreadings.no_kept_layer

  pub no_infinite_no : Reads (bytes (p 4).text) lines → RationalClosure lines levels passes results → get_or results 1 0 ≡ 32767 → ⊥
  no_infinite_no = misreadings.no_infinite_no
