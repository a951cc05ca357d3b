-- The marked examples hold, as one list: each text is parsed, what the parser returns is found to have that text and words that are words,
-- and the proved evaluator gives its report.
-- Assumes nothing.
use Prim.Native.Nat.{ℕ}
use Prim.Native.String.{String}
use native.Mathlib.Omega.{arith}
use mathlib.Core.Path.{◌≡◌, refl, sym, ◌∙◌, ap, subst}
use mathlib.Core.Bool.{Bool, true, false, ◌&&◌}
use mathlib.Core.Option.{Option, some}
use mathlib.Core.List.Memᴰ
use mathlib.Core.List.{List, [], ◌∷◌, ◌++◌, map, Memᴰ}
use mathlib.Core.List.{Permᴰ}
use lib.ListN.{length}
use lib.Dec.{ltb}
use borrow.Author.Tests.{ltb-true}
use Rattle.semantics.specs.Concept.{Concept, top, bottom, name, conj, exist}
use Rattle.semantics.specs.Closure.{Line, left_of, right_of, strict_of, yes_count}
use Rattle.semantics.specs.Source.{Word, word_byte, IsWord, Reads}
use Rattle.semantics.specs.PlainText.{concept_text, line_text, source_text, Words, LineWords}
use Rattle.semantics.specs.Numbering.{same_word, lookup, place_of, number_concept, number_lines, no_names, normal_rows}
use Rattle.semantics.specs.Outputs.{defeasible_from, RankOrder}
use Rattle.semantics.specs.Replies.{AnswerKey, replies_in}
use Rattle.semantics.specs.Refusals.{fields_refusal, rows_refusal, refusal}
use Rattle.semantics.specs.Examples.{bytes, Example, ExampleHolds, Compiles, p1_text, p1_rows, marked, p, tied, tied_order, further, RefusalExample, refusals}
use Rattle.semantics.proofs.Rows.{pairs_of}
use Rattle.semantics.proofs.Keys.{key_of_closure}
use Rattle.semantics.proofs.RankOrder.{precedes_lower, precedes_tied, Sorted, sorted_one, sorted_next, order_unique}
use Rattle.semantics.proofs.Reading.{reads_unique}
use Rattle.semantics.proofs.Tests.{both}
use Rattle.semantics.proofs.Letters.{kind_with}
use Rattle.semantics.proofs.Parse.{parse_word, parse_concept, parse_lines, parse}
use Rattle.semantics.proofs.Plain.{plain_reads}
use Rattle.semantics.proofs.Evaluate.{elem, all_members, insert_all, through, gives_all, gives_defeasible, is_closed_set, starts, sizes, saturate_table, closed_from, all_rows_below}
use Rattle.semantics.proofs.Evaluate.{table_of, saturate_set, root, exceptional_in, within_in, filter_some, levels_from, passes_from, rank_in, results_of, Computed, compute_closure}
use Rattle.semantics.proofs.Evaluated.{evaluate_lines, lines_sound}

-- ---- whether the words of lines are words

word_bytes : Word → Bool
word_bytes [] = true
word_bytes (b ∷ w) = word_byte b && word_bytes w

abbrev is_word : Word → Bool
is_word w = ltb 0 (length w) && word_bytes w

only_words : Concept Word Word → Bool
only_words top = true
only_words bottom = true
only_words (name w) = is_word w
only_words (conj C D) = only_words C && only_words D
only_words (exist r C) = is_word r && only_words C

lines_only_words : List (Line Word Word) → Bool
lines_only_words [] = true
lines_only_words (l ∷ ls) = (only_words (left_of l) && only_words (right_of l)) && lines_only_words ls

word_bytes_lem : (w : Word) → word_bytes w ≡ true → (b : ℕ) → Memᴰ b w → word_byte b ≡ true
unfolding word_bytes
word_bytes_lem (c ∷ w) h b (Memᴰ.head e) = rw e (both (word_byte c) (word_bytes w) h).0
word_bytes_lem (c ∷ w) h b (Memᴰ.tail m) = word_bytes_lem w (both (word_byte c) (word_bytes w) h).1 b m
word_bytes_lem [] h b x'' = elim x'' [ ]

is_word_lem : (w : Word) → is_word w ≡ true → IsWord w
is_word_lem w h = let t = both (ltb 0 (length w)) (word_bytes w) h in record { nonempty = ltb-true 0 (length w) t.0; bytes = word_bytes_lem w t.1 }

only_words_lem : (C : Concept Word Word) → only_words C ≡ true → Words C
unfolding only_words
only_words_lem top h = tt
only_words_lem bottom h = tt
only_words_lem (name w) h = is_word_lem w h
only_words_lem (conj C D) h = let t = both (only_words C) (only_words D) h in (only_words_lem C t.0, only_words_lem D t.1)
only_words_lem (exist r C) h = let t = both (is_word r) (only_words C) h in (is_word_lem r t.0, only_words_lem C t.1)

lines_only_words_lem : (ls : List (Line Word Word)) → lines_only_words ls ≡ true → (l : Line Word Word) → Memᴰ l ls → LineWords l
unfolding lines_only_words
lines_only_words_lem (k ∷ ls) h l (Memᴰ.head e) =
    let t = (both (only_words (left_of k) && only_words (right_of k)) (lines_only_words ls) h).0 in
    let u = both (only_words (left_of k)) (only_words (right_of k)) t in
    subst LineWords (sym e) (only_words_lem (left_of k) u.0, only_words_lem (right_of k) u.1)
lines_only_words_lem (k ∷ ls) h l (Memᴰ.tail m) = lines_only_words_lem ls (both (only_words (left_of k) && only_words (right_of k)) (lines_only_words ls) h).1 l m
lines_only_words_lem [] h l x'' = elim x'' [ ]

-- ---- what is computed of a text, and what that proves

-- the text of the parsed lines, and whether their words are words
parsed : String → List ℕ × Bool
parsed text = let lines = parse (bytes text) in (source_text lines, lines_only_words lines)

reads_parsed : (text : String) → parsed text ≡ (bytes text, true) → Reads (bytes text) (parse (bytes text))
unfolding parsed
reads_parsed text h = plain_reads record { words = lines_only_words_lem (parse (bytes text)) (λ i. (h i).1); spelled = λ i. (h i).0 }

example_counts : String → ℕ × ℕ × ℕ
example_counts text = let n = number_lines (parse (bytes text)) no_names in (n.after.next, length n.after.roles, length (normal_rows (parse (bytes text))))

found : Example → (List ℕ × Bool) × (ℕ × ℕ × ℕ) × Option Computed
found e = (parsed e.text, example_counts e.text, evaluate_lines (parse (bytes e.text)))

abbrev report : Example → Computed
report e = record { levels = e.levels; passes = e.passes; yeses = e.yeses; results = e.results }

due : Example → (List ℕ × Bool) × (ℕ × ℕ × ℕ) × Option Computed
due e = ((bytes e.text, true), (e.numbers, e.roles, e.rows), some (report e))

example_holds : (e : Example) → found e ≡ due e → ExampleHolds e
unfolding found due example_counts
example_holds e h = record {
  lines = parse (bytes e.text);
  read = reads_parsed e.text (λ i. (h i).0);
  number_count = λ i. (h i).1.0;
  role_count = λ i. (h i).1.1;
  row_count = λ i. (h i).1.2;
  closure = (lines_sound (parse (bytes e.text)) (report e) (λ i. (h i).2)).0;
  yes_counted = (lines_sound (parse (bytes e.text)) (report e) (λ i. (h i).2)).1;
}

-- every book of the list is found to be what is due
abbrev AllFound : List Example → Type 0
AllFound [] = Unit {0}
AllFound (e ∷ es) = (found e ≡ due e) × AllFound es

all_hold : (es : List Example) → AllFound es → (e : Example) → Memᴰ e es → ExampleHolds e
all_hold (d ∷ es) h e (Memᴰ.head q) = subst ExampleHolds (sym q) (example_holds d h.0)
all_hold (d ∷ es) h e (Memᴰ.tail m) = all_hold es h.1 e m
all_hold [] h e x'' = elim x'' [ ]

-- and its text is that of the lines that it is parsed to
all_parsed : (es : List Example) → AllFound es → (e : Example) → Memᴰ e es → Reads (bytes e.text) (parse (bytes e.text))
unfolding found due
all_parsed (d ∷ es) h e (Memᴰ.head q) = subst (λ e. Reads (bytes e.text) (parse (bytes e.text))) (sym q) (reads_parsed d.text (λ i. (h.0 i).0))
all_parsed (d ∷ es) h e (Memᴰ.tail m) = all_parsed es h.1 e m
all_parsed [] h e x'' = elim x'' [ ]

-- ---- P1 to P9, and the further ones

computed : AllFound (marked ++ further)
unfolding found due example_counts parsed word_bytes only_words lines_only_words parse_word parse_concept parse_lines kind_with concept_text line_text source_text same_word lookup place_of number_concept number_lines
    elem all_members insert_all through gives_all gives_defeasible is_closed_set starts sizes saturate_table closed_from all_rows_below table_of
    saturate_set root exceptional_in within_in filter_some levels_from passes_from rank_in results_of pairs_of yes_count compute_closure evaluate_lines
computed = (refl, (refl, (refl, (refl, (refl, (refl, (refl, (refl, (refl, (refl, (refl, (refl, (refl, (refl, (refl, tt)))))))))))))))

all_examples : (e : Example) → Memᴰ e (marked ++ further) → ExampleHolds e
all_examples = all_hold (marked ++ further) computed

pub examples_hold : (e : Example) → Memᴰ e marked → ExampleHolds e
examples_hold e m = all_examples e (Memᴰ.append_left further m)

pub marked_parsed : (e : Example) → Memᴰ e marked → Reads (bytes e.text) (parse (bytes e.text))
marked_parsed e m = all_parsed (marked ++ further) computed e (Memᴰ.append_left further m)

pub further_hold : (e : Example) → Memᴰ e further → ExampleHolds e
further_hold e m = all_examples e (Memᴰ.append_right marked m)

-- P1 compiles to these 23 rows.
pub p1_compiles : Compiles p1_text p1_rows
unfolding parsed word_bytes only_words lines_only_words parse_word parse_concept parse_lines kind_with concept_text line_text source_text same_word lookup place_of number_concept number_lines
p1_compiles = record { lines = parse (bytes p1_text); read = reads_parsed p1_text refl; packed_rows = refl }

-- The key of P1: its four questions are answered no, no, yes and yes.
pub p1_key : (x : ExampleHolds (p 0)) → AnswerKey (strict_of x.lines) x.closure.T* x.closure.sets x.lines (false ∷ false ∷ true ∷ true ∷ [])
unfolding parsed word_bytes only_words lines_only_words parse_word parse_concept parse_lines kind_with concept_text line_text source_text replies_in
p1_key x =
    let same : x.lines ≡ parse (bytes p1_text) = reads_unique x.read (reads_parsed p1_text refl) in
    let few : length (parse (bytes p1_text)) ≡ 10 = refl in
    let found : replies_in (parse (bytes p1_text)) (p 0).results ≡ false ∷ false ∷ true ∷ true ∷ [] = refl in
    subst (AnswerKey (strict_of x.lines) x.closure.T* x.closure.sets x.lines) (ap (λ ls. replies_in ls (p 0).results) same ∙ found)
    (key_of_closure x.closure (omega (arith, ap length same, few)))

-- ---- the order of the book with ties

tied_places : (x : ExampleHolds tied) → defeasible_from 0 x.lines ≡ 0 ∷ 1 ∷ 2 ∷ 5 ∷ 6 ∷ 7 ∷ []
unfolding parsed word_bytes only_words lines_only_words parse_word parse_concept parse_lines kind_with concept_text line_text source_text defeasible_from
tied_places x = ap (defeasible_from 0) (reads_unique x.read (reads_parsed tied.text refl))

-- The last two change places, 1 moves behind 5, and 0 behind 7.
tied_once : Permᴰ (0 ∷ 1 ∷ 2 ∷ 5 ∷ 6 ∷ 7 ∷ []) tied_order
tied_once =
    let last : Permᴰ {A = ℕ} (1 ∷ 2 ∷ 5 ∷ 6 ∷ 7 ∷ []) (1 ∷ 2 ∷ 5 ∷ 7 ∷ 6 ∷ []) =
    mathlib.Core.List.Permᴰ.cons refl (mathlib.Core.List.Permᴰ.cons refl (mathlib.Core.List.Permᴰ.cons refl (mathlib.Core.List.Permᴰ.swap refl refl))) in
    let second : Permᴰ {A = ℕ} (1 ∷ 2 ∷ 5 ∷ 6 ∷ 7 ∷ []) (2 ∷ 5 ∷ 1 ∷ 7 ∷ 6 ∷ []) = mathlib.Core.List.Permᴰ.trans last (mathlib.Core.List.Permᴰ.symm (mathlib.Core.List.Permᴰ.middle 1 (2 ∷ 5 ∷ []) (7 ∷ 6 ∷ []))) in
    mathlib.Core.List.Permᴰ.trans (mathlib.Core.List.Permᴰ.cons refl second) (mathlib.Core.List.Permᴰ.symm (mathlib.Core.List.Permᴰ.middle 0 (2 ∷ 5 ∷ 1 ∷ 7 ∷ []) (6 ∷ [])))

tied_sorted : Sorted tied.results tied_order
tied_sorted =
    sorted_next (precedes_tied refl (omega arith)) (sorted_next (precedes_lower (omega arith)) (sorted_next (precedes_tied refl (omega arith))
    (sorted_next (precedes_lower (omega arith)) (sorted_next (precedes_tied refl (omega arith)) sorted_one))))

pub ties_as_they_stand : (x : ExampleHolds tied) → RankOrder x.lines tied.results tied_order
ties_as_they_stand x = record { once = subst (λ l. Permᴰ l tied_order) (sym (tied_places x)) tied_once; sorted = tied_sorted.each }

pub no_other_order : {order : List ℕ} (x : ExampleHolds tied) → RankOrder x.lines tied.results order → order ≡ tied_order
no_other_order x o = order_unique o (ties_as_they_stand x)

-- ---- refusals

abbrev example_refusal : RefusalExample → Option (ℕ × ℕ)
example_refusal d = refusal d.numbers d.roles d.table d.results d.order d.rows

abbrev due_refusal : RefusalExample → Option (ℕ × ℕ)
due_refusal d = some (d.number, d.place)

refused_each : (ds : List RefusalExample) → map example_refusal ds ≡ map due_refusal ds → (d : RefusalExample) → Memᴰ d ds → example_refusal d ≡ due_refusal d
refused_each (c ∷ ds) h d (Memᴰ.head q) = let own : example_refusal c ≡ due_refusal c = cc in subst (λ d. example_refusal d ≡ due_refusal d) (sym q) own
refused_each (c ∷ ds) h d (Memᴰ.tail m) = let rest : map example_refusal ds ≡ map due_refusal ds = cc in refused_each ds rest d m
refused_each [] h d x'' = elim x'' [ ]

computed_refusals : map example_refusal refusals ≡ map due_refusal refusals
unfolding refusal rows_refusal fields_refusal
computed_refusals = refl

-- Every deck of the list is refused by its number at its place.
pub refusals_hold : (d : RefusalExample) → Memᴰ d refusals → refusal d.numbers d.roles d.table d.results d.order d.rows ≡ some (d.number, d.place)
refusals_hold = refused_each refusals computed_refusals
