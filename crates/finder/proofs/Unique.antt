-- A number has one span in a text: the lines of a text, a number's word and where a word first stands are each one.
-- Assumes nothing.
use Prim.Native.Nat.{ℕ}
use mathlib.Core.Path.{◌≡◌, refl, sym, ◌∙◌, ap, subst}
use mathlib.Core.Option.{Option, some}
use mathlib.Core.List.{List, Memᴰ}
use lib.ListN.{length}
use Rattle.semantics.specs.Closure.{Line}
use Rattle.semantics.specs.Source.{Word, Reads}
use Rattle.semantics.proofs.Reading.{writes_unique, reads_unique}
use Rattle.source.specs.Lines.{read_text}
use Rattle.grammar.specs.Limits.{names_after, WithinLimits}
use Rattle.grammar.specs.Occurrences.{lines_occurrences, first_occurrence}
use Rattle.grammar.proofs.AcceptsDecides.{accepts_decides, accepted_names}
use Rattle.grammar.proofs.StateWords.{member_word}
use Rattle.finder.specs.Contract.{NameSpan, named, unnamed, refused}
use Rattle.chains.specs.declared.Sort.TheVariants.{Concepts}

-- two words with one number are the same
word_unique : {text : List ℕ} {lines : List (Line Word Word)} {v w : Word} {n : ℕ} → Reads text lines → WithinLimits text lines →
    Memᴰ (v, n) (names_after lines).words → Memᴰ (w, n) (names_after lines).words → v ≡ w
word_unique {text} {lines} {v} {w} {n} r l i j =
    let a = (accepts_decides text).1 record { lines = lines; reads = r; within = l } in
    let s = (read_text text).reading.names in
    let names = sym (accepted_names r a.read) in
    let m = member_word text (s.lists Concepts) (s.lists Concepts).used (subst (λ k. Memᴰ (v, n) k.words) names i) in
    let k = member_word text (s.lists Concepts) (s.lists Concepts).used (subst (λ k. Memᴰ (w, n) k.words) names j) in
    m.word ∙ sym k.word

-- A number has one span in a text.
pub span_unique : {text : List ℕ} {n start size start' size' : ℕ} → NameSpan text n start size → NameSpan text n start' size' → (start ≡ start') × (size ≡ size')
span_unique {text} {n} (named {lines} {w} {start} r l i f) (named {lines = lines'} {w = w'} {start = start'} r' l' i' f') =
    let same = reads_unique r' r in
    let e = word_unique r l i (subst (λ ls. Memᴰ (w', n) (names_after ls).words) same i') in
    let written = writes_unique r'.writes r.writes in
    let g : first_occurrence w (lines_occurrences 0 r.syntax) ≡ some start' = rw e (subst (λ es. first_occurrence w' (lines_occurrences 0 es) ≡ some start') written f') in
    let q : ◌≡◌ {A = Option ℕ} (some start) (some start') = sym f ∙ g in
    let p : start ≡ start' = cc in
    (p, ap (λ u. length u) e)
span_unique {n} (named {w} r l i f) (unnamed r' l' none') = absurd (none' w (subst (λ ls. Memᴰ (w, n) (names_after ls).words) (reads_unique r r') i))
span_unique (named {lines} r l i f) (refused nowhere) = absurd (nowhere lines r l)
span_unique {n} (unnamed r l none') (named {w} r' l' i f) = absurd (none' w (subst (λ ls. Memᴰ (w, n) (names_after ls).words) (reads_unique r' r) i))
span_unique (unnamed r l none') (unnamed r' l' none'') = (refl, refl)
span_unique (unnamed {lines} r l none') (refused nowhere) = absurd (nowhere lines r l)
span_unique (refused nowhere) (named {lines} r l i f) = absurd (nowhere lines r l)
span_unique (refused nowhere) (unnamed {lines} r l none') = absurd (nowhere lines r l)
span_unique (refused nowhere) (refused nowhere') = (refl, refl)
