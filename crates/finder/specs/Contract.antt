-- What `find_name` (the scope's finder) promises, for every text and number.
--     Named       a word of the text has the number
--     NameSpan    the part of the text, as its start and its length
--     NameFound   the slice that is returned: which part it is, by contents and by pointer
use Rattle.std.specs.Prelude.{ℕ, ◌+◌, ◌≡◌, length, take, drop}
use Rattle.std.proofs.Math.Option.{some}
use mathlib.Core.List.{List, Memᴰ}
use Rattle.semantics.specs.Closure.{Line}
use Rattle.semantics.specs.Source.{Word, Reads}
use Rattle.grammar.specs.Limits.{names_after, WithinLimits}
use Rattle.grammar.specs.Occurrences.{lines_occurrences, first_occurrence}

-- The text is accepted, and one of its words has the number.
pub record Named (text : List ℕ) (number : ℕ) : Type 0 where
  pub lines : List (Line Word Word)
  pub reads : Reads text lines
  pub within : WithinLimits text lines
  pub word : Word
  pub numbered : Memᴰ (word, number) (names_after lines).words

-- Where the text has lines within every limit and a word has the number: where that word first stands as a concept name. Otherwise the empty part.
pub data NameSpan (text : List ℕ) (number : ℕ) : ℕ → ℕ → Type 0 where
  named : {lines : List (Line Word Word)} {w : Word} {start : ℕ} (r : Reads text lines) → WithinLimits text lines → Memᴰ (w, number) (names_after lines).words →
      first_occurrence w (lines_occurrences 0 r.syntax) ≡ some start → NameSpan text number start (length w)
  unnamed : {lines : List (Line Word Word)} → Reads text lines → WithinLimits text lines → ((w : Word) → Memᴰ (w, number) (names_after lines).words → ⊥) →
      NameSpan text number 0 0
  refused : ((lines : List (Line Word Word)) → Reads text lines → WithinLimits text lines → ⊥) → NameSpan text number 0 0

-- The part has these bytes and begins there in the caller's text, so it is no copy and no later standing of the word.
pub record NameFound (text part : List ℕ) (text_at part_at : ℕ × ℕ) (number : ℕ) : Type 0 where
  pub start : ℕ
  pub size : ℕ
  pub span : NameSpan text number start size
  pub contents : part ≡ take size (drop start text)
  pub block : part_at.0 ≡ text_at.0
  pub offset : part_at.1 ≡ text_at.1 + start
