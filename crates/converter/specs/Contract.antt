-- What `convert` promises, for every input and every lent text.
--     Convertible      what is converted: a run of axioms, whose book fits the lent text
--     ConvertRefused   what is refused, by which refusal and at which place
--     BookWritten      the book stands at the start of the lent text, and the rest is as at entry
--     Converted        a case for each answer: refused, or written
use Rattle.std.specs.Prelude.{ℕ, ◌<◌, ◌≤◌, ◌≡◌, List, length, take, drop, Result, Ok, Err}
use Rattle.semantics.specs.Limits.{text_limit}
use Rattle.refusal.specs.declared.Refusal.{Refusal}
use Rattle.refusal.specs.declared.Refusal.TheVariants.{NoRun, BookRoom}
use Rattle.refusal.specs.declared.Refused.{Refused}
use Rattle.ontology.specs.Axiom.{Axiom}
use Rattle.ontology.specs.Book.{book}
use Rattle.ontology.specs.Text.{RunOf}
use Rattle.ontology.specs.Refused.{NoRunAt}

-- The input is a text of axioms, within the limit of texts, and their book is no longer than the lent text.
pub record Convertible (input : List ℕ) (room : ℕ) : Type 0 where
  pub axioms : List Axiom
  pub within : length input ≤ text_limit
  pub reads : RunOf input axioms
  pub fits : length (book axioms) ≤ room

-- The input too long; then an input that is no run; then the lent text shorter than the book.
pub data ConvertRefused (input : List ℕ) (room p : ℕ) : Refusal → Type 0 where
  too_long : text_limit < length input → p ≡ text_limit → ConvertRefused input room p NoRun
  no_run : length input ≤ text_limit → NoRunAt input p → ConvertRefused input room p NoRun
  no_room : (axioms : List Axiom) → length input ≤ text_limit → RunOf input axioms → room < length (book axioms) → p ≡ 0 → ConvertRefused input room p BookRoom

-- The axioms are those of the input (`axioms_unique`); their book has exactly their models and usual rules (`book_means`).
pub record BookWritten (input text₀ text : List ℕ) (size : ℕ) : Type 0 where
  pub axioms : List Axiom
  pub reads : RunOf input axioms
  pub counted : size ≡ length (book axioms)
  pub written : take size text ≡ book axioms
  pub rest_kept : drop size text ≡ drop size text₀
  pub length_kept : length text ≡ length text₀

pub data Converted (input text₀ text : List ℕ) : Result ℕ Refused → Type 0 where
  refused : {e : Refused} → ConvertRefused input (length text₀) e.place e.why → text ≡ text₀ → Converted input text₀ text (Err e)
  written : {size : ℕ} → Convertible input (length text₀) → BookWritten input text₀ text size → Converted input text₀ text (Ok size)
