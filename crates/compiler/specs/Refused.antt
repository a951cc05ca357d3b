-- What is said of a text that is refused where buffers are lent for it. Compiling and the sitting share it; no reader is named.
use Rattle.std.specs.Prelude.{ℕ, ◌<◌, ◌≤◌, ◌≡◌, List, length}
use Rattle.semantics.specs.Limits.{text_limit}
use Rattle.refusal.specs.declared.Refusal.{Refusal}
use Rattle.refusal.specs.declared.Refusal.TheVariants.{TextTooLong, BufferTooShort}
use Rattle.grammar.specs.Refused.{TextRefused}

-- `Enough` says that each lent buffer is as long as any compiled text may need. First the text's length, then the buffers, then what its author wrote.
pub data BookRefused (Enough : Type 0) (text : List ℕ) (p : ℕ) : Refusal → Type 0 where
  long : text_limit < length text → p ≡ 0 → BookRefused Enough text p TextTooLong
  short : length text ≤ text_limit → (Enough → ⊥) → p ≡ 0 → BookRefused Enough text p BufferTooShort
  author : {why : Refusal} → length text ≤ text_limit → Enough → TextRefused text p why → BookRefused Enough text p why
