-- `Word::same_word_at` meets its contract: words of different lengths differ. Assumes nothing.
use borrow.Author.Tests.{eq-eqb, ne_eqb}
use mathlib.Core.Path.{◌∙◌}
use Rattle.words.specs.Bytes.{same_word_at}
use Rattle.words.proofs.word.Word.same_word_at.Goals as goal

pub returns-then-long-self : goal.returns-then-long-self
unfolding same_word_at
returns-then-long-self c = c.same_bytes.ensures ∙ rw (eq-eqb _ _ c.if-long-self.true)

pub returns-else-long-self : goal.returns-else-long-self
unfolding same_word_at
returns-else-long-self c = rw (ne_eqb _ _ c.if-long-self.false)
