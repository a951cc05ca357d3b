-- The theorems on compiling, in reading order. With the first two nobody has to believe the reader that `compile_refusal` names.
--     compile_accepts    which texts are compiled
--     compile_refuses    which are refused, by which refusal and at which place
--     marked_compiled    P1 to P9 are
--     compiled_unique    what `compile` promises has one outcome
--     compiled_follows   and what it writes follows from the text
-- Assumes nothing.
use Prim.Native.Nat.{ℕ, ◌≤◌}
use mathlib.Core.Path.{◌≡◌}
use mathlib.Core.Option.{none, some}
use Rattle.std.specs.Prelude.{Result, Ok}
use mathlib.Core.List.{List, Memᴰ}
use mathlib.Core.Logic.{◌↔◌}
use lib.ListN.{take}
use Rattle.semantics.specs.Examples.{bytes, Example, marked}
use Rattle.semantics.specs.Limits.{row_limit}
use Rattle.refusal.specs.declared.Refusal.{Refusal}
use Rattle.refusal.specs.declared.Refused.{Refused}
use Rattle.grammar.specs.Accepted.{TextAcceptable}
use Rattle.grammar.proofs.Theorems.{marked_acceptable}
use Rattle.compiler.specs.Contract.{compile_refusal, Compiled}
use Rattle.compiler.specs.Refused.{BookRefused}
use Rattle.compiler.specs.declared.Sizes.{Sizes}
use Rattle.compiler.proofs.Compiling as compiling
use Rattle.compiler.proofs.Unique as unique

-- Compiling refuses nothing exactly where the text is that of lines, within every limit, and the lent deck has room for as many rows as a text may have.
pub compile_accepts : (text : List ℕ) (lent : ℕ) → (compile_refusal text lent ≡ none) ↔ (TextAcceptable text × (row_limit ≤ lent))
compile_accepts = compiling.compile_accepts

-- It refuses a text by this refusal at p exactly where `BookRefused` says so, which names no reader: the text is too long, or else the deck too short,
-- or else what its author wrote is refused (`TextRefused`).
pub compile_refuses : (text : List ℕ) (lent p : ℕ) (why : Refusal) → (compile_refusal text lent ≡ some (why, p)) ↔ BookRefused (row_limit ≤ lent) text p why
compile_refuses = compiling.compile_refuses

-- No marked book of the scope is refused, where the deck has the length that is asked.
pub marked_compiled : (e : Example) → Memᴰ e marked → (lent : ℕ) → row_limit ≤ lent → compile_refusal (bytes e.text) lent ≡ none
marked_compiled e m lent h = (compile_accepts (bytes e.text) lent).1 (marked_acceptable e m, h)

-- The text and the deck at entry determine the answer, with its four counts or its refusal and place, and the whole deck at exit.
pub compiled_unique : {text deck₀ deck deck' : List ℕ} {a a' : Result Sizes Refused} → Compiled text deck₀ deck a → Compiled text deck₀ deck' a' → (a ≡ a') × (deck ≡ deck')
compiled_unique = unique.compiled_unique

-- A deck follows from the text and nothing else: where it is compiled twice, into decks of whatever contents and lengths, the four counts are the same,
-- and so are all rows that are written.
pub compiled_follows : {text deck₀ deck deck₁ deck' : List ℕ} {c c' : Sizes} → Compiled text deck₀ deck (Ok c) → Compiled text deck₁ deck' (Ok c') →
    (c ≡ c') × (take c.rows deck ≡ take c.rows deck')
compiled_follows = unique.compiled_follows
