-- What `compile` leaves is determined by what it was given.
--     compiled_unique    by the text and the deck at entry: the answer, with its counts or its refusal and place, and the whole deck
--     compiled_follows   by the text alone: the counts and the rows that are written, where nothing is refused
-- Assumes nothing.
use Prim.Native.Nat.{ℕ}
use mathlib.Core.Path.{◌≡◌, sym, ◌∙◌, ap}
use mathlib.Core.List.{List, map}
use lib.ListN.{length, take, drop}
use Rattle.std.specs.Prelude.{Result, Ok, Err}
use Rattle.semantics.specs.Numbering.{normal_rows}
use Rattle.semantics.specs.Row.{pack}
use Rattle.semantics.proofs.Theorems.{reads_unique}
use Rattle.copying.proofs.Writing.{whole}
use Rattle.refusal.specs.declared.Refused.{Refused}
use Rattle.grammar.specs.Limits.{names_after}
use Rattle.compiler.specs.Contract.{NormalForm, Compiled, refused, accepted}
use Rattle.compiler.specs.declared.Sizes.{Sizes}
use Rattle.compiler.proofs.Refusing.{same_refusal}

-- A text has one list of lines, so its counts and rows are those of this list, whatever the decks held and however long they were.
form_follows : {text deck₀ deck deck₁ deck' : List ℕ} {c c' : Sizes} → NormalForm text deck₀ deck c → NormalForm text deck₁ deck' c' →
    (c ≡ c') × (take c.rows deck ≡ take c.rows deck')
form_follows {deck} {deck'} {c} {c'} f g =
    let e = reads_unique f.reads g.reads in
    let lines : c.lines ≡ c'.lines = f.line_count ∙ ap length e ∙ sym g.line_count in
    let rows : c.rows ≡ c'.rows = f.row_count ∙ ap (λ ls. length (normal_rows ls)) e ∙ sym g.row_count in
    let numbers : c.numbers ≡ c'.numbers = f.number_count ∙ ap (λ ls. (names_after ls).next) e ∙ sym g.number_count in
    let roles : c.roles ≡ c'.roles = f.role_count ∙ ap (λ ls. length (names_after ls).roles) e ∙ sym g.role_count in (
      (λ i. record { lines = lines i; rows = rows i; numbers = numbers i; roles = roles i }),
      f.rows ∙ ap (λ ls. map pack (normal_rows ls)) e ∙ sym g.rows ∙ ap (λ n. take n deck') (sym rows),
    )

-- With the same deck at entry the rest is the same too.
form_unique : {text deck₀ deck deck' : List ℕ} {c c' : Sizes} → NormalForm text deck₀ deck c → NormalForm text deck₀ deck' c' → (c ≡ c') × (deck ≡ deck')
form_unique {deck₀} {deck} {deck'} {c} f g =
    let (e, written) = form_follows f g in
    let rest = f.rest_kept ∙ ap (λ c. drop c.rows deck₀) e ∙ sym g.rest_kept ∙ ap (λ c. drop c.rows deck') (sym e) in
    (e, whole c.rows deck deck' written rest)

pub compiled_follows : {text deck₀ deck deck₁ deck' : List ℕ} {c c' : Sizes} → Compiled text deck₀ deck (Ok c) → Compiled text deck₁ deck' (Ok c') →
    (c ≡ c') × (take c.rows deck ≡ take c.rows deck')
compiled_follows (accepted h n) (accepted h' n') = form_follows n n'

pub compiled_unique : {text deck₀ deck deck' : List ℕ} {a a' : Result Sizes Refused} → Compiled text deck₀ deck a → Compiled text deck₀ deck' a' → (a ≡ a') × (deck ≡ deck')
compiled_unique (refused h d) (refused h' d') = let (w, p) = same_refusal (sym h ∙ h') in ((λ i. Err record { why = w i; place = p i }), d ∙ sym d')
compiled_unique (refused h d) (accepted h' n') = absurd cc
compiled_unique (accepted h n) (refused h' d') = absurd cc
compiled_unique (accepted h n) (accepted h' n') = let (c, d) = form_unique n n' in (ap Ok c, d)
