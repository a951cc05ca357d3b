-- What converting promises has one outcome. Assumes nothing.
use Prim.Native.Nat.{ℕ}
use mathlib.Core.Path.{◌≡◌, refl, sym, ◌∙◌, ap, ap₂, subst}
use mathlib.Core.List.{List, ◌++◌}
use lib.ListN.{length, take, drop, take-append-drop}
use Rattle.std.specs.Prelude.{Result, Ok, Err}
use Rattle.refusal.specs.declared.Refusal.{Refusal}
use Rattle.refusal.specs.declared.Refused.{Refused}
use Rattle.ontology.specs.Book.{book}
use Rattle.ontology.proofs.Deciding.{axioms_unique}
use Rattle.converter.specs.Contract.{ConvertRefused, BookWritten, Converted, refused, written}
use Rattle.converter.proofs.Deciding.{convert_exclusive, convert_one}

module _ {input text₀ text text₁ text' : List ℕ} {m n : ℕ} (w : BookWritten input text₀ text m) (w' : BookWritten input text₁ text' n) where
  same_book_lem : book w.axioms ≡ book w'.axioms
  same_book_lem = ap book (axioms_unique w.reads w'.reads)

  same_length : m ≡ n
  same_length = w.counted ∙ ap length same_book_lem ∙ sym w'.counted

  same_written : take m text ≡ take n text'
  same_written = w.written ∙ same_book_lem ∙ sym w'.written

same_room : {input : List ℕ} {room room' p : ℕ} {why : Refusal} → room ≡ room' → ConvertRefused input room p why → ConvertRefused input room' p why
same_room {input} {p = p} {why} e r = subst (λ n. ConvertRefused input n p why) e r

-- the answer follows from the input and the length of the lent text
pub convert_outcome : {input text₀ text text₁ text' : List ℕ} {a a' : Result ℕ Refused} → length text₀ ≡ length text₁ →
    Converted input text₀ text a → Converted input text₁ text' a' → a ≡ a'
convert_outcome e (refused r k) (refused r' k') = let s = convert_one r (same_room (sym e) r') in λ i. Err (record { why = s.0 i; place = s.1 i })
convert_outcome e (refused r k) (written c w) = absurd (convert_exclusive c (same_room e r))
convert_outcome e (written c w) (refused r k) = absurd (convert_exclusive c (same_room (sym e) r))
convert_outcome e (written c w) (written c' w') = ap Ok (same_length w w')

-- the book follows from the input alone
pub convert_follows : {input text₀ text text₁ text' : List ℕ} {m n : ℕ} → Converted input text₀ text (Ok m) → Converted input text₁ text' (Ok n) →
    (m ≡ n) × (take m text ≡ take n text')
convert_follows (written c w) (written c' w') = (same_length w w', same_written w w')

pub convert_unique : {input text₀ text text' : List ℕ} {a a' : Result ℕ Refused} → Converted input text₀ text a → Converted input text₀ text' a' → (a ≡ a') × (text ≡ text')
convert_unique x y = (convert_outcome refl x y, go x y)
  where
    go : {input text₀ text text' : List ℕ} {a a' : Result ℕ Refused} → Converted input text₀ text a → Converted input text₀ text' a' → text ≡ text'
    go (refused r k) (refused r' k') = k ∙ sym k'
    go (refused r k) (written c w) = absurd (convert_exclusive c r)
    go (written c w) (refused r k) = absurd (convert_exclusive c r)
    go {text₀ = text₀} {text = text} {text' = text'} (written {size = m} c w) (written {size = n} c' w') =
        let e : m ≡ n = same_length w w' in
        sym (take-append-drop m text) ∙ ap₂ ◌++◌ (same_written w w') (w.rest_kept ∙ ap (λ k. drop k text₀) e ∙ sym w'.rest_kept) ∙ take-append-drop n text'
