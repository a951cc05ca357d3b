-- A text and a class of sheets are marked or refused, and in one way.
-- Assumes nothing.
use Prim.Native.Nat.{ℕ}
use mathlib.Core.Path.{◌≡◌, refl, sym, ◌∙◌, subst}
use mathlib.Core.Option.{Option, none, some}
use mathlib.Core.List.{List}
use mathlib.Core.Logic.{◌⊎◌, inl, inr}
use lib.ListN.{length}
use Rattle.semantics.specs.Closure.{questions_of}
use Rattle.semantics.proofs.Theorems.{reads_unique}
use Rattle.refusal.specs.declared.Refusal.{Refusal}
use Rattle.buffers.specs.Buffers.{Buffers}
use Rattle.grammar.specs.Accepted.{TextAcceptable}
use Rattle.compiler.specs.Refused.{BookRefused}
use Rattle.compiler.proofs.Refusing.{same_refusal}
use Rattle.evaluator.specs.Contract.{LongEnough, evaluate_refusal}
use Rattle.evaluator.proofs.Theorems.{evaluate_accepts, evaluate_refuses}
use Rattle.sheets.specs.Sheets.{sheets_of}
use Rattle.sheets.specs.Refused.{ClassRefused}
use Rattle.sheets.proofs.Theorems.{class_either, class_exclusive, class_one}
use Rattle.marking.specs.Contract.{MarkAcceptable, MarkRefused, of_sitting, of_class}

-- the class of one reading of the text is that of another
same_class : {text : List ℕ} (sheets : List ℕ) {room : ℕ} (book book' : TextAcceptable text) {p : ℕ} {why : Refusal} →
    ClassRefused (length (questions_of book.lines)) (sheets_of sheets) room p why → ClassRefused (length (questions_of book'.lines)) (sheets_of sheets) room p why
same_class sheets {room} book book' {p} {why} = subst (λ ls. ClassRefused (length (questions_of ls)) (sheets_of sheets) room p why) (reads_unique book.reads book'.reads)

module _ {text deck : List ℕ} {lent : Buffers} where
  -- a sitting is not accepted and refused
  sitting_exclusive : TextAcceptable text → LongEnough deck lent → {p : ℕ} {why : Refusal} → BookRefused (LongEnough deck lent) text p why → ⊥
  sitting_exclusive book long {p} {why} b =
      let h = (evaluate_accepts text deck lent).1 (book, long) in
      let e = (evaluate_refuses text deck lent p why).1 b in
      absurd cc

  sitting_one : {p q : ℕ} {why how : Refusal} → BookRefused (LongEnough deck lent) text p why → BookRefused (LongEnough deck lent) text q how → (why ≡ how) × (p ≡ q)
  sitting_one {p} {q} {why} {how} b b' = same_refusal (sym ((evaluate_refuses text deck lent p why).1 b) ∙ (evaluate_refuses text deck lent q how).1 b')

  module _ {sheets : List ℕ} {room : ℕ} where
    pub mark_exclusive : MarkAcceptable text sheets deck lent room → {p : ℕ} {why : Refusal} → MarkRefused text sheets deck lent room p why → ⊥
    mark_exclusive a (of_sitting b) = sitting_exclusive a.book a.long_enough b
    mark_exclusive a (of_class book long c) = class_exclusive a.class (same_class sheets book a.book c)

    pub mark_one : {p q : ℕ} {why how : Refusal} → MarkRefused text sheets deck lent room p why → MarkRefused text sheets deck lent room q how → (why ≡ how) × (p ≡ q)
    mark_one (of_sitting b) (of_sitting b') = sitting_one b b'
    mark_one (of_sitting b) (of_class book long c) = absurd (sitting_exclusive book long b)
    mark_one (of_class book long c) (of_sitting b) = absurd (sitting_exclusive book long b)
    mark_one (of_class book long c) (of_class book' long' c') = class_one (same_class sheets book book' c) c'

pub mark_either : (text sheets deck : List ℕ) (lent : Buffers) (room : ℕ) →
    MarkAcceptable text sheets deck lent room ⊎ ((p : ℕ) × (why : Refusal) × MarkRefused text sheets deck lent room p why)
mark_either text sheets deck lent room = go (evaluate_refusal text deck lent) refl
  where
    go : (r : Option (Refusal × ℕ)) → evaluate_refusal text deck lent ≡ r →
        MarkAcceptable text sheets deck lent room ⊎ ((p : ℕ) × (why : Refusal) × MarkRefused text sheets deck lent room p why)
    go (some (why, p)) e = inr (p, why, of_sitting ((evaluate_refuses text deck lent p why).0 e))
    go none e =
        let (book, long) = (evaluate_accepts text deck lent).0 e in
        elim (class_either (length (questions_of book.lines)) sheets room) [
          | inl a ↦ inl record { book = book; long_enough = long; class = a }
          | inr r ↦ inr (r.0, r.1, of_class book long r.2)
        ]
