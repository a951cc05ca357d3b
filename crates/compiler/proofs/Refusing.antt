-- Refusals that go in the scope's order, whatever computes them: the text's length, then the lent buffers, then the reader. Such a computation
-- accepts exactly the acceptable texts, where the buffers are long enough, and refuses exactly as `BookRefused` says.
-- Assumes nothing.
use Prim.Native.Nat.{ℕ, ◌<◌, ◌≤◌}
use native.Mathlib.Omega.{arith}
use native.Mathlib.Decide.{dec_le}
use mathlib.Core.Path.{◌≡◌, refl, sym, ◌∙◌, ap, subst}
use mathlib.Core.Option.{Option, none, some}
use mathlib.Core.List.{List}
use mathlib.Core.Logic.{◌↔◌}
use lib.ListN.{length}
use Rattle.semantics.specs.Limits.{text_limit}
use Rattle.refusal.specs.declared.Refusal.{Refusal}
use Rattle.refusal.specs.declared.Refusal.TheVariants.{TextTooLong, BufferTooShort}
use Rattle.source.specs.Lines.{read_text}
use Rattle.names.specs.State.{Step}
use Rattle.std.specs.Prelude.{Ok, Err}
use Rattle.grammar.specs.Accepted.{TextAcceptable}
use Rattle.grammar.specs.Refused.{TextRefused}
use Rattle.grammar.proofs.Theorems.{accepts_decides, refuses_decides}
use Rattle.compiler.specs.Contract.{reader_refusal}
use Rattle.compiler.specs.Refused.{BookRefused, long, short, author}

-- The refusal r, if any, of a text for which buffers are lent.
pub record InOrder (Enough : Type 0) (text : List ℕ) (r : Option (Refusal × ℕ)) : Type 0 where
  pub first : text_limit < length text → r ≡ some (TextTooLong, 0)
  pub second : length text ≤ text_limit → (Enough → ⊥) → r ≡ some (BufferTooShort, 0)
  pub third : length text ≤ text_limit → Enough → r ≡ reader_refusal (read_text text).reading.step

-- two refusals that are one have the same number and place
pub same_refusal : {why how : Refusal} {p q : ℕ} → ◌≡◌ {A = Option (Refusal × ℕ)} (some (why, p)) (some (how, q)) → (why ≡ how) × (p ≡ q)
same_refusal {why} {how} {p} {q} h =
    let e : ◌≡◌ {A = Refusal × ℕ} (why, p) (how, q) = cc in
    ((λ i. (e i).0), (λ i. (e i).1))

-- ---- the reader's part

reader_accepts : (text : List ℕ) → reader_refusal (read_text text).reading.step ≡ none → TextAcceptable text
reader_accepts text h = go (read_text text).reading.step refl h
  where
    go : (s : Step) → (read_text text).reading.step ≡ s → reader_refusal s ≡ none → TextAcceptable text
    go (Ok (count, end)) e h = (accepts_decides text).0 record { count = count; end = end; read = e }
    go (Err f) e h = absurd cc

reader_refuses : (text : List ℕ) (p : ℕ) (why : Refusal) → reader_refusal (read_text text).reading.step ≡ some (why, p) → TextRefused text p why
reader_refuses text p why h = go (read_text text).reading.step refl h
  where
    go : (s : Step) → (read_text text).reading.step ≡ s → reader_refusal s ≡ some (why, p) → TextRefused text p why
    go (Ok (count, end)) e h = absurd cc
    go (Err f) e h = let (w, k) = same_refusal h in (refuses_decides text p why).0 (e ∙ (λ i. Err record { why = w i; place = k i }))

-- ---- the whole

module _ {Enough : Type 0} {text : List ℕ} {r : Option (Refusal × ℕ)} (o : InOrder Enough text r) (enough : Dec Enough) where
  -- which of the three it is
  by_cases : {X : Type 0} → (text_limit < length text → X) → (length text ≤ text_limit → (Enough → ⊥) → X) → (length text ≤ text_limit → Enough → X) → X
  by_cases f g h = elim (dec_le (length text) text_limit) [
    | yes le ↦ elim enough [ yes e ↦ h le e | no n ↦ g le n ]
    | no n ↦ f (omega arith)
  ]

  -- where it is a refusal, it is not none
  refuted : {X : Type 0} {x : Refusal × ℕ} → r ≡ none → r ≡ some x → X
  refuted h e = absurd cc

  pub in_order_accepts : (r ≡ none) ↔ (TextAcceptable text × Enough)
  in_order_accepts = (
    λ h. by_cases (λ l. refuted h (o.first l)) (λ l n. refuted h (o.second l n)) (λ l e. (reader_accepts text (sym (o.third l e) ∙ h), e)),
    λ a. o.third a.0.within.bytes a.1 ∙ ap reader_refusal ((accepts_decides text).1 a.0).read,
  )

  refused : {p : ℕ} {why : Refusal} → r ≡ some (why, p) → BookRefused Enough text p why
  refused {p} {why} h = by_cases
      (λ l. let (w, k) = same_refusal (sym (o.first l) ∙ h) in subst (BookRefused Enough text p) w (long l (sym k)))
      (λ l n. let (w, k) = same_refusal (sym (o.second l n) ∙ h) in subst (BookRefused Enough text p) w (short l n (sym k)))
      (λ l e. author l e (reader_refuses text p why (sym (o.third l e) ∙ h)))

  refuses : {p : ℕ} {why : Refusal} → BookRefused Enough text p why → r ≡ some (why, p)
  refuses (long l k) = o.first l ∙ rw k
  refuses (short l n k) = o.second l n ∙ rw k
  refuses {p} (author {why} l e t) = o.third l e ∙ ap reader_refusal ((refuses_decides text p why).1 t)

  pub in_order_refuses : (p : ℕ) (why : Refusal) → (r ≡ some (why, p)) ↔ BookRefused Enough text p why
  in_order_refuses p why = (refused, refuses)
