-- What holds of every call, by its shape.
--     OneWay          what is accepted is not refused, and what is refused has one refusal and one place
--     call_decided    a call is accepted or refused, and which
--     call_accepted   where it returns 0, the counts of its promise stand in its last slice
--     call_follows    what it then wrote follows from what it was given
--     call_unique     where the promise has one outcome, the call has
-- Assumes nothing.
use Prim.Native.Nat.{ℕ, ◌≤◌}
use native.Mathlib.Omega.{arith}
use mathlib.Core.Path.{◌≡◌, sym, ◌∙◌, ap, subst}
use mathlib.Core.Option.{Option, none, some}
use mathlib.Core.List.{List, ◌++◌}
use mathlib.Core.Logic.{◌↔◌, inl, inr}
use lib.ListN.{length, get_or, drop}
use Rattle.std.specs.Prelude.{Result, Ok, Err}
use Rattle.semantics.specs.Limits.{answer_limit}
use Rattle.refusal.specs.Refusal.{refusal_number}
use Rattle.refusal.specs.declared.Refusal.{Refusal}
use Rattle.refusal.specs.declared.Refused.{Refused}
use Rattle.refusal.specs.declared.Refusal.TheVariants.{BufferTooShort}
use Rattle.refusal.proofs.Refusals.{refusal_number_injective, refusal_number_nonzero}
use Rattle.reports.specs.Reports.{Outcome, accepted, refused, code_of, values_of, outcome_of, Reported}
use Rattle.engine.specs.Calls.{Call, too_short, answered}
use Rattle.engine.specs.Refused.{Decided}

-- ---- accepted or refused

-- Nothing is accepted and refused, and nothing is refused in two ways.
pub record OneWay (Free : Type 0) (By : ℕ → Refusal → Type 0) : Type 0 where
  pub exclusive : Free → (p : ℕ) (why : Refusal) → By p why → ⊥
  pub one : (p q : ℕ) (why how : Refusal) → By p why → By q how → (why ≡ how) × (p ≡ q)

none_or_some : {X : Type 0} {r : Option X} {x : X} → r ≡ none → r ≡ some x → ⊥
none_or_some h e = absurd cc

same : {X : Type 0} {r : Option (X × ℕ)} {x y : X} {p q : ℕ} → r ≡ some (x, p) → r ≡ some (y, q) → (x ≡ y) × (p ≡ q)
same {X} {x} {y} {p} {q} h e = let s : ◌≡◌ {A = X × ℕ} (x, p) (y, q) = cc in ((λ i. (s i).0), (λ i. (s i).1))

-- So it is where a refusal r, which names a refusal by `name`, is computed.
pub computed_one_way : {X Free : Type 0} {By : ℕ → Refusal → Type 0} (name : Refusal → X) {r : Option (X × ℕ)} → ((why how : Refusal) → name why ≡ name how → why ≡ how) →
    (r ≡ none) ↔ Free → ((p : ℕ) (why : Refusal) → (r ≡ some (name why, p)) ↔ By p why) → OneWay Free By
computed_one_way name injective accepts refuses = record {
  exclusive = λ f p why b. none_or_some (accepts.1 f) ((refuses p why).1 b);
  one = λ p q why how b b'. let (n, e) = same ((refuses p why).1 b) ((refuses q how).1 b') in (injective why how n, e);
}

-- The outcome is accepted where what was given is, and else refused as it is, with everything kept.
abbrev pub Tells : Type 0 → (ℕ → Refusal → Type 0) → Type 0 → Outcome → Type 0
Tells Free By Kept (accepted counts) = Free
Tells Free By Kept (refused why place) = By place why × Kept

module _ {Free Kept : Type 0} {By : ℕ → Refusal → Type 0} (way : OneWay Free By) {answer₀ answer : List ℕ} {result : ℕ} where
  outcome_decided : answer_limit ≤ length answer₀ → (o : Outcome) → Tells Free By Kept o → Reported o answer₀ answer result → Decided Free By Kept answer₀ answer result
  outcome_decided le (accepted counts) h w = record {
    short = λ lt. absurd (omega arith);
    accepts = λ _. ((λ z. h), (λ f. w.returned));
    refuses = λ _ p why b. absurd (way.exclusive h p why b);
    refused = λ _ why n. absurd (refusal_number_nonzero why (sym n ∙ w.returned));
    either = inl w.returned;
  }
  outcome_decided le (refused how q) (h, k) w = record {
    short = λ lt. absurd (omega arith);
    accepts = λ _. ((λ z. absurd (refusal_number_nonzero how (sym w.returned ∙ z))), (λ f. absurd (way.exclusive f q how h)));
    refuses = λ _ p why b.
        let (s, e) = way.one q p how why h b in
        (record { returned = w.returned ∙ ap refusal_number s; written = w.written ∙ rw e }, k);
    refused = λ _ why n.
        let s : how ≡ why = refusal_number_injective how why (sym w.returned ∙ n) in
        let e : q ≡ get_or answer 0 0 = ap (λ l. get_or l 0 0) (sym w.written) in
        subst (λ p. By p why) e (subst (λ f. By q f) s h);
    either = inr (how, w.returned);
  }

  pub call_decided : {A : Type 0} {Promise : A → Type 0} {outcome : A → Outcome} → ((a : A) → Promise a → Tells Free By Kept (outcome a)) →
      Call Kept Promise outcome answer₀ answer result → Decided Free By Kept answer₀ answer result
  call_decided told (too_short l n k a) = record {
    short = λ _. (n, a, k);
    accepts = λ le. absurd (omega arith);
    refuses = λ le p why b. absurd (omega arith);
    refused = λ le why m. absurd (omega arith);
    either = inr (BufferTooShort, n);
  }
  call_decided {outcome} told (answered a l p w) = outcome_decided l (outcome a) (told a p) w

-- ---- accepted

-- `values` lists what an answer counts, and `read` finds it in a slice that begins with that list.
module _ {A : Type 0} (values : A → List ℕ) (read : List ℕ → A) (found : (a : A) (rest : List ℕ) → a ≡ read (values a ++ rest)) where
  back : (r : Result A Refused) (rest : List ℕ) → code_of (outcome_of values r) ≡ 0 → r ≡ Ok (read (values_of (outcome_of values r) ++ rest))
  back (Ok a) rest z = ap Ok (found a rest)
  back (Err e) rest z = absurd (refusal_number_nonzero e.why z)

  pub call_accepted : {Kept : Type 0} {Promise : Result A Refused → Type 0} {answer₀ answer : List ℕ} → Call Kept Promise (outcome_of values) answer₀ answer 0 → Promise (Ok (read answer))
  call_accepted (too_short l n k a) = absurd (omega arith)
  call_accepted {Promise} {answer₀} (answered r l p w) =
      subst Promise (back r (drop (length (values_of (outcome_of values r))) answer₀) (sym w.returned) ∙ ap (λ l. Ok (read l)) (sym w.written)) p

  -- whatever was lent for them, what two accepted calls wrote follows from what both were given, where that follows for what they promise
  pub call_follows : {Kept Kept' : Type 0} {Promise Promise' : Result A Refused → Type 0} {Same : A → A → Type 0} {answer₀ answer answer₁ answer' : List ℕ} →
      ((a a' : A) → Promise (Ok a) → Promise' (Ok a') → Same a a') →
      Call Kept Promise (outcome_of values) answer₀ answer 0 → Call Kept' Promise' (outcome_of values) answer₁ answer' 0 → Same (read answer) (read answer')
  call_follows follows c d = follows _ _ (call_accepted c) (call_accepted d)

-- ---- one outcome

module _ {A Kept Kept' Same : Type 0} {Promise Promise' : A → Type 0} {outcome : A → Outcome} {answer₀ answer answer' : List ℕ} {result result' : ℕ} where
  pub call_unique : (Kept → Kept' → Same) → ((a a' : A) → Promise a → Promise' a' → (a ≡ a') × Same) →
      Call Kept Promise outcome answer₀ answer result → Call Kept' Promise' outcome answer₀ answer' result' → (result ≡ result') × (answer ≡ answer') × Same
  call_unique kept same (too_short l n k a) (too_short l' n' k' a') = (n ∙ sym n', a ∙ sym a', kept k k')
  call_unique kept same (too_short l n k a) (answered b l' p' w') = absurd (omega arith)
  call_unique kept same (answered b l p w) (too_short l' n' k' a') = absurd (omega arith)
  call_unique kept same (answered b l p w) (answered b' l' p' w') =
      let (e, s) = same b b' p p' in (
        w.returned ∙ ap (λ a. code_of (outcome a)) e ∙ sym w'.returned,
        w.written ∙ ap (λ a. values_of (outcome a) ++ drop (length (values_of (outcome a))) answer₀) e ∙ sym w'.written,
        s,
      )
