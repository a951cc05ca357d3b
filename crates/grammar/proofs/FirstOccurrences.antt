-- The start of a word's number is where the word first stands.
--     Placed   so far: each word that has stood has a number, and each number's start is its word's first place
-- Assumes nothing.
use Prim.Native.Nat.{ℕ, ◌+◌, ◌<◌, ◌≤◌}
use native.Mathlib.Omega.{arith}
use mathlib.Core.Path.{◌≡◌, refl, sym, ◌∙◌, ap}
use mathlib.Core.Bool.{false}
use mathlib.Core.Option.{Option, none, some}
use mathlib.Core.List.{List, [], ◌∷◌, ◌++◌}
use lib.ListN.{length, get_or, drop, length-drop, length-append}
use lib.Dec.{eqb}
use borrow.Author.Tests.{eqb-true, eqb-false}
use Rattle.semantics.specs.Limits.{number_limit}
use Rattle.semantics.specs.Numbering.{same_word, lookup}
use Rattle.semantics.specs.Source.{Word}
use Rattle.semantics.proofs.Lookup.{same_word_lem, word_same}
use Rattle.semantics.proofs.Tests.{cases}
use Rattle.chains.specs.declared.Sort.TheVariants.{Concepts}
use Rattle.names.specs.Names.{no_numbers, sign_taken, word_taken}
use Rattle.names.specs.State.{State, next_concept}
use Rattle.grammar.specs.Occurrences.{first_occurrence}
use Rattle.grammar.specs.StateNames.{word_at, word_of, state_names}
use Rattle.grammar.proofs.StateNames.{Valid}
use Rattle.grammar.proofs.ValidStates.{listed_other, listed_start, listed_length, names_word, names_sign}

-- ---- the first occurrence of a word

some_none : {x : ℕ} {X : Type 0} → ◌≡◌ {A = Option ℕ} (some x) none → X
some_none h = absurd cc

pub first_kept : (w : Word) (l m : List (Word × ℕ)) {o : ℕ} → first_occurrence w l ≡ some o → first_occurrence w (l ++ m) ≡ some o
unfolding lookup
first_kept w [] m h = some_none (sym h)
first_kept w (e ∷ l) m h = cases (same_word w e.0)
    (λ t. rw t (rw t at h))
    (λ t. rw t (first_kept w l m (rw t at h)))

pub first_later : (w : Word) (l m : List (Word × ℕ)) → first_occurrence w l ≡ none → first_occurrence w (l ++ m) ≡ first_occurrence w m
unfolding lookup
first_later w [] m h = refl
first_later w (e ∷ l) m h = cases (same_word w e.0)
    (λ t. some_none (rw t at h))
    (λ t. rw t (first_later w l m (rw t at h)))

first_other : (w v : Word) (o : ℕ) → same_word w v ≡ false → first_occurrence w ((v, o) ∷ []) ≡ none
unfolding lookup
first_other w v o t = rw t

first_same : (w : Word) (o : ℕ) → first_occurrence w ((w, o) ∷ []) ≡ some o
unfolding lookup
first_same w o = rw (word_same w)

unnumbered : (u w : Word) (k : ℕ) (l : List (Word × ℕ)) → lookup u ((w, k) ∷ l) ≡ none → (same_word u w ≡ false) × (lookup u l ≡ none)
unfolding lookup
unnumbered u w k l h = cases (same_word u w) (λ t. some_none (rw t at h)) (λ t. (t, rw t at h))

-- ---- placed

pub record Placed (text : List ℕ) (s : State) (occurrences : List (Word × ℕ)) : Type 0 where
  pub numbered : (w : Word) → lookup w (state_names text s).words ≡ none → first_occurrence w occurrences ≡ none
  pub first : (n : ℕ) → n < next_concept s → 0 < get_or (s.lists Concepts).lengths n 0 →
      first_occurrence (word_of text (s.lists Concepts) n) occurrences ≡ some (get_or (s.lists Concepts).starts n 0)

zeros : (n : ℕ) → 0 < get_or (no_numbers.lists Concepts).lengths n 0 → n < (no_numbers.lists Concepts).used → ⊥
unfolding no_numbers
zeros n h l = cases (eqb n 0)
    (λ t. let e = eqb-true n 0 t in absurd (omega (arith, rw e at h)))
    (λ t. let e : n ≡ 1 = omega (arith, eqb-false n 0 t) in absurd (omega (arith, rw e at h)))

pub placed_none : (text : List ℕ) → Placed text no_numbers []
unfolding lookup
placed_none text = record { numbered = λ w h. refl; first = λ n l h. absurd (zeros n h l) }

module _ (text : List ℕ) (s : State) (occurrences : List (Word × ℕ)) (p : Placed text s occurrences) where
  -- a word that has a number stands once more
  pub placed_known : (w : Word) (at : ℕ) {x : ℕ} → lookup w (state_names text s).words ≡ some x → Placed text s (occurrences ++ (w, at) ∷ [])
  placed_known w at {x} old = record {
    numbered = λ v h. first_later v occurrences ((w, at) ∷ []) (p.numbered v h) ∙ cases (same_word v w)
        (λ t. let e = same_word_lem v w t in some_none (sym old ∙ rw e at h))
        (λ t. first_other v w at t);
    first = λ n l h. first_kept (word_of text (s.lists Concepts) n) occurrences ((w, at) ∷ []) (p.first n l h);
  }

  -- the next number goes to a word that has none
  pub placed_new : (at size : ℕ) → Valid text s → next_concept s < number_limit → 0 < size → lookup (word_at text at size) (state_names text s).words ≡ none →
      Placed text (word_taken Concepts text s at size) (occurrences ++ (word_at text at size, at) ∷ [])
  placed_new at size v room long new =
      let w = word_at text at size in
      let words = ap (λ m. m.words) (names_word text s at size v room long) in
      let starts = listed_start (s.lists Concepts) at size v.concepts room in
      let lengths = listed_length (s.lists Concepts) at size v.concepts room in
      record {
        numbered = λ u h.
            let (t, q) = unnumbered u w (next_concept s) (state_names text s).words (sym (ap (lookup u) words) ∙ h) in
            first_later u occurrences ((w, at) ∷ []) (p.numbered u q) ∙ first_other u w at t;
        first = λ n l h. cases (eqb n (next_concept s))
            (λ t. rw (eqb-true n (next_concept s) t, starts, lengths) (first_later w occurrences ((w, at) ∷ []) (p.numbered w new) ∙ first_same w at))
            (λ t.
            let e = eqb-false n (next_concept s) t in
            let (a, b) = listed_other (s.lists Concepts) at size n e in
            rw (a, b) (first_kept (word_of text (s.lists Concepts) n) occurrences ((w, at) ∷ []) (p.first n (omega arith) (rw b at h))));
      }

  -- a state that has the same words in the same places
  pub placed_same : (t : State) → (state_names text t).words ≡ (state_names text s).words →
      ((n : ℕ) → n < next_concept t → 0 < get_or (t.lists Concepts).lengths n 0 →
      (n < next_concept s) × (get_or (t.lists Concepts).starts n 0 ≡ get_or (s.lists Concepts).starts n 0) × (get_or (t.lists Concepts).lengths n 0 ≡ get_or (s.lists Concepts).lengths n 0)) →
      Placed text t occurrences
  placed_same t words same = record {
    numbered = λ w h. p.numbered w (rw words at h);
    first = λ n l h. let (m, a, b) = same n l h in rw (a, b) (p.first n m (rw b at h));
  }

-- what stands between two offsets ends at the second
pub ends_at : (text : List ℕ) (at next : ℕ) (l : List ℕ) → at < next → next ≤ length text → drop at text ≡ l ++ drop next text → next ≡ at + length l
ends_at text at next l a b e = omega (arith, length-drop at text, length-drop next text, length-append l (drop next text), ap length e)

-- an & or a / takes the next number
pub placed_sign : (text : List ℕ) (s : State) (at : ℕ) (occurrences : List (Word × ℕ)) → Valid text s → next_concept s < number_limit → Placed text s occurrences →
    Placed text (sign_taken s at) occurrences
placed_sign text s at occurrences v room p =
    placed_same text s occurrences p (sign_taken s at) (ap (λ m. m.words) (names_sign text s at v room)) λ n l h.
    let other : n ≡ next_concept s → ⊥ = λ e. omega (arith, rw (e, listed_length (s.lists Concepts) at 0 v.concepts room) at h) in
    let (a, b) = listed_other (s.lists Concepts) at 0 n other in
    (omega (arith, other), a, b)
