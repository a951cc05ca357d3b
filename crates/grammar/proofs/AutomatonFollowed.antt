-- The reader of a concept goes where the automaton goes, and refuses by 3 where it dies.
--     Follows   from a state at an offset: where the reading ends, another state is due; where it is refused by 3, the automaton dies;
--               of the other refusals it says nothing
-- Each step of reading follows, and so do two in a row (`follows_then`). By induction on the allowance.
-- Assumes nothing.
use Prim.Native.Nat.{ℕ, zero, suc, ◌+◌, ◌≤◌}
use native.Mathlib.Omega.{arith}
use mathlib.Core.Path.{◌≡◌, refl, ◌∙◌}
use mathlib.Core.Bool.{true}
use mathlib.Core.Option.{some}
use mathlib.Core.List.{List, ◌∷◌}
use lib.ListN.{length, drop}
use lib.Seq.{drop-drop}
use Rattle.semantics.proofs.Tests.{cases}
use Rattle.refusal.specs.Refusal.{refusal_number}
use Rattle.words.specs.Bytes.{byte_at, is_word_byte, word_length}
use Rattle.chains.specs.declared.Sort.TheVariants.{Concepts, Roles}
use Rattle.names.specs.Names.{with_left, and_then, take_number, read_word}
use Rattle.forms.specs.Forms.{form_at}
use Rattle.forms.specs.Opened.{after_space, open_conjunction, open_existential}
use Rattle.concepts.specs.Reader.{too_deep, read_sides, read_filler, read_form, read_concept}
use Rattle.forms.specs.declared.Form.{Form}
use Rattle.forms.specs.declared.Form.TheVariants.{Top, Bottom, Name, Conjunction, Existential}
use Rattle.names.specs.State.{State, Ending, Step}
use Rattle.std.specs.Prelude.{Ok, Err, Option, Some, None}
use Rattle.grammar.proofs.Automaton.{Due, concept, role, word_goes_on, space, opened, step, dies, dies_at, byte_taken, dies_word}
use Rattle.grammar.proofs.WordRuns.{run_more, run_none, run_inside, name_word}
use Rattle.grammar.proofs.ReaderCases.{and_then_cases, after_space_cases, take_number_cases, word_cases}

-- st is due where the reading starts, and st' where it ends.
abbrev pub Follows : List ℕ → List Due → ℕ → List Due → Step → Type 0
Follows text st at st' (Ok (x, next)) = (next ≤ length text) × (dies (drop at text) st ≡ dies (drop next text) st')
Follows text st at st' (Err r) = refusal_number r.why ≡ 3 → (r.place ≤ length text) × (dies (drop at text) st ≡ some (drop r.place text))

module _ (text : List ℕ) where
  pub follows_on : (st st' st'' : List Due) (at next : ℕ) (s : Step) → dies (drop at text) st ≡ dies (drop next text) st' →
      Follows text st' next st'' s → Follows text st at st'' s
  follows_on st st' st'' at next (Ok (x, end)) e h = (h.0, e ∙ h.1)
  follows_on st st' st'' at next (Err r) e h = λ w. ((h w).0, e ∙ (h w).1)

  pub follows_then : (st st' st'' : List Due) (at : ℕ) (r : Ending) (more : State → ℕ → ℕ → Ending) → Follows text st at st' r.step →
      ((names : State) (x next : ℕ) → next ≤ length text → Follows text st' next st'' (more names x next).step) →
      Follows text st at st'' (and_then r more).step
  follows_then st st' st'' at r more first second = and_then_cases (λ q. Follows text st at st'' q.step) r more
      (λ x next e.
      let h : Follows text st at st' (Ok (x, next)) = rw e at first in
      follows_on st st' st'' at next (more r.names x next).step h.1 (second r.names x next h.0))
      (λ why p e. rw e (let h : Follows text st at st' (Err record { why = why; place = p }) = rw e at first in h))

  -- ---- a space, a number, a word, a role

  pub follows_space : (st st'' : List Due) (names : State) (at : ℕ) (more : ℕ → Ending) → at ≤ length text →
      (at + 1 ≤ length text → Follows text st (at + 1) st'' (more (at + 1)).step) → Follows text (space ∷ st) at st'' (after_space text names at more).step
  unfolding step
  follows_space st st'' names at more i h = after_space_cases (λ q. Follows text (space ∷ st) at st'' q.step) text names at more
      (λ e.
      let (j, t) = byte_taken text at space st st (rw e) in
      follows_on (space ∷ st) st st'' at (at + 1) (more (at + 1)).step t (h j))
      (λ e w. (i, dies_at text at space st ∙ rw e))

  follows_number : (st st' : List Due) (names : State) (at : ℕ) → at + 1 ≤ length text → dies (drop at text) st ≡ dies (drop (at + 1) text) st' →
      Follows text st at st' (take_number names at).step
  follows_number st st' names at i e = take_number_cases (λ q. Follows text st at st' q.step) names at (λ _. (i, e)) (λ _ w. absurd (omega arith))

  -- a word's first byte, and the others to its end
  word_taken : (d e : Due) (st : List Due) (at : ℕ) → is_word_byte (byte_at text at) ≡ true → step (byte_at text at) (d ∷ e ∷ st) ≡ some (word_goes_on ∷ e ∷ st) →
      (at + word_length text at ≤ length text) × (dies (drop at text) (d ∷ e ∷ st) ≡ dies (drop (at + word_length text at) text) (e ∷ st))
  word_taken d e st at w h =
      let (i, t) = byte_taken text at d (e ∷ st) (word_goes_on ∷ e ∷ st) h in
      let n : at + word_length text at ≡ at + 1 + word_length text (at + 1) = omega (arith, run_more text at w) in
      (run_inside text at (omega arith), t ∙ dies_word (drop (at + 1) text) e st ∙ rw (drop-drop, n))

  follows_word : (d : Due) (st : List Due) (names : State) (at : ℕ) → form_at text at ≡ Some Name →
      Follows text (concept ∷ d ∷ st) at (d ∷ st) (read_word Concepts text names at).step
  unfolding step opened
  follows_word d st names at f =
      let (i, e) = word_taken concept d st at (name_word text at f) (rw f) in
      word_cases (λ q. Follows text (concept ∷ d ∷ st) at (d ∷ st) q.step) Concepts text names at
      (λ z. absurd (omega (arith, run_more text at (name_word text at f))))
      (λ _ w. absurd (omega arith))
      (λ _ _ n _. (i, e))
      (λ _ _ _. (λ _. (i, e), λ _ w. absurd (omega arith)))

  follows_role : (d : Due) (st : List Due) (names : State) (at : ℕ) → at ≤ length text →
      Follows text (role ∷ d ∷ st) at (d ∷ st) (read_word Roles text names at).step
  unfolding step
  follows_role d st names at i = cases (is_word_byte (byte_at text at))
      (λ h.
      let (j, e) = word_taken role d st at h (rw h) in
      word_cases P Roles text names at
      (λ z. absurd (omega (arith, run_more text at h)))
      (λ _ w. absurd (omega arith))
      (λ _ _ n _. (j, e))
      (λ _ _ _. (λ _. (j, e), λ _ w. absurd (omega arith))))
      (λ h.
      word_cases P Roles text names at
      (λ _ w. (i, dies_at text at role (d ∷ st) ∙ rw h))
      (λ _ w. absurd (omega arith))
      (λ z. absurd (omega (arith, run_none text at h)))
      (λ z. absurd (omega (arith, run_none text at h))))
    where
      P : Ending → Type 0
      P q = Follows text (role ∷ d ∷ st) at (d ∷ st) q.step

  -- ---- concepts

  -- the inner reader follows
  abbrev Inner : (State → ℕ → Ending) → Type 0
  Inner inner = (d : Due) (st : List Due) (names : State) (at : ℕ) → at ≤ length text → Follows text (concept ∷ d ∷ st) at (d ∷ st) (inner names at).step

  pub follows_sides : (inner : State → ℕ → Ending) → Inner inner → (d : Due) (st : List Due) (names : State) (at number : ℕ) → at ≤ length text →
      Follows text (concept ∷ space ∷ concept ∷ d ∷ st) at (d ∷ st) (read_sides inner text names at number).step
  unfolding read_sides
  follows_sides inner follows d st names at number i =
      follows_then (concept ∷ space ∷ concept ∷ d ∷ st) (space ∷ concept ∷ d ∷ st) (d ∷ st) at _ _ (follows space (concept ∷ d ∷ st) names at i)
      (λ names left next j. follows_space (concept ∷ d ∷ st) (d ∷ st) names next _ j
      (λ k. follows_then (concept ∷ d ∷ st) (d ∷ st) (d ∷ st) (next + 1) _ _ (follows d st (with_left names number left) (next + 1) k)
      (λ names right end l. (l, refl))))

  follows_form : (f : Option Form) (inner : State → ℕ → Ending) → Inner inner → (d : Due) (st : List Due) (names : State) (at : ℕ) → at ≤ length text →
      form_at text at ≡ f → Follows text (concept ∷ d ∷ st) at (d ∷ st) (read_form f inner text names at).step
  unfolding step opened read_form open_conjunction open_existential read_filler
  follows_form (Some Top) inner follows d st names at i f = byte_taken text at concept (d ∷ st) (d ∷ st) (rw f)
  follows_form (Some Bottom) inner follows d st names at i f = byte_taken text at concept (d ∷ st) (d ∷ st) (rw f)
  follows_form (Some Name) inner follows d st names at i f = follows_word d st names at f
  follows_form (Some Conjunction) inner follows d st names at i f =
      let σ : List Due = concept ∷ space ∷ concept ∷ d ∷ st in
      let (j, t) = byte_taken text at concept (d ∷ st) (space ∷ σ) (rw f) in
      follows_then (concept ∷ d ∷ st) σ (d ∷ st) at _ _
      (follows_then (concept ∷ d ∷ st) (space ∷ σ) σ at _ _ (follows_number (concept ∷ d ∷ st) (space ∷ σ) names at j t)
      (λ names number next k. follows_space σ σ names next _ k (λ l. (l, refl))))
      (λ names number next k. follows_sides inner follows d st names next number k)
  follows_form (Some Existential) inner follows d st names at i f =
      let σ : List Due = concept ∷ d ∷ st in
      let (j, t) = byte_taken text at concept (d ∷ st) (role ∷ space ∷ σ) (rw f) in
      follows_then σ σ (d ∷ st) at _ _
      (follows_then σ (role ∷ space ∷ σ) σ at _ _ (follows_number σ (role ∷ space ∷ σ) names at j t)
      (λ names number next k. follows_then (role ∷ space ∷ σ) (space ∷ σ) σ next _ _ (follows_role space σ names next k)
      (λ names role end l. follows_space σ σ names end _ l (λ m. (m, refl)))))
      (λ names number next k. follows_then σ (d ∷ st) (d ∷ st) next _ _ (follows d st names next k) (λ names right end l. (l, refl)))
  follows_form None inner follows d st names at i f = λ w. (i, dies_at text at concept (d ∷ st) ∙ rw f)

  -- no depth is left
  follows_deep : (f : Option Form) (d : Due) (st : List Due) (at : ℕ) → at ≤ length text → form_at text at ≡ f →
      Follows text (concept ∷ d ∷ st) at (d ∷ st) (Err record { why = too_deep f; place = at })
  unfolding step opened
  follows_deep (Some form) d st at i f = λ w. absurd (omega arith)
  follows_deep None d st at i f = λ w. (i, dies_at text at concept (d ∷ st) ∙ rw f)

  pub follows_concept : (allowance : ℕ) → Inner (read_concept allowance text)
  unfolding read_concept
  follows_concept zero d st names at i = follows_deep (form_at text at) d st at i refl
  follows_concept (suc allowance) d st names at i = follows_form (form_at text at) (read_concept allowance text) (follows_concept allowance) d st names at i refl
