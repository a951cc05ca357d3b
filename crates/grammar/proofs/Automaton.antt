-- The grammar of a text, with words of any length and concepts of any depth, as an automaton with a stack that takes a byte at a time.
--     Due     what must come next; a state is the list of all that is due to the end of the line, [] between lines
--     step    the state after a byte, if the grammar can have that byte
--     dies    what is left of a text where it can't go on; `some []` where the text ends inside a line; `none` where it ends between lines
-- It sorts bytes as the reader does. `dies_local`: where it dies depends on the bytes up to there and that one, and on none behind them.
-- Assumes nothing.
use Prim.Native.Nat.{ℕ, zero, suc, ◌+◌, ◌<◌, ◌≤◌}
use native.Mathlib.Omega.{arith}
use native.Mathlib.Numerals.{add-one}
use mathlib.Core.Path.{◌≡◌, refl, ◌∙◌, ap}
use mathlib.Core.Bool.{cond}
use mathlib.Core.Option.{Option, none, some, none-ne-some, some-ne-none, some-injective}
use mathlib.Core.List.{List, [], ◌∷◌, ◌++◌}
use lib.ListN.{length, take, drop, drop_of_length-le, get_or-eq_default}
use lib.Dec.{eqb, leb}
use lib.Seq.{drop-cons}
use borrow.Author.Tests.{leb-true, leb-false}
use Rattle.semantics.proofs.Tests.{cases}
use Rattle.words.specs.Bytes.{byte_at, class_of, is_word_byte, is_space_class, is_line_end, word_run}
use Rattle.source.specs.Lines.{line_kind}
use Rattle.forms.specs.Forms.{class_form}
use Rattle.forms.specs.declared.Form.{Form}
use Rattle.std.specs.Prelude.{Option as Perhaps, Some, None}
use Rattle.forms.specs.declared.Form.TheVariants.{Top, Bottom, Name, Conjunction, Existential}

pub data Due : Type 0 where
  concept : Due
  role : Due
  word_goes_on : Due  -- a word goes on or ends
  space : Due
  line_end : Due

-- what is due after the first byte of a concept
unfoldable pub opened : Perhaps Form → List Due → Option (List Due)
opened (Some Top) st = some st
opened (Some Bottom) st = some st
opened (Some Name) st = some (word_goes_on ∷ st)
opened (Some Conjunction) st = some (space ∷ concept ∷ space ∷ concept ∷ st)
opened (Some Existential) st = some (role ∷ space ∷ concept ∷ st)
opened None st = none

unfoldable pub step : ℕ → List Due → Option (List Due)
step b [] = cond (eqb (line_kind b) 0) none (some (space ∷ concept ∷ space ∷ concept ∷ line_end ∷ []))
step b (concept ∷ st) = opened (class_form (class_of b) b) st
step b (role ∷ st) = cond (is_word_byte b) (some (word_goes_on ∷ st)) none
step b (word_goes_on ∷ st) = cond (is_word_byte b) (some (word_goes_on ∷ st)) (step b st)
step b (space ∷ st) = cond (is_space_class (class_of b)) (some st) none
step b (line_end ∷ st) = cond (is_line_end b) (some st) none

-- goes on where there is a step, and otherwise leaves the text
abbrev pub or_dies : Option (List Due) → (List Due → Option (List ℕ)) → List ℕ → Option (List ℕ)
or_dies none more left = some left
or_dies (some st) more left = more st

unfoldable pub dies : List ℕ → List Due → Option (List ℕ)
dies [] [] = none
dies [] (d ∷ st) = some []
dies (b ∷ s) st = or_dies (step b st) (λ st'. dies s st') (b ∷ s)

-- ---- one byte

-- There is no step at 0, which stands past the end.
end_step : (st : List Due) → step 0 st ≡ none
unfolding step opened class_of line_kind
end_step [] = refl
end_step (concept ∷ st) = refl
end_step (role ∷ st) = refl
end_step (word_goes_on ∷ st) = end_step st
end_step (space ∷ st) = refl
end_step (line_end ∷ st) = refl

module _ (text : List ℕ) (at : ℕ) where
  pub dies_inside : (st : List Due) → at < length text →
      dies (drop at text) st ≡ or_dies (step (byte_at text at) st) (dies (drop (at + 1) text)) (drop at text)
  unfolding dies
  dies_inside st h = rw (add-one, drop-cons text at 0)

  -- Inside a line the end is as good as a byte.
  pub dies_at : (d : Due) (st : List Due) →
      dies (drop at text) (d ∷ st) ≡ or_dies (step (byte_at text at) (d ∷ st)) (dies (drop (at + 1) text)) (drop at text)
  unfolding dies
  dies_at d st = cases (leb (length text) at)
      (λ e.
      let h : length text ≤ at = leb-true (length text) at e in
      rw (get_or-eq_default text 0 h, end_step, drop_of_length-le text h))
      (λ e. dies_inside (d ∷ st) (leb-false (length text) at e))

  step_inside : (st st' : List Due) → step (byte_at text at) st ≡ some st' → at < length text
  step_inside st st' h = cases (leb (length text) at)
      (λ e. absurd (cc (get_or-eq_default text 0 (leb-true (length text) at e), end_step st)))
      (leb-false (length text) at)

  pub byte_taken : (d : Due) (st st' : List Due) → step (byte_at text at) (d ∷ st) ≡ some st' →
      (at + 1 ≤ length text) × (dies (drop at text) (d ∷ st) ≡ dies (drop (at + 1) text) st')
  byte_taken d st st' h = (omega (arith, step_inside (d ∷ st) st' h), dies_at d st ∙ rw h)

-- ---- words

-- A word ends where its bytes end.
pub dies_word : (s : List ℕ) (d : Due) (st : List Due) → dies s (word_goes_on ∷ d ∷ st) ≡ dies (drop (word_run s) s) (d ∷ st)
unfolding dies step word_run
dies_word [] d st = refl
dies_word (b ∷ s) d st = cases (is_word_byte b) (λ e. rw e (dies_word s d st)) (λ e. rw e)

-- ---- where it dies

dies_shorter : (s : List ℕ) (st : List Due) (u : List ℕ) → dies s st ≡ some u → length u ≤ length s
unfolding dies
dies_shorter [] [] u h = absurd (none-ne-some u h)
dies_shorter [] (d ∷ st) u h = omega (arith, ap length (some-injective [] u h))
dies_shorter (b ∷ s) st u h = go (step b st) (λ st'. dies_shorter s st' u) h
  where
    go : (o : Option (List Due)) → ((st' : List Due) → dies s st' ≡ some u → length u ≤ length s) →
        or_dies o (λ st'. dies s st') (b ∷ s) ≡ some u → length u ≤ suc (length s)
    go none shorter e = omega (arith, ap length (some-injective (b ∷ s) u e))
    go (some st') shorter e = omega (arith, shorter st' e)

pub dies_local : (text : List ℕ) (p : ℕ) (st : List Due) (rest : List ℕ) → p < length text → dies text st ≡ some (drop p text) →
    dies (take (suc p) text ++ rest) st ≡ none → ⊥
unfolding dies
dies_local [] p st rest i h k = absurd (omega arith)
dies_local (b ∷ s) zero st rest i h k = go (step b st) h k
  where
    go : (o : Option (List Due)) → or_dies o (λ st'. dies s st') (b ∷ s) ≡ some (b ∷ s) → or_dies o (λ st'. dies rest st') (b ∷ rest) ≡ none → ⊥
    go none e f = some-ne-none _ f
    go (some st') e f = omega (arith, dies_shorter s st' (b ∷ s) e)
dies_local (b ∷ s) (suc p) st rest i h k = go (step b st) (λ st'. dies_local s p st' rest (omega arith)) h k
  where
    go : (o : Option (List Due)) → ((st' : List Due) → dies s st' ≡ some (drop p s) → dies (take (suc p) s ++ rest) st' ≡ none → ⊥) →
        or_dies o (λ st'. dies s st') (b ∷ s) ≡ some (drop p s) →
        or_dies o (λ st'. dies (take (suc p) s ++ rest) st') (b ∷ take (suc p) s ++ rest) ≡ none → ⊥
    go none later e f = some-ne-none _ f
    go (some st') later e f = later st' e f
