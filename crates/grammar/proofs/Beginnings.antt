-- What can begin at a place: a concept for each byte that can begin one, and a word.
-- Assumes nothing.
use Prim.Native.Nat.{ℕ, zero, suc, ◌+◌, ◌<◌}
use native.Mathlib.Omega.{arith}
use mathlib.Core.Path.{◌≡◌, refl, sym, ◌∙◌}
use mathlib.Core.Bool.{true, false≢true}
use mathlib.Core.List.Memᴰ
use mathlib.Core.List.{List, [], ◌∷◌, ◌++◌}
use lib.ListN.{drop}
use Rattle.semantics.specs.Source.{star_byte, word_byte, Word, IsWord, ConceptSyntax, star, dash, word, ampersand, slash, concept_bytes, WellFormed}
use Rattle.semantics.proofs.Spelling.{spelled_starts, spelled_plain, Spells, spells}
use Rattle.semantics.proofs.Gaps.{plain_gap, gap_plain}
use Rattle.words.specs.Bytes.{byte_at, word_length}
use Rattle.forms.specs.declared.Form.{Form}
use Rattle.std.specs.Prelude.{Option, Some, None}
use Rattle.forms.specs.declared.Form.TheVariants.{Top, Bottom, Name, Conjunction, Existential}
use Rattle.grammar.proofs.BytesAt.{byte_here, FormByte, word_here_lem, word_is, word_inside}

-- ---- words

-- a word, where any will do
abbrev pub any_word : Word
any_word = 97 ∷ []

pub any_word_lem : IsWord any_word
any_word_lem = record { nonempty = omega arith; bytes = λ c i. rw (Memᴰ.eq_of_singleton i) refl }

-- a word byte spells a word
pub one_spells : {b : ℕ} → word_byte b ≡ true → Spells (b ∷ [])
one_spells {b} e = spells (b ∷ []) (omega arith) (λ c i. rw (Memᴰ.eq_of_singleton i) e)

-- a word byte is not the 0 that stands past the end
pub word_byte_lem : (b : ℕ) → word_byte b ≡ true → 0 < b
word_byte_lem zero e = absurd (false≢true e)
word_byte_lem (suc b) e = omega arith

pub word_begins : (text : List ℕ) (at : ℕ) → 0 < word_length text at → word_byte (byte_at text at) ≡ true
word_begins text at h = spelled_starts (drop (at + word_length text at) text) (word_is text at h)
    (sym (word_here_lem text at) ∙ byte_here text at (omega (arith, word_inside text at h)))

-- ---- concepts

-- a concept can begin so
abbrev pub CanBegin : Option Form → Type 0
CanBegin (Some form) = Unit {0}
CanBegin None = ⊥

-- some concept begins with the byte
pub record Beginning (b : ℕ) : Type 0 where
  pub concept : ConceptSyntax
  pub words : WellFormed concept
  pub more : List ℕ
  pub text : concept_bytes concept ≡ b ∷ more
  pub inside : 0 < b

pub beginning : {b : ℕ} (f : Option Form) → FormByte f b → CanBegin f → Beginning b
unfolding concept_bytes
beginning (Some Top) e h = record { concept = star; words = tt; more = []; text = rw e; inside = omega arith }
beginning (Some Bottom) e h = record { concept = dash; words = tt; more = []; text = rw e; inside = omega arith }
beginning {b} (Some Name) e h = let w = one_spells e in record { concept = word w.word (b ∷ []); words = w.spelled; more = []; text = refl; inside = word_byte_lem b e }
beginning (Some Conjunction) e h = record {
  concept = ampersand plain_gap star plain_gap star;
  words = (gap_plain, tt, gap_plain, tt);
  more = plain_gap ++ (star_byte ∷ (plain_gap ++ (star_byte ∷ [])));
  text = rw e;
  inside = omega arith;
}
beginning (Some Existential) e h = record {
  concept = slash any_word any_word plain_gap star;
  words = (spelled_plain any_word_lem, gap_plain, tt);
  more = any_word ++ (plain_gap ++ (star_byte ∷ []));
  text = rw e;
  inside = omega arith;
}
beginning None e h = absurd h
