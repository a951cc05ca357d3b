-- The table of byte classes: one equation of lists, for all bytes, is the rule at each. And examples of the formula. Assumes nothing.
use Prim.Native.Nat.{ℕ, zero, suc, ◌+◌, ◌<◌}
use native.Mathlib.Nat.{add-zero, zero-add, add-suc, suc-add, le_of_suc-le-suc, not-suc-le-zero}
use mathlib.Core.Path.{◌≡◌, refl, sym, ap, ◌∙◌}
use mathlib.Core.List.{List, [], ◌∷◌, map}
use lib.ListN.{length, get_or, length-map, get_or-map}
use Rattle.semantics.specs.Closure.{Kind, strict, defeasible, query, strict_query}
use Rattle.semantics.specs.Source.{star_byte, dash_byte, ampersand_byte, slash_byte, space_byte, line_feed, letter_byte}
use Rattle.words.specs.Bytes.{class_of}
use Rattle.words.specs.declared.ByteClass.TheVariants.{Word, Sign, Space, LineEnd, Other}
use Rattle.words.specs.Table.{byte_count, entry_class, values_from, ClassTable}

-- what a rule gives for so many numbers are so many, each in its place
module _ {X : Type 0} (rule : ℕ → X) where
  values_length : (first count : ℕ) → length (values_from rule first count) ≡ count
  unfolding values_from
  values_length first zero = refl
  values_length first (suc count) = ap suc (values_length (suc first) count)

  values_at : (first count k : ℕ) (none : X) → k < count → get_or (values_from rule first count) k none ≡ rule (first + k)
  unfolding values_from
  values_at first zero k none less = absurd (not-suc-le-zero less)
  values_at first (suc count) zero none less = ap rule (sym (add-zero first))
  values_at first (suc count) (suc k) none less = values_at (suc first) count k none (le_of_suc-le-suc less) ∙ ap rule (suc-add first k ∙ sym (add-suc first k))

-- the table has an entry for each byte, which stands for its class
module _ {table : List ℕ} (t : ClassTable table) where
  pub table_length : length table ≡ byte_count
  table_length = sym (length-map table entry_class) ∙ ap length t.agrees ∙ values_length class_of 0 byte_count

  pub table_class : (b : ℕ) → b < byte_count → entry_class (get_or table b 0) ≡ class_of b
  table_class b less =
      sym (get_or-map entry_class table b 0) ∙ ap (λ classes. get_or classes b (entry_class 0)) t.agrees ∙ values_at class_of 0 byte_count b (entry_class 0) less
      ∙ ap class_of (zero-add b)

-- a byte of each class
pub classes_hold : map class_of (97 ∷ 48 ∷ star_byte ∷ dash_byte ∷ ampersand_byte ∷ slash_byte ∷ space_byte ∷ line_feed ∷ []) ≡
    Word ∷ Word ∷ Sign ∷ Sign ∷ Sign ∷ Sign ∷ Space ∷ LineEnd ∷ []
unfolding class_of
classes_hold = refl

-- the letters of lines are none of these, and neither are # and a carriage return
pub letters_other : (kind : Kind) → class_of (letter_byte kind) ≡ Other
unfolding class_of
letters_other strict = refl
letters_other defeasible = refl
letters_other query = refl
letters_other strict_query = refl

pub others_hold : map class_of (35 ∷ 13 ∷ []) ≡ Other ∷ Other ∷ []
unfolding class_of
others_hold = refl
