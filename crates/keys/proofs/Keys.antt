-- The key of a settled text, as it is written: byte by byte, and what it comes to for the normal form of a text's lines.
-- Assumes nothing.
use Prim.Native.Nat.{ℕ, ◌+◌, ◌<◌, ◌≤◌}
use native.Mathlib.Omega.{arith}
use native.Mathlib.Numerals.{add-one}
use mathlib.Core.Path.{◌≡◌, refl, sym, ◌∙◌, ap, ap₂}
use mathlib.Core.Bool.{Bool, true, ◌||◌}
use mathlib.Core.List.{List, [], ◌∷◌, ◌++◌, map, append-nil, append_assoc}
use lib.ListN.{length, get_or, take, drop, length-take}
use lib.Seq.{take-suc, drop-drop, get_or-drop, length-take-le}
use lib.Dec.{eqb, leb}
use Rattle.std.proofs.lemmas.List.{nil_from_length}
use Rattle.semantics.specs.Closure.{Kind, strict, defeasible, query, strict_query, is_question, Line, line, keep_if, yes_bit}
use Rattle.semantics.specs.Numbering.{Names, number_concept, number_lines}
use Rattle.semantics.specs.Row.{simple, number_size, role_size, query_kind, strict_query_kind, kind_number, pack, kind_of, Below}
use Rattle.semantics.specs.Source.{Word}
use Rattle.semantics.proofs.Compiling.{packed_kind}
use Rattle.semantics.specs.Replies.{replies_in}
use Rattle.semantics.proofs.Packing.{below_first, below_others}
use Rattle.semantics.proofs.Tests.{cases}
use Rattle.copying.specs.Written.{Appended}
use Rattle.copying.proofs.Writing.{appended_append}
use Rattle.sheets.specs.Sheets.{answer_byte}
use Rattle.keys.specs.Key.{reply_to, key_bytes, key_of}

-- ---- one more line

key_append : (words more results : List ℕ) → key_bytes (words ++ more) results ≡ key_bytes words results ++ key_bytes more (drop (length words) results)
unfolding key_bytes
key_append [] more results = refl
key_append (w ∷ words) more results =
    let own = reply_to (kind_of w) (get_or results 0 0) in
    let e : 1 + length words ≡ length (w ∷ words) = omega arith in
    let rest = drop-drop (length words) 1 results ∙ ap (λ n. drop n results) e in
    ap (λ l. own ++ l) (key_append words more (drop 1 results) ∙ ap (λ l. key_bytes words (drop 1 results) ++ key_bytes more l) rest) ∙
    sym (append_assoc own (key_bytes words (drop 1 results)) (key_bytes more (drop (length (w ∷ words)) results)))

key_more : (i : ℕ) (words results : List ℕ) → i < length words → key_of (i + 1) words results ≡ key_of i words results ++ reply_to (kind_of (get_or words i 0)) (get_or results i 0)
unfolding key_bytes
key_more i words results lt =
    let w = get_or words i 0 in
    let first : take (i + 1) words ≡ take i words ++ (w ∷ []) = rw add-one (take-suc words i 0 lt) in
    let place : length (take i words) + 0 ≡ i = omega (arith, length-take-le i words (omega arith)) in
    ap (λ l. key_bytes l results) first ∙ key_append (take i words) (w ∷ []) results ∙
    ap (λ l. key_of i words results ++ l) (append-nil (reply_to (kind_of w) (get_or (drop (length (take i words)) results) 0 0)) ∙
    ap (reply_to (kind_of w)) (get_or-drop (length (take i words)) results 0 0 ∙ ap (λ n. get_or results n 0) place))

-- Of the whole key what stands at the start is written, and the rest is that of the other rows and results.
pub record Keying (all words results key₀ key : List ℕ) (count : ℕ) : Type 0 where
  pub done : List ℕ
  pub written : Appended done 0 key₀ key count
  pub rest : all ≡ done ++ key_bytes words results
  pub paired : length words ≤ length results
  pub room : count + length words ≤ length key

-- a line adds one byte at most
reply_few : (kind result : ℕ) → length (reply_to kind result) ≤ 1
reply_few kind result = cases (eqb kind query_kind || eqb kind strict_query_kind) (λ e. rw e (omega arith)) (λ e. rw e (omega arith))

module _ {all words results key₀ key : List ℕ} {count : ℕ} (k : Keying all words results key₀ key count) where
  pub keying_more : {w r count' : ℕ} {words' results' key' : List ℕ} → words ≡ w ∷ words' → results ≡ r ∷ results' → Appended (reply_to (kind_of w) r) count key key' count' →
      Keying all words' results' key₀ key' count'
  unfolding key_bytes
  keying_more {w} {r} e f a =
      let own = reply_to (kind_of w) r in
      record {
        done = k.done ++ own;
        written = appended_append k.written a;
        rest = rw (e, f) at k.rest ∙ sym (append_assoc k.done own _);
        paired = omega (arith, k.paired, ap length e, ap length f);
        room = omega (arith, k.room, ap length e, a.ends, a.length_kept, reply_few (kind_of w) r);
      }

  pub keying_all : length words ≡ 0 → Appended all 0 key₀ key count
  unfolding key_bytes
  keying_all e = rw (k.rest, nil_from_length words e, append-nil k.done) k.written

-- ---- the whole key

-- What is appended from the start on is the first part.
pub record FirstPart (found old new : List ℕ) (end : ℕ) : Type 0 where
  pub counted : end ≡ length found
  pub first : take end new ≡ found
  pub fits : end ≤ length old

pub first_part : {found old new : List ℕ} {end : ℕ} → Appended found 0 old new end → FirstPart found old new end
first_part {found} {old} {new} {end} a =
    let counted : end ≡ length found = omega (arith, a.ends) in
    record { counted = counted; first = a.written; fits = omega (arith, counted, ap length a.written, length-take end new, a.length_kept) }

-- ---- the key of a text

-- what is written for a line is what its kind asks for
reply_kind : (k : Kind) (r : ℕ) (key : List Bool) → reply_to (kind_number k) r ++ map answer_byte key ≡ map answer_byte (keep_if (is_question k) (leb (yes_bit true) r) key)
reply_kind strict r key = refl
reply_kind defeasible r key = refl
reply_kind query r key = refl
reply_kind strict_query r key = refl

module _ {N R : ℕ} (n : N ≤ number_size) (m : R ≤ role_size) where
  pub key_lines : (ls : List (Line Word Word)) (names : Names) → Below N R (number_lines ls names).line_rows → (rs : List ℕ) → length ls ≤ length rs →
      key_bytes (map pack (number_lines ls names).line_rows) rs ≡ map answer_byte (replies_in ls rs)
  unfolding number_lines key_bytes replies_in
  key_lines [] names b rs le = refl
  key_lines (l ∷ ls) names b [] le = absurd (omega arith)
  key_lines (line k C D ∷ ls) names b (r ∷ rs) le =
      let c = number_concept C names in
      let d = number_concept D c.after in
      let kind : kind_of (pack (simple k c.number d.number)) ≡ kind_number k = packed_kind n m (simple k c.number d.number) (below_first b) in
      ap₂ (λ k key. reply_to k r ++ key) kind (key_lines ls d.after (below_others b) rs (omega arith)) ∙ reply_kind k r (replies_in ls rs)
