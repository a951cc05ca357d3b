-- The part that is due at the place of a refusal, in every text that begins in the same way.
--     ConceptPlace, RolePlace   a concept, or a role, is due at p behind the names that have been read
-- Assumes nothing.
use Prim.Native.Nat.{ℕ, ◌+◌, ◌≤◌}
use native.Mathlib.Omega.{arith}
use mathlib.Core.Path.{◌≡◌, refl, sym, ◌∙◌, ap, subst}
use mathlib.Core.List.{List, [], ◌∷◌, ◌++◌, append_assoc, Memᴰ}
use lib.ListN.{length, take, drop}
use lib.Seq.{length-take-le, take_at, drop_at}
use Rattle.semantics.specs.Numbering.{Names, no_names, number_taken, place_of, number_role, number_concept}
use Rattle.semantics.specs.Source.{star_byte, slash_byte, Word, Spelled, ConceptSyntax, star, dash, word, ampersand, slash, LineSyntax, lines_meant, concept_bytes, WellFormed, WellFormedLine}
use Rattle.semantics.proofs.Spelling.{Stops, spelled_end}
use Rattle.semantics.proofs.Gaps.{gap_stops}
use Rattle.grammar.proofs.SyntaxMeasures.{number_syntax}
use Rattle.words.specs.Bytes.{class_of}
use Rattle.forms.specs.Forms.{sign_form}
use Rattle.std.specs.Prelude.{Some}
use Rattle.forms.specs.declared.Form.TheVariants.{Top, Existential}
use Rattle.grammar.specs.Limits.{names_after}
use Rattle.grammar.specs.ViablePrefix.{ConceptDue, RoleDue, UpTo}
use Rattle.grammar.proofs.BytesAhead.{form_of, ahead_form}
use Rattle.grammar.proofs.Contexts.{AllOf, EndByte, lines, concept, role}
use Rattle.grammar.proofs.SameConcept.{each_apart, end_no_word, blank_after, reach_lines}
use Rattle.grammar.proofs.ReachedPlaces.{take_byte}
use Rattle.grammar.proofs.SamePrefix.{Splits, split_within, split_role, form_slash, tails}

pub each_of : {A : Type 0} (P : A → Type 0) (l : List A) → ((x : A) → Memᴰ x l → P x) → AllOf P l
each_of P [] h = tt
each_of P (x ∷ l) h = (h x (Memᴰ.head refl), each_of P l (λ y i. h y (Memᴰ.tail i)))

same_apart : (a b c d : List ℕ) → length a ≡ length b → a ++ c ≡ b ++ d → (a ≡ b) × (c ≡ d)
same_apart a b c d l e = (
  sym (take_at a c (length a) refl) ∙ ap (take (length a)) e ∙ take_at b d (length a) (sym l),
  sym (drop_at a c (length a) refl) ∙ ap (drop (length a)) e ∙ drop_at b d (length a) (sym l),
)

pub end_stops : (l : List ℕ) → AllOf EndByte l → Stops l
end_stops [] h = tt
end_stops (b ∷ l) h = end_no_word b h.0

-- ---- a concept

pub record ConceptPlace (text : List ℕ) (p : ℕ) (M : List LineSyntax) (m : ℕ) : Type 0 where
  pub names : Names
  pub deeper : ℕ
  pub depth : m ≡ 1 + deeper
  pub splits : Splits lines concept (take p text) no_names names deeper
  pub after : names_after (lines_meant M) ≡ names

top_form : (C : ConceptSyntax) → form_of C ≡ Some Top → C ≡ star
top_form star f = refl
top_form dash f = absurd cc
top_form (word w b) f = absurd cc
top_form (ampersand g C h D) f = absurd cc
top_form (slash r b g C) f = absurd cc

star_top : (C : ConceptSyntax) (t u : List ℕ) → WellFormed C → concept_bytes C ++ t ≡ star_byte ∷ u → C ≡ star
unfolding class_of sign_form
star_top C t u h e = top_form C (sym (ahead_form (star_byte ∷ u) 0 C t h (sym e)))

star_tail : (C : ConceptSyntax) (t u : List ℕ) → C ≡ star → concept_bytes C ++ t ≡ star_byte ∷ u → t ≡ u
unfolding concept_bytes
star_tail C t u e f = tails (rw e at f)

top_after : (C : ConceptSyntax) (n : Names) → C ≡ star → (number_syntax C n).after ≡ n
unfolding number_concept
top_after C n e = rw e

module _ {text : List ℕ} {p : ℕ} (inside : p ≤ length text) (b : UpTo text p) where
  words_of : AllOf WellFormedLine b.syntax
  words_of = each_of WellFormedLine b.syntax b.writes.well_formed

  plain_of : AllOf EndByte b.rest
  plain_of = each_of EndByte b.rest b.shortest

  pub concept_place : {m : ℕ} → ConceptDue p b.syntax b.put m → ConceptPlace text p b.syntax m
  concept_place {m} d =
      let r = reach_lines no_names words_of d.starts in
      let e : r.front ++ (concept_bytes r.tree ++ r.back) ≡ take p text ++ (star_byte ∷ b.rest) = sym r.spelled ∙ b.writes.spelled ∙ ap (λ k. take p text ++ (k ++ b.rest)) d.star in
      let (front, more) = same_apart r.front (take p text) _ _ (omega (arith, r.long, length-take-le p text inside)) e in
      let star = star_top r.tree r.back b.rest r.worded more in
      let back = star_tail r.tree r.back b.rest star more in
      record {
        names = r.names;
        deeper = r.deeper;
        depth = r.depth;
        splits = subst (λ w. Splits lines concept w no_names r.names r.deeper) front r.splits;
        after = r.after (rw back plain_of) ∙ top_after r.tree r.names star;
      }

-- ---- a role

pub record RolePlace (text : List ℕ) (p : ℕ) (M : List LineSyntax) (r : Word) : Type 0 where
  pub names : Names
  pub deeper : ℕ
  pub splits : Splits lines role (take p text) no_names names deeper
  pub after : names_after (lines_meant M) ≡ (number_role r names (place_of r names.roles)).1

-- the names behind a / whose role is put
role_after : (C : ConceptSyntax) (n : Names) {x : Word} (back put rest : List ℕ) → WellFormed C → Spelled x put → AllOf EndByte rest → concept_bytes C ++ back ≡ slash_byte ∷ (put ++ rest) →
    form_of C ≡ Some Existential → AllOf EndByte back × ((number_syntax C n).after ≡ (number_role x (number_taken n) (place_of x n.roles)).1)
unfolding concept_bytes number_concept
role_after star n back put rest w v h e f = absurd cc
role_after dash n back put rest w v h e f = absurd cc
role_after (word y b) n back put rest w v h e f = absurd cc
role_after (ampersand g C j D) n back put rest w v h e f = absurd cc
role_after (slash r b g C) n back put rest w v h e f =
    let d : b ++ (g ++ (concept_bytes C ++ back)) ≡ put ++ rest = simp append_assoc at (tails e) in
    let (same, spelling, more) = spelled_end w.0 v (gap_stops w.1 (concept_bytes C ++ back)) (end_stops rest h) d in
    let plain : AllOf EndByte (g ++ (concept_bytes C ++ back)) = subst (λ l. AllOf EndByte l) (sym more) h in
    let (x, y) = each_apart EndByte (concept_bytes C) back (each_apart EndByte g (concept_bytes C ++ back) plain).1 in
    (y, blank_after C (number_role r (number_taken n) (place_of r n.roles)).1 w.2 x ∙ ap (λ k. (number_role k (number_taken n) (place_of k n.roles)).1) same)

module _ {text : List ℕ} {p : ℕ} (inside : p ≤ length text) (b : UpTo text p) where
  pub role_place : (d : RoleDue text p b.syntax b.put) → RolePlace text p b.syntax d.role
  role_place d =
      let r = reach_lines no_names (words_of inside b) d.starts in
      let taken_to : take p text ≡ take d.sign text ++ (slash_byte ∷ []) = rw d.behind (take_byte text d.sign d.slash (omega arith)) in
      let e : r.front ++ (concept_bytes r.tree ++ r.back) ≡ take d.sign text ++ (slash_byte ∷ (b.put ++ b.rest)) =
      sym r.spelled ∙ b.writes.spelled ∙ ap (λ k. k ++ (b.put ++ b.rest)) taken_to ∙ append_assoc (take d.sign text) (slash_byte ∷ []) _ in
      let (front, more) = same_apart r.front (take d.sign text) _ _ (omega (arith, r.long, d.behind, length-take-le d.sign text (omega (arith, d.behind)))) e in
      let (back, names) = role_after r.tree r.names r.back b.put b.rest r.worded d.spelled (plain_of inside b) more
      (form_slash r.tree r.back (b.put ++ b.rest) r.worded more) in
      record {
        names = number_taken r.names;
        deeper = 1 + r.deeper;
        splits = subst (λ w. Splits lines role w no_names (number_taken r.names) (1 + r.deeper)) (ap (λ k. k ++ (slash_byte ∷ [])) front ∙ sym taken_to)
            (split_within r.splits (split_role r.names));
        after = r.after back ∙ names;
      }
