-- What exceeds a limit at a place stands in no lines within the limits.
--     BoundedTo   lines within the limits, and no concept too deep at the place
--     AgreesAt    the bytes ahead have the byte and the word that stand at the place
-- Assumes nothing.
use Prim.Native.Nat.{ℕ, suc, ◌+◌, ◌<◌, ◌≤◌}
use native.Mathlib.Omega.{arith}
use mathlib.Core.Path.{◌≡◌, refl, sym, ◌∙◌, ap, subst₂, subst}
use mathlib.Core.Option.{Option, none, some, map}
use mathlib.Core.List.{List, [], ◌∷◌, ◌++◌, append-nil}
use lib.ListN.{length, take, length-append}
use lib.Seq.{length-take-le}
use Rattle.semantics.proofs.Lookup.{word_same}
use Rattle.semantics.proofs.Tests.{cases}
use Rattle.semantics.specs.Limits.{word_limit, depth_limit, number_limit, role_limit}
use Rattle.semantics.specs.Numbering.{Names, no_names, number_taken, same_word, place_of, number_role, lookup, number_word, number_concept, number_lines}
use Rattle.semantics.specs.Source.{space_byte, Word, Spelled, ConceptSyntax, star, dash, word, ampersand, slash, LineSyntax, lines_meant, concept_bytes, WellFormed, WellFormedLine, Writes}
use Rattle.semantics.proofs.Spelling.{spelled_length}
use Rattle.semantics.proofs.Gaps.{Unspaced}
use Rattle.grammar.proofs.SyntaxMeasures.{number_syntax, ShortSyntax, syntax_grows, ShortLine}
use Rattle.refusal.specs.declared.Refusal.{Refusal}
use Rattle.words.specs.Bytes.{byte_at, class_of, word_length}
use Rattle.forms.specs.Forms.{class_form, form_at}
use Rattle.std.specs.Prelude.{Some, None}
use Rattle.forms.specs.declared.Form.TheVariants.{Name, Conjunction, Existential}
use lib.Dec.{eqb}
use borrow.Author.Tests.{eqb-true}
use Rattle.grammar.specs.Limits.{names_after}
use Rattle.grammar.specs.ViablePrefix.{word_from, whole, StartsIn, UpTo, Exceeds, deep, long_name, long_role, conjunction, existential, new_name, new_role}
use Rattle.grammar.proofs.BytesAhead.{form_of, ahead_form, ahead_length, ahead_spelled}
use Rattle.grammar.proofs.Contexts.{AllOf, FieldEnds, lines, concept, role}
use Rattle.grammar.proofs.Beginnings.{word_begins}
use Rattle.grammar.proofs.NumberingGrows.{role_grows}
use Rattle.grammar.proofs.SamePart.{each_of, ConceptPlace, concept_place, RolePlace, role_place}
use Rattle.grammar.proofs.SamePrefix.{Split, field_stops}

pub record BoundedTo (p : ℕ) (L : List LineSyntax) : Type 0 where
  pub short : AllOf ShortLine L
  pub shallow : (m : ℕ) → StartsIn L p m → m ≤ depth_limit
  pub numbers : (number_lines (lines_meant L) no_names).after.next ≤ number_limit
  pub roles : length (number_lines (lines_meant L) no_names).after.roles ≤ role_limit

pub record AgreesAt (text : List ℕ) (p : ℕ) (u : List ℕ) : Type 0 where
  pub byte : byte_at u 0 ≡ byte_at text p
  pub size : word_length u 0 ≡ word_length text p
  pub word : word_from u 0 ≡ word_from text p

pub name_form : (text : List ℕ) (p : ℕ) → 0 < word_length text p → form_at text p ≡ Some Name
unfolding class_of
name_form text p h = rw (word_begins text p h)

-- ---- where something can begin, no gap goes on

pub form_fresh : (text : List ℕ) (p : ℕ) (u : List ℕ) → byte_at u 0 ≡ byte_at text p → (form_at text p ≡ None → ⊥) → Unspaced u
unfolding class_of
form_fresh text p [] e h = tt
form_fresh text p (b ∷ u) e h = cases (eqb b space_byte) (λ f. absurd (h (rw (sym e ∙ eqb-true b space_byte f) refl))) (λ f. f)

exceeds_form : {text : List ℕ} {p : ℕ} {M : List LineSyntax} {put : List ℕ} {why : Refusal} → Exceeds text p M put why → form_at text p ≡ None → ⊥
exceeds_form (deep d f) e = f e
exceeds_form {text} {p} (long_name d low over) e = absurd (cc (name_form text p (omega arith)))
exceeds_form {text} {p} (long_role d over) e = absurd (cc (name_form text p (omega arith)))
exceeds_form (conjunction d low full f) e = absurd cc
exceeds_form (existential d low full f) e = absurd cc
exceeds_form (new_name d low full f short spelled new) e = absurd cc
exceeds_form {text} {p} (new_role d full some_byte short spelled new) e = absurd (cc (name_form text p some_byte))

pub exceeds_fresh : {text : List ℕ} {p : ℕ} {M : List LineSyntax} {put u : List ℕ} {why : Refusal} → AgreesAt text p u → Exceeds text p M put why → Unspaced u
exceeds_fresh {text} {p} {u} same x = form_fresh text p u same.byte (exceeds_form x)

-- ---- concepts, by the form that they begin with

module _ (u t : List ℕ) (g : FieldEnds t) where
  name_short : (C : ConceptSyntax) → form_of C ≡ Some Name → WellFormed C → ShortSyntax C → u ≡ concept_bytes C ++ t → word_length u 0 ≤ word_limit
  unfolding concept_bytes
  name_short star f w s e = absurd cc
  name_short dash f w s e = absurd cc
  name_short (word v b) f w s e = omega (arith, spelled_length w, ahead_length u 0 b t w (field_stops t g) e)
  name_short (ampersand i C j D) f w s e = absurd cc
  name_short (slash r b i C) f w s e = absurd cc

  new_number : (v : Word) (n : Names) → lookup v n.words ≡ none → n.next < (number_word v n (lookup v n.words)).after.next
  new_number v n e = rw e (omega arith)

  name_new : (C : ConceptSyntax) (n : Names) {v : Word} → form_of C ≡ Some Name → WellFormed C → u ≡ concept_bytes C ++ t → Spelled v (word_from u 0) → lookup v n.words ≡ none →
      n.next < (number_syntax C n).after.next
  unfolding concept_bytes number_concept
  name_new star n f w e k h = absurd cc
  name_new dash n f w e k h = absurd cc
  name_new (word v b) n f w e k h = new_number v n (rw (ahead_spelled u 0 b t w (field_stops t g) e k) at h)
  name_new (ampersand i C j D) n f w e k h = absurd cc
  name_new (slash r b i C) n f w e k h = absurd cc

conj_more : (C : ConceptSyntax) (n : Names) → form_of C ≡ Some Conjunction → n.next < (number_syntax C n).after.next
unfolding number_concept
conj_more star n f = absurd cc
conj_more dash n f = absurd cc
conj_more (word v b) n f = absurd cc
conj_more (ampersand g C h D) n f = omega (arith, (syntax_grows C (number_taken n)).next, (syntax_grows D (number_syntax C (number_taken n)).after).next)
conj_more (slash r b g C) n f = absurd cc

exist_more : (C : ConceptSyntax) (n : Names) → form_of C ≡ Some Existential → n.next < (number_syntax C n).after.next
unfolding number_concept
exist_more star n f = absurd cc
exist_more dash n f = absurd cc
exist_more (word v b) n f = absurd cc
exist_more (ampersand g C h D) n f = absurd cc
exist_more (slash r b g C) n f =
    let o = place_of r n.roles in
    omega (arith, (role_grows r (number_taken n) o).next, (syntax_grows C (number_role r (number_taken n) o).1).next)

-- ---- roles

place_last : (w : Word) (rs : List Word) → place_of w rs ≡ none → place_of w (rs ++ (w ∷ [])) ≡ some (length rs)
unfolding place_of
place_last w [] e = rw (word_same w)
place_last w (r ∷ rs) e = cases (same_word w r)
    (λ f. absurd (cc (rw f at e)))
    (λ f. rw f (ap (map suc) (place_last w rs (go (place_of w rs) (rw f at e)))))
  where
    go : (o : Option ℕ) → map suc o ≡ none → o ≡ none
    go none e = refl
    go (some x) e = absurd cc

-- the first of all roles is no new one, where the roles are full
roles_same : (put : Word) (n : Names) (o : Option ℕ) → place_of put n.roles ≡ o → place_of put (number_role put n o).1.roles ≡ some 0 →
    length (number_role put n o).1.roles ≡ role_limit → (number_role put n o).1 ≡ n
roles_same put n (some x) e f g = refl
roles_same put n none e f g =
    let h : some (length n.roles) ≡ some 0 = sym (place_last put n.roles e) ∙ f in
    let z : length n.roles ≡ 0 = cc in
    absurd (omega (arith, g, length-append n.roles (put ∷ [])))

role_new : (r : Word) (n : Names) → place_of r n.roles ≡ none → length n.roles < length (number_role r n (place_of r n.roles)).1.roles
role_new r n e = rw e (simp length-append (omega arith))

-- ---- what exceeds a limit

module _ {text : List ℕ} {p : ℕ} {L : List LineSyntax} (u : List ℕ) (inside : p ≤ length text) (writes : Writes L (take p text ++ u)) (fresh : Unspaced u) where
  pub concept_split : {M : List LineSyntax} {m : ℕ} (c : ConceptPlace text p M m) → Split lines concept (take p text) no_names c.names c.deeper L [] u
  concept_split c = c.splits.split L [] u fresh (each_of WellFormedLine L writes.well_formed) refl (append-nil _ ∙ writes.spelled)

  pub role_split : {M : List LineSyntax} {r : Word} (c : RolePlace text p M r) → Split lines role (take p text) no_names c.names c.deeper L [] u
  role_split c = c.splits.split L [] u fresh (each_of WellFormedLine L writes.well_formed) refl (append-nil _ ∙ writes.spelled)

  -- a concept starts there at the depth at which one is due
  pub split_starts : {M : List LineSyntax} {m : ℕ} → ConceptPlace text p M m → StartsIn L p m
  split_starts c = subst₂ (StartsIn L) (omega (arith, length-take-le p text inside)) (sym c.depth) ((concept_split c).starts 0 1 (whole refl refl))

  module _ (bounds : BoundedTo p L) (same : AgreesAt text p u) where
    form_there : {M : List LineSyntax} {m : ℕ} (c : ConceptPlace text p M m) → form_of (concept_split c).tree ≡ form_at text p
    form_there c =
        let s = concept_split c in
        sym (ahead_form u 0 s.tree s.tail s.worded s.spelled) ∙ ap (λ b. class_form (class_of b) b) same.byte

    more_absurd : {M : List LineSyntax} {m : ℕ} (c : ConceptPlace text p M m) → (names_after (lines_meant M)).next ≡ number_limit →
        c.names.next < (number_syntax (concept_split c).tree c.names).after.next → ⊥
    more_absurd c full h = omega (arith, (concept_split c).grows.next, bounds.numbers, ap (λ n. n.next) c.after)

    pub exceeds_absurd : {why : Refusal} (b : UpTo text p) → Exceeds text p b.syntax b.put why → ⊥
    exceeds_absurd b (deep d f) = let c = concept_place inside b d in omega (arith, bounds.shallow (depth_limit + 1) (split_starts c))
    exceeds_absurd b (long_name d low over) =
        let c = concept_place inside b d in
        let s = concept_split c in
        omega (arith, same.size, name_short u s.tail s.ends s.tree (form_there c ∙ name_form text p (omega arith)) s.worded (s.short bounds.short) s.spelled)
    exceeds_absurd b (long_role d over) =
        let s = role_split (role_place inside b d) in
        omega (arith, same.size, ahead_length u 0 s.tree.1 s.tail s.worded (field_stops s.tail s.ends) s.spelled, spelled_length s.worded, s.short bounds.short)
    exceeds_absurd b (conjunction d low full f) =
        let c = concept_place inside b d in
        more_absurd c full (conj_more (concept_split c).tree c.names (form_there c ∙ f))
    exceeds_absurd b (existential d low full f) =
        let c = concept_place inside b d in
        more_absurd c full (exist_more (concept_split c).tree c.names (form_there c ∙ f))
    exceeds_absurd b (new_name {w} d low full f short spelled new) =
        let c = concept_place inside b d in
        let s = concept_split c in
        let here : Spelled w (word_from u 0) = subst (Spelled w) (sym same.word) spelled in
        let new' : lookup w c.names.words ≡ none = rw c.after at new in
        more_absurd c full (name_new u s.tail s.ends s.tree c.names (form_there c ∙ f) s.worded s.spelled here new')
    exceeds_absurd b (new_role {w} d full some_byte short spelled new) =
        let c = role_place inside b d in
        let s = role_split c in
        let r = d.role in
        let names : names_after (lines_meant b.syntax) ≡ c.names =
        c.after ∙ roles_same r c.names (place_of r c.names.roles) refl (rw c.after at d.first) (rw c.after at full) in
        let here : w ≡ s.tree.0 =
        ahead_spelled u 0 s.tree.1 s.tail s.worded (field_stops s.tail s.ends) s.spelled (subst (Spelled w) (sym same.word) spelled) in
        let new' : place_of s.tree.0 c.names.roles ≡ none = ap (λ v. place_of v c.names.roles) (sym here) ∙ rw names at new in
        omega (arith, role_new s.tree.0 c.names new', s.grows.roles, bounds.roles, full, ap (λ n. length n.roles) names)
