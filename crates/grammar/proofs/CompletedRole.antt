-- A text that stops where a role is due. The first role that has been read is put there, or the word a where there is none:
-- so no role is new where the roles are full.
-- Assumes nothing.
use Prim.Native.Nat.{ℕ, ◌+◌, ◌<◌, ◌≤◌}
use native.Mathlib.Omega.{arith}
use mathlib.Core.Path.{◌≡◌, refl, sym, ap, subst}
use mathlib.Core.Option.{Option, none, some}
use mathlib.Core.List.{List, [], ◌∷◌, ◌++◌}
use lib.ListN.{length, take}
use Rattle.semantics.proofs.Lookup.{word_same}
use Rattle.semantics.specs.Limits.{word_limit, number_limit, role_limit}
use Rattle.semantics.specs.Numbering.{Names, no_names, number_taken, lookup, number_word, place_of, number_role, number_concept, number_lines}
use Rattle.semantics.specs.Source.{slash_byte, Word, IsWord, ConceptSyntax, star, dash, word, ampersand, slash, LineSyntax, WellFormed, WellFormedLine, lines_meant}
use Rattle.semantics.proofs.Spelling.{spelled_word, spelled_plain}
use Rattle.grammar.proofs.SyntaxMeasures.{number_syntax, ShortSyntax, ShortLine}
use Rattle.refusal.specs.declared.Refusal.{Refusal}
use Rattle.words.specs.Bytes.{byte_at, word_length}
use Rattle.grammar.specs.ViablePrefix.{StartsIn, RoleDue, role_put, UpTo, Exceeds, LimitAt}
use Rattle.grammar.proofs.BytesAt.{byte_inside}
use Rattle.grammar.proofs.Contexts.{AllOf, concept, role}
use Rattle.grammar.proofs.CompletedPrefix.{Open, PartFits, goes_on, up_to_put, limited}
use Rattle.grammar.proofs.Beginnings.{word_byte_lem, word_begins, any_word, any_word_lem, one_spells}

-- ---- the roles that have been read

abbrev pub RoleWord : Word → Type 0
RoleWord r = IsWord r × (length r ≤ word_limit)

abbrev pub RoleWords : Names → Type 0
RoleWords n = AllOf RoleWord n.roles

each_more : {A : Type 0} (P : A → Type 0) (l : List A) (x : A) → AllOf P l → P x → AllOf P (l ++ (x ∷ []))
each_more P [] x h p = (p, tt)
each_more P (y ∷ l) x h p = (h.0, each_more P l x h.1 p)

word_roles : (w : Word) (n : Names) (o : Option ℕ) → RoleWords n → RoleWords (number_word w n o).after
word_roles w n none h = h
word_roles w n (some x) h = h

pub role_roles : (r : Word) (n : Names) (o : Option ℕ) → RoleWord r → RoleWords n → RoleWords (number_role r n o).1
role_roles r n none p h = each_more RoleWord n.roles r h p
role_roles r n (some x) p h = h

concept_roles : (C : ConceptSyntax) (n : Names) → WellFormed C → ShortSyntax C → RoleWords n → RoleWords (number_syntax C n).after
unfolding number_concept
concept_roles star n w s h = h
concept_roles dash n w s h = h
concept_roles (word v b) n w s h = word_roles v n (lookup v n.words) h
concept_roles (ampersand g C g' D) n w s h = concept_roles D (number_syntax C (number_taken n)).after w.3 s.1 (concept_roles C (number_taken n) w.1 s.0 h)
concept_roles (slash r b g C) n w s h = concept_roles C (number_role r (number_taken n) (place_of r n.roles)).1 w.2 s.1
    (role_roles r (number_taken n) (place_of r n.roles) (spelled_word w.0, s.0) h)

pub lines_roles : (ls : List LineSyntax) (n : Names) → AllOf WellFormedLine ls → AllOf ShortLine ls → RoleWords n → RoleWords (number_lines (lines_meant ls) n).after
unfolding number_lines
lines_roles [] n w s h = h
lines_roles (l ∷ ls) n w s h =
    let c = concept_roles l.left n w.0.left s.0.0 h in
    let m = (number_syntax l.left n).after in
    lines_roles ls (number_syntax l.right m).after w.1 s.1 (concept_roles l.right m w.0.right s.0.1 c)

pub open_roles : {before : List ℕ} {n : Names} {a : ℕ} → Open concept before n a → RoleWords n
unfolding number_concept
open_roles o = rw (o.after star) at (lines_roles (o.fill star) no_names (o.worded star tt) (o.short star tt) tt)

-- ---- the role that is put in

abbrev pub due_role : List Word → Word
due_role [] = any_word
due_role (r ∷ rs) = r

abbrev due : Names → List Word → Names
due n rs = (number_role (due_role rs) n (place_of (due_role rs) rs)).1

due_word : (rs : List Word) → AllOf RoleWord rs → RoleWord (due_role rs)
due_word [] h = (any_word_lem, omega arith)
due_word (r ∷ rs) h = h.0

due_next : (n : Names) (r : Word) (o : Option ℕ) → (number_role r n o).1.next ≡ n.next
due_next n r none = refl
due_next n r (some x) = refl

place_first : (r : Word) (rs : List Word) → place_of r (r ∷ rs) ≡ some 0
unfolding place_of
place_first r rs = rw (word_same r)

due_old : (n : Names) (rs : List Word) → 0 < length rs → due n rs ≡ n
due_old n [] h = absurd (omega arith)
due_old n (r ∷ rs) h = ap (λ o. (number_role r n o).1) (place_first r rs)

-- the roles that are full stay as they are
pub due_full : (n : Names) → 0 < length n.roles → due n n.roles ≡ n
due_full n = due_old n n.roles

due_few : (n : Names) (rs : List Word) → n.roles ≡ rs → length rs ≤ role_limit → length (due n rs).roles ≤ role_limit
unfolding place_of
due_few n [] e h = rw e (omega arith)
due_few n (r ∷ rs) e h = rw (due_old n (r ∷ rs) (omega arith), e) h

due_first : (n : Names) (rs : List Word) → n.roles ≡ rs → place_of (due_role rs) (due n rs).roles ≡ some 0
unfolding place_of
due_first n [] e = rw e (place_first any_word [])
due_first n (r ∷ rs) e = rw (due_old n (r ∷ rs) (omega arith), e) (place_first r rs)

-- the role that is due, with its plainest spelling
abbrev pub due_spelled : List Word → Word × List ℕ
due_spelled rs = (due_role rs, due_role rs)

module _ {n : Names} {a : ℕ} (text : List ℕ) (p : ℕ) (o : Open role (take p text) n a) where
  pub role_due : RoleWords n → (sign deep : ℕ) → p ≡ sign + 1 → byte_at text sign ≡ slash_byte → StartsIn (o.fill (due_spelled n.roles)) sign deep →
      RoleDue text p (o.fill (due_spelled n.roles)) (due_role n.roles)
  role_due words sign deep e b s = record {
    sign = sign;
    behind = e;
    slash = b;
    depth = deep;
    starts = s;
    role = due_role n.roles;
    spelled = spelled_plain (due_word n.roles words).0;
    first = subst (λ m. place_of (due_role n.roles) m.roles ≡ some 0) (sym (o.after (due_spelled n.roles))) (due_first n n.roles refl);
  }

  module _ (d : RoleDue text p (o.fill (due_spelled n.roles)) (due_role n.roles)) (numbers : n.next ≤ number_limit) (roles : length n.roles ≤ role_limit) (words : RoleWords n) where
    role_fits : PartFits role (due_spelled n.roles) n a
    role_fits =
        let r = due_role n.roles in
        let w = due_word n.roles words in
        let next = due_next n r (place_of r n.roles) in
        record { worded = spelled_plain w.0; short = w.1; shallow = omega arith; numbers = omega arith; roles = due_few n n.roles refl roles }

    -- A role put at the place is within the limits.
    pub role_to : p ≤ length text → UpTo text p
    role_to inside = up_to_put text p o (due_spelled n.roles) role_fits inside (role_put d)

    -- Where a word stands, a role is due.
    pub role_limit_lem : {why : Refusal} → 0 < word_length text p → Exceeds text p (o.fill (due_spelled n.roles)) (due_role n.roles) why → LimitAt text p why
    role_limit_lem some_byte exceeds =
        let b = word_begins text p some_byte in
        let w = one_spells b in
        let inside = byte_inside text p (word_byte_lem (byte_at text p) b) in
        limited text p o (due_spelled n.roles) role_fits (role_put d) exceeds inside (goes_on text p inside o (w.word, byte_at text p ∷ []) [] w.spelled refl)
