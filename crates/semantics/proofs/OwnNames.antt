-- What stands in no line is read by nothing. So interpretations that give something to the lines' own names alone are enough,
-- and lines have the rational closure that they have as lines over a type of their own names.
-- Assumes nothing.
use Prim.Native.Nat.{ℕ, ◌<◌}
use native.Mathlib.Omega.{arith}
use mathlib.Core.Path.{◌≡◌, refl, sym, ◌∙◌, ap, ap₂, subst}
use mathlib.Core.Bool.{Bool, false, true≢false}
use mathlib.Core.Option.{Option, none, some}
use mathlib.Core.List.Memᴰ
use mathlib.Core.List.{List, [], ◌∷◌, ◌++◌, Mem, Mem-prop, dec_mem, Memᴰ}
use mathlib.Core.Logic.{◌↔◌, inl, inr}
use Rattle.semantics.specs.Concept.{Concept, top, bottom, name, conj, exist, Interpretation, In, Inclusion, Obeys, Witness, Exceptional, Within}
use Rattle.semantics.specs.Closure.{Line, line, left_of, right_of, RationalClosure, yes_count}
use Rattle.semantics.specs.Source.{Word}
use Rattle.semantics.specs.Numbering.{same_word}
use Rattle.semantics.specs.OwnNames.{names_of, roles_of, Agree, line_names, line_roles, NamedBy, AllNamed, Own, renamed, renamed_line, OwnName, plain_lines}
use Rattle.semantics.proofs.Tests.{cases}
use Rattle.semantics.proofs.Lookup.{same_word_lem, word_same}
use Rattle.semantics.proofs.Rename.{yes_renamed, closure_renamed}

-- Interpretations of one size that agree on what stands in C say the same of C.
pub own_names : {A R : Type 0} (I J : Interpretation A R) → I.size ≡ J.size → (C : Concept A R) → Agree I J C → (x : ℕ) → x < I.size → (In I C x ↔ In J C x)
unfolding In names_of roles_of
own_names I J sizes top e x lt = (λ u. u, λ u. u)
own_names I J sizes bottom e x lt = (λ u. u, λ u. u)
own_names I J sizes (name a) e x lt = let h = e.on_names a (Memᴰ.head refl) x lt in (λ u. sym h ∙ u, λ u. h ∙ u)
own_names I J sizes (conj C D) e x lt =
    let left : Agree I J C = record { on_names = λ a m. e.on_names a (Memᴰ.append_left (names_of D) m); on_roles = λ r m. e.on_roles r (Memᴰ.append_left (roles_of D) m) } in
    let right : Agree I J D = record { on_names = λ a m. e.on_names a (Memᴰ.append_right (names_of C) m); on_roles = λ r m. e.on_roles r (Memᴰ.append_right (roles_of C) m) } in
    let c = own_names I J sizes C left x lt in
    let d = own_names I J sizes D right x lt in
    (λ h. (c.0 h.0, d.0 h.1), λ h. (c.1 h.0, d.1 h.1))
own_names I J sizes (exist r C) e x lt =
    let c = own_names I J sizes C (record { on_names = e.on_names; on_roles = λ s m. e.on_roles s (Memᴰ.tail m) }) in
    let p = e.on_roles r (Memᴰ.head refl) x in (
      λ h. (h.0, omega (arith, sizes, h.1), sym (p h.0 lt h.1) ∙ h.2, (c h.0 h.1).0 h.3),
      λ h. let below : h.0 < I.size = omega (arith, sizes, h.1) in (h.0, below, p h.0 lt below ∙ h.2, (c h.0 below).1 h.3),
    )

-- ---- interpretations of the own names are enough

-- b where P is so, and else false
abbrev kept : {P : Type 0} → Dec P → Bool → Bool
kept (yes p) b = b
kept (no n) b = false

kept_yes : {P : Type 0} (d : Dec P) (b : Bool) → P → b ≡ kept d b
kept_yes (yes p) b h = refl
kept_yes (no n) b h = absurd (n h)

kept_no : {P : Type 0} (d : Dec P) (b : Bool) → (P → ⊥) → kept d b ≡ false
kept_no (yes p) b n = absurd (n p)
kept_no (no n) b m = refl

member? : {X : Type 0} → ((x y : X) → Dec (x ≡ y)) → (x : X) (l : List X) → Dec (Memᴰ x l)
member? same? x [] = no Memᴰ.not-nil
member? same? x (y ∷ l) = go (same? x y) (member? same? x l)
  where
    go : Dec (x ≡ y) → Dec (Memᴰ x l) → Dec (Memᴰ x (y ∷ l))
    go (yes e) d = yes (Memᴰ.head e)
    go (no n) (yes m) = yes (Memᴰ.tail m)
    go (no n) (no k) = no (λ m. elim (Memᴰ.cases_cons m) [ inl e ↦ n e | inr i ↦ k i ])

module _ {A R : Type 0} (same_name? : (a b : A) → Dec (a ≡ b)) (same_role? : (r s : R) → Dec (r ≡ s)) (names : List A) (roles : List R) where
  -- what the interpretation gives to other names is taken away
  abbrev owned : Interpretation A R → Interpretation A R
  owned I = record {
    size = I.size;
    nonempty = I.nonempty;
    of_name = λ a x. kept (member? same_name? a names) (I.of_name a x);
    of_role = λ r x y. kept (member? same_role? r roles) (I.of_role r x y);
  }

  owned_own : (I : Interpretation A R) → Own names roles (owned I)
  owned_own I = record {
    names_empty = λ a n x. kept_no (member? same_name? a names) (I.of_name a x) n;
    roles_empty = λ r n x y. kept_no (member? same_role? r roles) (I.of_role r x y) n;
  }

  owned_in : (I : Interpretation A R) (C : Concept A R) → NamedBy names roles C → (x : ℕ) → x < I.size → (In I C x ↔ In (owned I) C x)
  owned_in I C c = own_names I (owned I) refl C (record {
    on_names = λ a m x lt. kept_yes (member? same_name? a names) (I.of_name a x) (c.name_own a m);
    on_roles = λ r m x y lt ly. kept_yes (member? same_role? r roles) (I.of_role r x y) (c.role_own r m);
  })

  owned_obeys : (I : Interpretation A R) (X : List (Inclusion A R)) → AllNamed names roles X → (x : ℕ) → x < I.size → Obeys I X x → Obeys (owned I) X x
  owned_obeys I X n x lt o ρ m h = (owned_in I ρ.right (n ρ m).1 x lt).0 (o ρ m ((owned_in I ρ.left (n ρ m).0 x lt).1 h))

  module _ {T E : List (Inclusion A R)} {C : Concept A R} (t : AllNamed names roles T) (e : AllNamed names roles E) (c : NamedBy names roles C) where
    abbrev owned_witness : Witness T E C → Witness T E C
    owned_witness w = record {
      world = owned w.world;
      model = λ x lt. owned_obeys w.world T t x lt (w.model x lt);
      point = w.point;
      inside = w.inside;
      member = (owned_in w.world C c w.point w.inside).0 w.member;
      obeys = owned_obeys w.world E e w.point w.inside w.obeys;
    }

    -- An inclusion follows over all finite interpretations exactly where it follows over those that give something to the own names alone.
    pub own_within : {D : Concept A R} → NamedBy names roles D → (Within T E C D ↔ ((w : Witness T E C) → Own names roles w.world → In w.world D w.point))
    own_within {D} d = (
      λ h w o. h.holds w,
      λ h. record { holds = λ w. (owned_in w.world D d w.point w.inside).1 (h (owned_witness w) (owned_own w.world)) },
    )

    -- A concept is exceptional exactly where none of those has a witness.
    pub own_exceptional : Exceptional T E C ↔ ((w : Witness T E C) → Own names roles w.world → ⊥)
    own_exceptional = (λ h w o. h w, λ h w. h (owned_witness w) (owned_own w.world))

-- ---- lines over their own names

abbrev plain_name : {A : Type 0} {names : List A} → OwnName names → A
plain_name n = n.plain

module _ {A R : Type 0} where
  -- both sides of a line
  abbrev SidesNamed : List A → List R → Line A R → Type 0
  SidesNamed names roles l = NamedBy names roles (left_of l) × NamedBy names roles (right_of l)

  named_more : {names names' : List A} {roles roles' : List R} {C : Concept A R} →
      ((a : A) → Memᴰ a names → Memᴰ a names') → ((r : R) → Memᴰ r roles → Memᴰ r roles') → NamedBy names roles C → NamedBy names' roles' C
  named_more f g c = record { name_own = λ a m. f a (c.name_own a m); role_own = λ r m. g r (c.role_own r m) }

  pub line_named : (lines : List (Line A R)) {l : Line A R} → Memᴰ l lines → SidesNamed (line_names lines) (line_roles lines) l
  unfolding line_names line_roles
  line_named (k ∷ ls) (Memᴰ.head e) = subst (SidesNamed (line_names (k ∷ ls)) (line_roles (k ∷ ls))) (sym e) (
    record {
      name_own = λ a m. Memᴰ.append_left (line_names ls) (Memᴰ.append_left (names_of (right_of k)) m);
      role_own = λ r m. Memᴰ.append_left (line_roles ls) (Memᴰ.append_left (roles_of (right_of k)) m);
    },
    record {
      name_own = λ a m. Memᴰ.append_left (line_names ls) (Memᴰ.append_right (names_of (left_of k)) m);
      role_own = λ r m. Memᴰ.append_left (line_roles ls) (Memᴰ.append_right (roles_of (left_of k)) m);
    },
  )
  line_named (k ∷ ls) (Memᴰ.tail m) =
      let n = line_named ls m in
      let names : (a : A) → Memᴰ a (line_names ls) → Memᴰ a (line_names (k ∷ ls)) = λ a. Memᴰ.append_right (names_of (left_of k) ++ names_of (right_of k)) in
      let roles : (r : R) → Memᴰ r (line_roles ls) → Memᴰ r (line_roles (k ∷ ls)) = λ r. Memᴰ.append_right (roles_of (left_of k) ++ roles_of (right_of k)) in
      (named_more names roles n.0, named_more names roles n.1)
  line_named [] {l = l} x' = elim x' [ ]

module _ {A R : Type 0} {names : List A} {roles : List R} where
  -- a concept with these names alone, over them
  own_concept : (C : Concept A R) → NamedBy names roles C → (C' : Concept (OwnName names) (OwnName roles)) × (renamed plain_name plain_name C' ≡ C)
  unfolding renamed names_of roles_of
  own_concept top n = (top, refl)
  own_concept bottom n = (bottom, refl)
  own_concept (name a) n = (name (record { plain = a; among = ∣ n.name_own a (Memᴰ.head refl) ∣₁ }), refl)
  own_concept (conj C D) n =
      let left : NamedBy names roles C = record { name_own = λ a m. n.name_own a (Memᴰ.append_left (names_of D) m); role_own = λ r m. n.role_own r (Memᴰ.append_left (roles_of D) m) } in
      let right : NamedBy names roles D = record { name_own = λ a m. n.name_own a (Memᴰ.append_right (names_of C) m); role_own = λ r m. n.role_own r (Memᴰ.append_right (roles_of C) m) } in
      let c = own_concept C left in
      let d = own_concept D right in
      (conj c.0 d.0, ap₂ conj c.1 d.1)
  own_concept (exist r C) n =
      let c = own_concept C (record { name_own = n.name_own; role_own = λ s m. n.role_own s (Memᴰ.tail m) }) in
      (exist (record { plain = r; among = ∣ n.role_own r (Memᴰ.head refl) ∣₁ }) c.0, ap (exist r) c.1)

  own_line : (l : Line A R) → SidesNamed names roles l → (l' : Line (OwnName names) (OwnName roles)) × (renamed_line plain_name plain_name l' ≡ l)
  own_line (line k C D) n = let c = own_concept C n.0 in let d = own_concept D n.1 in (line k c.0 d.0, ap₂ (line k) c.1 d.1)

  own_lines : (ls : List (Line A R)) → ((l : Line A R) → Memᴰ l ls → SidesNamed names roles l) → (ls' : List (Line (OwnName names) (OwnName roles))) × (plain_lines ls' ≡ ls)
  own_lines [] f = ([], refl)
  own_lines (l ∷ ls) f =
      let h = own_line l (f l (Memᴰ.head refl)) in
      let t = own_lines ls (λ k m. f k (Memᴰ.tail m)) in
      (h.0 ∷ t.0, ap₂ ◌∷◌ h.1 t.1)

-- the own name that a name is, if it is one
abbrev as_own : {A : Type 0} {names : List A} (a : A) → Dec (Mem a names) → Option (OwnName names)
as_own a (yes m) = some (record { plain = a; among = m })
as_own a (no n) = none

as_own_lem : {A : Type 0} {names : List A} (o : OwnName names) (d : Dec (Mem o.plain names)) → as_own o.plain d ≡ some o
as_own_lem o (yes m) = ap (λ m. some (record { plain = o.plain; among = m })) (Mem-prop m o.among)
as_own_lem o (no n) = absurd (n o.among)

module _ {A R : Type 0} (same_name? : (a b : A) → Dec (a ≡ b)) (same_role? : (r s : R) → Dec (r ≡ s)) where
  -- Lines over some names have the closure of the lines over all names.
  pub plain_keeps : {names : List A} {roles : List R} (lines : List (Line (OwnName names) (OwnName roles))) {levels passes : ℕ} {results : List ℕ} →
      (RationalClosure lines levels passes results ↔ RationalClosure (plain_lines lines) levels passes results)
  plain_keeps {names} {roles} lines = closure_renamed plain_name plain_name (λ a. as_own a (dec_mem same_name? a names)) (λ r. as_own r (dec_mem same_role? r roles))
      (λ n. as_own_lem n (dec_mem same_name? n.plain names)) (λ r. as_own_lem r (dec_mem same_role? r.plain roles)) lines

word? : (u v : Word) → Dec (u ≡ v)
word? u v = cases (same_word u v) (λ e. yes (same_word_lem u v e)) (λ e. no (λ h. true≢false (sym (word_same u) ∙ ap (same_word u) h ∙ e)))

-- Lines over words are lines over their own words, and have the same closure and count of yes as those: there an interpretation gives sets and pairs to the own words, and to nothing else.
pub closure_own : (lines : List (Line Word Word)) →
    (own : List (Line (OwnName (line_names lines)) (OwnName (line_roles lines)))) × (plain_lines own ≡ lines) ×
    ((levels passes : ℕ) (results : List ℕ) → (RationalClosure own levels passes results ↔ RationalClosure lines levels passes results)) ×
    ((results : List ℕ) → yes_count own results ≡ yes_count lines results)
closure_own lines =
    let o = own_lines {names = line_names lines} {roles = line_roles lines} lines (λ l. line_named lines) in (
      o.0,
      o.1,
      λ levels passes results. subst (λ ls. RationalClosure o.0 levels passes results ↔ RationalClosure ls levels passes results) o.1 (plain_keeps word? word? o.0),
      λ results. yes_renamed plain_name plain_name o.0 results ∙ ap (λ ls. yes_count ls results) o.1,
    )
