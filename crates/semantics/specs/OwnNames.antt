-- The names that stand in concepts and lines, interpretations that give something to these alone, and lines over a type of their own names:
-- the theorems on a text's own words cite this.
use Rattle.std.specs.Prelude.{ℕ, ◌<◌, ◌≡◌, false}
use mathlib.Core.List.{List, [], ◌∷◌, ◌++◌, map, Mem, Memᴰ}
use Rattle.semantics.specs.Concept.{Concept, top, bottom, name, conj, exist, Interpretation, Inclusion}
use Rattle.semantics.specs.Closure.{Line, line, left_of, right_of}

-- ---- names

unfoldable pub names_of : {A R : Type 0} → Concept A R → List A
names_of top = []
names_of bottom = []
names_of (name a) = a ∷ []
names_of (conj C D) = names_of C ++ names_of D
names_of (exist r C) = names_of C

unfoldable pub roles_of : {A R : Type 0} → Concept A R → List R
roles_of top = []
roles_of bottom = []
roles_of (name a) = []
roles_of (conj C D) = roles_of C ++ roles_of D
roles_of (exist r C) = r ∷ roles_of C

-- the names and the roles of all lines
unfoldable pub line_names : {A R : Type 0} → List (Line A R) → List A
line_names [] = []
line_names (l ∷ ls) = names_of (left_of l) ++ names_of (right_of l) ++ line_names ls

unfoldable pub line_roles : {A R : Type 0} → List (Line A R) → List R
line_roles [] = []
line_roles (l ∷ ls) = roles_of (left_of l) ++ roles_of (right_of l) ++ line_roles ls

-- ---- agreement

-- The interpretations agree on every name and every role that stands in C.
pub record Agree {A R : Type 0} (I J : Interpretation A R) (C : Concept A R) : Type 0 where
  pub on_names : (a : A) → Memᴰ a (names_of C) → (x : ℕ) → x < I.size → I.of_name a x ≡ J.of_name a x
  pub on_roles : (r : R) → Memᴰ r (roles_of C) → (x y : ℕ) → x < I.size → y < I.size → I.of_role r x y ≡ J.of_role r x y

-- ---- own names

-- Every name that stands in C is one of the names, and every role one of the roles.
pub record NamedBy {A R : Type 0} (names : List A) (roles : List R) (C : Concept A R) : Type 0 where
  pub name_own : (a : A) → Memᴰ a (names_of C) → Memᴰ a names
  pub role_own : (r : R) → Memᴰ r (roles_of C) → Memᴰ r roles

-- So it is on both sides of every inclusion.
abbrev pub AllNamed : {A R : Type 0} → List A → List R → List (Inclusion A R) → Type 0
AllNamed {A} {R} names roles X = (ρ : Inclusion A R) → Memᴰ ρ X → NamedBy names roles ρ.left × NamedBy names roles ρ.right

-- Every name but these has the empty set, and every role but these no pairs.
pub record Own {A R : Type 0} (names : List A) (roles : List R) (I : Interpretation A R) : Type 0 where
  pub names_empty : (a : A) → (Memᴰ a names → ⊥) → (x : ℕ) → I.of_name a x ≡ false
  pub roles_empty : (r : R) → (Memᴰ r roles → ⊥) → (x y : ℕ) → I.of_role r x y ≡ false

-- ---- renaming

unfoldable pub renamed : {A R A' R' : Type 0} → (A → A') → (R → R') → Concept A R → Concept A' R'
renamed f g top = top
renamed f g bottom = bottom
renamed f g (name a) = name (f a)
renamed f g (conj C D) = conj (renamed f g C) (renamed f g D)
renamed f g (exist r C) = exist (g r) (renamed f g C)

abbrev pub renamed_line : {A R A' R' : Type 0} → (A → A') → (R → R') → Line A R → Line A' R'
renamed_line f g (line k C D) = line k (renamed f g C) (renamed f g D)

-- the names of a list, as a type of their own (`Mem` says that a name is in the list and not where, so each is there once)
pub record OwnName {A : Type 0} (names : List A) : Type 0 where
  pub plain : A
  pub among : Mem plain names

-- lines over such names, read as lines over all names
abbrev pub plain_lines : {A R : Type 0} {names : List A} {roles : List R} → List (Line (OwnName names) (OwnName roles)) → List (Line A R)
plain_lines = map (renamed_line (λ n. n.plain) (λ r. r.plain))
