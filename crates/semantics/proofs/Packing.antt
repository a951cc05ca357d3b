-- Packed words have one list of rows within their bounds.
-- Assumes nothing.
use Prim.Native.Nat.{ℕ, ◌<◌, ◌≤◌}
use native.Mathlib.Omega.{arith}
use mathlib.Core.Path.{◌≡◌, refl, sym, ◌∙◌, ap, ap₂, subst}
use mathlib.Core.List.{List, [], ◌∷◌, map, Memᴰ}
use Rattle.semantics.specs.Row.{Row, simple, conj_subsumed, in_exist, exist_in, role_size, number_size, Fields, fields_of, pack_fields, pack, RowBelow, Below, Unpacked}
use Rattle.semantics.specs.Decoding.{row_with}
use Rattle.semantics.proofs.RowKinds.{with_simple}

-- ---- the fields of a row

abbrev row_of_fields : Fields → Row
row_of_fields f = row_with f.kind f.role f.left f.second f.right

row_with_lem : (q : Row) → row_of_fields (fields_of q) ≡ q
unfolding row_with
row_with_lem (simple k a c) = with_simple k 0 a 0 c
row_with_lem (conj_subsumed a b c) = refl
row_with_lem (in_exist a r c) = refl
row_with_lem (exist_in r a c) = refl

-- ---- packing

pub record FieldsSmall (f : Fields) : Type 0 where
  pub role : f.role < role_size
  pub left : f.left < number_size
  pub second : f.second < number_size
  pub right : f.right < number_size

pub row_small : {N R : ℕ} → N ≤ number_size → R ≤ role_size → (q : Row) → RowBelow N R q → FieldsSmall (fields_of q)
row_small n r (simple k a c) h = omega (arith, h.0, h.1)
row_small n r (conj_subsumed a b c) h = omega (arith, h.0, h.1, h.2)
row_small n r (in_exist a s c) h = omega (arith, h.0, h.1, h.2)
row_small n r (exist_in s a c) h = omega (arith, h.0, h.1, h.2)

pack_fields_injective : (f g : Fields) → FieldsSmall f → FieldsSmall g → pack_fields f ≡ pack_fields g → f ≡ g
pack_fields_injective f g hf hg e =
    let kinds : f.kind ≡ g.kind = omega (arith, hf, hg) in
    let roles : f.role ≡ g.role = omega (arith, hf, hg) in
    let lefts : f.left ≡ g.left = omega (arith, hf, hg) in
    let seconds : f.second ≡ g.second = omega (arith, hf, hg) in
    let rights : f.right ≡ g.right = omega (arith, hf, hg) in
    λ i. record { kind = kinds i; role = roles i; left = lefts i; second = seconds i; right = rights i }

pub pack_injective : {N R : ℕ} → N ≤ number_size → R ≤ role_size → (p q : Row) → RowBelow N R p → RowBelow N R q → pack p ≡ pack q → p ≡ q
pack_injective n r p q hp hq e =
    let same = pack_fields_injective (fields_of p) (fields_of q) (row_small n r p hp) (row_small n r q hq) e in
    sym (row_with_lem p) ∙ ap row_of_fields same ∙ row_with_lem q

-- ---- lists

module _ {N R : ℕ} {q : Row} {rows : List Row} where
  pub below_first : Below N R (q ∷ rows) → RowBelow N R q
  below_first h = h.each q (Memᴰ.head refl)

  pub below_others : Below N R (q ∷ rows) → Below N R rows
  below_others h = record { each = λ p m. h.each p (Memᴰ.tail m) }

  pub below_more : RowBelow N R q → Below N R rows → Below N R (q ∷ rows)
  below_more first others = record { each = go }
    where
      go : (p : Row) → Memᴰ p (q ∷ rows) → RowBelow N R p
      go p (Memᴰ.head e) = subst (RowBelow N R) (sym e) first
      go p (Memᴰ.tail m) = others.each p m

rows_unique : {N R : ℕ} → N ≤ number_size → R ≤ role_size → (ps qs : List Row) → Below N R ps → Below N R qs → map pack ps ≡ map pack qs → ps ≡ qs
rows_unique n r [] [] hp hq e = refl
rows_unique n r [] (q ∷ qs) hp hq e = cc
rows_unique n r (p ∷ ps) [] hp hq e = cc
rows_unique n r (p ∷ ps) (q ∷ qs) hp hq e =
    let h : pack p ≡ pack q = cc in
    let t : map pack ps ≡ map pack qs = cc in
    ap₂ ◌∷◌ (pack_injective n r p q (below_first hp) (below_first hq) h) (rows_unique n r ps qs (below_others hp) (below_others hq) t)

-- Words pack one list of rows at most, where numbers and roles fit their fields.
pub unpacked_unique : {N R : ℕ} {words : List ℕ} {rows rows' : List Row} → N ≤ number_size → R ≤ role_size → Unpacked N R words rows → Unpacked N R words rows' → rows ≡ rows'
unpacked_unique {rows} {rows'} n r u v = rows_unique n r rows rows' u.below v.below (sym u.packs ∙ v.packs)
