-- A text that stops where a part of it is due begins the text of some lines within the limits; with a limit passed there, it is refused for that limit.
--     Open           lines that have a part at the place, and before it the bytes and the names given
--     viable_by      the bytes before the place, with what a part there begins with, begin a text
--     up_to          a part that is within the limits, at the place
--     limited        it is put there, and what stands there passes a limit
--     concept_limit  a * at the place, and something else there that passes a limit
-- Assumes nothing.
use Prim.Native.Nat.{ℕ, ◌+◌, ◌<◌, ◌≤◌}
use native.Mathlib.Numerals.{add-one}
use native.Mathlib.Omega.{arith}
use mathlib.Core.Path.{◌≡◌, refl, sym, subst}
use mathlib.Core.List.{List, [], ◌∷◌, ◌++◌, append_assoc, Memᴰ}
use lib.ListN.{length, take, length-append}
use lib.Seq.{take-suc, length-take-le}
use Rattle.semantics.specs.Limits.{word_limit, depth_limit, number_limit, role_limit}
use Rattle.semantics.specs.Numbering.{Names, no_names, number_concept}
use Rattle.semantics.specs.Source.{star, LineSyntax, concept_bytes, WellFormedLine, Writes}
use Rattle.grammar.proofs.SyntaxMeasures.{lines_each, ShortLine}
use Rattle.refusal.specs.declared.Refusal.{Refusal}
use Rattle.words.specs.Bytes.{byte_at}
use Rattle.forms.specs.Forms.{form_at}
use Rattle.grammar.specs.Limits.{depth, ShortWords}
use Rattle.grammar.specs.ViablePrefix.{ViablePrefix, whole, StartsIn, ConceptDue, Put, no_put, star_put, UpTo, Exceeds, LimitAt}
use Rattle.grammar.proofs.BytesAt.{byte_inside, form_byte}
use Rattle.grammar.proofs.Contexts.{Part, Context, EndByte, each_both, Before, before_none, before_less, AllOf, lines, concept, line_depth, lines_depth}
use Rattle.grammar.proofs.Beginnings.{CanBegin, beginning}
use Rattle.grammar.proofs.OpenedContexts.{Unread}

abbrev pub Open : Part → List ℕ → Names → ℕ → Type 0
Open P before n a = Context lines P before no_names n depth_limit a

-- ---- every line

pub each_at : {A : Type 0} (P : A → Type 0) {x : A} {l : List A} → AllOf P l → Memᴰ x l → P x
each_at P {l = y ∷ l} h (Memᴰ.head e) = subst P (sym e) h.0
each_at P {l = y ∷ l} h (Memᴰ.tail i) = each_at P h.1 i
each_at {A = A} P {l = []} h x6 = elim x6 [ ]

depth_at : {l : LineSyntax} {ls : List LineSyntax} → Memᴰ l ls → line_depth l ≤ lines_depth ls
depth_at {ls = k ∷ ls} (Memᴰ.head e) = rw e (omega arith)
depth_at {ls = k ∷ ls} (Memᴰ.tail i) = omega (arith, depth_at i)
depth_at {l = l} {ls = []} x'' = elim x'' [ ]

-- ---- any part

module _ {P : Part} {before : List ℕ} {n : Names} {a : ℕ} (o : Open P before n a) where
  writes_by : (X : P.Tree) → P.Worded X → Writes (o.fill X) (before ++ (P.spell X ++ o.rest))
  writes_by X w = record { well_formed = λ l i. each_at WellFormedLine (o.worded X w) i; spelled = o.spelled X }

  pub viable_by : (X : P.Tree) (w more : List ℕ) → P.Worded X → P.spell X ≡ w ++ more → ViablePrefix (before ++ w)
  viable_by X w more h e = record {
    syntax = o.fill X;
    rest = more ++ o.rest;
    writes = rw append_assoc (rw (e, append_assoc) at (writes_by X h));
  }

-- the byte at the place is one that a part begins with
pub goes_on : {P : Part} {n : Names} {a : ℕ} (text : List ℕ) (p : ℕ) → p < length text → Open P (take p text) n a → (X : P.Tree) (more : List ℕ) →
    P.Worded X → P.spell X ≡ byte_at text p ∷ more → ViablePrefix (take (p + 1) text)
goes_on text p inside o X more h e = rw (add-one, take-suc text p 0 inside) (viable_by o X (byte_at text p ∷ []) more h e)

-- A part at the place is within the limits.
pub record PartFits (P : Part) (X : P.Tree) (n : Names) (a : ℕ) : Type 0 where
  pub worded : P.Worded X
  pub short : P.Short X
  pub shallow : P.depth X ≤ a + 1
  pub numbers : (P.after X n).next ≤ number_limit
  pub roles : length (P.after X n).roles ≤ role_limit

-- The part at the place, up to p.
pub up_to : {P : Part} {before : List ℕ} {n : Names} {a : ℕ} (text : List ℕ) (p : ℕ) (o : Open P before n a) (X : P.Tree) → PartFits P X n a →
    (put rest : List ℕ) → before ++ (P.spell X ++ o.rest) ≡ take p text ++ (put ++ rest) → AllOf EndByte rest → Put text p (o.fill X) put →
    Before lines depth_limit (o.fill X) p → UpTo text p
up_to text p o X f put rest e plain due shallow = record {
  syntax = o.fill X;
  put = put;
  rest = rest;
  writes = subst (Writes (o.fill X)) e (writes_by o X f.worded);
  due = due;
  shortest = λ b i. each_at EndByte plain i;
  within = record {
    short = lines_each (ShortWords word_limit) (o.fill X) (λ l i. each_at ShortLine (o.short X f.short) i);
    shallow = lines_each (λ C. depth C ≤ depth_limit + 1) (o.fill X) (λ l i. (omega (arith, depth_at i, o.shallow X f.shallow), omega (arith, depth_at i, o.shallow X f.shallow)));
    numbers = subst (λ m. m.next ≤ number_limit) (sym (o.after X)) f.numbers;
    roles = subst (λ m. length m.roles ≤ role_limit) (sym (o.after X)) f.roles;
  };
  shallow = shallow.each;
}

-- all of the part is put at the place
pub up_to_put : {P : Part} {n : Names} {a : ℕ} (text : List ℕ) (p : ℕ) (o : Open P (take p text) n a) (X : P.Tree) → PartFits P X n a →
    p ≤ length text → Put text p (o.fill X) (P.spell X) → UpTo text p
up_to_put {P} {a} text p o X f inside due = up_to text p o X f (P.spell X) o.rest refl o.plain due
    (before_less (omega (arith, length-take-le p text inside)) (o.before X 0 (omega arith) (before_none P a X)))

pub limited : {P : Part} {n : Names} {a : ℕ} {why : Refusal} (text : List ℕ) (p : ℕ) (o : Open P (take p text) n a) (X : P.Tree) → PartFits P X n a →
    Put text p (o.fill X) (P.spell X) → Exceeds text p (o.fill X) (P.spell X) why → p < length text → ViablePrefix (take (p + 1) text) → LimitAt text p why
unfolding up_to_put up_to
limited text p o X f due exceeds inside more =
    record { inside = inside; before = up_to_put text p o X f (omega arith) due; exceeds = exceeds; goes_on = more }

-- a part that is not read yet, behind some bytes of the shortest end
pub blank_to : {P : Part} {n : Names} {a : ℕ} (text : List ℕ) (p : ℕ) (w : List ℕ) (o : Open P (take p text ++ w) n a) → Unread P → AllOf EndByte w →
    p ≤ length text → n.next ≤ number_limit → length n.roles ≤ role_limit → UpTo text p
blank_to {P} {n} {a} text p w o b plain inside numbers roles =
    let X = b.tree in
    let fits : PartFits P X n a = record {
      worded = b.worded;
      short = b.short;
      shallow = omega (arith, b.shallow);
      numbers = rw (b.after n) numbers;
      roles = rw (b.after n) roles;
    } in
    up_to text p o X fits [] (w ++ (P.spell X ++ o.rest)) (append_assoc (take p text) w (P.spell X ++ o.rest))
    (each_both EndByte w (P.spell X ++ o.rest) plain (each_both EndByte (P.spell X) o.rest b.plain o.plain))
    (no_put refl)
    (before_less (omega (arith, length-take-le p text inside, length-append (take p text) w)) (o.before X 0 (omega arith) (before_none P a X)))

-- so the bytes before p begin a text
pub viable_to : {text : List ℕ} {p : ℕ} → UpTo text p → ViablePrefix (take p text)
viable_to u = record { syntax = u.syntax; rest = u.put ++ u.rest; writes = u.writes }

-- ---- a concept

-- a * at the place is the concept that is due there
pub star_due : {n : Names} {a : ℕ} (text : List ℕ) (p : ℕ) (o : Open concept (take p text) n a) → p ≤ length text →
    ConceptDue p (o.fill star) (concept_bytes star) (1 + o.deeper)
unfolding concept_bytes
star_due text p o h = record {
  star = refl;
  starts = subst (λ k. StartsIn (o.fill star) k (1 + o.deeper)) (omega (arith, length-take-le p text h)) (o.starts star 0 1 (whole refl refl));
}

-- A * at the place is within the limits.
star_fits : {n : Names} (a : ℕ) → n.next ≤ number_limit → length n.roles ≤ role_limit → PartFits concept star n a
unfolding number_concept depth
star_fits a numbers roles = record { worded = tt; short = tt; shallow = omega arith; numbers = numbers; roles = roles }

pub star_to : {n : Names} {a : ℕ} (text : List ℕ) (p : ℕ) (o : Open concept (take p text) n a) → p ≤ length text →
    n.next ≤ number_limit → length n.roles ≤ role_limit → UpTo text p
star_to {a} text p o inside numbers roles = up_to_put text p o star (star_fits a numbers roles) inside (star_put (star_due text p o inside))

-- Where a concept can begin, one is due.
pub concept_limit : {n : Names} {a : ℕ} {why : Refusal} (text : List ℕ) (p : ℕ) (o : Open concept (take p text) n a) →
    n.next ≤ number_limit → length n.roles ≤ role_limit → CanBegin (form_at text p) → Exceeds text p (o.fill star) (concept_bytes star) why → LimitAt text p why
concept_limit {a} text p o numbers roles due exceeds =
    let c = beginning (form_at text p) (form_byte text p) due in
    let inside = byte_inside text p c.inside in
    limited text p o star (star_fits a numbers roles) (star_put (star_due text p o (omega arith))) exceeds inside
    (goes_on text p inside o c.concept c.more c.words c.text)
