-- Tokens as the code takes them: what it does is what a track does. Assumes nothing.
--     not_taken                                            no token is taken
--     goes_on, went_on                                     one token may stand here, and it writes nothing
--     begun                                                a class begins
--     opened, the_role                                     one more is around
--     closed_axiom, closed_filler, closed_intersection     a bracket closes
--     next_right, next_part                                another class begins
use Prim.Native.Nat.{ℕ, ◌+◌, ◌-◌, ◌*◌, ◌<◌, ◌≤◌}
use native.Mathlib.Omega.{arith}
use mathlib.Core.Path.{◌≡◌, refl, sym, ◌∙◌, ap, ap₂}
use mathlib.Core.Bool.{Bool, true, false, true≢false}
use mathlib.Core.Option.{Option, none, some}
use mathlib.Core.List.{List, [], ◌∷◌, ◌++◌}
use mathlib.Core.Logic.{◌↔◌}
use lib.ListN.{length, get_or, set, take}
use lib.Seq.{take-set-lt, length-take-le}
use borrow.Author.Tests.{eq-eqb, ne_eqb}
use Rattle.semantics.proofs.Tests.{cases}
use Rattle.semantics.specs.Closure.{strict, defeasible}
use Rattle.semantics.specs.Source.{Word, space_byte, slash_byte, line_feed, letter_byte}
use Rattle.copying.specs.Written.{Appended}
use Rattle.ontology.specs.Text.{Token, closing, token_bytes}
use Rattle.ontology.specs.Points.{token_of, code}
use Rattle.ontology.specs.declared.TokenKind.{TokenKind}
use Rattle.ontology.specs.declared.TokenKind.TheVariants.{Annotation, Opening, Closing, Name}
use Rattle.axioms.specs.declared.Due.{Due}
use Rattle.axioms.specs.declared.Due.TheVariants.{NextAxiom, AnnotationOrClass, OpenAnnotation, NextClass, OpenParts, NextRole, BehindClass}
use Rattle.axioms.specs.Track.{Track, track, expect_track, begin_track, part_mark, unmarked, close_track, next_track, track_due, track_token}
use Rattle.axioms.specs.Steps.{Kept, kept, kept_of, entries, track_of, Fits, ClassFits, TakenAs, stops, goes, token_read, held_track, HasRoom, Taking}
use Rattle.axioms.specs.declared.AxiomReading.{AxiomReading}
use Rattle.axioms.specs.declared.TokenText.{TokenText}
use Rattle.axioms.proofs.TokenKinds.{other_code, no_role}
use Rattle.axioms.proofs.Stack.{entries_more, pushed, replaced, mark_set}

pub class_fits : {p : Kept} {stack out : List ℕ} → Fits p stack out → ClassFits p stack p.size
class_fits f = record { near = omega arith; marks = f.marks }

-- where a token leads
leads : {p : Kept} {t : Token} {stack out st o : List ℕ} {d : Due} {right : Bool} {depth size : ℕ} → entries depth stack ≡ st → take size out ≡ o →
    depth ≤ p.depth + 1 → size ≤ p.size + 3 * length (token_bytes t) → ((i : ℕ) → i < depth → get_or stack i 0 ≤ size) →
    TakenAs p t (kept d right depth size) stack out (some (track d right st o)) true
leads {d = d} {right = right} e h a b m = goes (ap₂ (track d right) e h) record { depth = a; size = b; marks = m }

-- what is due says what a token does
pub by_due : (p : Kept) (stack out₀ : List ℕ) {t : Token} {q : Kept} {stack' out : List ℕ} {d : Due} {r : Bool} → p.due ≡ d →
    TakenAs p t q stack' out (track_due d p.right (entries p.depth stack) (take p.size out₀) t) r → TakenAs p t q stack' out (track_token (track_of p stack out₀) t) r
by_due p stack out₀ {t} e h = rw (ap (λ n. track_due n p.right (entries p.depth stack) (take p.size out₀) t) e) h

-- where the token may not stand it is no matter what is kept
pub not_taken : {p : Kept} {t : Token} {q q' : Kept} {stack stack' out out' : List ℕ} {x : Option Track} → TakenAs p t q stack out x false →
    TakenAs p t q' stack' out' x false
not_taken stops = stops

-- ---- the stack stays as it is

module _ (p : Kept) (stack : List ℕ) where
  goes_on : {out : List ℕ} {d : Due} {stands : Bool} (e k : TokenKind) (w : Word) (next : Due) → p.due ≡ d → Fits p stack out → (stands ≡ true) ↔ (k ≡ e) →
      track_due d p.right (entries p.depth stack) (take p.size out) (token_of k w) ≡
      expect_track (token_of e w) (track next p.right (entries p.depth stack) (take p.size out)) (token_of k w) →
      TakenAs p (token_of k w) (kept next p.right p.depth p.size) stack out (track_token (track_of p stack out) (token_of k w)) stands
  goes_on {out} {stands = stands} e k w next due f (to, from) h = by_due p stack out due (rw h (cases stands
      (λ q. rw (q, to q, eq-eqb (code (token_of e w)) (code (token_of e w)) refl) (leads refl refl (omega arith) (omega arith) f.marks))
      (λ q. rw (q, other_code e k w w (λ z. true≢false (sym (from z) ∙ q))) stops)))

  pub begun : {size next : ℕ} {out o : List ℕ} (t : Token) (d : Due) (right : Bool) → ClassFits p stack size → take next out ≡ o → size ≤ next →
      next + 2 ≤ size + 3 * length (token_bytes t) → TakenAs p t (kept d right p.depth next) stack out (some (track d right (entries p.depth stack) o)) true
  begun t d right f e lo hi = leads refl e (omega arith) (omega (arith, f.near)) (λ i l. omega (arith, f.marks i l))

  module _ {out₀ out : List ℕ} {next : ℕ} (w : Word) (f : Fits p stack out₀) (due : p.due ≡ AnnotationOrClass) where
    pub first_usual : Appended (letter_byte defeasible ∷ []) p.size out₀ out next →
        TakenAs p (token_of Annotation w) (kept OpenAnnotation p.right p.depth next) stack out (track_token (track_of p stack out₀) (token_of Annotation w)) true
    unfolding track_due token_bytes
    first_usual a = by_due p stack out₀ due (begun (token_of Annotation w) OpenAnnotation p.right (class_fits f) a.written (omega (arith, a.ends)) (omega (arith, a.ends)))

    pub first_strict : (k : TokenKind) {q : Kept} {stack' out' : List ℕ} {r : Bool} → (k ≡ Annotation → ⊥) → Appended (letter_byte strict ∷ []) p.size out₀ out next →
        TakenAs p (token_of k w) q stack' out' (begin_track p.right (entries p.depth stack) (take next out) (token_of k w)) r →
        TakenAs p (token_of k w) q stack' out' (track_token (track_of p stack out₀) (token_of k w)) r
    unfolding track_due
    first_strict k n a h = by_due p stack out₀ due (rw (other_code Annotation k w w n, ← a.written) h)

    pub first_fits : Appended (letter_byte strict ∷ []) p.size out₀ out next → ClassFits p stack next
    first_fits a = record { near = omega (arith, a.ends); marks = λ d l. omega (arith, f.marks d l, a.ends) }

-- ---- one more is around

module _ (p : Kept) (stack out₀ : List ℕ) (w : Word) where
  entered : {found out : List ℕ} {next : ℕ} (t : Token) (v : ℕ) → Fits p stack out₀ → Appended found p.size out₀ out next → v ≤ length found →
      length found ≤ 3 * length (token_bytes t) →
      TakenAs p t (kept NextClass p.right (p.depth + 1) next) (set stack p.depth v) out (some (track NextClass p.right (v ∷ entries p.depth stack) (take p.size out₀ ++ found))) true
  entered {next = next} t v f a lo hi =
      leads (pushed p.depth v stack f.deep) a.written (omega arith) (omega (arith, a.ends))
      (λ d l. mark_set p.depth v next stack d f.deep (omega (arith, a.ends)) (λ q. omega (arith, f.marks d (omega arith), a.ends)))

  pub opened : {out : List ℕ} {next : ℕ} → p.due ≡ OpenParts → Fits p stack out₀ → Appended part_mark p.size out₀ out next →
      TakenAs p (token_of Opening w) (kept NextClass p.right (p.depth + 1) next) (set stack p.depth 1) out (track_token (track_of p stack out₀) (token_of Opening w)) true
  unfolding track_due token_bytes
  opened due f a = by_due p stack out₀ due (entered (token_of Opening w) 1 f a (omega arith) (omega arith))

  pub the_role : {out : List ℕ} {next : ℕ} → p.due ≡ NextRole → Fits p stack out₀ → Appended (space_byte ∷ (slash_byte ∷ w)) p.size out₀ out next →
      TakenAs p (token_of Name w) (kept NextClass p.right (p.depth + 1) next) (set stack p.depth 0) out (track_token (track_of p stack out₀) (token_of Name w)) true
  unfolding track_due token_bytes
  the_role due f a = by_due p stack out₀ due (entered (token_of Name w) 0 f a (omega arith) (omega arith))

  module _ (k : TokenKind) {q : Kept} {stack' out : List ℕ} where
    pub not_opened : p.due ≡ OpenParts → (k ≡ Opening → ⊥) → TakenAs p (token_of k w) q stack' out (track_token (track_of p stack out₀) (token_of k w)) false
    unfolding track_due
    not_opened due n = by_due p stack out₀ due (rw (other_code Opening k w w n) stops)

    pub not_role : p.due ≡ NextRole → (k ≡ Name → ⊥) → TakenAs p (token_of k w) q stack' out (track_token (track_of p stack out₀) (token_of k w)) false
    unfolding track_due
    not_role due n = by_due p stack out₀ due (rw (no_role p.right (entries p.depth stack) (take p.size out₀) k w n) stops)

-- ---- a bracket closes

module _ (p : Kept) (stack out₀ : List ℕ) (f : Fits p stack out₀) where
  pub closed_axiom : {out : List ℕ} {next : ℕ} → p.depth ≡ 0 → p.right ≡ true → Appended (line_feed ∷ []) p.size out₀ out next →
      TakenAs p closing (kept NextAxiom false p.depth next) stack out (close_track p.right (entries p.depth stack) (take p.size out₀)) true
  unfolding entries token_bytes
  closed_axiom z r a =
      let h : close_track p.right (entries p.depth stack) (take p.size out₀) ≡ some (track NextAxiom false [] (take p.size out₀ ++ (line_feed ∷ []))) = rw (z, r) in
      let e : entries p.depth stack ≡ [] = rw z in
      rw h (leads e a.written (omega arith) (omega (arith, a.ends)) (λ d l. absurd (omega arith)))

  pub not_closed : {q : Kept} {stack' out : List ℕ} → p.depth ≡ 0 → p.right ≡ false → TakenAs p closing q stack' out (close_track p.right (entries p.depth stack) (take p.size out₀)) false
  unfolding entries
  not_closed z r =
      let h : close_track p.right (entries p.depth stack) (take p.size out₀) ≡ none = rw (z, r) in
      rw h stops

  module _ (around : 0 < p.depth) where
    -- the expression around ends
    ended : {out o : List ℕ} → take p.size out ≡ o →
        TakenAs p closing (kept BehindClass p.right (p.depth - 1) p.size) stack out (some (track BehindClass p.right (entries (p.depth - 1) stack) o)) true
    ended e = leads refl e (omega arith) (omega arith) (λ d l. f.marks d (omega arith))

    pub closed_filler : get_or stack (p.depth - 1) 0 ≡ 0 →
        TakenAs p closing (kept BehindClass p.right (p.depth - 1) p.size) stack out₀ (close_track p.right (entries p.depth stack) (take p.size out₀)) true
    closed_filler e = rw (entries_more p.depth stack around, eq-eqb (get_or stack (p.depth - 1) 0) 0 e) (ended refl)

    pub not_closed_first : {q : Kept} {stack' out : List ℕ} → get_or stack (p.depth - 1) 0 ≡ 1 →
        TakenAs p closing q stack' out (close_track p.right (entries p.depth stack) (take p.size out₀)) false
    not_closed_first e =
        rw (entries_more p.depth stack around, ne_eqb (get_or stack (p.depth - 1) 0) 0 (λ z. omega arith), eq-eqb (get_or stack (p.depth - 1) 0) 1 e) stops

    pub closed_intersection : (get_or stack (p.depth - 1) 0 ≡ 0 → ⊥) → (get_or stack (p.depth - 1) 0 ≡ 1 → ⊥) →
        TakenAs p closing (kept BehindClass p.right (p.depth - 1) p.size) stack (unmarked out₀ (get_or stack (p.depth - 1) 0)) (close_track p.right (entries p.depth stack) (take p.size out₀)) true
    closed_intersection a b =
        let e = get_or stack (p.depth - 1) 0 in
        let m : e ≤ p.size = f.marks (p.depth - 1) (omega arith) in
        let t : take p.size (unmarked out₀ e) ≡ unmarked (take p.size out₀) e =
        take-set-lt p.size (set out₀ (e - 2) 0) (e - 2 + 1) 0 (omega arith) ∙ ap (λ l. set l (e - 2 + 1) 0) (take-set-lt p.size out₀ (e - 2) 0 (omega arith)) in
        rw (entries_more p.depth stack around, ne_eqb e 0 a, ne_eqb e 1 b) (ended t)

-- ---- another class begins

module _ (p : Kept) (stack out₀ : List ℕ) (t : Token) where
  pub not_next : {q : Kept} {stack' out : List ℕ} → p.depth ≡ 0 → p.right ≡ true → TakenAs p t q stack' out (next_track p.right (entries p.depth stack) (take p.size out₀) t) false
  unfolding entries
  not_next z r =
      let h : next_track p.right (entries p.depth stack) (take p.size out₀) t ≡ none = rw (z, r) in
      rw h stops

  pub next_right : p.depth ≡ 0 → p.right ≡ false →
      next_track p.right (entries p.depth stack) (take p.size out₀) t ≡ begin_track true (entries p.depth stack) (take p.size out₀) t
  unfolding entries
  next_right z r = rw (z, r)

  pub not_next_filler : {q : Kept} {stack' out : List ℕ} → 0 < p.depth → get_or stack (p.depth - 1) 0 ≡ 0 →
      TakenAs p t q stack' out (next_track p.right (entries p.depth stack) (take p.size out₀) t) false
  not_next_filler h e = rw (entries_more p.depth stack h, eq-eqb (get_or stack (p.depth - 1) 0) 0 e) stops

  module _ {out : List ℕ} {next : ℕ} (f : Fits p stack out₀) (h : 0 < p.depth) (a : Appended part_mark p.size out₀ out next) where
    pub next_part : (get_or stack (p.depth - 1) 0 ≡ 0 → ⊥) →
        next_track p.right (entries p.depth stack) (take p.size out₀) t ≡ begin_track p.right (entries p.depth (set stack (p.depth - 1) next)) (take next out) t
    next_part e =
        let l : 2 + length (take p.size out₀) ≡ next = omega (arith, length-take-le p.size out₀ (omega (arith, f.long)), a.ends) in
        rw (entries_more p.depth stack h, ne_eqb (get_or stack (p.depth - 1) 0) 0 e, l, replaced p.depth next stack h (omega (arith, f.deep)), a.written)

    pub part_fits : ClassFits p (set stack (p.depth - 1) next) next
    part_fits = record {
      near = omega (arith, a.ends);
      marks = λ d l. mark_set (p.depth - 1) next next stack d (omega (arith, f.deep)) (omega arith) (λ q. omega (arith, f.marks d l, a.ends));
    }

-- ---- what stands behind a class

module _ (p : Kept) (stack out₀ : List ℕ) (w : Word) {q : Kept} {stack' out : List ℕ} {r : Bool} (due : p.due ≡ BehindClass) where
  pub behind_close : TakenAs p closing q stack' out (close_track p.right (entries p.depth stack) (take p.size out₀)) r →
      TakenAs p (token_of Closing w) q stack' out (track_token (track_of p stack out₀) (token_of Closing w)) r
  unfolding track_due
  behind_close t = by_due p stack out₀ due t

  pub behind_next : (k : TokenKind) → (k ≡ Closing → ⊥) → TakenAs p (token_of k w) q stack' out (next_track p.right (entries p.depth stack) (take p.size out₀) (token_of k w)) r →
      TakenAs p (token_of k w) q stack' out (track_token (track_of p stack out₀) (token_of k w)) r
  unfolding track_due
  behind_next k n t = by_due p stack out₀ due (rw (other_code Closing k w w n) t)

-- ---- of states of reading

-- The token has been taken by `go_on`.
pub went_on : {r s : AxiomReading} (t : TokenText) {d next : Due} {e : TokenKind} {stands : Bool} → r.due ≡ d → HasRoom r → s ≡ record r { due = next } →
    (stands ≡ true) ↔ (t.kind ≡ e) →
    track_due d r.right (entries r.depth r.stack.now) (take r.out.now.size r.out.now.bytes.now) (token_read t) ≡
    expect_track (token_of e t.name.now) (track next r.right (entries r.depth r.stack.now) (take r.out.now.size r.out.now.bytes.now)) (token_read t) →
    Taking r (token_read t) s (track_token (held_track r) (token_read t)) stands
went_on {r} {s} t {d} {next} {e} due f q stands h = rw q (goes_on (kept_of r) r.stack.now e t.kind t.name.now next due f stands h)
