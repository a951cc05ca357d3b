-- A text has one answer: it is acceptable, or it has one refusal, at one place.
--     acceptable_not_refused   an acceptable text has no refusal
--     refused_unique           two refusals of one text are the same, at the same place
--     refuses_decides          it is refused exactly so
--     no_later_place           a text that could be refused later too, if what stands before a place were not asked to be within the limits
-- The first of two places is refused for something that the lines up to the second have: for 3 they go on past it, for 4 to 7 they are within the limits.
-- Assumes nothing.
use Prim.Native.Nat.{ℕ, ◌+◌, ◌<◌, ◌≤◌}
use native.Mathlib.Nat.{add-zero}
use native.Mathlib.Numerals.{add-one}
use native.Mathlib.Omega.{arith}
use mathlib.Core.Path.{◌≡◌, refl, sym, ◌∙◌, ap, subst}
use mathlib.Core.Bool.{cond, false≢true}
use mathlib.Core.List.{List, ◌∷◌, ◌++◌, append_assoc}
use mathlib.Core.Logic.{◌↔◌}
use lib.ListN.{length, take, drop, take-append-drop}
use lib.Dec.{ltb}
use lib.Seq.{take-take, take-suc, get_or-drop}
use borrow.Author.Tests.{ltb-true, ltb-false, lt-ltb, le-ltb}
use Rattle.semantics.proofs.Reading.{reads_unique}
use Rattle.semantics.proofs.Tests.{cases}
use Rattle.semantics.specs.Closure.{Line}
use Rattle.semantics.specs.Examples.{bytes}
use Rattle.semantics.specs.Limits.{word_limit, depth_limit}
use Rattle.semantics.specs.Source.{star_byte, Word, word_byte, LineSyntax, lines_meant, WellFormedLine, Writes, Reads}
use Rattle.semantics.proofs.Spelling.{spelled_long}
use Rattle.semantics.proofs.Gaps.{Unspaced}
use Rattle.grammar.proofs.SyntaxMeasures.{ShallowLine, syntax_each, ShortLine}
use Rattle.semantics.specs.Numbering.{normal_rows}
use Rattle.refusal.specs.declared.Refusal.{Refusal}
use Rattle.refusal.specs.declared.Refusal.TheVariants.{SyntaxError, WordTooLong, TooDeep, TooManyNumbers, TooManyRoles}
use Rattle.words.specs.Bytes.{byte_at, class_of, word_run, word_length}
use Rattle.source.specs.Lines.{line_kind, read_line, read_lines, onward_lines, within_rows, read_text, read_letter}
use Rattle.chains.specs.WordList.{seek}
use Rattle.names.specs.Names.{no_numbers, onward, read_word, past_space, after_seek}
use Rattle.forms.specs.Forms.{form_at}
use Rattle.forms.specs.Opened.{after_space}
use Rattle.concepts.specs.Reader.{read_sides, read_form, read_concept}
use Rattle.forms.specs.declared.Form.{Form}
use Rattle.forms.specs.declared.Form.TheVariants.{Name}
use Rattle.names.specs.State.{Step}
use Rattle.std.specs.Prelude.{Ok, Err, Option, Some}
use Rattle.grammar.specs.Accepted.{TextAcceptable}
use Rattle.grammar.specs.Limits.{depth, ShortWords, LinesWithin}
use Rattle.grammar.specs.ViablePrefix.{ViablePrefix, SyntaxAt, ConceptDue, RoleDue, UpTo, LimitAt, Exceeds, deep, long_name, long_role, conjunction, existential, new_name, new_role}
use Rattle.grammar.specs.Refused.{TextRefused, long as too_long, syntax, limit, rows}
use Rattle.grammar.proofs.AcceptsDecides.{accepts_decides}
use Rattle.grammar.proofs.BytesAhead.{ahead_length}
use Rattle.grammar.proofs.BytesAt.{byte_inside, word_class}
use Rattle.grammar.proofs.CompletedPrefix.{viable_to}
use Rattle.grammar.proofs.ExceedsNowhere.{BoundedTo, AgreesAt, exceeds_fresh, name_form, role_split, split_starts, exceeds_absurd}
use Rattle.grammar.proofs.Beginnings.{word_byte_lem}
use Rattle.grammar.proofs.DepthUnique.{depth_same, depth_within}
use Rattle.grammar.proofs.SamePart.{each_of, concept_place, role_place}
use Rattle.grammar.proofs.BetweenRefusals.{bytes_between, between_taken, same_between, slash_between, middle}
use Rattle.grammar.proofs.RefusalsRight.{text_refused}
use Rattle.grammar.proofs.WordRuns.{run_none}
use Rattle.grammar.proofs.SamePrefix.{field_stops}

order : {X : Type 0} (p q : ℕ) → (p < q → X) → (p ≡ q → X) → (q < p → X) → X
order p q less same more = cases (ltb p q) (λ e. less (ltb-true p q e)) λ e. cases (ltb q p) (λ f. more (ltb-true q p f)) λ f.
    same (omega (arith, ltb-false p q e, ltb-false q p f))

-- ---- refusal 3

viable_less : (text : List ℕ) (p q : ℕ) → p ≤ q → ViablePrefix (take q text) → ViablePrefix (take p text)
viable_less text p q h b = record {
  syntax = b.syntax;
  rest = drop p (take q text) ++ b.rest;
  writes = subst (Writes b.syntax)
      (ap (λ k. k ++ b.rest) (sym (take-append-drop p (take q text)) ∙ ap (λ k. k ++ drop p (take q text)) (take-take p q text h)) ∙
      append_assoc (take p text) (drop p (take q text)) b.rest)
      b.writes;
}

viable_all : {text : List ℕ} {L : List LineSyntax} (p : ℕ) → Writes L text → ViablePrefix (take p text)
viable_all {text} {L} p r = record { syntax = L; rest = drop p text; writes = subst (Writes L) (sym (take-append-drop p text)) r }

syntax_before : {text : List ℕ} {p q : ℕ} → SyntaxAt text p → ViablePrefix (take q text) → q ≤ length text → p < q → ⊥
syntax_before {text} {p} {q} s b i h = s.byte (omega arith) (viable_less text (p + 1) q (omega arith) b)

syntax_reads : {text : List ℕ} {L : List (Line Word Word)} {p : ℕ} → SyntaxAt text p → Reads text L → ⊥
syntax_reads {text} {L} {p} s r = order p (length text) (λ h. s.byte h (viable_all (p + 1) r.writes)) (λ e. s.end e L r) (λ h. omega (arith, s.inside))

-- ---- refusals 4 to 7, before another place

bounded_to : {text : List ℕ} {p q : ℕ} → p < q → (b : UpTo text q) → BoundedTo p b.syntax
bounded_to {p} h b = record {
  short = each_of ShortLine b.syntax (syntax_each (ShortWords word_limit) b.syntax b.within.short);
  shallow = λ m s. b.shallow p m h s;
  numbers = b.within.numbers;
  roles = b.within.roles;
}

bounded_all : (p : ℕ) (L : List LineSyntax) → LinesWithin depth_limit (lines_meant L) → BoundedTo p L
bounded_all p L w = record {
  short = each_of ShortLine L (syntax_each (ShortWords word_limit) L w.short);
  shallow = λ m s. depth_within (each_of ShallowLine L (syntax_each (λ C. depth C ≤ depth_limit) L w.shallow)) s;
  numbers = w.numbers;
  roles = w.roles;
}

limit_reads : {text : List ℕ} {L : List (Line Word Word)} {p : ℕ} {why : Refusal} → LimitAt text p why → Reads text L → LinesWithin depth_limit L → ⊥
limit_reads {text} {L} {p} l r w =
    let es = r.syntax in
    let writes : Writes es (take p text ++ drop p text) = subst (Writes es) (sym (take-append-drop p text)) r.writes in
    let within = subst (LinesWithin depth_limit) (sym r.means) w in
    let same : AgreesAt text p (drop p text) = record { byte = get_or-drop p text 0 0 ∙ ap (byte_at text) (add-zero p); size = refl; word = refl } in
    exceeds_absurd (drop p text) (omega (arith, l.inside)) writes (exceeds_fresh same l.exceeds) (bounded_all p es within) same l.before l.exceeds

module _ {text : List ℕ} {p q : ℕ} {why : Refusal} (l : LimitAt text p why) (less : p < q) (inside : q ≤ length text) where
  limit_before : (b : UpTo text q) →
      (word_run (bytes_between text p q less inside) ≡ length (bytes_between text p q less inside) → (word_run (b.put ++ b.rest) ≡ 0) × (word_run (drop q text) ≡ 0)) → ⊥
  limit_before b quiet =
      let v = b.put ++ b.rest in
      let y = bytes_between text p q less inside in
      let writes : Writes b.syntax (take p text ++ (y ++ v)) =
      subst (Writes b.syntax) (ap (λ k. k ++ v) (between_taken text p q less inside) ∙ append_assoc (take p text) y v) b.writes in
      let same = same_between text p q less inside v quiet in
      exceeds_absurd (y ++ v) (omega arith) writes (exceeds_fresh same l.exceeds) (bounded_to less b) same l.before l.exceeds

  limit_syntax : SyntaxAt text q → ⊥
  limit_syntax s = limit_before s.before λ e.
      let m = middle text p q less inside l.before l.exceeds s.before e in (
        m.quiet,
        cases (word_byte (byte_at text q))
            (λ w.
            let there = byte_inside text q (word_byte_lem (byte_at text q) w) in
            absurd (s.byte there (rw (add-one, take-suc text q 0 there) (m.grows (byte_at text q) w))))
            (λ w. run_none text q (word_class (byte_at text q) ∙ w)),
      )

  concept_between : {m : ℕ} (b : UpTo text q) → ConceptDue q b.syntax b.put m → word_run (bytes_between text p q less inside) ≡ length (bytes_between text p q less inside) → ⊥
  concept_between b d e = false≢true (rw d.star at (middle text p q less inside l.before l.exceeds b e).ends)

  exceeds_between : {how : Refusal} (b : UpTo text q) → Exceeds text q b.syntax b.put how → word_run (bytes_between text p q less inside) ≡ length (bytes_between text p q less inside) → ⊥
  exceeds_between b (deep d f) = concept_between b d
  exceeds_between b (long_name d low over) = concept_between b d
  exceeds_between b (long_role d over) = λ e. slash_between text p q less inside e d
  exceeds_between b (conjunction d low full f) = concept_between b d
  exceeds_between b (existential d low full f) = concept_between b d
  exceeds_between b (new_name d low full f short spelled new) = concept_between b d
  exceeds_between b (new_role d full some_byte short spelled new) = λ e. slash_between text p q less inside e d

  limit_limit : {how : Refusal} → LimitAt text q how → ⊥
  limit_limit m = limit_before m.before λ e. absurd (exceeds_between m.before m.exceeds e)

-- ---- refusals 4 to 7, at one place

-- the refusal of a concept that is due at depth m, and of a role, by the size of the word that stands there
abbrev concept_why : ℕ → ℕ → Refusal
concept_why m size = cond (ltb depth_limit m) TooDeep (cond (ltb word_limit size) WordTooLong TooManyNumbers)

abbrev role_why : ℕ → Refusal
role_why size = cond (ltb word_limit size) WordTooLong TooManyRoles

data Limited (text : List ℕ) (p : ℕ) (M : List LineSyntax) (put : List ℕ) (why : Refusal) : Type 0 where
  at_concept : {m : ℕ} → ConceptDue p M put m → why ≡ concept_why m (word_length text p) → Limited text p M put why
  at_role : RoleDue text p M put → why ≡ role_why (word_length text p) → Limited text p M put why

-- a word starts with no sign
sign_short : (text : List ℕ) (p : ℕ) {f : Option Form} → form_at text p ≡ f → (Some Name ≡ f → ⊥) → word_length text p ≤ word_limit
sign_short text p e other = order (word_length text p) 1 (λ h. omega arith) (λ h. omega arith) λ h. absurd (other (sym (name_form text p (omega arith)) ∙ e))

kind : {text : List ℕ} {p : ℕ} {M : List LineSyntax} {put : List ℕ} {why : Refusal} → Exceeds text p M put why → Limited text p M put why
kind (deep d f) = at_concept d refl
kind {text} {p} (long_name {m} d low over) = at_concept d (rw (le-ltb depth_limit m low, lt-ltb word_limit (word_length text p) over))
kind {text} {p} (long_role d over) = at_role d (rw (lt-ltb word_limit (word_length text p) over))
kind {text} {p} (conjunction {m} d low full f) =
    at_concept d (rw (le-ltb depth_limit m low, le-ltb word_limit (word_length text p) (sign_short text p f λ h. absurd cc)))
kind {text} {p} (existential {m} d low full f) =
    at_concept d (rw (le-ltb depth_limit m low, le-ltb word_limit (word_length text p) (sign_short text p f λ h. absurd cc)))
kind {text} {p} (new_name {m} d low full f short spelled new) = at_concept d (rw (le-ltb depth_limit m low, le-ltb word_limit (word_length text p) short))
kind {text} {p} (new_role d full some_byte short spelled new) = at_role d (rw (le-ltb word_limit (word_length text p) short))

star_run : (t : List ℕ) → word_length (star_byte ∷ t) 0 ≡ 0
unfolding word_run class_of
star_run t = refl

module _ {text : List ℕ} {p : ℕ} (inside : p ≤ length text) where
  star_fresh : {m : ℕ} (a : UpTo text p) → ConceptDue p a.syntax a.put m → Unspaced (a.put ++ a.rest)
  star_fresh a d = rw d.star refl

  no_both : {m : ℕ} (a b : UpTo text p) → ConceptDue p a.syntax a.put m → RoleDue text p b.syntax b.put → ⊥
  no_both a b d e =
      let u = a.put ++ a.rest in
      let s = role_split u inside a.writes (star_fresh a d) (role_place inside b e) in
      omega (
        arith,
        spelled_long s.worded,
        ahead_length u 0 s.tree.1 s.tail s.worded (field_stops s.tail s.ends) s.spelled,
        ap (λ k. word_length (k ++ a.rest) 0) d.star,
        star_run a.rest,
      )

  one_depth : {m i : ℕ} (a b : UpTo text p) → ConceptDue p a.syntax a.put m → ConceptDue p b.syntax b.put i → m ≡ i
  one_depth a b d e =
      depth_same (each_of WellFormedLine b.syntax b.writes.well_formed) refl
      (split_starts (b.put ++ b.rest) inside b.writes (star_fresh b e) (concept_place inside a d)) e.starts

  limit_same : {why how : Refusal} (a b : UpTo text p) → Limited text p a.syntax a.put why → Limited text p b.syntax b.put how → why ≡ how
  limit_same a b (at_concept d e) (at_concept g f) = e ∙ ap (λ m. concept_why m (word_length text p)) (one_depth a b d g) ∙ sym f
  limit_same a b (at_concept d e) (at_role g f) = absurd (no_both a b d g)
  limit_same a b (at_role d e) (at_concept g f) = absurd (no_both b a g d)
  limit_same a b (at_role d e) (at_role g f) = e ∙ sym f

-- ---- any two refusals

module _ {text : List ℕ} where
  syntaxes : {p q : ℕ} → SyntaxAt text p → SyntaxAt text q → p ≡ q
  syntaxes {p} {q} s t = order p q (λ h. absurd (syntax_before s (viable_to t.before) t.inside h)) (λ e. e) (λ h. absurd (syntax_before t (viable_to s.before) s.inside h))

  syntax_no_limit : {p q : ℕ} {why : Refusal} → SyntaxAt text p → LimitAt text q why → ⊥
  syntax_no_limit {p} {q} s l = order p (q + 1)
      (λ h. syntax_before s l.goes_on (omega (arith, l.inside)) h)
      (λ e. limit_syntax l (omega arith) s.inside s)
      (λ h. limit_syntax l (omega arith) s.inside s)

  limits : {p q : ℕ} {why how : Refusal} → LimitAt text p why → LimitAt text q how → (p ≡ q) × (why ≡ how)
  limits {p} {q} {how} l m = order p q
      (λ h. absurd (limit_limit l h (omega (arith, m.inside)) m))
      (λ e. let n : LimitAt text p how = subst (λ k. LimitAt text k how) (sym e) m in (e, limit_same (omega (arith, l.inside)) l.before n.before (kind l.exceeds) (kind n.exceeds)))
      (λ h. absurd (limit_limit m h (omega (arith, l.inside)) l))

  -- Two refusals of one text are the same, at the same place.
  pub refused_unique : {p q : ℕ} {why how : Refusal} → TextRefused text p why → TextRefused text q how → (p ≡ q) × (why ≡ how)
  refused_unique (too_long h e) (too_long k f) = (omega arith, refl)
  refused_unique (too_long h e) (syntax k s) = absurd (omega arith)
  refused_unique (too_long h e) (limit k l) = absurd (omega arith)
  refused_unique (too_long h e) (rows k r) = absurd (omega arith)
  refused_unique (syntax h s) (too_long k e) = absurd (omega arith)
  refused_unique (syntax h s) (syntax k t) = (syntaxes s t, refl)
  refused_unique (syntax h s) (limit k l) = absurd (syntax_no_limit s l)
  refused_unique (syntax h s) (rows k r) = absurd (syntax_reads s r.reads)
  refused_unique (limit h l) (too_long k e) = absurd (omega arith)
  refused_unique (limit h l) (syntax k s) = absurd (syntax_no_limit s l)
  refused_unique (limit h l) (limit k m) = limits l m
  refused_unique (limit h l) (rows k r) = absurd (limit_reads l r.reads r.within)
  refused_unique (rows h r) (too_long k e) = absurd (omega arith)
  refused_unique (rows h r) (syntax k s) = absurd (syntax_reads s r.reads)
  refused_unique (rows h r) (limit k l) = absurd (limit_reads l r.reads r.within)
  refused_unique (rows h r) (rows k t) = (r.end ∙ sym t.end, refl)

  -- An acceptable text has no refusal.
  pub acceptable_not_refused : {p : ℕ} {why : Refusal} → TextAcceptable text → TextRefused text p why → ⊥
  acceptable_not_refused a (too_long h e) = omega (arith, a.within.bytes)
  acceptable_not_refused a (syntax h s) = syntax_reads s a.reads
  acceptable_not_refused a (limit h l) = limit_reads l a.reads a.within.within
  acceptable_not_refused a (rows h r) = omega (arith, r.many, a.within.rows, ap (λ ls. length (normal_rows ls)) (reads_unique r.reads a.reads))

  refused_so : {p : ℕ} {why : Refusal} → TextRefused text p why → (read_text text).reading.step ≡ Err record { why = why; place = p }
  refused_so {p} {why} t = go (read_text text).reading.step refl
    where
      go : (s : Step) → (read_text text).reading.step ≡ s → (read_text text).reading.step ≡ Err record { why = why; place = p }
      go (Ok (x, next)) e = absurd (acceptable_not_refused ((accepts_decides text).0 record { count = x; end = next; read = e }) t)
      go (Err r) e = let (place, same) = refused_unique (text_refused text r.place r.why e) t in e ∙ (λ i. Err record { why = same i; place = place i })

-- A text is refused exactly for what `TextRefused` says of it.
pub refuses_decides : (text : List ℕ) (p : ℕ) (why : Refusal) → ((read_text text).reading.step ≡ Err record { why = why; place = p }) ↔ TextRefused text p why
refuses_decides text p why = (text_refused text p why, refused_so)

-- ---- a control

-- `S abcdefghijklm !`: the word has 13 bytes, so the text is refused at 2 and not at the ! behind it.
no_later_place : TextRefused (bytes "S abcdefghijklm !") 16 SyntaxError → ⊥
unfolding read_text within_rows read_lines read_line read_letter read_concept read_form read_sides seek after_seek read_word onward onward_lines after_space past_space line_kind class_of word_run no_numbers
no_later_place t = omega (arith, (refused_unique (text_refused (bytes "S abcdefghijklm !") 2 WordTooLong refl) t).0)
