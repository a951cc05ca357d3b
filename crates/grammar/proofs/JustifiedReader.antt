-- Where the reading of a concept is refused, the text up to there begins the text of some lines within the limits, and where a limit is the reason, it is passed there.
-- By induction on the allowance; the lines that have a concept at the place go down with the reader.
-- Assumes nothing.
use Prim.Native.Nat.{ℕ, zero, suc, ◌+◌, ◌<◌, ◌≤◌}
use native.Mathlib.Omega.{arith}
use mathlib.Core.Path.{◌≡◌, refl, sym, ◌∙◌, ap, subst}
use mathlib.Core.Option.{none}
use mathlib.Core.List.{List, [], ◌∷◌, ◌++◌, append_assoc}
use lib.ListN.{length, take}
use lib.Seq.{length-take-le}
use Rattle.semantics.specs.Limits.{depth_limit, number_limit, role_limit}
use Rattle.semantics.specs.Numbering.{Names, number_taken, lookup, number_concept, number_role, place_of}
use Rattle.semantics.specs.Source.{slash_byte, Word, Gap, ConceptSyntax, star, slash, lines_meant, concept_bytes, WellFormed}
use Rattle.semantics.proofs.Gaps.{plain_gap}
use Rattle.grammar.proofs.SyntaxMeasures.{number_syntax, syntax_depth, ShortSyntax}
use Rattle.refusal.specs.declared.Refusal.{Refusal}
use Rattle.refusal.specs.declared.Refusal.TheVariants.{SyntaxError, TooDeep, TooManyNumbers}
use Rattle.words.specs.Bytes.{byte_at, word_length}
use Rattle.chains.specs.WordList.{find_word}
use Rattle.names.specs.Names.{with_left, take_number, read_word}
use Rattle.forms.specs.Forms.{form_at}
use Rattle.forms.specs.Opened.{open_conjunction, open_existential}
use Rattle.concepts.specs.Reader.{too_deep, read_sides, read_filler, read_form, read_concept}
use Rattle.forms.specs.declared.Form.{Form}
use Rattle.forms.specs.declared.Form.TheVariants.{Top, Bottom, Name, Conjunction, Existential}
use Rattle.std.specs.Prelude.{None, Option, Some}
use Rattle.chains.specs.declared.Sort.TheVariants.{Concepts, Roles}
use Rattle.names.specs.State.{State, next_concept}
use Rattle.grammar.specs.Limits.{depth, names_after}
use Rattle.grammar.specs.ViablePrefix.{whole, StartsIn, no_put, UpTo, ConceptDue, RoleDue, Exceeds, deep, long_name, long_role, conjunction, existential, new_name, new_role}
use Rattle.grammar.proofs.BytesAt.{FormByte, form_byte, word_here, word_is, word_starts}
use Rattle.grammar.proofs.ReaderCases.{take_number_cases, word_cases}
use Rattle.grammar.proofs.CompletedPrefix.{Open, PartFits, up_to, star_due, star_to, concept_limit}
use Rattle.grammar.proofs.Contexts.{Context, within, within_fill, before_less, concept, sides, role}
use Rattle.grammar.proofs.JustifiedSteps.{Fault, syntax, limit, EndsJustified, Justified, done, refused, ends_then, ends_read, ends_gap}
use Rattle.grammar.proofs.ReachedPlaces.{byte_later, take_byte, take_spelled, Past, DueAt, past_then, past_place, past_none, ready_past, roles_few}
use Rattle.grammar.proofs.FoundNumbers.{found_number, roles_length, word_found, role_found}
use Rattle.grammar.proofs.Beginnings.{CanBegin}
use Rattle.grammar.proofs.OpenedContexts.{blank_concept, blank_sides, sides_before, in_conjunction, in_role, in_role_fill, in_filler, in_left_lem, in_right_lem}
use Rattle.grammar.proofs.SoundWords.{RoleRead, role_sound}
use Rattle.grammar.specs.StateNames.{state_names}
use Rattle.grammar.proofs.Readings.{ConceptRead}
use Rattle.grammar.proofs.CompletedRole.{RoleWords, due_role, due_spelled, due_full, open_roles, role_due, role_to, role_limit_lem}
use Rattle.grammar.proofs.SoundReader.{concept_sound}
use Rattle.grammar.proofs.ValidStates.{names_sign, valid_sign, valid_left}

-- a role that is due behind the / at `at`
record RoleOpen (before : List ℕ) (n : Names) (a at : ℕ) : Type 0 where
  opened : Open role before n a
  depth : ℕ
  starts : (r : Word × List ℕ) → StartsIn (opened.fill r) at depth

module _ {text : List ℕ} where
  -- ---- places behind what has been read

  past_left : {w : List ℕ} {at x next : ℕ} {m : Names} {t : State} (k y : ℕ) → Past text at w m t x next → Past text at w m (with_left t k y) k next
  past_left {t} k y p = record { valid = valid_left k y p.valid; inside = p.inside; names = p.names; bytes = p.bytes }

  past_role : {t u : State} {at y end : ℕ} {m : Names} → state_names text t ≡ m → (r : RoleRead text t u at y end) →
      Past text at r.spelling (number_role r.role m (place_of r.role m.roles)).1 u y end
  past_role {at} {end} e r = record {
    valid = r.valid;
    inside = r.inside;
    names = sym (ap (λ k. k.1) r.number) ∙ ap (λ k. (number_role r.role k (place_of r.role k.roles)).1) e;
    bytes = take_spelled text r.spelling at end (omega (arith, r.later, r.inside)) r.inside r.spelled;
  }

  past_concept : {s t : State} {at a x next : ℕ} (c : ConceptRead a text s t at x next) →
      Past text at (concept_bytes c.concept) (number_syntax c.concept (state_names text s)).after t x next
  past_concept {at} {next} c = record {
    valid = c.valid;
    inside = c.inside;
    names = sym c.after;
    bytes = take_spelled text (concept_bytes c.concept) at next (omega (arith, c.later, c.inside)) c.inside c.spelled;
  }

  -- ---- a role

  module _ {s : State} {x at a : ℕ} (r : DueAt text role a s x at) (words : RoleWords (state_names text s))
      (d : RoleDue text at (r.opened.fill (due_spelled (state_names text s).roles)) (due_role (state_names text s).roles)) where
    role_passed : {why : Refusal} → 0 < word_length text at → Exceeds text at (r.opened.fill (due_spelled (state_names text s).roles)) (due_role (state_names text s).roles) why →
        Fault text at why
    role_passed h e = limit (role_limit_lem text at r.opened d r.valid.concepts.most (roles_few r.valid) words h e)

    old_roles : role_limit ≤ (s.lists Roles).used → 0 < length (state_names text s).roles
    old_roles h = rw (roles_length text (s.lists Roles) (s.lists Roles).used) (omega arith)

    full_roles : role_limit ≤ (s.lists Roles).used → names_after (lines_meant (r.opened.fill (due_spelled (state_names text s).roles))) ≡ state_names text s
    full_roles h = r.opened.after (due_spelled (state_names text s).roles) ∙ due_full (state_names text s) (old_roles h)

    no_place : 0 < word_length text at → find_word text (s.lists Roles) at (word_length text at) role_limit ≡ None →
        place_of (word_here text at) (state_names text s).roles ≡ none
    no_place h e = role_found text s at (word_length text at) r.valid h ∙ ap found_number e

    role_justified : Justified text (read_word Roles text s at)
    role_justified = word_cases (Justified text) Roles text s at
        (λ none. refused (syntax r.inside (role_to text at r.opened d r.valid.concepts.most (roles_few r.valid) words r.inside)))
        (λ h. refused (role_passed (omega arith) (long_role d h)))
        (λ h short k old. done tt)
        (λ h short new. (
          λ room. done tt,
          λ f. refused (role_passed h (new_role d
              (rw (full_roles f, roles_length text (s.lists Roles) (s.lists Roles).used) (omega (arith, r.valid.roles.most)))
              h short (word_is text at h)
              (rw (full_roles f) (no_place h new)))),
        ))

    role_ends : EndsJustified text (λ t y next. RoleRead text s t at y next) (read_word Roles text s at)
    role_ends = ends_read role_justified (role_sound text s at r.valid)

  -- ---- a word, and the number of an & or a /

  -- where a concept can begin, a limit is passed
  concept_passed : {s : State} {x at a : ℕ} {why : Refusal} (r : DueAt text concept a s x at) → CanBegin (form_at text at) →
      Exceeds text at (r.opened.fill star) (concept_bytes star) why → Fault text at why
  concept_passed {at} r due e = limit (concept_limit text at r.opened r.valid.concepts.most (roles_few r.valid) due e)

  module _ {s : State} {x at a : ℕ} (r : DueAt text concept (suc a) s x at) where
    star_here : ConceptDue at (r.opened.fill star) (concept_bytes star) (1 + r.opened.deeper)
    star_here = star_due text at r.opened r.inside

    enough : 1 + r.opened.deeper ≤ depth_limit
    enough = omega (arith, r.opened.left)

    after_top : names_after (lines_meant (r.opened.fill star)) ≡ state_names text s
    unfolding number_concept
    after_top = r.opened.after star

    full : number_limit ≤ next_concept s → (names_after (lines_meant (r.opened.fill star))).next ≡ number_limit
    full h = rw after_top (omega (arith, r.valid.concepts.most))

    no_number : 0 < word_length text at → find_word text (s.lists Concepts) at (word_length text at) number_limit ≡ None →
        lookup (word_here text at) (names_after (lines_meant (r.opened.fill star))).words ≡ none
    no_number h e = rw after_top (word_found text s at (word_length text at) r.valid h ∙ ap found_number e)

    word_justified : form_at text at ≡ Some Name → FormByte (Some Name) (byte_at text at) → Justified text (read_word Concepts text s at)
    word_justified f b = word_cases (Justified text) Concepts text s at
        (λ none. absurd (omega (arith, word_starts text at b)))
        (λ h. refused (concept_passed r (rw f tt) (long_name star_here enough h)))
        (λ h short n old. done tt)
        (λ h short new. (
          λ room. done tt,
          λ f'. refused (concept_passed r (rw f tt) (new_name star_here enough (full f') f short (word_is text at h) (no_number h new))),
        ))

    number_ends : {b : ℕ} → byte_at text at ≡ b → 0 < b → ((names_after (lines_meant (r.opened.fill star))).next ≡ number_limit → Fault text at TooManyNumbers) →
        EndsJustified text (Past text at (b ∷ []) (number_taken (state_names text s))) (take_number s at)
    number_ends {b} e h passed = take_number_cases (EndsJustified text (Past text at (b ∷ []) (number_taken (state_names text s)))) s at
        (λ room. done record {
          valid = valid_sign text s at r.valid room (omega (arith, r.inside));
          inside = byte_later text at e h;
          names = names_sign text s at r.valid room;
          bytes = take_byte text at e h;
        })
        (λ f. refused (passed (full f)))

  -- ---- an & and a /

  module _ {s : State} {x at a : ℕ} (r : DueAt text concept (suc a) s x at) where
    conjunction_ends : form_at text at ≡ Some Conjunction → FormByte (Some Conjunction) (byte_at text at) → EndsJustified text (DueAt text sides a) (open_conjunction text s at)
    unfolding open_conjunction
    conjunction_ends f b =
        ends_then _ (number_ends r b (omega arith) (λ h. concept_passed r (rw f tt) (conjunction (star_here r) (enough r) h f))) λ t y next p.
        ends_gap r p _ (in_conjunction (state_names text s) a) blank_sides λ start g q. done (ready_past r q (in_conjunction (state_names text s) a g.gap g.is))

    slash_opens : RoleOpen (take at text ++ (slash_byte ∷ [])) (number_taken (state_names text s)) a at
    slash_opens = record {
      opened = within r.opened (in_role (state_names text s) a);
      depth = 1 + r.opened.deeper;
      starts = λ w. rw (within_fill r.opened (in_role (state_names text s) a) w, in_role_fill (state_names text s) a w)
          (subst (λ k. StartsIn (r.opened.fill (slash w.0 w.1 plain_gap star)) k (1 + r.opened.deeper)) (omega (arith, length-take-le at text r.inside))
          (r.opened.starts (slash w.0 w.1 plain_gap star) 0 1 (whole refl refl)));
    }

    existential_ends : form_at text at ≡ Some Existential → FormByte (Some Existential) (byte_at text at) → EndsJustified text (DueAt text concept a) (open_existential text s at)
    unfolding open_existential
    existential_ends f b = ends_then _ (number_ends r b (omega arith) (λ h. concept_passed r (rw f tt) (existential (star_here r) (enough r) h f))) λ t y next p.
        let o : RoleOpen (take next text) (state_names text t) a at = rw (p.bytes, p.names) slash_opens in
        let k : DueAt text role a t y next = record { valid = p.valid; inside = p.inside; opened = o.opened } in
        let words = subst RoleWords (sym p.names) (open_roles r.opened) in
        let due = role_due text next o.opened words at o.depth (past_place r.inside p) b (o.starts (due_spelled (state_names text t).roles)) in
        ends_then _ (role_ends k words due) λ u z end d.
        let c : (g : List ℕ) → Gap g → Context concept concept (slash_byte ∷ (d.spelling ++ g)) (state_names text s)
        (number_role d.role (number_taken (state_names text s)) (place_of d.role (state_names text s).roles)).1 (suc a) a =
        λ g h. in_filler (state_names text s) a d.role d.spelling g d.word h d.short in
        ends_gap r (past_then p (past_role p.names d)) _ c blank_concept λ start g q. done (ready_past r (past_left y z q) (c g.gap g.is))

module _ (text : List ℕ) where
  -- ---- two sides

  pub record ConceptEnds (a : ℕ) : Type 0 where
    pub ends : {s : State} {x at : ℕ} → DueAt text concept a s x at → EndsJustified text (λ t x next. ConceptRead a text s t at x next) (read_concept a text s at)

  -- behind two sides that have been read
  sides_to : {s t u : State} {x y z at next end a : ℕ} (C : ConceptSyntax) (g : List ℕ) → DueAt text sides a s x at →
      WellFormed C → Gap g → ShortSyntax C → syntax_depth C ≤ a → ConceptRead a text t u next z end →
      Past text at (concept_bytes C ++ g) (number_syntax C (state_names text s)).after t y next → UpTo text end
  sides_to {s} {u} {at} {end} {a} C g r words gap short shallow d q =
      let o = r.opened in
      let D = d.concept in
      let p = past_then q (past_concept d) in
      let after : (number_syntax D (number_syntax C (state_names text s)).after).after ≡ state_names text u = rw (← q.names) d.after in
      let f : PartFits sides (C, g, D) (state_names text s) a = record {
        worded = (words, gap, d.words);
        short = (short, d.short);
        shallow = omega (arith, d.shallow);
        numbers = rw after d.valid.concepts.most;
        roles = rw after (roles_few d.valid);
      } in
      let w = concept_bytes C ++ (g ++ concept_bytes D) in
      let e : (concept_bytes C ++ g) ++ concept_bytes D ≡ w = append_assoc (concept_bytes C) g (concept_bytes D) in
      up_to text end o (C, g, D) f [] o.rest (rw p.bytes (simp append_assoc)) o.plain (no_put refl)
      (before_less (omega (arith, past_place r.inside p, ap length e, length-take-le at text r.inside))
      (o.before (C, g, D) (length w) (omega arith) (sides_before (length w) shallow d.shallow)))

  pub sides_ends : {s : State} {x at a : ℕ} (number : ℕ) → DueAt text sides a s x at → ConceptEnds a →
      EndsJustified text (λ t x end. (end ≤ length text) × UpTo text end) (read_sides (read_concept a text) text s at number)
  unfolding read_sides
  sides_ends {s} {at} {a} number r inner =
      ends_then _ (inner.ends (ready_past r (past_none r) (in_left_lem (state_names text s) a))) λ t y next c.
      let k : (g : List ℕ) → Gap g → Context sides concept (concept_bytes c.concept ++ g) (state_names text s) (number_syntax c.concept (state_names text s)).after a a =
      λ g h. in_right_lem (state_names text s) a c.concept g c.words h c.short c.shallow in
      ends_gap r (past_concept c) _ k blank_concept λ start g p.
      let q = past_left number y p in
      ends_then _ (inner.ends (ready_past r q (k g.gap g.is))) λ u z end d.
      done (d.inside, sides_to c.concept g.gap r c.words g.is c.short c.shallow d q)

  -- ---- a concept

  concept_missing : {s : State} {x at a : ℕ} → DueAt text concept a s x at → Fault text at SyntaxError
  concept_missing {at} r = syntax r.inside (star_to text at r.opened r.inside r.valid.concepts.most (roles_few r.valid))

  due_there : (f : Option Form) → CanBegin f → f ≡ None → ⊥
  due_there None d e = d
  due_there (Some form) d e = absurd cc

  deep_justified : {s : State} {x at : ℕ} → DueAt text concept 0 s x at → (f : Option Form) → form_at text at ≡ f → Fault text at (too_deep f)
  unfolding depth
  deep_justified {at} r = go
    where
      passed : {f : Option Form} → form_at text at ≡ f → CanBegin f → Fault text at TooDeep
      passed {f} e due = concept_passed r (rw e due)
          (deep (subst (ConceptDue at (r.opened.fill star) (concept_bytes star)) (omega (arith, r.opened.left)) (star_due text at r.opened r.inside))
          λ m. due_there f due (sym e ∙ m))

      go : (f : Option Form) → form_at text at ≡ f → Fault text at (too_deep f)
      go (Some form) e = passed e tt
      go None e = concept_missing r

  form_justified : {s : State} {x at a : ℕ} → DueAt text concept (suc a) s x at → ConceptEnds a →
      (f : Option Form) → form_at text at ≡ f → FormByte f (byte_at text at) → Justified text (read_form f (read_concept a text) text s at)
  unfolding read_form read_filler
  form_justified r inner (Some Top) e b = done tt
  form_justified r inner (Some Bottom) e b = done tt
  form_justified r inner (Some Name) e b = word_justified r e b
  form_justified r inner (Some Conjunction) e b = ends_then _ (conjunction_ends r e b) λ t y next q. ends_read (sides_ends y q inner) record { holds = λ z end e. tt }
  form_justified r inner (Some Existential) e b = ends_then _ (existential_ends r e b) λ t y next q. ends_then _ (inner.ends q) λ u z end c. done tt
  form_justified r inner None e b = refused (concept_missing r)

  pub concept_ends : (a : ℕ) → ConceptEnds a
  unfolding read_concept
  concept_ends zero = record { ends = λ {s} {x} {at} r. refused (deep_justified r (form_at text at) refl) }
  concept_ends (suc a) = record {
    ends = λ {s} {x} {at} r. ends_read (form_justified r (concept_ends a) (form_at text at) refl (form_byte text at))
        record { holds = λ x next e. concept_sound (suc a) text s at x next r.valid e };
  }
