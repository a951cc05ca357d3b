-- Two refusals of one text at different places: what stands between them.
--     WordHole   a word that is due at p, with what follows it, and room for any other word
--     Middle     where only word bytes stand between p and q
-- Assumes nothing.
use Prim.Native.Nat.{ℕ, zero, suc, ◌-◌, ◌<◌, ◌≤◌}
use native.Mathlib.Nat.{add-zero}
use native.Mathlib.Omega.{arith}
use mathlib.Core.Path.{◌≡◌, refl, sym, ◌∙◌, ap, subst}
use mathlib.Core.Bool.{true, false≢true}
use mathlib.Core.List.Memᴰ
use mathlib.Core.List.{List, [], ◌∷◌, ◌++◌, append_assoc, append-nil, Memᴰ}
use lib.ListN.{length, get_or, take, drop, length-append, length-drop, take-append-drop, get_or-append}
use lib.Seq.{length-take-le, take-take, take-append-le, drop-append-le, get_or-take, get_or-drop}
use Rattle.semantics.proofs.Tests.{cases}
use Rattle.semantics.specs.Numbering.{Names, no_names}
use Rattle.semantics.specs.Source.{Word, word_byte, Spelled, ConceptSyntax, star, dash, word, ampersand, slash, LineSyntax, concept_bytes, WellFormedLine, Writes}
use Rattle.semantics.proofs.Spelling.{Stops, spells, spelled_end}
use Rattle.semantics.proofs.Gaps.{Unspaced}
use Rattle.refusal.specs.declared.Refusal.{Refusal}
use Rattle.words.specs.Bytes.{byte_at, is_word_byte, word_run, word_length}
use Rattle.forms.specs.Forms.{form_at}
use Rattle.std.specs.Prelude.{Some}
use Rattle.forms.specs.declared.Form.TheVariants.{Name}
use Rattle.grammar.specs.ViablePrefix.{ViablePrefix, RoleDue, Put, no_put, star_put, role_put, UpTo, Exceeds, deep, long_name, long_role, conjunction, existential, new_name, new_role}
use Rattle.grammar.proofs.BytesAhead.{form_of, ahead_form}
use Rattle.grammar.proofs.BytesAt.{word_class}
use Rattle.grammar.proofs.CompletedPrefix.{each_at}
use Rattle.grammar.proofs.Contexts.{AllOf, EndByte, FieldEnds, lines, concept, role}
use Rattle.grammar.proofs.ExceedsNowhere.{AgreesAt, name_form, form_fresh, concept_split, role_split}
use Rattle.grammar.proofs.SamePart.{each_of, end_stops, concept_place, role_place}
use Rattle.grammar.proofs.SamePrefix.{Split, field_stops}

-- ---- word bytes

run_append : (y a : List ℕ) → (word_run y ≡ length y → word_run a ≡ 0) → word_run (y ++ a) ≡ word_run y
unfolding word_run
run_append [] a h = h refl
run_append (b ∷ y) a h = cases (is_word_byte b)
    (λ e. rw e (ap suc (run_append y a (λ f. h (rw e (ap suc f))))))
    (λ e. rw e)

run_le : (y : List ℕ) → word_run y ≤ length y
unfolding word_run
run_le [] = omega arith
run_le (b ∷ y) = cases (is_word_byte b) (λ e. rw e (omega (arith, run_le y))) (λ e. rw e (omega arith))

run_first : (b : ℕ) (y : List ℕ) → word_run (b ∷ y) ≡ length (b ∷ y) → (word_byte b ≡ true) × (word_run y ≡ length y)
unfolding word_run
run_first b y h = cases (is_word_byte b)
    (λ e. (sym (word_class b) ∙ e, omega (arith, rw e at h)))
    (λ e. absurd (omega (arith, rw e at h)))

run_all : (y : List ℕ) → word_run y ≡ length y → (b : ℕ) → Memᴰ b y → word_byte b ≡ true
run_all [] h b i = absurd (Memᴰ.not-nil i)
run_all (c ∷ y) h b (Memᴰ.head e) = rw e (run_first c y h).0
run_all (c ∷ y) h b (Memᴰ.tail i) = run_all y (run_first c y h).1 b i

run_at : (y : List ℕ) (k : ℕ) → word_run y ≡ length y → k < length y → word_byte (get_or y k 0) ≡ true
run_at [] k h l = absurd (omega arith)
run_at (c ∷ y) zero h l = (run_first c y h).0
run_at (c ∷ y) (suc k) h l = run_at y k (run_first c y h).1 (omega arith)

stops_run : (a : List ℕ) → Stops a → word_run a ≡ 0
unfolding word_run
stops_run [] h = refl
stops_run (b ∷ a) h = rw (word_class b, h)

-- ---- a word that is due

pub record WordHole (text : List ℕ) (p : ℕ) (u : List ℕ) : Type 0 where
  pub word : Word
  pub spelling : List ℕ
  pub is : Spelled word spelling
  pub tail : List ℕ
  pub ends : FieldEnds tail
  pub spelled : u ≡ spelling ++ tail
  pub refill : (v : Word) (c : List ℕ) → Spelled v c → ViablePrefix (take p text ++ c)

concept_hole : {text u : List ℕ} {p d : ℕ} {n : Names} {L : List LineSyntax} (s : Split lines concept (take p text) no_names n d L [] u) → form_at u 0 ≡ Some Name →
    WordHole text p u
unfolding concept_bytes
concept_hole {text} {u} {p} s f = go s.tree s.worded s.spelled (sym (ahead_form u 0 s.tree s.tail s.worded s.spelled) ∙ f)
  where
    go : (C : ConceptSyntax) → concept.Worded C → u ≡ concept_bytes C ++ s.tail → form_of C ≡ Some Name → WordHole text p u
    go star w e f = absurd cc
    go dash w e f = absurd cc
    go (ampersand g C h D) w e f = absurd cc
    go (slash r b g C) w e f = absurd cc
    go (word v b) w e f = record {
      word = v;
      spelling = b;
      is = w;
      tail = s.tail;
      ends = s.ends;
      spelled = e;
      refill = λ v c k. record {
        syntax = s.fill (word v c);
        rest = s.tail;
        writes = record {
          well_formed = λ l i. each_at WellFormedLine (s.filled_worded (word v c) k) i;
          spelled = sym (append-nil _) ∙ s.filled (word v c) ∙ sym (append_assoc (take p text) c s.tail);
        };
      };
    }

role_hole : {text u : List ℕ} {p d : ℕ} {n : Names} {L : List LineSyntax} (s : Split lines role (take p text) no_names n d L [] u) → WordHole text p u
role_hole {text} {p} s = record {
  word = s.tree.0;
  spelling = s.tree.1;
  is = s.worded;
  tail = s.tail;
  ends = s.ends;
  spelled = s.spelled;
  refill = λ v c k. record {
    syntax = s.fill (v, c);
    rest = s.tail;
    writes = record {
      well_formed = λ l i. each_at WellFormedLine (s.filled_worded (v, c) k) i;
      spelled = sym (append-nil _) ∙ s.filled (v, c) ∙ sym (append_assoc (take p text) c s.tail);
    };
  };
}

name_fresh : (u : List ℕ) → form_at u 0 ≡ Some Name → Unspaced u
name_fresh u f = form_fresh u 0 u refl λ e. absurd cc

module _ {text : List ℕ} {p : ℕ} {L : List LineSyntax} (u : List ℕ) (inside : p ≤ length text) (writes : Writes L (take p text ++ u)) (f : form_at u 0 ≡ Some Name) where
  pub word_hole : {why : Refusal} (b : UpTo text p) → Exceeds text p b.syntax b.put why → WordHole text p u
  word_hole b (deep d h) = concept_hole (concept_split u inside writes (name_fresh u f) (concept_place inside b d)) f
  word_hole b (long_name d low over) = concept_hole (concept_split u inside writes (name_fresh u f) (concept_place inside b d)) f
  word_hole b (long_role d over) = role_hole (role_split u inside writes (name_fresh u f) (role_place inside b d))
  word_hole b (conjunction d low full g) = concept_hole (concept_split u inside writes (name_fresh u f) (concept_place inside b d)) f
  word_hole b (existential d low full g) = concept_hole (concept_split u inside writes (name_fresh u f) (concept_place inside b d)) f
  word_hole b (new_name d low full g short spelled new) = concept_hole (concept_split u inside writes (name_fresh u f) (concept_place inside b d)) f
  word_hole b (new_role d full some_byte short spelled new) = role_hole (role_split u inside writes (name_fresh u f) (role_place inside b d))

-- ---- between two places

module _ (text : List ℕ) (p q : ℕ) (less : p < q) (inside : q ≤ length text) where
  pub bytes_between : List ℕ
  bytes_between = drop p (take q text)

  between_length : length bytes_between ≡ q - p
  unfolding bytes_between
  between_length = simp length-drop (omega (arith, length-take-le q text inside))

  pub between_taken : take q text ≡ take p text ++ bytes_between
  unfolding bytes_between
  between_taken = sym (take-append-drop p (take q text)) ∙ ap (λ k. k ++ bytes_between) (take-take p q text (omega arith))

  between_ahead : drop p text ≡ bytes_between ++ drop q text
  unfolding bytes_between
  between_ahead = ap (drop p) (sym (take-append-drop q text)) ∙ drop-append-le p (take q text) (drop q text) (omega (arith, length-take-le q text inside))

  between_at : (k : ℕ) → p ≤ k → k < q → get_or bytes_between (k - p) 0 ≡ byte_at text k
  unfolding bytes_between
  between_at k l h = get_or-drop p (take q text) (k - p) 0 ∙ ap (λ j. get_or (take q text) j 0) (omega arith) ∙ get_or-take q text k 0 h

  pub same_between : (a : List ℕ) → (word_run bytes_between ≡ length bytes_between → (word_run a ≡ 0) × (word_run (drop q text) ≡ 0)) → AgreesAt text p (bytes_between ++ a)
  same_between a quiet =
      let first : word_run (bytes_between ++ a) ≡ word_run bytes_between = run_append bytes_between a (λ e. (quiet e).0) in
      let second : word_length text p ≡ word_run bytes_between = ap word_run between_ahead ∙ run_append bytes_between (drop q text) (λ e. (quiet e).1) in
      let some : 0 < length bytes_between = omega (arith, between_length) in
      record {
        byte = get_or-append bytes_between a 0 0 some ∙ sym (get_or-append bytes_between (drop q text) 0 0 some) ∙ ap (λ l. get_or l 0 0) (sym between_ahead) ∙
            get_or-drop p text 0 0 ∙ ap (byte_at text) (add-zero p);
        size = first ∙ sym second;
        word = ap (λ n. take n (bytes_between ++ a)) first ∙ take-append-le (word_run bytes_between) bytes_between a (run_le bytes_between) ∙
            sym (take-append-le (word_run bytes_between) bytes_between (drop q text) (run_le bytes_between)) ∙
            ap (take (word_run bytes_between)) (sym between_ahead) ∙ ap (λ n. take n (drop p text)) (sym second);
      }

  -- where a role is due at q, a / stands before it
  pub slash_between : {M : List LineSyntax} {put : List ℕ} → word_run bytes_between ≡ length bytes_between → RoleDue text q M put → ⊥
  slash_between e d =
      let b = run_at bytes_between (d.sign - p) e (omega (arith, between_length, d.behind)) in
      false≢true (rw (between_at d.sign (omega (arith, d.behind)) (omega (arith, d.behind)), d.slash) at b)

  pub record Middle (b : UpTo text q) : Type 0 where
    pub ends : FieldEnds (b.put ++ b.rest)
    pub quiet : word_run (b.put ++ b.rest) ≡ 0
    pub grows : (c : ℕ) → word_byte c ≡ true → ViablePrefix (take q text ++ (c ∷ []))

  put_stops : {M : List LineSyntax} (put rest : List ℕ) → AllOf EndByte rest → word_run bytes_between ≡ length bytes_between → Put text q M put → Stops (put ++ rest)
  put_stops put rest h e (no_put f) = rw f (end_stops rest h)
  put_stops put rest h e (star_put d) = rw d.star refl
  put_stops put rest h e (role_put d) = absurd (slash_between e d)

  pub middle : {why : Refusal} (a : UpTo text p) → Exceeds text p a.syntax a.put why → (b : UpTo text q) → word_run bytes_between ≡ length bytes_between → Middle b
  middle a x b e =
      let v = b.put ++ b.rest in
      let stops = put_stops b.put b.rest (each_of EndByte b.rest b.shortest) e b.due in
      let quiet = stops_run v stops in
      let writes : Writes b.syntax (take p text ++ (bytes_between ++ v)) =
      subst (Writes b.syntax) (ap (λ k. k ++ v) between_taken ∙ append_assoc (take p text) bytes_between v) b.writes in
      let form = name_form (bytes_between ++ v) 0 (rw (run_append bytes_between v (λ f. quiet)) (omega (arith, e, between_length))) in
      let h = word_hole (bytes_between ++ v) (omega arith) writes form a x in
      let is = spells bytes_between (omega (arith, between_length)) (run_all bytes_between e) in
      let (same, spelling, tail) = spelled_end h.is is.spelled (field_stops h.tail h.ends) stops (sym h.spelled) in
      record {
        ends = subst FieldEnds tail h.ends;
        quiet = quiet;
        grows = λ c k.
            let more = spells (bytes_between ++ (c ∷ [])) (simp length-append (omega arith)) (λ d i. longer bytes_between c (run_all bytes_between e) k d i) in
            rw (between_taken, append_assoc) (h.refill more.word (bytes_between ++ (c ∷ [])) more.spelled);
      }
    where
      longer : (y : List ℕ) (c : ℕ) → ((b : ℕ) → Memᴰ b y → word_byte b ≡ true) → word_byte c ≡ true → (d : ℕ) → Memᴰ d (y ++ (c ∷ [])) → word_byte d ≡ true
      longer [] c h k d (Memᴰ.head e) = rw e k
      longer [] c h k d (Memᴰ.tail i) = absurd (Memᴰ.not-nil i)
      longer (x ∷ y) c h k d (Memᴰ.head e) = h d (Memᴰ.head e)
      longer (x ∷ y) c h k d (Memᴰ.tail i) = longer y c (λ b j. h b (Memᴰ.tail j)) k d i
