-- Where a word is read, as a concept's or as a role's, it is a word of the text, and it has the number that numbering the words gives it.
-- Assumes nothing.
use Prim.Native.Nat.{ℕ, suc, ◌+◌, ◌<◌, ◌≤◌}
use native.Mathlib.Omega.{arith}
use mathlib.Core.Path.{◌≡◌, refl, sym, ◌∙◌, ap}
use mathlib.Core.Option.{Option, none, some}
use mathlib.Core.List.{List, [], ◌∷◌, ◌++◌}
use lib.ListN.{length, drop}
use borrow.Author.Tests.{ne_eqb}
use Rattle.semantics.specs.Concept.{name}
use Rattle.semantics.specs.Limits.{word_limit, number_limit, role_limit}
use Rattle.semantics.specs.Numbering.{number_word, place_of, number_role, number_concept}
use Rattle.semantics.specs.Row.{Row}
use Rattle.semantics.specs.Source.{Word, Spelled, word, concept_bytes}
use Rattle.refusal.specs.declared.Refusal.TheVariants.{SyntaxError, WordTooLong, TooManyNumbers, TooManyRoles}
use Rattle.words.specs.Bytes.{word_length}
use Rattle.chains.specs.WordList.{listed, find_word}
use Rattle.chains.specs.declared.Sort.TheVariants.{Concepts, Roles}
use Rattle.names.specs.Names.{with_list, word_taken, read_word}
use Rattle.forms.specs.Opened.{number_form}
use Rattle.source.specs.Lines.{definitions_of, definitions}
use Rattle.names.specs.State.{State, next_concept}
use Rattle.grammar.specs.Limits.{depth}
use Rattle.grammar.specs.ViablePrefix.{word_from}
use Rattle.grammar.specs.Occurrences.{concept_occurrences}
use Rattle.grammar.specs.StateNames.{state_names}
use Rattle.grammar.proofs.StateNames.{Valid}
use Rattle.grammar.proofs.FirstOccurrences.{Placed, placed_known, placed_new}
use Rattle.grammar.proofs.Readings.{Kept, ConceptRead}
use Rattle.grammar.proofs.BytesAt.{word_here, word_here_lem, word_length_lem, word_is, word_inside}
use Rattle.grammar.proofs.FoundNumbers.{found_number, word_found, roles_length, role_found}
use Rattle.grammar.proofs.ValidStates.{listed_other, listed_length, names_word, valid_word, names_role, valid_role}
use Rattle.grammar.proofs.AddedRows.{SameAt, added, added_none, added_more, definitions_added}
use Rattle.grammar.proofs.ReaderCases.{word_cases}
use Rattle.grammar.proofs.SoundSteps.{Gives, gives_refused, gives_read}

-- ---- later states

pub kept_refl : (s : State) → Kept s s
kept_refl s = record { more = omega arith; starts = λ n h. refl; lengths = λ n h. refl; lefts = λ n h. refl; rights = λ n h. refl }

-- the next number goes to some bytes
pub kept_listed : (s : State) (at size : ℕ) → Kept s (with_list s Concepts (listed (s.lists Concepts) at size))
kept_listed s at size = record {
  more = omega arith;
  starts = λ n h. (listed_other (s.lists Concepts) at size n (λ e. omega arith)).0;
  lengths = λ n h. (listed_other (s.lists Concepts) at size n (λ e. omega arith)).1;
  lefts = λ n h. refl;
  rights = λ n h. refl;
}

kept_word : (text : List ℕ) (s : State) (at size : ℕ) → Kept s (word_taken Concepts text s at size)
kept_word text s at size =
    let k = kept_listed s at size in
    record { more = k.more; starts = k.starts; lengths = k.lengths; lefts = k.lefts; rights = k.rights }

pub kept_same : {s t : State} → Kept s t → (n : ℕ) → n < next_concept s → SameAt s t n
kept_same k n h = record { starts = k.starts n h; lengths = k.lengths n h; lefts = k.lefts n h; rights = k.rights n h }

-- all definition rows, from those that are added
pub kept_rows : {text : List ℕ} {s t : State} {rows : List Row} → Valid text s → Kept s t → added text s t ≡ rows → definitions text t ≡ definitions text s ++ rows
kept_rows {text} {s} {t} v k e = rw (← e) (definitions_added text s t v.least k.more (λ n a b. kept_same k n b))

-- ---- a concept's word

module _ (text : List ℕ) (s : State) (at : ℕ) (v : Valid text s) (long : 0 < word_length text at) where
  pub word_numbered : (o : Option ℕ) → found_number (find_word text (s.lists Concepts) at (word_length text at) number_limit) ≡ o →
      number_concept (name (word_here text at)) (state_names text s) ≡ number_word (word_here text at) (state_names text s) o
  unfolding number_concept
  word_numbered o e = ap (number_word (word_here text at) (state_names text s)) (word_found text s at (word_length text at) v long ∙ e)

  word_rows : next_concept s < number_limit → added text s (word_taken Concepts text s at (word_length text at)) ≡ []
  unfolding definitions_of number_form
  word_rows room =
      let t = word_taken Concepts text s at (word_length text at) in
      added_more text s t t refl (omega arith) ∙
      rw (listed_length (s.lists Concepts) at (word_length text at) v.concepts room, ne_eqb (word_length text at) 0 (λ e. omega arith)) (added_none text t)

  word_spelled : drop at text ≡ concept_bytes (word (word_here text at) (word_from text at)) ++ drop (at + word_length text at) text
  unfolding concept_bytes
  word_spelled = word_here_lem text at

  -- a word's reading, where it is numbered so and adds no rows
  word_read : (allowance : ℕ) (t : State) (x : ℕ) → word_length text at ≤ word_limit →
      number_concept (name (word_here text at)) (state_names text s) ≡ record { number = x; rows = []; after = state_names text t } →
      Kept s t → added text s t ≡ [] → Valid text t →
      ((occurrences : List (Word × ℕ)) → Placed text s occurrences → Placed text t (occurrences ++ (word_here text at, at) ∷ [])) →
      ConceptRead (suc allowance) text s t at x (at + word_length text at)
  unfolding depth concept_occurrences
  word_read allowance t x short e k empty w p = record {
    concept = word (word_here text at) (word_from text at);
    words = word_is text at long;
    short = omega (arith, word_length_lem text at);
    shallow = omega arith;
    spelled = word_spelled;
    later = omega arith;
    inside = word_inside text at long;
    number = ap (λ m. m.number) e;
    after = ap (λ m. m.after) e;
    rows = kept_rows v k empty ∙ ap (λ m. definitions text s ++ m.rows) (sym e);
    kept = k;
    placed = p;
    valid = w;
  }

  pub word_sound : (allowance : ℕ) → Gives (λ t x next. ConceptRead (suc allowance) text s t at x next) (read_word Concepts text s at)
  word_sound allowance =
      let size = word_length text at in
      word_cases (Gives (λ t x next. ConceptRead (suc allowance) text s t at x next)) Concepts text s at
      (λ none. gives_refused s SyntaxError at)
      (λ over. gives_refused s WordTooLong at)
      (λ some_byte short n e. gives_read s n (at + size)
      (word_read allowance s n short (word_numbered (some n) (ap found_number e)) (kept_refl s) (added_none text s) v
      (λ occurrences p. placed_known text s occurrences p (word_here text at) at (word_found text s at size v long ∙ ap found_number e))))
      (λ some_byte short e. (
        λ room. gives_read (word_taken Concepts text s at size) (next_concept s) (at + size)
            (word_read allowance (word_taken Concepts text s at size) (next_concept s) short
            (word_numbered none (ap found_number e) ∙ ap (λ m. record { number = next_concept s; rows = []; after = m }) (sym (names_word text s at size v room long)))
            (kept_word text s at size) (word_rows room) (valid_word text s at size v room long (word_inside text at long))
            (λ occurrences p. placed_new text s occurrences p at size v room long (word_found text s at size v long ∙ ap found_number e))),
        λ full. gives_refused s TooManyNumbers at,
      ))

-- ---- a role's word

pub record RoleRead (text : List ℕ) (s t : State) (at x next : ℕ) : Type 0 where
  pub role : Word
  pub spelling : List ℕ
  pub word : Spelled role spelling
  pub short : length role ≤ word_limit
  pub spelled : drop at text ≡ spelling ++ drop next text
  pub later : at < next
  pub inside : next ≤ length text
  pub number : number_role role (state_names text s) (place_of role (state_names text s).roles) ≡ (x, state_names text t)
  -- but for the roles the state is what it was
  pub concepts : t.lists Concepts ≡ s.lists Concepts
  pub lefts : t.lefts ≡ s.lefts
  pub rights : t.rights ≡ s.rights
  pub valid : Valid text t

module _ (text : List ℕ) (s : State) (at : ℕ) (v : Valid text s) where
  pub role_placed : 0 < word_length text at → (o : Option ℕ) → found_number (find_word text (s.lists Roles) at (word_length text at) role_limit) ≡ o →
      place_of (word_here text at) (state_names text s).roles ≡ o
  role_placed long o e = role_found text s at (word_length text at) v long ∙ e

  role_read : (t : State) (x : ℕ) → 0 < word_length text at → word_length text at ≤ word_limit →
      number_role (word_here text at) (state_names text s) (place_of (word_here text at) (state_names text s).roles) ≡ (x, state_names text t) →
      t.lists Concepts ≡ s.lists Concepts → t.lefts ≡ s.lefts → t.rights ≡ s.rights → Valid text t → RoleRead text s t at x (at + word_length text at)
  role_read t x long short e concepts lefts rights w = record {
    role = word_here text at;
    spelling = word_from text at;
    word = word_is text at long;
    short = omega (arith, word_length_lem text at);
    spelled = word_here_lem text at;
    later = omega arith;
    inside = word_inside text at long;
    number = e;
    concepts = concepts;
    lefts = lefts;
    rights = rights;
    valid = w;
  }

  pub role_sound : Gives (λ t x next. RoleRead text s t at x next) (read_word Roles text s at)
  role_sound =
      let size = word_length text at in
      let w = word_here text at in
      word_cases (Gives (λ t x next. RoleRead text s t at x next)) Roles text s at
      (λ none. gives_refused s SyntaxError at)
      (λ over. gives_refused s WordTooLong at)
      (λ long short n e. gives_read s n (at + size)
      (role_read s n long short (ap (number_role w (state_names text s)) (role_placed long (some n) (ap found_number e))) refl refl refl v))
      (λ long short e. (
        λ room.
            let new = role_placed long none (ap found_number e) in
            let place = roles_length text (s.lists Roles) (s.lists Roles).used in
            let names = sym (names_role text s at size v room) in
            let pair : number_role w (state_names text s) none ≡ ((s.lists Roles).used, state_names text (word_taken Roles text s at size)) = λ i. (place i, names i) in
            gives_read (word_taken Roles text s at size) (s.lists Roles).used (at + size)
            (role_read (word_taken Roles text s at size) (s.lists Roles).used long short (ap (number_role w (state_names text s)) new ∙ pair) refl refl refl
            (valid_role text s at size v room long (word_inside text at long) new)),
        λ full. gives_refused s TooManyRoles at,
      ))
