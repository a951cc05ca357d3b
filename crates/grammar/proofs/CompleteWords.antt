-- A word within the limits, for whose number or role there is room, is read.
--     Behind   what stands behind what was read
-- Assumes nothing.
use Prim.Native.Nat.{ℕ, ◌+◌, ◌<◌, ◌≤◌}
use native.Mathlib.Omega.{arith}
use mathlib.Core.Path.{◌≡◌, sym, ◌∙◌, ap, subst}
use mathlib.Core.Option.{none}
use mathlib.Core.List.{List, [], ◌∷◌, ◌++◌, append_cancel_right}
use lib.ListN.{length, drop, length-append}
use Rattle.semantics.specs.Concept.{name}
use Rattle.semantics.specs.Limits.{word_limit, number_limit, role_limit}
use Rattle.semantics.specs.Numbering.{number_concept, number_role, place_of}
use Rattle.semantics.specs.Source.{Word, Spelled}
use Rattle.semantics.proofs.Spelling.{Stops, spelled_length, spelled_long, spelled_same}
use Rattle.words.specs.Bytes.{word_length}
use Rattle.chains.specs.declared.Sort.TheVariants.{Concepts, Roles}
use Rattle.names.specs.Names.{read_word, word_taken}
use Rattle.names.specs.State.{State, next_concept}
use Rattle.grammar.specs.StateNames.{state_names}
use Rattle.grammar.proofs.StateNames.{Valid}
use Rattle.grammar.proofs.BytesAt.{word_here}
use Rattle.grammar.proofs.FoundNumbers.{found_number, roles_length}
use Rattle.grammar.proofs.SoundWords.{word_numbered, role_placed, role_sound}
use Rattle.grammar.proofs.ReaderCases.{word_cases}
use Rattle.grammar.proofs.CompleteSteps.{PassesOn, passes_read, passes_gives}
use Rattle.grammar.proofs.BytesAhead.{ahead_behind, ahead_length, ahead_word}

abbrev pub Behind : List ℕ → List ℕ → State → ℕ → ℕ → Type 0
Behind text rest t x next = drop next text ≡ rest

module _ (text : List ℕ) (s : State) (at : ℕ) {w : Word} (b rest : List ℕ) (v : Valid text s) (h : Spelled w b) (short : length w ≤ word_limit) (stops : Stops rest)
    (e : drop at text ≡ b ++ rest) where
  word_behind : drop (at + word_length text at) text ≡ rest
  word_behind = rw (ahead_length text at b rest h stops e) (ahead_behind text at b rest e)

  word_long : 0 < word_length text at
  word_long = omega (arith, ahead_length text at b rest h stops e, spelled_long h)

  word_short : word_length text at ≤ word_limit
  word_short = omega (arith, ahead_length text at b rest h stops e, spelled_length h)

  pub word_passes : (number_concept (name w) (state_names text s)).after.next ≤ number_limit → PassesOn (Behind text rest) (read_word Concepts text s at)
  word_passes numbers =
      let size = word_length text at in
      let here = ahead_word text at b rest h stops e in
      word_cases (PassesOn (Behind text rest)) Concepts text s at
      (λ none. absurd (omega (arith, word_long)))
      (λ over. absurd (omega (arith, word_short)))
      (λ long short n f. passes_read s n (at + size) word_behind)
      (λ long short f.
      let new = word_numbered text s at v word_long none (ap found_number f) in
      let k : (number_concept (name (word_here text at)) (state_names text s)).after.next ≤ number_limit = rw here numbers in
      let room : next_concept s < number_limit = omega (arith, k, ap (λ m. m.after.next) new) in
      (λ less. passes_read (word_taken Concepts text s at size) (next_concept s) (at + size) word_behind, λ full. absurd (omega arith)))

  role_passes : length (number_role w (state_names text s) (place_of w (state_names text s).roles)).1.roles ≤ role_limit → PassesOn (Behind text rest) (read_word Roles text s at)
  role_passes roles =
      let size = word_length text at in
      let here = ahead_word text at b rest h stops e in
      word_cases (PassesOn (Behind text rest)) Roles text s at
      (λ none. absurd (omega (arith, word_long)))
      (λ over. absurd (omega (arith, word_short)))
      (λ long short n f. passes_read s n (at + size) word_behind)
      (λ long short f.
      let new : place_of w (state_names text s).roles ≡ none = rw here at (role_placed text s at v word_long none (ap found_number f)) in
      let more : length ((state_names text s).roles ++ w ∷ []) ≤ role_limit = rw new at roles in
      let room : (s.lists Roles).used < role_limit = omega (arith, more, length-append (state_names text s).roles (w ∷ []), roles_length text (s.lists Roles) (s.lists Roles).used) in
      (λ less. passes_read (word_taken Roles text s at size) (s.lists Roles).used (at + size) word_behind, λ full. absurd (omega arith)))

  -- and then it is the role that was read
  pub role_done : length (number_role w (state_names text s) (place_of w (state_names text s).roles)).1.roles ≤ role_limit →
      PassesOn (λ t x next. (drop next text ≡ rest) × Valid text t × (number_role w (state_names text s) (place_of w (state_names text s).roles) ≡ (x, state_names text t)))
      (read_word Roles text s at)
  role_done roles =
      let p = passes_gives (role_sound text s at v) (role_passes roles) in
      record {
        number = p.number;
        next = p.next;
        read = p.read;
        holds =
            let (q, r) = p.holds in
            let same : r.role ≡ w = spelled_same r.word h (append_cancel_right r.spelling b rest (ap (λ l. r.spelling ++ l) (sym q) ∙ sym r.spelled ∙ e)) in
            (q, r.valid, subst (λ k. number_role k (state_names text s) (place_of k (state_names text s).roles) ≡ (p.number, state_names text (read_word Roles text s at).names)) same r.number);
      }
