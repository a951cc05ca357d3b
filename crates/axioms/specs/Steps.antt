-- What inner functions keep; nobody has to believe it.
--     Kept        what is kept of a state of reading, beside its lists
--     track_of    the track that what is kept, the stack and the output hold
--     Fits        there is room for a token
--     TakenAs     a token is taken as a track takes it
--     held_track, HasRoom, Taking, HeldReading   of states of reading
use Rattle.std.specs.Prelude.{ℕ, zero, suc, ◌+◌, ◌*◌, ◌<◌, ◌≤◌, ◌≡◌, Bool, true, false, List, [], ◌∷◌, length, get_or, take}
use Rattle.std.proofs.Math.Option.{Option, none, some}
use Rattle.semantics.specs.Limits.{word_limit}
use Rattle.words.specs.Bytes.{offset_limit}
use Rattle.ontology.specs.Text.{Token, token_bytes}
use Rattle.ontology.specs.Points.{token_of}
use Rattle.axioms.specs.Track.{Track, track}
use Rattle.axioms.specs.declared.Due.{Due}
use Rattle.axioms.specs.declared.AxiomReading.{AxiomReading}
use Rattle.axioms.specs.declared.TokenText.{TokenText}

-- what is kept of a state of reading, beside its lists: how many numbers of the stack, and how many bytes of the output
pub record Kept : Type 0 where
  pub due : Due
  pub right : Bool
  pub depth : ℕ
  pub size : ℕ

abbrev pub kept : Due → Bool → ℕ → ℕ → Kept
kept d r depth size = record { due = d; right = r; depth = depth; size = size }

abbrev pub kept_of : AxiomReading → Kept
kept_of r = kept r.due r.right r.depth r.out.now.size

-- the stack of an array, the innermost first
unfoldable pub entries : ℕ → List ℕ → List ℕ
entries zero stack = []
entries (suc d) stack = get_or stack d 0 ∷ entries d stack

abbrev pub track_of : Kept → List ℕ → List ℕ → Track
track_of p stack out = track p.due p.right (entries p.depth stack) (take p.size out)

-- what the token that a class begins with writes at most, and what any token does
abbrev pub class_room : ℕ
class_room = word_limit + 1

abbrev pub token_room : ℕ
token_room = word_limit + 3

-- There is room for a token, and the marks stand in the output.
pub record Fits (p : Kept) (stack out : List ℕ) : Type 0 where
  pub deep : p.depth < length stack
  pub long : p.size + token_room ≤ length out
  pub small : length out < offset_limit
  pub marks : (d : ℕ) → d < p.depth → get_or stack d 0 ≤ p.size

-- A class may begin behind `size` bytes of output, of which at most two came since.
pub record ClassFits (p : Kept) (stack : List ℕ) (size : ℕ) : Type 0 where
  pub near : size ≤ p.size + 2
  pub marks : (d : ℕ) → d < p.depth → get_or stack d 0 ≤ size

-- A token is read: at most one more is around, and at most three bytes are written for each of its bytes.
pub record Grown (p : Kept) (t : Token) (q : Kept) (stack : List ℕ) : Type 0 where
  pub depth : q.depth ≤ p.depth + 1
  pub size : q.size ≤ p.size + 3 * length (token_bytes t)
  pub marks : (d : ℕ) → d < q.depth → get_or stack d 0 ≤ q.size

-- A token is taken as a track takes it: where it may stand, the track that it leads to is what is kept then, with the stack and the output.
pub data TakenAs (p : Kept) (t : Token) (q : Kept) (stack out : List ℕ) : Option Track → Bool → Type 0 where
  stops : TakenAs p t q stack out none false
  goes : {x : Track} → track_of q stack out ≡ x → Grown p t q stack → TakenAs p t q stack out (some x) true

-- ---- of states of reading

abbrev pub token_read : TokenText → Token
token_read t = token_of t.kind t.name.now

abbrev pub held_track : AxiomReading → Track
held_track r = track_of (kept_of r) r.stack.now r.out.now.bytes.now

abbrev pub HasRoom : AxiomReading → Type 0
HasRoom r = Fits (kept_of r) r.stack.now r.out.now.bytes.now

abbrev pub Taking : AxiomReading → Token → AxiomReading → Option Track → Bool → Type 0
Taking r t s x b = TakenAs (kept_of r) t (kept_of s) s.stack.now s.out.now.bytes.now x b

-- What is lent is still the same, and as long.
abbrev pub HeldReading : AxiomReading → AxiomReading → Type 0
HeldReading r s = (s.stack.ghost_name ≡ r.stack.ghost_name) × (length s.stack.now ≡ length r.stack.now) ×
    (s.out.ghost_name ≡ r.out.ghost_name) × (s.out.now.bytes.ghost_name ≡ r.out.now.bytes.ghost_name) × (length s.out.now.bytes.now ≡ length r.out.now.bytes.now)
