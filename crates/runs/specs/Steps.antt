-- What the functions of this crate keep; nobody has to believe it.
--     is_parted    a token may stand before a byte
--     levels_read  how many bytes were read at least, by what is around
--     Ready, WholeThere, CutThere   what stands at an offset, and room for it
--     GoesOn, Going      one gap, or one token
--     RunAs       a whole input
use Rattle.std.specs.Prelude.{ℕ, ◌+◌, ◌-◌, ◌*◌, ◌<◌, ◌≤◌, ◌≡◌, Bool, true, false, ◌||◌, List, length, get_or, take, drop, Some, Result, Ok, Err}
use Rattle.ontology.specs.Text.{gap_byte, bracket_byte}
use Rattle.ontology.specs.Points.{between}
use Rattle.ontology.specs.declared.TokenKind.{TokenKind}
use Rattle.ontology.specs.declared.TokenKind.TheVariants.{SubClassOf, Annotation, Comment, Usual, Opening, Closing, Thing, Nothing, Intersection, SomeValues, Name}
use Rattle.words.specs.Bytes.{offset_limit}
use Rattle.tokens.specs.Seen.{seen_at}
use Rattle.tokens.specs.declared.Seen.TheVariants.{Whole, Cut}
use Rattle.axioms.specs.Steps.{Kept, kept_of, track_of, token_room, Fits}
use Rattle.axioms.specs.TrackReader.{track_reading, TrackOutcome, output, halted, track_run}
use Rattle.axioms.specs.declared.Due.{Due}
use Rattle.axioms.specs.declared.Due.TheVariants.{NextAxiom, OpenAxiom, AnnotationOrClass, OpenAnnotation, Property, Value, CloseAnnotation}
use Rattle.axioms.specs.declared.Due.TheVariants.{NextClass, OpenParts, OpenSome, NextRole, BehindClass}
use Rattle.axioms.specs.declared.AxiomReading.{AxiomReading}

abbrev pub stands_free : TokenKind → Bool
stands_free SubClassOf = true
stands_free Annotation = true
stands_free Comment = true
stands_free Usual = true
stands_free Opening = true
stands_free Closing = true
stands_free Thing = false
stands_free Nothing = false
stands_free Intersection = true
stands_free SomeValues = true
stands_free Name = false

abbrev pub is_parted : TokenKind → ℕ → Bool
is_parted k b = stands_free k || (gap_byte b || bracket_byte b)

abbrev pub name_start : TokenKind → ℕ → ℕ → ℕ
name_start SubClassOf at end = end
name_start Annotation at end = end
name_start Comment at end = end
name_start Usual at end = end
name_start Opening at end = end
name_start Closing at end = end
name_start Thing at end = end
name_start Nothing at end = end
name_start Intersection at end = end
name_start SomeValues at end = end
name_start Name at end = at + 1

-- An expression that is around took more bytes than this for its keyword.
abbrev pub level_bytes : ℕ
level_bytes = 16

-- what is read of one that has begun, and is not around yet
abbrev pub begun_bytes : Due → ℕ
begun_bytes NextAxiom = 0
begun_bytes OpenAxiom = 0
begun_bytes AnnotationOrClass = 0
begun_bytes OpenAnnotation = 0
begun_bytes Property = 0
begun_bytes Value = 0
begun_bytes CloseAnnotation = 0
begun_bytes NextClass = 0
begun_bytes OpenParts = level_bytes
begun_bytes OpenSome = level_bytes
begun_bytes NextRole = level_bytes
begun_bytes BehindClass = 0

-- so many bytes at least were read for what is around and what has begun
abbrev pub levels_read : Kept → ℕ
levels_read p = level_bytes * p.depth + begun_bytes p.due

-- a byte is left, and there is room for what its token writes
pub record Ready (input : List ℕ) (at : ℕ) (p : Kept) (stack out : List ℕ) : Type 0 where
  pub inside : at < length input
  pub fits : Fits p stack out

-- no gap stands there, but a whole token, up to `end`
pub record WholeThere (input : List ℕ) (at end : ℕ) (kind : TokenKind) (p : Kept) (stack out : List ℕ) : Type 0 where
  pub ready : Ready input at p stack out
  pub no_gap : gap_byte (get_or input at 0) ≡ false
  pub ahead : at ≤ end
  pub seen : seen_at (drop at input) ≡ Some (Whole kind (end - at))

-- or only the first bytes of one
pub record CutThere (input : List ℕ) (at end : ℕ) (kind : TokenKind) (p : Kept) (stack out : List ℕ) : Type 0 where
  pub ready : Ready input at p stack out
  pub no_gap : gap_byte (get_or input at 0) ≡ false
  pub ahead : at ≤ end
  pub seen : seen_at (drop at input) ≡ Some (Cut kind (end - at))

-- what the input comes to from an offset on, between tokens
abbrev pub run_from : List ℕ → ℕ → Kept → List ℕ → List ℕ → TrackOutcome
run_from input at p stack out = track_run (drop at input) at (track_reading (track_of p stack out) between)

-- The run goes on from where the step leads, with what is kept then; what is around grew by no more than was read, and what is written by 3 bytes at most for
-- each; or it stops there.
pub data GoesOn (input : List ℕ) (at : ℕ) (p q : Kept) (before : TrackOutcome) (stack out : List ℕ) : Result ℕ ℕ → Type 0 where
  on : {next : ℕ} → before ≡ run_from input next q stack out → at < next → next ≤ length input →
      levels_read q ≤ levels_read p + (next - at) → q.size ≤ p.size + 3 * (next - at) → ((d : ℕ) → d < q.depth → get_or stack d 0 ≤ q.size) →
      GoesOn input at p q before stack out (Ok next)
  stop : {place : ℕ} → before ≡ halted place → GoesOn input at p q before stack out (Err place)

-- the same of states of reading
abbrev pub run_of : List ℕ → ℕ → AxiomReading → TrackOutcome
run_of input at r = run_from input at (kept_of r) r.stack.now r.out.now.bytes.now

abbrev pub Going : List ℕ → ℕ → AxiomReading → AxiomReading → Result ℕ ℕ → Type 0
Going input at r s step = GoesOn input at (kept_of r) (kept_of s) (run_of input at r) s.stack.now s.out.now.bytes.now step

-- The stack and the output are long enough for an input of so many bytes.
pub record Room (size stack out : ℕ) : Type 0 where
  pub deep : size ≤ level_bytes * stack
  pub long : 3 * size + token_room ≤ out
  pub small : out < offset_limit

-- The run is read to its end, and the output is what it comes to; or it stops.
pub data RunAs (whole : TrackOutcome) (out : List ℕ) : Result ℕ ℕ → Type 0 where
  read : {size : ℕ} → whole ≡ output (take size out) → size ≤ length out → RunAs whole out (Ok size)
  stopped : {place : ℕ} → whole ≡ halted place → RunAs whole out (Err place)
