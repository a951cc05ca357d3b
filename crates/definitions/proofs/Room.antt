-- Rows that can be written: parts of them, and the rest behind a part. Assumes nothing.
use Prim.Native.Nat.{ℕ, zero, suc, ◌≤◌}
use native.Mathlib.Omega.{arith}
use mathlib.Core.Path.{◌≡◌}
use mathlib.Core.List.Memᴰ
use mathlib.Core.List.{List, ◌++◌, map}
use lib.Dec.{leb}
use lib.ListN.{length-map, length-append}
use borrow.Author.Tests.{leb-true, leb-false}
use Rattle.semantics.specs.Row.{Row, pack}
use Rattle.semantics.proofs.Tests.{cases}
use Rattle.source.specs.Lines.{definitions_of, definitions_to}
use Rattle.copying.specs.Written.{Appended}
use Rattle.names.specs.State.{State}
use Rattle.definitions.specs.Steps.{Writable}

module _ (rows more : List Row) where
  pub writable_left : {at : ℕ} {words : List ℕ} → Writable (rows ++ more) at words → Writable rows at words
  writable_left w = record {
    roles = λ x r c m. w.roles x r c (Memᴰ.append_left more m);
    room = omega (arith, w.room, length-append rows more);
  }

  -- the others have room behind those that were written
  pub writable_right : {at next : ℕ} {words after : List ℕ} → Writable (rows ++ more) at words → Appended (map pack rows) at words after next → Writable more next after
  writable_right w a = record {
    roles = λ x r c m. w.roles x r c (Memᴰ.append_right rows m);
    room = omega (arith, w.room, a.ends, a.length_kept, length-append rows more, length-map rows pack);
  }

-- the rows of the first numbers
pub writable_first : (text : List ℕ) (names : State) (k n : ℕ) {at : ℕ} {words : List ℕ} →
    k ≤ n → Writable (definitions_to text names n) at words → Writable (definitions_to text names k) at words
unfolding definitions_to
writable_first text names k zero h w = let e : k ≡ 0 = omega arith in rw e w
writable_first text names k (suc n) h w = cases (leb k n)
    (λ t. writable_first text names k n (leb-true k n t) (writable_left (definitions_to text names n) (definitions_of text names _) w))
    (λ t. let e : k ≡ suc n = omega (arith, leb-false k n t) in rw e w)
