-- What is lent beyond what compiling asks plays no part, and is kept: its promise holds of a longer deck, with the same rest behind it at entry and at exit.
-- Assumes nothing.
use Prim.Native.Nat.{ℕ, ◌≤◌}
use native.Mathlib.Omega.{arith}
use mathlib.Core.Path.{◌≡◌, sym, ◌∙◌, ap}
use mathlib.Core.List.{List, ◌++◌}
use lib.ListN.{length, take, length-append, length-map, length-take}
use lib.Seq.{take-append-le}
use Rattle.std.specs.Prelude.{Ok}
use Rattle.semantics.specs.Numbering.{normal_rows}
use Rattle.semantics.specs.Row.{pack}
use Rattle.copying.proofs.Writing.{rest_kept, same_long}
use Rattle.compiler.specs.Contract.{NormalForm, Compiled, accepted}
use Rattle.compiler.specs.declared.Sizes.{Sizes}
use Rattle.compiler.proofs.Compiling.{compile_accepts}

module _ {text deck₀ deck : List ℕ} {s : Sizes} (f : NormalForm text deck₀ deck s) where
  -- the deck holds as many words as there are rows
  pub words_length : length (take s.rows deck) ≡ s.rows
  words_length = ap length f.rows ∙ length-map (normal_rows f.lines) pack ∙ sym f.row_count

  pub rows_inside : s.rows ≤ length deck
  rows_inside = omega (arith, words_length, length-take s.rows deck)

form_longer : {text deck₀ deck : List ℕ} {s : Sizes} (rest : List ℕ) → NormalForm text deck₀ deck s → NormalForm text (deck₀ ++ rest) (deck ++ rest) s
form_longer {deck₀} {deck} {s} rest f =
    let le = rows_inside f in
    record {
      lines = f.lines;
      reads = f.reads;
      within = f.within;
      line_count = f.line_count;
      row_count = f.row_count;
      number_count = f.number_count;
      role_count = f.role_count;
      rows = take-append-le s.rows deck rest le ∙ f.rows;
      rest_kept = rest_kept s.rows deck deck₀ rest le (omega (arith, f.length_kept)) f.rest_kept;
      length_kept = same_long deck deck₀ rest f.length_kept;
    }

pub compiled_longer : {text deck₀ deck : List ℕ} {s : Sizes} (rest : List ℕ) → Compiled text deck₀ deck (Ok s) → Compiled text (deck₀ ++ rest) (deck ++ rest) (Ok s)
compiled_longer {text} {deck₀} rest (accepted h f) =
    let (t, long) = (compile_accepts text (length deck₀)).0 h in
    accepted ((compile_accepts text (length (deck₀ ++ rest))).1 (t, omega (arith, length-append deck₀ rest))) (form_longer rest f)
