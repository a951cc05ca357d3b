-- The scope's marked examples, P1 to P9: a text each, with the counts that compiling gives and the levels, passes, yes count and results of its rational closure.
--     ExampleHolds     the text is that of some lines (by `reads_unique` no others), and their counts and their rational closure are the ones given
--     Compiles         the packed rows of those lines
--     RefusalExample   a deck that is refused
use Rattle.std.specs.Prelude.{ℕ, ◌+◌, ◌≡◌, true, false, List, [], ◌∷◌, map, length, get_or, replicate}
use Prim.Native.Char.{code}
use Prim.Native.String.{String, [] as end-of-string, ◌∷◌ as ◌then◌}
use Rattle.std.proofs.Math.Option.{none, some}
use Rattle.semantics.specs.Closure.{Line, RationalClosure, rank_code, yes_bit, yes_count}
use Rattle.semantics.specs.Row.{pack}
use Rattle.semantics.specs.Source.{Word, Reads}
use Rattle.semantics.specs.Numbering.{number_lines, no_names, normal_rows}

-- the bytes of an ASCII text that is written out
abbrev pub bytes : String → List ℕ
bytes end-of-string = []
bytes (c then s) = code c ∷ bytes s

-- ---- what an example says

pub record Example : Type 0 where
  pub text : String
  pub numbers : ℕ
  pub roles : ℕ
  pub rows : ℕ
  pub levels : ℕ
  pub passes : ℕ
  pub yeses : ℕ
  pub results : List ℕ

pub record ExampleHolds (e : Example) : Type 0 where
  pub lines : List (Line Word Word)
  pub read : Reads (bytes e.text) lines
  pub number_count : (number_lines lines no_names).after.next ≡ e.numbers
  pub role_count : length (number_lines lines no_names).after.roles ≡ e.roles
  pub row_count : length (normal_rows lines) ≡ e.rows
  pub closure : RationalClosure lines e.levels e.passes e.results
  pub yes_counted : yes_count lines e.results ≡ e.yeses

-- the packed rows that a text compiles to
pub record Compiles (text : String) (rows : List ℕ) : Type 0 where
  pub lines : List (Line Word Word)
  pub read : Reads (bytes text) lines
  pub packed_rows : map pack (normal_rows lines) ≡ rows

-- ---- results, as `shelf` prints them

abbrev pub S : ℕ
S = 0

-- U lines, and Q lines with the reply yes
abbrev pub yes_at : ℕ → ℕ
yes_at rank = yes_bit true + rank_code (some rank)

-- Q lines with the reply no
abbrev pub no_at : ℕ → ℕ
no_at rank = yes_bit false + rank_code (some rank)

-- oo, which is never no
abbrev pub yes_infinite : ℕ
yes_infinite = yes_bit true + rank_code none

-- K lines with the reply yes
abbrev pub k_yes : ℕ
k_yes = yes_bit true

-- K lines with the reply no
abbrev pub k_no : ℕ
k_no = yes_bit false

-- ---- P1 to P9

-- the text; numbers, roles and rows; levels, passes and the count of yes; the results
abbrev example : String → ℕ × ℕ × ℕ → ℕ × ℕ × ℕ → List ℕ → Example
example text counts closure results = record {
  text = text;
  numbers = counts.0;
  roles = counts.1;
  rows = counts.2;
  levels = closure.0;
  passes = closure.1;
  yeses = closure.2;
  results = results;
}

abbrev pub p1_text : String
p1_text = "S clone set\nS & shown hidden -\nU set shown\nU set art\nU clone hidden\nU & clone /has text shown\nQ clone shown\nQ clone art\nQ & clone /has text shown\nK clone set\n"

abbrev pub marked : List Example
marked =
    example p1_text (13, 1, 23) (3, 1, 2) (S ∷ S ∷ yes_at 0 ∷ yes_at 0 ∷ yes_at 1 ∷ yes_at 2 ∷ no_at 1 ∷ no_at 1 ∷ yes_at 2 ∷ k_yes ∷ []) ∷
    example "" (2, 0, 0) (0, 1, 0) [] ∷
    example "Q a a\n" (3, 0, 1) (0, 1, 1) (yes_at 0 ∷ []) ∷
    example "Q a b\n" (4, 0, 1) (0, 1, 0) (no_at 0 ∷ []) ∷
    example "S * -\nQ a b\n" (4, 0, 2) (0, 1, 1) (S ∷ yes_infinite ∷ []) ∷
    example "U - a\n" (3, 0, 1) (0, 2, 0) (yes_infinite ∷ []) ∷
    example "U * shown\nQ a shown\n" (4, 0, 2) (1, 1, 1) (yes_at 0 ∷ yes_at 0 ∷ []) ∷
    example "U a b\nU a c\nS & b c -\nS x /r a\nU x y\n" (9, 1, 10) (0, 3, 0) (yes_infinite ∷ yes_infinite ∷ S ∷ S ∷ yes_infinite ∷ []) ∷
    example "U stick rare\nS shmup /needs stick\nS /needs rare gem\nQ shmup gem\n" (8, 1, 8) (1, 1, 0) (yes_at 0 ∷ S ∷ S ∷ no_at 0 ∷ []) ∷
    []

-- P1 is `p 0`, P9 is `p 8`.
abbrev pub p : ℕ → Example
p i = get_or marked i (example "" (0, 0, 0) (0, 0, 0) [])

-- A book with ties: two rules of rank 0, two of rank 1 and two of infinite rank, in no order of their ranks.
abbrev pub tied : Example
tied =
    example "U - a\nU clone hidden\nU set shown\nS clone set\nS & shown hidden -\nU set art\nU - b\nU clone new\n" (11, 0, 11) (2, 2, 0)
    (yes_infinite ∷ yes_at 1 ∷ yes_at 0 ∷ S ∷ S ∷ yes_at 0 ∷ yes_infinite ∷ yes_at 1 ∷ [])

-- the one order of its rules
abbrev pub tied_order : List ℕ
tied_order = 2 ∷ 5 ∷ 1 ∷ 7 ∷ 0 ∷ 6 ∷ []

-- Further readings of the scope: K reads the written lines and not T*; a query's rank can equal levels; T* without a model; nothing is within everything;
-- T grows in every pass (grown by the first stuck set alone, the fifth book would give b rank 0). Then the one with ties.
abbrev pub further : List Example
further =
    example "U a -\nK a -\nQ a -\n" (3, 0, 3) (0, 2, 1) (yes_infinite ∷ k_no ∷ yes_infinite ∷ []) ∷
    example "S & a b -\nU * a\nQ b a\n" (5, 0, 6) (1, 1, 0) (S ∷ yes_at 0 ∷ no_at 1 ∷ []) ∷
    example "U * -\nQ a b\nK a b\n" (4, 0, 3) (0, 2, 1) (yes_infinite ∷ yes_infinite ∷ k_no ∷ []) ∷
    example "Q - a\nK - a\nK a *\nK * a\n" (3, 0, 4) (0, 1, 3) (yes_infinite ∷ k_yes ∷ k_yes ∷ k_no ∷ []) ∷
    example "U a -\nU b /r a\nQ b c\n" (6, 1, 5) (0, 3, 1) (yes_infinite ∷ yes_infinite ∷ yes_infinite ∷ []) ∷
    tied ∷
    []

-- The 23 packed rows of P1: a row for each of its ten lines, then the definitions of its `&` and `/` (numbers 4; 8 and 9; 11 and 12).
abbrev pub p1_rows : List ℕ
p1_rows =
    0x1000000200000003 ∷ 0x1000000400000001 ∷ 0x5000000300000005 ∷ 0x5000000300000007 ∷ 0x5000000200000006 ∷
    0x5000000800000005 ∷ 0x6000000200000005 ∷ 0x6000000200000007 ∷ 0x6000000b00000005 ∷ 0x7000000200000003 ∷
    0x1000000400000005 ∷ 0x1000000400000006 ∷ 0x2000000500060004 ∷
    0x1000000800000002 ∷ 0x1000000800000009 ∷ 0x2000000200090008 ∷ 0x300000090000000a ∷ 0x4000000a00000009 ∷
    0x1000000b00000002 ∷ 0x1000000b0000000c ∷ 0x20000002000c000b ∷ 0x3000000c0000000a ∷ 0x4000000a0000000c ∷
    []

-- ---- what is refused, and by what

pub record RefusalExample : Type 0 where
  pub numbers : ℕ
  pub roles : ℕ
  pub table : ℕ
  pub results : ℕ
  pub order : ℕ
  pub rows : List ℕ
  pub number : ℕ
  pub place : ℕ

abbrev refused : ℕ → ℕ → ℕ × ℕ × ℕ → List ℕ → ℕ × ℕ → RefusalExample
refused N R lent rows by = record { numbers = N; roles = R; table = lent.0; results = lent.1; order = lent.2; rows = rows; number = by.0; place = by.1 }

-- N and R; the lengths of table, results and order; the rows; the number and place of the refusal. Each refusal, and which of two comes first.
abbrev pub refusals : List RefusalExample
refusals =
    refused 1 65 (0, 0, 0) [] (11, 0) ∷
    refused 257 0 (1028, 0, 0) [] (11, 0) ∷
    refused 2 65 (0, 0, 0) [] (12, 0) ∷
    refused 2 65 (0, 0, 0) (replicate 1025 0) (12, 0) ∷
    refused 2 0 (7, 0, 0) (replicate 1025 0) (13, 0) ∷
    refused 2 0 (7, 0, 0) [] (14, 0) ∷
    refused 2 0 (8, 0, 1) (0 ∷ []) (14, 0) ∷
    refused 2 0 (8, 1, 0) (0 ∷ []) (14, 0) ∷
    refused 2 0 (8, 1, 1) (0x0000000000000000 ∷ []) (15, 0) ∷
    refused 2 0 (8, 2, 2) (0x1000000000000001 ∷ 0x8001000200000002 ∷ []) (15, 1) ∷
    refused 2 0 (8, 2, 2) (0x3000000000010000 ∷ 0x0000000000000000 ∷ []) (16, 0) ∷
    refused 2 0 (8, 1, 1) (0x1001000000000000 ∷ []) (16, 0) ∷
    refused 2 0 (8, 1, 1) (0x1001000200000000 ∷ []) (16, 0) ∷
    refused 2 0 (8, 1, 1) (0x3000000200000000 ∷ []) (17, 0) ∷
    refused 2 0 (8, 1, 1) (0x2000000000020000 ∷ []) (17, 0) ∷
    refused 2 0 (8, 1, 1) (0x3000000000000000 ∷ []) (18, 0) ∷
    refused 3 1 (12, 3, 3) (0x3000000200000002 ∷ 0x4000000200000001 ∷ 0x4001000200000001 ∷ []) (18, 2) ∷
    []

-- ---- buffers

-- the strict table of the empty deck with two numbers: everything is within itself, nothing within both
abbrev pub smallest_table : List ℕ
smallest_table = 0x8000000000000000 ∷ 0 ∷ 0 ∷ 0 ∷ 0xC000000000000000 ∷ 0 ∷ 0 ∷ 0 ∷ []
