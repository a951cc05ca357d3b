-- `refusal` lets pass exactly what is acceptable.
-- Assumes nothing.
use Prim.Native.Nat.{ℕ, ◌*◌}
use native.Mathlib.Omega.{arith}
use mathlib.Core.Path.{◌≡◌, refl}
use mathlib.Core.Bool.{Bool, true, false, ◌||◌, cond}
use mathlib.Core.Option.{Option, none, some}
use mathlib.Core.List.{List}
use mathlib.Core.Logic.{◌↔◌}
use lib.ListN.{length}
use lib.Dec.{ltb}
use borrow.Author.Tests.{ltb-false, le-ltb}
use Rattle.semantics.specs.Limits.{number_limit, role_limit, row_limit, set_words}
use Rattle.semantics.specs.Refusals.{refusal, DeckWithinLimits}
use Rattle.semantics.proofs.Tests.{neither}
use Rattle.semantics.proofs.Compiling.{unpacked_accepted}
use Rattle.semantics.proofs.Unpacking.{accepted_unpacked}

-- a test that refuses was false, and what follows it refuses nothing
passed : (b : Bool) (n : ℕ × ℕ) (rest : Option (ℕ × ℕ)) → cond b (some n) rest ≡ none → (b ≡ false) × (rest ≡ none)
passed true n rest h = let z : ◌≡◌ {A = ℕ} 0 1 = cc in absurd (omega arith)
passed false n rest h = (refl, h)

module _ (N R table results order : ℕ) (words : List ℕ) where
  acceptable : refusal N R table results order words ≡ none → DeckWithinLimits N R table results order words
  unfolding refusal
  acceptable h =
      let (n, h1) = passed (ltb N 2 || ltb number_limit N) (11, 0) _ h in
      let (r, h2) = passed (ltb role_limit R) (12, 0) _ h1 in
      let (w, h3) = passed (ltb row_limit (length words)) (13, 0) _ h2 in
      let (l, h4) = passed (ltb table (set_words * N) || (ltb results (length words) || ltb order (length words))) (14, 0) _ h3 in
      let (n1, n2) = neither (ltb N 2) (ltb number_limit N) n in
      let (t, l') = neither (ltb table (set_words * N)) (ltb results (length words) || ltb order (length words)) l in
      let (rs, o) = neither (ltb results (length words)) (ltb order (length words)) l' in
      let (rows, u) = accepted_unpacked N R 0 words h4 in
      record {
        numbers = (ltb-false N 2 n1, ltb-false number_limit N n2);
        roles = ltb-false role_limit R r;
        few_rows = ltb-false row_limit (length words) w;
        table_lent = ltb-false table (set_words * N) t;
        results_lent = ltb-false results (length words) rs;
        order_lent = ltb-false order (length words) o;
        rows = rows;
        unpacked = u;
      }

  accepted : DeckWithinLimits N R table results order words → refusal N R table results order words ≡ none
  unfolding refusal
  accepted a =
      rw (
        le-ltb N 2 a.numbers.0,
        le-ltb number_limit N a.numbers.1,
        le-ltb role_limit R a.roles,
        le-ltb row_limit (length words) a.few_rows,
        le-ltb table (set_words * N) a.table_lent,
        le-ltb results (length words) a.results_lent,
        le-ltb order (length words) a.order_lent,
      )
      (unpacked_accepted (omega (arith, a.numbers.0)) (omega (arith, a.numbers.1)) (omega (arith, a.roles)) a.unpacked 0)

  pub accepted_decides : (refusal N R table results order words ≡ none) ↔ DeckWithinLimits N R table results order words
  accepted_decides = (acceptable, accepted)
