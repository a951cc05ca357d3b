-- What a check of the sheets against a key comes to.
-- Assumes nothing.
use Prim.Native.Nat.{ℕ, ◌≤◌}
use native.Mathlib.Omega.{arith}
use mathlib.Core.Path.{sym, subst}
use mathlib.Core.List.{List}
use lib.ListN.{length, take}
use Rattle.std.specs.Prelude.{Ok, Err}
use Rattle.semantics.specs.Limits.{row_limit}
use Rattle.refusal.specs.declared.Refused.{Refused}
use Rattle.sheets.specs.Sheets.{Sheet, sheets_of, Scored}
use Rattle.sheets.specs.Refused.{ClassAcceptable, ClassRefused}
use Rattle.sheets.specs.Steps.{ClassChecked, accepted, refused, Scorable}
use Rattle.sheets.specs.declared.Totals.{Totals}
use Rattle.keys.proofs.Keys.{FirstPart}

module _ {key old new : List ℕ} {q : ℕ} (f : FirstPart key old new q) where
  pub key_refused : {room : ℕ} {sheets : List Sheet} {e : Refused} → ClassChecked q sheets room (Err e) → ClassRefused (length key) sheets room e.place e.why
  key_refused {room} {sheets} {e} (refused r) = subst (λ n. ClassRefused n sheets room e.place e.why) f.counted r

  pub key_accepted : {room count : ℕ} {sheets : List Sheet} → ClassChecked q sheets room (Ok count) → ClassAcceptable (length key) sheets room
  key_accepted {room} {sheets = sheets} (accepted e a) = subst (λ n. ClassAcceptable n sheets room) f.counted a

  -- what is scored by the written key is scored by the key
  pub scorable : {text report : List ℕ} {count : ℕ} → length old ≤ row_limit → ClassChecked q (sheets_of text) (length report) (Ok count) → Scorable (take q new) text count report
  scorable {text} {report} {count} le (accepted e a) =
      subst (λ k. Scorable k text count report) (sym f.first) record { acceptable = key_accepted (accepted e a); counted = e; few = omega (arith, f.counted, f.fits) }

  pub key_scored : {sheets : List Sheet} {report₀ report : List ℕ} {t : Totals} → Scored (take q new) sheets report₀ report t → Scored key sheets report₀ report t
  key_scored {sheets} {report₀} {report} {t} s = subst (λ k. Scored k sheets report₀ report t) f.first s
