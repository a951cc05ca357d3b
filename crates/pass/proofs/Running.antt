-- A pass while it runs: at the start, one level on, and at its two ends.
-- Assumes nothing.
use Prim.Native.Nat.{ℕ, suc, ◌+◌, ◌<◌, ◌≤◌}
use native.Mathlib.Numerals.{add-one}
use native.Mathlib.Omega.{arith}
use native.Mathlib.Decide.{dec_lt}
use mathlib.Core.Path.{◌≡◌, refl, sym, ◌∙◌, ap, subst}
use mathlib.Core.Bool.{true, false, ◌&&◌}
use mathlib.Core.List.{List, ◌++◌, map}
use lib.ListN.{length}
use Rattle.semantics.specs.Outputs.{StrictTable}
use Rattle.semantics.specs.Saturated.{strict_rows, empty_row}
use Rattle.semantics.specs.Set.{has}
use Rattle.sets.specs.Members.{Included}
use Rattle.normal.specs.Rules.{infinite, is_active, row_of, active, stuck, grown, raised_level}
use Rattle.normal.proofs.Selected.{selected_length}
use Rattle.roots.specs.Root.{Ready}
use Rattle.pass.specs.Levels.{Levelled, Falling}
use Rattle.levels.specs.Relevelled.{Relevelled, LeftsFrom}
use Rattle.pass.specs.Lefts.{ExceptionalLefts}
use Rattle.pass.specs.Passes.{Bounded, Fresh, ends, sticks, PassRan}
use Rattle.pass.proofs.Levelled.{levelled_more, falling_none, falling_kept, raised_level_lem, raised_stuck, raised_bounded}
use Rattle.pass.proofs.Rising.{no_rows, some_rows, lefts_more, all_risen, none_left_behind}
use Rattle.pass.proofs.Sets.{fewer_above, repeated}

pub record Running (N : ℕ) (words start levels table heads links : List ℕ) (k : ℕ) (lefts : List ℕ) : Type 0 where
  pub ready : Ready N words levels table heads links
  pub levelled : Levelled (strict_rows (grown words levels)) words levels k
  pub falling : Falling words levels k
  pub gathered : LeftsFrom N k words levels lefts
  pub few : k + length (active k words levels) ≤ length words
  pub bounded : Bounded words levels
  pub live_kept : active 0 words levels ≡ active 0 words start
  pub stuck_kept : stuck words levels ≡ stuck words start
  pub length_kept : length levels ≡ length start

module _ {N : ℕ} {words start table heads links : List ℕ} where
  pub running_none : {lefts : List ℕ} → Ready N words start table heads links → Fresh words start → LeftsFrom N 0 words start lefts → Running N words start start table heads links 0 lefts
  running_none ready fresh l = record {
    ready = ready;
    levelled = fresh.levelled;
    falling = falling_none;
    gathered = l;
    few = omega (arith, selected_length (is_active 0) words start);
    bounded = fresh.bounded;
    live_kept = refl;
    stuck_kept = refl;
    length_kept = refl;
  }

  -- There are no lefts where no row is active.
  pub running_ended : {levels lefts : List ℕ} {k : ℕ} → Running N words start levels table heads links k lefts → ((a : ℕ) → has lefts a ≡ false) → PassRan words start levels k false
  running_ended r none = record {
    ended = ends r.levelled r.falling (no_rows r.gathered none) r.live_kept r.stuck_kept;
    small = omega (arith, r.few, r.ready.deck.few);
    bounded = r.bounded;
    length_kept = r.length_kept;
  }

  -- Where there are some, the next level is one, too.
  pub running_small : {levels lefts : List ℕ} {k : ℕ} → Running N words start levels table heads links k lefts → (((a : ℕ) → has lefts a ≡ false) → ⊥) → k + 1 < infinite
  running_small r some = omega (arith, r.few, r.ready.deck.few, some_rows r.ready.levels_room r.gathered some)

  module _ {levels new set lefts : List ℕ} {k : ℕ} (r : Running N words start levels table heads links k lefts) (some : ((a : ℕ) → has lefts a ≡ false) → ⊥)
      (exact : ExceptionalLefts (strict_rows (grown words levels)) words levels k set) (up : Relevelled (raised_level k set) words levels new) where
    small : k + 1 < infinite
    small = running_small r some

    long : length words ≤ length levels
    long = r.ready.levels_room

    same_rows : grown words levels ≡ grown words new
    same_rows = ap (λ ps. map row_of words ++ map empty_row ps) (raised_stuck k set small long up)

    next_levelled : Levelled (strict_rows (grown words new)) words new (k + 1)
    next_levelled = subst (λ rows. Levelled (strict_rows rows) words new (k + 1)) same_rows (levelled_more k set small long up r.levelled exact)

    next_ready : Ready N words new table heads links
    next_ready = record {
      deck = r.ready.deck;
      levels_room = omega (arith, up.length_kept, r.ready.levels_room);
      room = r.ready.room;
      exact = subst (λ rows. StrictTable N (strict_rows rows) table) same_rows r.ready.exact;
      indexed = r.ready.indexed;
    }

    same_active : active k words levels ≡ active k words new
    same_active = raised_level_lem k set small long up k (omega arith)

    live_now : active 0 words new ≡ active 0 words start
    live_now = sym (raised_level_lem k set small long up 0 (omega arith)) ∙ r.live_kept

    stuck_now : stuck words new ≡ stuck words start
    stuck_now = sym (raised_stuck k set small long up) ∙ r.stuck_kept

    pub running_stuck : Included lefts set → PassRan words start new k true
    running_stuck all = record {
      ended = sticks next_levelled (falling_kept k set small long up r.falling) (ap length (all_risen k set small long up r.gathered all))
          (rw (← same_active) (some_rows long r.gathered some)) live_now stuck_now;
      small = omega (arith, small);
      bounded = raised_bounded k set small long up r.bounded;
      length_kept = up.length_kept ∙ r.length_kept;
    }

    module _ (rest : Included lefts set → ⊥) where
      fewer : length (active (suc k) words new) < length (active k words new)
      fewer = go (dec_lt (length (active (suc k) words new)) (length (active k words new)))
        where
          go : Dec (length (active (suc k) words new) < length (active k words new)) → length (active (suc k) words new) < length (active k words new)
          go (yes less) = less
          go (no more) =
              let same : length (active k words new) ≡ length (active (suc k) words new) = omega (arith, fewer_above next_levelled k (omega arith)) in
              absurd (rest (none_left_behind k set small long up r.levelled exact r.gathered (repeated next_levelled k (omega arith) same)))

      pub running_less : length (active (k + 1) words new) < length (active k words levels)
      running_less = rw (add-one, same_active) fewer

      pub running_more : {next : List ℕ} → ((a : ℕ) → has next a ≡ (has lefts a && has set a)) → Running N words start new table heads links (k + 1) next
      running_more is = record {
        ready = next_ready;
        levelled = next_levelled;
        falling = record { falls = falls_more };
        gathered = lefts_more k set small long up r.levelled exact r.gathered is;
        few = omega (arith, running_less, r.few);
        bounded = raised_bounded k set small long up r.bounded;
        live_kept = live_now;
        stuck_kept = stuck_now;
        length_kept = up.length_kept ∙ r.length_kept;
      }
        where
          falls_more : (j : ℕ) → j < k + 1 → length (active (suc j) words new) < length (active j words new)
          falls_more j lt = go (dec_lt j k)
            where
              go : Dec (j < k) → length (active (suc j) words new) < length (active j words new)
              go (yes less) = (falling_kept k set small long up r.falling).falls j less
              go (no more) = let q : k ≡ j = omega arith in subst (λ j. length (active (suc j) words new) < length (active j words new)) q fewer
