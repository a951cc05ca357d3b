-- A set of numbers that are nothing, as it takes columns.
--     growing_column, growing_union                  one column, and two sets
--     stuck_none, stuck_left, stuck_took             before the first row, and after one that is not stuck, or is
--     followed_left, followed_took                   the same for rows of kind 3
--     stuck_more, round_less                         after a round, and after one that has added a number
--     emptied_set                                    where it has added none, the set has exactly what is nothing
-- Assumes nothing.
use Prim.Native.Nat.{ℕ, ◌+◌, ◌-◌, ◌*◌, ◌<◌, ◌≤◌}
use native.Mathlib.Decide.{dec_lt}
use native.Mathlib.Omega.{arith}
use mathlib.Core.Path.{◌≡◌, sym, ◌∙◌}
use mathlib.Core.Bool.{true, false, ◌||◌, or-true, false≢true}
use mathlib.Core.List.{List}
use lib.Dec.{eqb}
use lib.ListN.{length, get_or, drop, length-drop}
use lib.Seq.{length-take-le}
use borrow.Author.Count.{below_none, below_more}
use borrow.Author.Tests.{eqb-true, eq-eqb, not-false}
use Rattle.semantics.specs.Limits.{set_words, number_limit}
use Rattle.semantics.specs.Row.{in_exist_kind, kind_of, a_of, c_of}
use Rattle.semantics.specs.Set.{has, cell}
use Rattle.semantics.proofs.Tables.{replies_of}
use Rattle.semantics.proofs.Tests.{either, both}
use Rattle.tables.specs.Table.{row_words}
use Rattle.sets.specs.Members.{Included}
use Rattle.sets.proofs.Members.{has_past}
use Rattle.picking.specs.Size.{missing}
use Rattle.picking.proofs.Missing.{missing_lt}
use Rattle.columns.proofs.Marking.{lacking}
use Rattle.tables.proofs.Rows.{has_row}
use Rattle.normal.specs.Rules.{is_stuck}
use Rattle.normal.proofs.Decoding.{deck_row}
use Rattle.emptying.specs.Steps.{ColumnOrder, EmptiedNumber, was, at_stuck, by_role, EmptiedSet, GrowingEmptied, StuckIn, leads, Followed}

module _ {N : ℕ} {words columns : List ℕ} (ordered : ColumnOrder N words columns) where
  -- ---- columns as sets

  column_has : (a x : ℕ) → x < N → cell set_words columns a x ≡ true → has (row_words set_words columns a) x ≡ true
  column_has a x h e = has_row set_words columns a x (omega (arith, ordered.deck.numbers)) ∙ e

  column_only : (a x : ℕ) → a < N → has (row_words set_words columns a) x ≡ true → (x < N) × (cell set_words columns a x ≡ true)
  column_only a x h e =
      elim (dec_lt x (64 * set_words)) [
        | yes l ↦ let at = sym (has_row set_words columns a x l) ∙ e in
            elim (dec_lt x N) [ yes b ↦ (b, at) | no b ↦ absurd (false≢true (sym (ordered.zeros x a (omega arith) l h) ∙ at)) ]
        | no l ↦
            let rest : length (drop (set_words * a) columns) ≡ length columns - set_words * a = length-drop (set_words * a) columns in
            let long : length (row_words set_words columns a) ≡ set_words = length-take-le set_words (drop (set_words * a) columns) (omega (arith, ordered.room)) in
            absurd (false≢true (sym (has_past (row_words set_words columns a) x (omega arith)) ∙ e))
      ]

  own_in : (a : ℕ) → a < N → has (row_words set_words columns a) a ≡ true
  own_in a h = column_has a a h (ordered.own a h)

  left_below : (i : ℕ) → i < length words → a_of (get_or words i 0) < N
  left_below i h = (deck_row ordered.deck i h).lefts

  module _ {levels : List ℕ} where
    growing_column : (a : ℕ) → a < N → ((x : ℕ) → cell set_words columns a x ≡ true → EmptiedNumber words levels columns x) → GrowingEmptied N words levels columns (row_words set_words columns a)
    growing_column a h nothing = record {
      below = λ x e. (column_only a x h e).0;
      sound = λ x e. nothing x (column_only a x h e).1;
      down = λ b x l e p. let (hb, q) = column_only a b h e in column_has a x l (ordered.trans x b a l hb h p q);
    }

    growing_union : {s t new : List ℕ} → GrowingEmptied N words levels columns s → GrowingEmptied N words levels columns t → ((c : ℕ) → has new c ≡ (has s c || has t c)) →
        GrowingEmptied N words levels columns new
    growing_union {s} {t} g g' is = record {
      below = λ x e. either (has s x) (has t x) (sym (is x) ∙ e) (g.below x) (g'.below x);
      sound = λ x e. either (has s x) (has t x) (sym (is x) ∙ e) (g.sound x) (g'.sound x);
      down = λ a x l e p. is x ∙ either (has s a) (has t a) (sym (is a) ∙ e) (λ h. rw (g.down a x l h p)) (λ h. rw (g'.down a x l h p) (or-true (has s x)));
    }

    -- ---- stuck rows

    pub stuck_none : StuckIn N words levels columns 0 (row_words set_words columns 1)
    stuck_none = record { growing = growing_column 1 ordered.deck.two (λ x e. was e); bottom = own_in 1 ordered.deck.two; stuck = below_none _ }

    module _ {i : ℕ} {set : List ℕ} (so_far : StuckIn N words levels columns i set) where
      pub stuck_left : is_stuck (get_or words i 0) (get_or levels i 0) ≡ false → StuckIn N words levels columns (i + 1) set
      stuck_left e = record {
        growing = so_far.growing;
        bottom = so_far.bottom;
        stuck = below_more (λ k. is_stuck (get_or words k 0) (get_or levels k 0) ≡ true → has set (a_of (get_or words k 0)) ≡ true) i so_far.stuck (λ h. absurd (false≢true (sym e ∙ h)));
      }

      pub stuck_took : {column new : List ℕ} → i < length words → is_stuck (get_or words i 0) (get_or levels i 0) ≡ true →
          column ≡ row_words set_words columns (a_of (get_or words i 0)) → ((c : ℕ) → has new c ≡ (has set c || has column c)) → StuckIn N words levels columns (i + 1) new
      stuck_took {new = new} h e col joined =
          let is = rw col at joined in
          let a : ℕ = a_of (get_or words i 0) in
          let ha = left_below i h in
          let grows : Included set new = record { kept = λ x m. is x ∙ rw m } in
          record {
            growing = growing_union so_far.growing (growing_column a ha (λ x p. at_stuck i h e p)) is;
            bottom = grows.kept 1 so_far.bottom;
            stuck = below_more (λ k. is_stuck (get_or words k 0) (get_or levels k 0) ≡ true → has new (a_of (get_or words k 0)) ≡ true) i
                (λ k l f. grows.kept _ (so_far.stuck k l f)) (λ f. is a ∙ rw (own_in a ha) (or-true (has set a)));
          }

  -- ---- rows of kind 3

  module _ {i : ℕ} {old mid : List ℕ} (so_far : Followed N words columns i old mid) where
    pub followed_left : leads (get_or words i 0) mid ≡ false → Followed N words columns (i + 1) old mid
    followed_left e = record {
      growing = so_far.growing;
      included = so_far.included;
      followed = below_more (λ k. kind_of (get_or words k 0) ≡ in_exist_kind → has old (c_of (get_or words k 0)) ≡ true → has mid (a_of (get_or words k 0)) ≡ true) i so_far.followed
          (λ kind h. not-false _ (rw (eq-eqb _ _ kind, so_far.included.kept _ h) at e));
    }

    pub followed_took : {column new : List ℕ} → i < length words → leads (get_or words i 0) mid ≡ true →
        column ≡ row_words set_words columns (a_of (get_or words i 0)) → ((c : ℕ) → has new c ≡ (has mid c || has column c)) → Followed N words columns (i + 1) old new
    followed_took {new = new} h e col joined =
        let is = rw col at joined in
        let w : ℕ = get_or words i 0 in
        let ha = left_below i h in
        let (kind, tests) = both (eqb (kind_of w) in_exist_kind) _ e in
        let right = (both (has mid (c_of w)) _ tests).0 in
        let grows : Included mid new = record { kept = λ x m. is x ∙ rw m } in
        record {
          growing = λ levels g.
              let g' = so_far.growing levels g in
              growing_union g' (growing_column (a_of w) ha (λ x p. by_role i h (eqb-true _ _ kind) (g'.sound (c_of w) right) p)) is;
          included = record { kept = λ x m. grows.kept x (so_far.included.kept x m) };
          followed = below_more (λ k. kind_of (get_or words k 0) ≡ in_exist_kind → has old (c_of (get_or words k 0)) ≡ true → has new (a_of (get_or words k 0)) ≡ true) i
              (λ k l f m. grows.kept _ (so_far.followed k l f m)) (λ f m. is (a_of w) ∙ rw (own_in (a_of w) ha) (or-true (has mid (a_of w))));
        }

  -- ---- the rounds

  module _ {levels : List ℕ} where
    pub stuck_more : {i j : ℕ} {old new : List ℕ} → StuckIn N words levels columns i old → Followed N words columns j old new → StuckIn N words levels columns i new
    stuck_more s f = record {
      growing = f.growing levels s.growing;
      bottom = f.included.kept 1 s.bottom;
      stuck = λ k l e. f.included.kept _ (s.stuck k l e);
    }

    module _ {set next : List ℕ} (s : StuckIn N words levels columns (length words) set) (f : Followed N words columns (length words) set next)
        (same : Included next set) where
      emptied_in : (x : ℕ) → x < N → EmptiedNumber words levels columns x → has set x ≡ true
      emptied_in x h (was p) = s.growing.down 1 x h s.bottom p
      emptied_in x h (at_stuck i l e p) = s.growing.down _ x h (s.stuck i l e) p
      emptied_in x h (by_role i l kind e p) = s.growing.down _ x h (same.kept _ (f.followed i l kind (emptied_in _ (deck_row ordered.deck i l).rights e))) p

      pub emptied_set : EmptiedSet N words levels columns set
      emptied_set = record {
        below = s.growing.below;
        each = λ x h. replies_of (has set x) (s.growing.sound x) (λ e p. false≢true (sym e ∙ emptied_in x h p));
      }

    -- A round that adds a number leaves fewer to add.
    pub round_less : {i j : ℕ} {set next : List ℕ} → StuckIn N words levels columns i set → Followed N words columns j set next → (Included next set → ⊥) →
        missing next number_limit < missing set number_limit
    round_less {set = set} {next} s f more =
        let small : N ≤ number_limit = ordered.deck.numbers in
        let new = lacking (has next) (has set) number_limit
        (λ all. more (record { kept = λ x h. all x (omega (arith, small, (f.growing levels s.growing).below x h)) h })) in
        missing_lt f.included new.number new.lacked new.wanted number_limit new.inside
