-- No step of reading changes how many places there are in what it is lent. Assumes nothing.
use mathlib.Core.Path.{◌≡◌, ◌∙◌}
use mathlib.Core.List.{List}
use Prim.Native.Nat.{ℕ}
use lib.ListN.{length}

-- what a reader of concepts is lent
pub record Places : Type 0 where
  pub starts : List ℕ
  pub lengths : List ℕ
  pub rolestarts : List ℕ
  pub rolelengths : List ℕ
  pub links : List ℕ

abbrev pub places : List ℕ → List ℕ → List ℕ → List ℕ → List ℕ → Places
places starts lengths rolestarts rolelengths links =
    record { starts = starts; lengths = lengths; rolestarts = rolestarts; rolelengths = rolelengths; links = links }

pub record SameRoom (before after : Places) : Type 0 where
  pub starts : length after.starts ≡ length before.starts
  pub lengths : length after.lengths ≡ length before.lengths
  pub rolestarts : length after.rolestarts ≡ length before.rolestarts
  pub rolelengths : length after.rolelengths ≡ length before.rolelengths
  pub links : length after.links ≡ length before.links

pub room_then : {one two three : Places} → SameRoom one two → SameRoom two three → SameRoom one three
room_then f g = record {
  starts = g.starts ∙ f.starts;
  lengths = g.lengths ∙ f.lengths;
  rolestarts = g.rolestarts ∙ f.rolestarts;
  rolelengths = g.rolelengths ∙ f.rolelengths;
  links = g.links ∙ f.links;
}
