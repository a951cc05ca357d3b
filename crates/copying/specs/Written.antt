-- What is written in place.
--     Copied     the first n elements are those of the source, the others as they were
--     Appended   a list is written from the place start on, up to the place end
use Rattle.std.specs.Prelude.{ℕ, ◌+◌, ◌≡◌, List, ◌++◌, length, take, drop}

pub record Copied {A : Type 0} (n : ℕ) (source old new : List A) : Type 0 where
  pub written : take n new ≡ take n source
  pub rest_kept : drop n new ≡ drop n old
  pub length_kept : length new ≡ length old

pub record Appended {A : Type 0} (found : List A) (start : ℕ) (old new : List A) (end : ℕ) : Type 0 where
  pub ends : end ≡ start + length found
  pub written : take end new ≡ take start old ++ found
  pub rest_kept : drop end new ≡ drop end old
  pub length_kept : length new ≡ length old
