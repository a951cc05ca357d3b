-- How a pass ended, in the words of `PassRan`. No reader has to believe it.
--     end_level   the level at which it ended
--     is_stuck    whether it got stuck there
use Rattle.std.specs.Prelude.{ℕ, Bool, true, false}
use Rattle.pass.specs.declared.end.PassEnd.{PassEnd}
use Rattle.pass.specs.declared.end.PassEnd.TheVariants.{Settled, Stuck}

abbrev pub end_level : PassEnd → ℕ
end_level (Settled level) = level
end_level (Stuck level) = level

abbrev pub is_stuck : PassEnd → Bool
is_stuck (Settled level) = false
is_stuck (Stuck level) = true
