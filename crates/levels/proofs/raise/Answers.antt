use Rattle.levels.proofs.Loops.{left_small}
use Rattle.levels.proofs.raise.Goals as goal

pub raised_level-requires : goal.raised_level-requires
raised_level-requires c = (c.requires.2, left_small c.requires.0 _ c.loop-i-test.true)
