-- `columns::put_spaces` meets its contract. Assumes nothing.
use Rattle.columns.proofs.Spaces.{part_put}
use Rattle.columns.proofs.put_spaces.Goals as goal

pub returns : goal.returns
returns c = part_put _ _ _ _ c.requires c.fill.ensures.len
