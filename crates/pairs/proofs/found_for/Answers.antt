-- `pairs::found_for` meets its contract. Assumes nothing.
use Rattle.std.proofs.Common.{rules}
use Rattle.basis.proofs.Arrays.{array_length}
use Rattle.pairs.proofs.Lane.{found_all}
use Rattle.pairs.proofs.found_for.Goals as goal

pub returns : goal.returns
returns c =
    found_all _ _ _ _ c.requires _ c.candidates_for-all.ensures _ _ _ _ (search (rules, array_length)) c.first_pair-pair.ensures
    c.share_direction-direction.ensures c.first_in.ensures c.unwrap_or.ensures
