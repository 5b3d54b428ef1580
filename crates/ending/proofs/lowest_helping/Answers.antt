-- `ending::lowest_helping` meets its contract. Assumes nothing.
use Rattle.ending.specs.Search.{helps_by}
use Rattle.ending.proofs.Searching.{found_one, found_none}
use Rattle.ending.proofs.lowest_helping.Goals as goal

pub returns-in-Some : goal.returns-in-Some
returns-in-Some c = found_one (helps_by c.args.sender c.args.receiver c.args.request) c.args.channels _ c.lowest_of.ensures _ c.in-Some.is

pub returns-in-None : goal.returns-in-None
returns-in-None c = found_none (helps_by c.args.sender c.args.receiver c.args.request) c.args.channels _ c.lowest_of.ensures c.in-None.is
