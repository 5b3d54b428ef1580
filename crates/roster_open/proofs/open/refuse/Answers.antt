-- `roster_open::refuse` meets its contract. Assumes nothing.
use borrow.Author.Rules.{rules}
use Rattle.roster_open.proofs.Calls.{refused_in}
use Rattle.roster_open.proofs.open.refuse.Goals as goal

pub returns : goal.returns
returns c = search (rules, refused_in)
