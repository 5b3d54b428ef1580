-- `roster_calls::decide_tidy` meets its contract. Assumes nothing.
use borrow.Author.Rules.{rules}
use Rattle.roster_calls.proofs.Tidies.{tidying}
use Rattle.roster_calls.proofs.tidyings.decide_tidy.Goals as goal

pub decide_tidy_valid-requires : goal.decide_tidy_valid-requires
decide_tidy_valid-requires c = search (rules, tidying)
