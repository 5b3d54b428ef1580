-- `rules::numbers::numbers_distinct` meets its contract. Assumes nothing.
use Rattle.std.proofs.Common.{rules}
use Rattle.rules.proofs.Distinct.{numbers_distinct}
use Rattle.rules.proofs.numbers.numbers_distinct.Goals as goal

pub returns : goal.returns
returns c = search (rules, numbers_distinct)
