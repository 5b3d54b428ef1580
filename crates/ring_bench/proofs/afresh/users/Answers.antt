-- `ring_bench::afresh::users` meets its contract. Assumes nothing.
use Rattle.lightpath.specs.Circuit.{users}
use Rattle.ring_bench.proofs.Counted.{counts}
use borrow.Author.Rules.{rules}
use Rattle.ring_bench.proofs.afresh.users.Goals as goal

pub returns-in-Unlit : goal.returns-in-Unlit
unfolding users
returns-in-Unlit c = search rules

pub returns-in-Alone : goal.returns-in-Alone
returns-in-Alone c = search (rules, counts)

pub returns-in-Shared : goal.returns-in-Shared
returns-in-Shared c = search (rules, counts)
