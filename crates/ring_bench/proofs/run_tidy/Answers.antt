-- `ring_bench::run_tidy` meets its contract. Assumes nothing.
use Rattle.ring_bench.proofs.Tidied.{last_tidied}
use borrow.Author.Rules.{rules}
use Rattle.ring_bench.proofs.run_tidy.Goals as goal

pub put_moves-recorded-requires : goal.put_moves-recorded-requires
put_moves-recorded-requires c = search (rules, last_tidied)

pub form_of-formed-requires : goal.form_of-formed-requires
form_of-formed-requires c = search (rules, last_tidied)
