-- `ring_bench::run_form` meets its contract. Assumes nothing.
use Rattle.form.proofs.Laws.{accepted_meets}
use borrow.Author.Rules.{rules}
use Rattle.ring_bench.proofs.run_form.Goals as goal

pub run-requires : goal.run-requires
run-requires c = search (rules, accepted_meets)
