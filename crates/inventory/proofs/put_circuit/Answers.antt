-- `inventory::put_circuit` meets its contract. Assumes nothing.
use borrow.Author.Rules.{rules}
use Rattle.inventory.proofs.Words.{circuit}
use Rattle.inventory.proofs.put_circuit.Goals as goal

pub overflow_cast-circuit : goal.overflow_cast-circuit
overflow_cast-circuit c = search (rules, circuit)

pub overflow_cast-circuit-2 : goal.overflow_cast-circuit-2
overflow_cast-circuit-2 c = search (rules, circuit)

pub overflow_cast-circuit-3 : goal.overflow_cast-circuit-3
overflow_cast-circuit-3 c = search (rules, circuit)

pub put_filled-next-requires : goal.put_filled-next-requires
put_filled-next-requires c = search (rules, circuit)

pub put_filled-requires : goal.put_filled-requires
put_filled-requires c = search (rules, circuit)

pub shape_of-out : goal.shape_of-out
shape_of-out c = search (rules, circuit)

pub returns : goal.returns
returns c = search (rules, circuit)
