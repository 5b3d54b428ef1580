-- `encode_record::circuit::circuit_length` meets its contract. Assumes nothing.
use borrow.Author.Rules.{rules}
use Rattle.encode_record.proofs.Lengths.{circuit_long}
use Rattle.encode_record.proofs.circuit.circuit_length.Goals as goal

pub returns : goal.returns
returns c = search (rules, circuit_long)
