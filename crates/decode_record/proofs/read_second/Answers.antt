-- `decode_record::read_second` meets its contract. Assumes nothing.
use Rattle.std.proofs.lemmas.Result.{err_from_is_err_and}
use Rattle.decode_record.proofs.Records.{no_second, second_fault, second_got}
use Rattle.decode_record.proofs.read_second.Goals as goal

pub returns-then-not-second : goal.returns-then-not-second
returns-then-not-second c = (c.requires, no_second _ _ _ _ _ c.if-not-second.true)

pub returns-in_err-circuit : goal.returns-in_err-circuit
returns-in_err-circuit c =
    let p = err_from_is_err_and c.from_residual.result c.from_residual.ensures.1 in
    rw (p.1, p.2) (second_fault _ _ _ _ _ c.if-not-second.false _ c.in_err-circuit.ensures)

pub returns : goal.returns
returns c = (c.in_ok-circuit.ensures.0, second_got _ _ _ _ _ c.if-not-second.false _ _ c.in_ok-circuit.ensures.1)
