-- `decode_record::circuit::read_circuit` meets its contract. Assumes nothing.
use native.Mathlib.Omega.{arith}
use Rattle.std.proofs.lemmas.Result.{err_from_is_err_and}
use Rattle.decode_record.proofs.Circuits.{circuit_cut, remark_fault, account_fault, circuit_got}
use Rattle.decode_record.proofs.circuit.read_circuit.Goals as goal

pub returns-then-form-at-lt-PLAIN_WIDTH : goal.returns-then-form-at-lt-PLAIN_WIDTH
returns-then-form-at-lt-PLAIN_WIDTH c = circuit_cut _ _ _ _ c.requires c.if-form-at-lt-PLAIN_WIDTH.true

pub returns-in_err-remark : goal.returns-in_err-remark
returns-in_err-remark c =
    let p = err_from_is_err_and c.from_residual.result c.from_residual.ensures.1 in
    rw (p.1, p.2) (remark_fault _ _ _ _ c.requires c.if-form-at-lt-PLAIN_WIDTH.false _ c.number_of-number.ensures.0 _ c.in_err-remark.ensures)

pub read_optional-requires-2 : goal.read_optional-requires-2
read_optional-requires-2 c = (c.in_ok-remark.ensures.0, omega arith)

pub returns-in_err-account : goal.returns-in_err-account
returns-in_err-account c =
    let p = err_from_is_err_and c.from_residual-in_err-account.result c.from_residual-in_err-account.ensures.1 in
    rw (p.1, p.2) (account_fault _ _ _ _ c.requires c.if-form-at-lt-PLAIN_WIDTH.false _ c.number_of-number.ensures.0 _ _ c.in_ok-remark.ensures.2 _ c.in_err-account.ensures)

pub overflow_cast-circuit : goal.overflow_cast-circuit
overflow_cast-circuit c = omega (arith, c.in_ok-remark.ensures.1)

pub returns : goal.returns
returns c = (
  c.in_ok-account.ensures.0,
  circuit_got _ _ _ _ c.requires c.if-form-at-lt-PLAIN_WIDTH.false _ c.number_of-number.ensures.0 _ _ c.in_ok-remark.ensures.2 _ _ c.in_ok-account.ensures.2,
)
