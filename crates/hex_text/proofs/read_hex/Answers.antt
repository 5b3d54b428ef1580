-- `hex_text::read_hex` meets its contract: the digits of the first bytes are read. Assumes nothing.
use Rattle.std.proofs.Common.{arith}
use Rattle.hex_text.proofs.Reading.{read_bad, read_next, read_all, read_odd}
use Rattle.hex_text.proofs.read_hex.Goals as goal

pub returns-in_err-byte : goal.returns-in_err-byte
returns-in_err-byte c = read_bad _ _ _ _ c.loop-i.invariant (omega (arith, c.loop-i-test.true)) c.in_err-byte.ensures _ c.from_residual.ensures

pub loop-i-preserved : goal.loop-i-preserved
loop-i-preserved c = read_next _ _ _ _ c.loop-i.invariant (omega (arith, c.loop-i-test.true)) _ c.in_ok-byte.ensures _ _ c.put_byte.ensures

pub returns-then-word-eq0 : goal.returns-then-word-eq0
returns-then-word-eq0 c = read_all _ _ _ _ c.loop-i.invariant (omega (arith, c.loop-i-test.false)) c.if-word-eq0.true

pub returns-else-word-eq0 : goal.returns-else-word-eq0
returns-else-word-eq0 c = read_odd _ _ _ _ c.loop-i.invariant (omega (arith, c.loop-i-test.false)) c.if-word-eq0.false
